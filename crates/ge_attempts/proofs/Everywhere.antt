-- A limit that counts at whatever instance and has no room for one slot: nothing is placed.
use Rattle.std.proofs.Common.{◌≡◌, ℕ, ◌+◌, ◌≤◌, ◌<◌, ◌==◌, inl, inr, Bool, true, false, ◌&&◌, ◌||◌, cond, min, List, [], ◌∷◌, ◌++◌, length, map, flat_map, filter, is_some, All, slice_index_or, Option, Some, None, refl, sym, subst, ap, ◌∙◌, arith}
use Rattle.std.specs.List.{list_any}
use Rattle.std.specs.Prelude.{nat_le, nat_lt}
use Rattle.std.proofs.lemmas.Bool.{cond-true, cond-false, cases_Bool, and_parts, or_parts, or_cases, or_from, true≢false, false_from_ne_true, cases_lt, leb-false, ltb-true, lt-ltb, not-true}
use Rattle.std.proofs.lemmas.List.Elements.{All-nil, All-cons, All-head, All-tail}
use Rattle.std.proofs.lemmas.List.Folds.{list_any-append}
use Rattle.std.proofs.lemmas.List.Sums.{sum_by-cons, get_or-le-sum_by}
use Rattle.ge_collections.specs.Keyed.{at_text}
use Rattle.ge_capacities.specs.Counts.{counted_as, all_counted}
use Rattle.ge_capacities.specs.declared.counting.Counted.{Counted}
use Rattle.ge_model_rows.specs.ClusterRows.{Cluster}
use Rattle.ge_model_rows.specs.HostRows.{HostRow, Groups, InstanceId}
use Rattle.ge_model_rows.specs.JobRows.{Job, Grant}
use Rattle.ge_model_rows.specs.QueueRows.{QueueRow}
use Rattle.ge_model_rows.specs.QuotaRows.{QuotaRow, Rule}
use Rattle.ge_model_rows.specs.ScheduleRows.{LimitId, Instance, Host, Global, Pe, Quota, Booking}
use Rattle.ge_model_rows.specs.ScheduleRows.{Advance as Booked, QuotaKey}
use Rattle.ge_model_place.specs.Bookings.{same_limit, demand_on, peak}
use Rattle.ge_model_jobs.specs.Accounts.{pe_name}
use Rattle.ge_model_place.specs.Demands.{counts_for, slots_for, amount_for}
use Rattle.ge_model_place.specs.Limits.{Counted as Limited, greatest_demand, consumables, is_other, instance_limits, host_limits, pe_limits, who_at, configured_limits, limits_at, counted_at, per_slot, is_per_job, resource_of, demands_of}
use Rattle.ge_model_place.specs.Opening.{slots_name, global_name}
use Rattle.ge_model_place.specs.Placement.{placement_of}
use Rattle.ge_model_place.specs.Quotas.{names_user, names, admits_name, rule_matches, rule_from, rule_key, keys_with, keys_of_set, quota_keys}
use Rattle.ge_model_place.specs.Runs.{one_slot}
use Rattle.ge_model_place.specs.Windows.{window_end_from}
use Rattle.ge_model_place.proofs.Demanded.{counts_own, grant_counts, grants_count}
use Rattle.ge_model_place.proofs.Exact.{asks_of, demands_reach}
use Rattle.ge_model_place.proofs.First.{takes_one}
use Rattle.ge_model_place.proofs.Once.{Each}
use Rattle.ge_model_place.proofs.Taken.{IsCounted, counted_at_each, together}
use Rattle.ge_model_place.proofs.Whole.{demands_each}
use Rattle.ge_model_rows.specs.Queues.{attr_at}
use Rattle.ge_attempts.specs.Common.{names_places, set_names_places, counts_alike, is_common, lacks_room, is_exhausted, rules_out, IsAsked}
use Rattle.ge_attempts.specs.Vacant.{slots_of}
use Rattle.ge_attempts.proofs.Admitting.{any_first, any_second, grant_at, counts_here, has_room_for}
use Rattle.ge_attempts.proofs.Nowhere.{none_placed}

abbrev among : LimitId → List LimitId → Bool
among limit limits = list_any (λ other. same_limit other limit) limits

none_mapped : {X : Type 0} (limit : LimitId) (f : X → LimitId) → ((x : X) → same_limit (f x) limit ≡ false) → (xs : List X) → among limit (map f xs) ≡ false
none_mapped limit f none [] = refl
none_mapped limit f none (x ∷ xs) = or_from (same_limit (f x) limit) (among limit (map f xs)) (none x) (none_mapped limit f none xs)

-- quotas that look at no places

nothing_named : {X : Type 0} (o : Option X) → is_some o ≡ false → o ≡ None
nothing_named None e = refl
nothing_named (Some x) e = absurd (true≢false e)

mapped_alike : {X Y : Type 0} (f g : X → Y) → ((x : X) → f x ≡ g x) → (xs : List X) → map f xs ≡ map g xs
mapped_alike f g same [] = refl
mapped_alike f g same (x ∷ xs) = rw (same x, mapped_alike f g same xs) refl

module _ (c : Cluster) (groups : Groups) (job : Job) (first at : InstanceId) where
  names_same : (element : List ℕ) → names_user c (who_at job first) element ≡ names_user c (who_at job at) element
  names_same [] = refl
  names_same (b ∷ name) = refl

  users_alike : names_user c (who_at job first) ≡ names_user c (who_at job at)
  users_alike = λ i element. names_same element i

  matches_alike : (rule : Rule) → rule.queues ≡ None → rule.hosts ≡ None → rule_matches c groups (who_at job first) rule ≡ rule_matches c groups (who_at job at) rule
  matches_alike rule queues hosts =
      let pe : List ℕ = pe_name job.request.pe in
      rw (queues, hosts)
      (ap (λ (test : List ℕ → Bool). admits_name test job.owner rule.users && admits_name (names job.project) job.project rule.projects && admits_name (names pe) pe rule.pes && true && true) users_alike)

  key_alike : (set resource : List ℕ) (number : ℕ) (rule : Rule) → rule.queues ≡ None → rule.hosts ≡ None → rule_key set (who_at job first) resource (number, rule) ≡ rule_key set (who_at job at) resource (number, rule)
  key_alike set resource number rule queues hosts = rw (queues, hosts) refl

  keys_alike : (set : List ℕ) (rules : List Rule) (number : ℕ) → list_any names_places rules ≡ false
      → keys_with set (who_at job first) (rule_from c groups (who_at job first) number rules) ≡ keys_with set (who_at job at) (rule_from c groups (who_at job at) number rules)
  keys_alike set [] number plain = refl
  keys_alike set (rule ∷ rules) number plain =
      let parts = or_parts (names_places rule) (list_any names_places rules) plain in
      let none = or_parts (is_some rule.queues) (is_some rule.hosts) parts.0 in
      let queues = nothing_named rule.queues none.0 in
      let hosts = nothing_named rule.hosts none.1 in
      let same = matches_alike rule queues hosts in
      elim (cases_Bool (rule_matches c groups (who_at job first) rule)) [
        | inl does ↦
            let one : rule_from c groups (who_at job first) number (rule ∷ rules) ≡ Some (number, rule) = rw (does, rule_from) refl in
            let other : rule_from c groups (who_at job at) number (rule ∷ rules) ≡ Some (number, rule) = rw (sym same ∙ does, rule_from) refl in
            ap (λ found. keys_with set (who_at job first) found) one
            ∙ mapped_alike (λ (limit : List ℕ × ℕ). rule_key set (who_at job first) limit.0 (number, rule)) (λ (limit : List ℕ × ℕ). rule_key set (who_at job at) limit.0 (number, rule))
            (λ limit. key_alike set limit.0 number rule queues hosts) rule.limits
            ∙ sym (ap (λ found. keys_with set (who_at job at) found) other)
        | inr doesnt ↦
            let one : rule_from c groups (who_at job first) number (rule ∷ rules) ≡ rule_from c groups (who_at job first) (number + 1) rules = rw (doesnt, rule_from) refl in
            let other : rule_from c groups (who_at job at) number (rule ∷ rules) ≡ rule_from c groups (who_at job at) (number + 1) rules = rw (sym same ∙ doesnt, rule_from) refl in
            ap (λ found. keys_with set (who_at job first) found) one ∙ keys_alike set rules (number + 1) parts.1 ∙ sym (ap (λ found. keys_with set (who_at job at) found) other)
      ]

  set_alike : (set : List ℕ × QuotaRow) → set_names_places set ≡ false → keys_of_set c groups (who_at job first) set ≡ keys_of_set c groups (who_at job at) set
  set_alike set plain = elim (cases_Bool set.1.enabled) [ inl on ↦ rw on (keys_alike set.0 set.1.rules 1 plain) | inr off ↦ rw off refl ]

  sets_alike : (sets : List (List ℕ × QuotaRow)) → list_any set_names_places sets ≡ false
      → flat_map (keys_of_set c groups (who_at job first)) sets ≡ flat_map (keys_of_set c groups (who_at job at)) sets
  sets_alike [] plain = refl
  sets_alike (set ∷ sets) plain =
      let parts = or_parts (set_names_places set) (list_any set_names_places sets) plain in rw (set_alike set parts.0, sets_alike sets parts.1) refl

  quotas_alike : counts_alike c ≡ true → quota_keys c groups (who_at job first) ≡ quota_keys c groups (who_at job at)
  quotas_alike plain = sets_alike c.quotas (not-true (list_any set_names_places c.quotas) plain)

  -- a limit that is of no instance, no host and no reservation
  module _ (limit : LimitId) (no_instance : (a : InstanceId) (name : List ℕ) → same_limit (Instance a name) limit ≡ false) (no_host : (host name : List ℕ) → same_limit (Host host name) limit ≡ false)
      (no_booked : (number : ℕ) (a : InstanceId) → same_limit (Booked number a) limit ≡ false)
      (quota : among limit (map Quota (quota_keys c groups (who_at job first))) ≡ true → among limit (map Quota (quota_keys c groups (who_at job at))) ≡ true) where
    abbrev of_all : List LimitId
    of_all = host_limits c Global (at_text c.hosts global_name)

    abbrev of_pe : List LimitId
    of_pe = pe_limits job.request.pe

    abbrev of_quotas : InstanceId → List LimitId
    of_quotas a = map Quota (quota_keys c groups (who_at job a))

    abbrev own : InstanceId → List LimitId
    own a = instance_limits c groups a (at_text c.queues a.queue) ++ host_limits c (Host a.host) (at_text c.hosts a.host)

    none_of_queue : (queue : Option QueueRow) → among limit (instance_limits c groups first queue) ≡ false
    none_of_queue None = refl
    none_of_queue (Some q) =
        let values : List (List ℕ) = filter is_other (consumables c (attr_at q.values groups first.host)) in
        list_any-append (λ other. same_limit other limit) (map (Instance first) values) (slots_of first ∷ [])
        ∙ or_from (among limit (map (Instance first) values)) (among limit (slots_of first ∷ [])) (none_mapped limit (Instance first) (no_instance first) values)
        (or_from (same_limit (slots_of first) limit) false (no_instance first slots_name) refl)

    none_of_host : (row : Option HostRow) → among limit (host_limits c (Host first.host) row) ≡ false
    none_of_host None = refl
    none_of_host (Some row) = none_mapped limit (Host first.host) (no_host first.host) (consumables c row.values)

    -- it is one of those that count everywhere
    is_shared : among limit (configured_limits c groups job first) ≡ (among limit of_all || among limit of_pe || among limit (of_quotas first))
    is_shared =
        let test : LimitId → Bool = λ other. same_limit other limit in
        let first_part = instance_limits c groups first (at_text c.queues first.queue) in
        let second_part = host_limits c (Host first.host) (at_text c.hosts first.host) in
        let none : among limit (own first) ≡ false =
        list_any-append test first_part second_part
        ∙ or_from (among limit first_part) (among limit second_part) (none_of_queue (at_text c.queues first.queue)) (none_of_host (at_text c.hosts first.host)) in
        list_any-append test (own first ++ of_all ++ of_pe) (of_quotas first)
        ∙ ap (λ b. b || among limit (of_quotas first)) (list_any-append test (own first ++ of_all) of_pe ∙ ap (λ b. b || among limit of_pe) (list_any-append test (own first) of_all ∙ ap (λ b. b || among limit of_all) none))

    shared_there : (among limit of_all || among limit of_pe || among limit (of_quotas first)) ≡ true → among limit (configured_limits c groups job at) ≡ true
    shared_there e =
        let test : LimitId → Bool = λ other. same_limit other limit in
        elim (or_cases (among limit of_all || among limit of_pe) (among limit (of_quotas first)) e) [
          | inl some ↦ any_first test (own at ++ of_all ++ of_pe) (of_quotas at)
              (elim (or_cases (among limit of_all) (among limit of_pe) some) [
                | inl all ↦ any_first test (own at ++ of_all) of_pe (any_second test (own at) of_all all)
                | inr pe ↦ any_second test (own at ++ of_all) of_pe pe
              ])
          | inr key ↦ any_second test (own at ++ of_all ++ of_pe) (of_quotas at) (quota key)
        ]

    shared : counts_here c groups job first limit ≡ true → counts_here c groups job at limit ≡ true
    shared counts =
        elim (cases_Bool (job.advance == 0)) [
          | inl free ↦
              let here : limits_at c groups job first ≡ configured_limits c groups job first = cond-true _ _ _ free in
              let there : limits_at c groups job at ≡ configured_limits c groups job at = cond-true _ _ _ free in
              ap (λ ls. among limit ls) there ∙ shared_there (sym is_shared ∙ sym (ap (λ ls. among limit ls) here) ∙ counts)
          | inr sent ↦
              let here : limits_at c groups job first ≡ Booked job.advance first ∷ [] = cond-false _ _ _ sent in
              let isnt : among limit (Booked job.advance first ∷ []) ≡ false = or_from (same_limit (Booked job.advance first) limit) false (no_booked job.advance first) refl in
              absurd (true≢false (sym counts ∙ ap (λ ls. among limit ls) here ∙ isnt))
        ]

  no_key : (limit : LimitId) → ((key : QuotaKey) → same_limit (Quota key) limit ≡ false) → among limit (map Quota (quota_keys c groups (who_at job first))) ≡ true
      → among limit (map Quota (quota_keys c groups (who_at job at))) ≡ true
  no_key limit none e = absurd (true≢false (sym e ∙ none_mapped limit Quota none (quota_keys c groups (who_at job first))))

  -- what counts for a common limit at one instance does at another
  common_there : (limit : LimitId) → is_common (counts_alike c) limit ≡ true → counts_here c groups job first limit ≡ true → counts_here c groups job at limit ≡ true
  common_there (Instance a name) common = absurd (true≢false (sym common))
  common_there (Host host name) common = absurd (true≢false (sym common))
  common_there (Global name) common = shared (Global name) (λ a n. refl) (λ h n. refl) (λ n a. refl) (no_key (Global name) (λ key. refl))
  common_there (Pe name) common = shared (Pe name) (λ a n. refl) (λ h n. refl) (λ n a. refl) (no_key (Pe name) (λ key. refl))
  common_there (Quota key) common =
      shared (Quota key) (λ a n. refl) (λ h n. refl) (λ n a. refl) (λ e. ap (λ keys. among (Quota key) (map Quota keys)) (sym (quotas_alike common)) ∙ e)
  common_there (Booked number a) common = absurd (true≢false (sym common))

-- limits that are counted at an instance

all_of : {X : Type 0} (P : X → Type 0) (xs : List X) → Each P xs → All P xs
all_of P [] each = All-nil P
all_of P (x ∷ xs) each = All-cons P x xs each.0 (all_of P xs each.1)

all_mapped : {X Y : Type 0} (P : Y → Type 0) (f : X → Y) (xs : List X) → All P (map f xs) → All (λ x. P (f x)) xs
all_mapped P f [] all = All-nil (λ x. P (f x))
all_mapped P f (x ∷ xs) all = All-cons (λ y. P (f y)) x xs (All-head P (f x) (map f xs) all) (all_mapped P f xs (All-tail P (f x) (map f xs) all))

module _ (c : Cluster) (groups : Groups) (job : Job) where
  module _ (first : InstanceId) where
    -- one of them
    record IsOne (x : Limited) : Type 0 where
      counts : counts_here c groups job first x.limit ≡ true
      is : IsCounted c groups job x

    one_counts : (k : ℕ) (d : Limited) → k < length (counted_at c groups job first) → IsCounted c groups job (slice_index_or (counted_at c groups job first) k d)
        → counts_here c groups job first (slice_index_or (counted_at c groups job first) k d).limit ≡ true
    one_counts k d inside is =
        let x : Limited = slice_index_or (counted_at c groups job first) k d in
        let slots : Grant → ℕ = λ (g : Grant). cond (counts_for c groups job x.limit g) g.slots 0 in
        let n : ℕ = grants_count c groups job (one_slot first) x.limit in
        elim (cases_Bool (counts_here c groups job first x.limit)) [
          | inl does ↦ does
          | inr doesnt ↦
              let whole = sum_by-cons slots (grant_at first) [] in
              let nothing : slots (grant_at first) ≡ 0 = cond-false _ _ _ doesnt in
              let none : slots_for c groups job x.limit (one_slot first) ≡ 0 = omega (arith, whole, nothing) in
              let asked : demand_on (demands_of c groups job (one_slot first)) x.limit ≡ 0 =
              demands_each c groups job (one_slot first) x.limit ∙ ap (λ m. min (amount_for c groups job x.limit m) greatest_demand) none in
              let reach = demands_reach c groups job x.limit (one_slot first) in
              let total = sum_by-cons (grant_counts c groups job x.limit) (grant_at first) [] in
              let part = get_or-le-sum_by (asks_of x.limit) (counted_at c groups job first) k d inside in
              let own = counts_own x.limit x refl in
              let amount = is.amount in
              let some : 1 ≤ x.amount = elim (cases_lt 0 x.amount) [ inl more ↦ omega (arith, more) | inr nothing_asked ↦ absurd (amount (omega (arith, nothing_asked))) ] in
              let most : 1 ≤ n = omega (arith, total, part, own, some) in
              let asks = is.asks in
              let least : 1 ≤ together c groups job x.limit n =
              elim (cases_Bool (is_per_job c (resource_of x.limit))) [
                | inl once ↦ let is_so : together c groups job x.limit n ≡ min n (per_slot c job (resource_of x.limit)) = cond-true _ _ _ once in omega (arith, is_so, most, asks, some)
                | inr each ↦ let is_so : together c groups job x.limit n ≡ n = cond-false _ _ _ each in omega (arith, is_so, most)
              ] in
              absurd (omega (arith, reach, asked, least))
        ]

    each_is_one : All IsOne (counted_at c groups job first)
    each_is_one k d inside =
        let is = all_of (IsCounted c groups job) (counted_at c groups job first) (counted_at_each c groups job first) k d inside in
        record { counts = one_counts k d inside is; is = is }

    -- so it is of what is asked there
    pub are_asked : (limits : List Counted) → all_counted limits ≡ counted_at c groups job first → All (IsAsked c groups job) limits
    are_asked limits are =
        let each : All (λ x. IsOne (counted_as x)) limits = all_mapped IsOne counted_as limits (subst (λ xs. All IsOne xs) (sym are) each_is_one) in
        λ k d inside.
        let x : Counted = slice_index_or limits k d in
        let one : IsOne (counted_as x) = each k d inside in
        record { everywhere = λ common at. common_there c groups job first at x.limit common one.counts; capacity = one.is.capacity; asks = one.is.asks; some = one.is.amount }

  -- where one of them has no room, nothing is placed

  one_lacks : (x : Counted) → IsAsked c groups job x → (booked : List Booking) (from : ℕ) → from < window_end_from c job from → is_exhausted (counts_alike c) booked from (window_end_from c job from) x ≡ true
      → (at : InstanceId) → takes_one c groups job booked from at ≡ false
  one_lacks x is booked from ever exhausted at =
      false_from_ne_true (takes_one c groups job booked from at) (λ takes.
      let until = window_end_from c job from in
      let parts = and_parts (is_common (counts_alike c) x.limit) (lacks_room booked from until x) exhausted in
      let over = leb-false (cond (nat_lt from until) (peak booked x.limit from until) 0 + min x.amount greatest_demand) x.capacity (not-true (nat_le (cond (nat_lt from until) (peak booked x.limit from until) 0 + min x.amount greatest_demand) x.capacity) parts.1) in
      let whole : cond (nat_lt from until) (peak booked x.limit from until) 0 ≡ peak booked x.limit from until = cond-true _ _ _ (lt-ltb from until ever) in
      let asks = is.asks in
      let some = is.some in
      let capacity = is.capacity in
      let room = has_room_for c groups job at booked from x.limit ever (is.everywhere parts.0 at) (λ none. some (asks ∙ none)) takes in
      absurd (omega (arith, over, whole, room, asks, capacity)))

  some_lacks : (limits : List Counted) → All (IsAsked c groups job) limits → (booked : List Booking) (from : ℕ) → from < window_end_from c job from
      → list_any (is_exhausted (counts_alike c) booked from (window_end_from c job from)) limits ≡ true → (at : InstanceId) → takes_one c groups job booked from at ≡ false
  some_lacks [] are booked from ever lacks at = absurd (true≢false (sym lacks))
  some_lacks (x ∷ xs) are booked from ever lacks at =
      elim (or_cases (is_exhausted (counts_alike c) booked from (window_end_from c job from) x) (list_any (is_exhausted (counts_alike c) booked from (window_end_from c job from)) xs) lacks) [
        | inl here ↦ one_lacks x (All-head (IsAsked c groups job) x xs are) booked from ever here at
        | inr there ↦ some_lacks xs (All-tail (IsAsked c groups job) x xs are) booked from ever there at
      ]

  none_takes : (test : InstanceId → Bool) → ((at : InstanceId) → test at ≡ false) → (order : List InstanceId) → list_any test order ≡ false
  none_takes test none [] = refl
  none_takes test none (at ∷ order) = or_from (test at) (list_any test order) (none at) (none_takes test none order)

  pub refused : (limits : List Counted) → All (IsAsked c groups job) limits → (order : List InstanceId) (booked : List Booking) (from : ℕ) → rules_out (counts_alike c) booked from (window_end_from c job from) limits ≡ true
      → placement_of c groups order booked job from ≡ None
  refused limits are order booked from lacks =
      let parts = and_parts (nat_lt from (window_end_from c job from)) (list_any (is_exhausted (counts_alike c) booked from (window_end_from c job from)) limits) lacks in
      none_placed c groups job booked from order
      (none_takes (takes_one c groups job booked from) (some_lacks limits are booked from (ltb-true from (window_end_from c job from) parts.0) parts.1) order)
