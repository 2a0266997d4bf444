-- What is left at instances: one that has too little takes no slot, now and as bookings grow.
use Rattle.std.proofs.Common.{◌≡◌, ℕ, suc, ◌+◌, ◌-◌, ◌≤◌, ◌<◌, ◌==◌, inl, inr, Bool, true, false, ◌||◌, cond, min, All, List, [], ◌∷◌, ◌++◌, map, filter, length, get_or, slice_set, slice_index_or, drop, remove, Option, Some, None, refl, sym, subst, ap, ◌∙◌, arith, get_or-set_same, get_or-set_other, below_more}
use Rattle.std.proofs.Math.ListN.{drop_of_length-le}
use Rattle.std.proofs.Math.Seq.{drop-cons}
use Rattle.std.specs.List.{list_any, list_all}
use Rattle.std.specs.Prelude.{nat_lt, IfSome}
use Rattle.std.specs.Option.{option_or}
use Rattle.std.proofs.lemmas.Bool.{cond-true, cond-false, cases_Bool, cases_lt, cond_both, eqb-true, and_parts, or_cases, or_from, or_left, or_right, cases_eq, true≢false, false_from_ne_true, ltb-true}
use Rattle.std.proofs.lemmas.List.{length-map, length-set, get_or-map, get_or_default, get_or_read}
use Rattle.std.proofs.lemmas.List.Elements.{All-map, All-nil, All-cons, All-head, All-tail}
use Rattle.std.proofs.lemmas.Option.{slice_get-get_or}
use Rattle.ge_collections.specs.Keyed.{at_text}
use Rattle.ge_capacities.specs.declared.counting.Counted.{Counted}
use Rattle.ge_model_rows.specs.ClusterRows.{Cluster}
use Rattle.ge_model_rows.specs.HostRows.{HostRow, Groups, InstanceId}
use Rattle.ge_model_rows.specs.JobRows.{Job}
use Rattle.ge_model_rows.specs.ScheduleRows.{LimitId, Instance, Host, Global, Pe, Quota, Booking}
use Rattle.ge_model_rows.specs.ScheduleRows.{Advance as Booked}
use Rattle.ge_model_place.specs.Bookings.{same_limit, plain_sum}
use Rattle.ge_model_place.proofs.Peaks.{within_peak}
use Rattle.ge_model_place.specs.Limits.{greatest_demand, capacity_of, consumables, instance_limits, host_limits, pe_limits, who_at, configured_limits, limits_at, per_slot, resource_of}
use Rattle.ge_model_place.specs.Opening.{global_name, is_open}
use Rattle.ge_model_place.specs.Placement.{are_open, placement_of}
use Rattle.ge_model_place.specs.Quotas.{quota_keys}
use Rattle.ge_model_place.specs.Runs.{one_slot}
use Rattle.ge_model_place.specs.Windows.{window_end_from, next_moment}
use Rattle.ge_model_place.proofs.First.{takes_one}
use Rattle.ge_model_place.proofs.Moments.{admissible_is}
use Rattle.ge_model_place.proofs.Once.{Each}
use Rattle.ge_model_place.proofs.Same.{texts_equal, limit_same}
use Rattle.ge_timeline.specs.Looks.{window_peak}
use Rattle.ge_attempts.specs.declared.rests.Rest.{Rest}
use Rattle.ge_attempts.specs.declared.rests.Left.{Left}
use Rattle.ge_attempts.specs.declared.rests.Room.{Room}
use Rattle.ge_attempts.specs.declared.holding.Hosts.{Hosts}
use Rattle.ge_attempts.specs.Common.{IsAsked}
use Rattle.ge_attempts.specs.Amounts.{IsInTable, number_in, AreLeast}
use Rattle.ge_attempts.specs.Closing.{asked_by_all}
use Rattle.ge_attempts.specs.Rests.{rest_of, host_rests, rests_at, left_first, is_full, renewed_rest, renewed_left, AreOpen, ArePassed, is_of, asks_more, is_short, is_short_now, are_short, left_then, is_short_then, are_short_then, are_short_at, comes_before, blocked_there, blocked_in, EndsNoSooner, is_kept, AreKept, OutBy, AreShortLater, IsLeft, IsBlocked, IsLeftAt, AreLeft}
use Rattle.ge_attempts.specs.Vacant.{goes_on, slots_of}
use Rattle.ge_attempts.proofs.Admitting.{any_first, any_second, counts_here, slots_count, has_room_for}
use Rattle.ge_attempts.proofs.Blocked.{known_later, known_anew, blocked_later, blocked_anew, before_each_end, full_before}
use Rattle.ge_attempts.proofs.Closed.{closed_to_all}
use Rattle.ge_attempts.proofs.Grown.{sum_grows}
use Rattle.ge_attempts.proofs.LeftOut.{peak_there, lasts_on}
use Rattle.ge_attempts.proofs.Nowhere.{none_placed}
use Rattle.ge_attempts.proofs.Open.{open_on, open_within, open_each, open_less}
use Rattle.ge_attempts.proofs.Thinned.{placed_thinned}

-- lists

pub none_any : {X : Type 0} (test : X → Bool) (xs : List X) → ((i : ℕ) (d : X) → i < length xs → test (get_or xs i d) ≡ false) → list_any test xs ≡ false
none_any test [] refused = refl
none_any test (x ∷ xs) refused = or_from (test x) (list_any test xs) (refused 0 x (omega arith)) (none_any test xs (λ i d less. refused (suc i) d (omega (arith, less))))

-- a left for a place that isn't there
abbrev no_left : Left
no_left = record { host = 0; closed = false; rests = []; kept_from = None; blocked = None }

-- limits of a resource count it

of_resource : (limit : LimitId) (resource : List ℕ) → is_of limit resource ≡ true → resource_of limit ≡ resource
of_resource (Instance at name) resource e = texts_equal name resource e
of_resource (Host host name) resource e = texts_equal name resource e
of_resource (Global name) resource e = texts_equal name resource e
of_resource (Pe name) resource e = absurd (true≢false (sym e))
of_resource (Quota key) resource e = texts_equal key.resource resource e
of_resource (Booked number at) resource e = absurd (true≢false (sym e))

module _ (c : Cluster) (groups : Groups) (job : Job) (at : InstanceId) where
  -- a value of the host counts
  host_counts : (limit : LimitId) → (job.advance == 0) ≡ true → list_any (λ other. same_limit other limit) (host_limits c (Host at.host) (at_text c.hosts at.host)) ≡ true → counts_here c groups job at limit ≡ true
  host_counts limit free e =
      let test : LimitId → Bool = λ other. same_limit other limit in
      let first : List LimitId = instance_limits c groups at (at_text c.queues at.queue) in
      let second : List LimitId = host_limits c (Host at.host) (at_text c.hosts at.host) in
      let third : List LimitId = host_limits c Global (at_text c.hosts global_name) in
      let fourth : List LimitId = pe_limits job.request.pe in
      let fifth : List LimitId = map Quota (quota_keys c groups (who_at job at)) in
      let which : limits_at c groups job at ≡ configured_limits c groups job at = cond-true _ _ _ free in
      ap (λ ls. list_any test ls) which
      ∙ any_first test (first ++ second ++ third ++ fourth) fifth (any_first test (first ++ second ++ third) fourth (any_first test (first ++ second) third (any_second test first second e)))

module _ (c : Cluster) (groups : Groups) (now : ℕ) (booked : List Booking) where
  abbrev left_of : LimitId → ℕ → Rest
  left_of limit least = rest_of c groups now booked limit least

  within_rest : (limit : LimitId) (moment : ℕ) → capacity_of c groups limit ≤ plain_sum booked limit moment + (capacity_of c groups limit - window_peak booked limit moment (next_moment moment))
  within_rest limit moment = let peak = peak_there booked limit moment in omega (arith, peak)

  module _ (amounts : List (List ℕ × ℕ)) (known : AreLeast c amounts) (at : InstanceId) where
    values_left : (all names : List (List ℕ)) → ((job : Job) (name : List ℕ) → (job.advance == 0) ≡ true → list_any (λ other. same_limit other (Host at.host name)) (map (Host at.host) all) ≡ true
        → counts_here c groups job at (Host at.host name) ≡ true)
        → ((name : List ℕ) → list_any (λ other. same_limit other (Host at.host name)) (map (Host at.host) names) ≡ true → list_any (λ other. same_limit other (Host at.host name)) (map (Host at.host) all) ≡ true)
        → All (IsLeft c groups now booked at) (map (λ name. left_of (Host at.host name) (number_in amounts name)) names)
    values_left all [] counts up = All-nil (IsLeft c groups now booked at)
    values_left all (name ∷ names) counts up =
        All-cons (IsLeft c groups now booked at) (left_of (Host at.host name) (number_in amounts name)) (map (λ n. left_of (Host at.host n) (number_in amounts n)) names)
        (record {
          of_it = refl;
          whole = refl;
          counts = λ job opened free. counts job name free (up name (or_left (same_limit (Host at.host name) (Host at.host name)) (list_any (λ other. same_limit other (Host at.host name)) (map (Host at.host) names)) (limit_same (Host at.host name))));
          within = within_rest (Host at.host name) now;
          least = known name;
        })
        (values_left all names counts (λ other e. up other (or_right (same_limit (Host at.host name) (Host at.host other)) (list_any (λ limit. same_limit limit (Host at.host other)) (map (Host at.host) names)) e)))

    host_left : (row : Option HostRow) → at_text c.hosts at.host ≡ row → All (IsLeft c groups now booked at) (host_rests c groups now booked amounts at.host row)
    host_left None is = All-nil (IsLeft c groups now booked at)
    host_left (Some row) is =
        let names : List (List ℕ) = consumables c row.values in
        values_left names names
        (λ job name free e. host_counts c groups job at (Host at.host name) free (subst (λ r. list_any (λ other. same_limit other (Host at.host name)) (host_limits c (Host at.host) r) ≡ true) (sym is) e))
        (λ name e. e)

    left_here : All (IsLeft c groups now booked at) (rests_at c groups now booked amounts at)
    left_here =
        All-cons (IsLeft c groups now booked at) (left_of (slots_of at) 1) (host_rests c groups now booked amounts at.host (at_text c.hosts at.host))
        (record { of_it = refl; whole = refl; counts = λ job opened free. slots_count c groups job at opened free; within = within_rest (slots_of at) now; least = λ job there. omega arith })
        (host_left (at_text c.hosts at.host) refl)

    first_left : (hosts : List (List ℕ × ℕ)) (names : List (List ℕ)) → list_all (asked_by_all c) names ≡ true → IsLeftAt c groups now booked at (left_first c groups now booked amounts hosts names at)
    first_left hosts names all = record { rests = left_here; shut = closed_to_all c groups names at all; blocked = tt }

  pub all_left : (amounts hosts : List (List ℕ × ℕ)) (names : List (List ℕ)) (order : List InstanceId) (lefts : List Left) (vacant : List ℕ) (later : List (Option ℕ)) (on_hosts : Hosts) (places : ℕ) → AreLeast c amounts → list_all (asked_by_all c) names ≡ true
      → lefts ≡ map (left_first c groups now booked amounts hosts names) order → AreOpen (is_full c now None) lefts (length lefts) 0 vacant → places ≡ length lefts → length later ≡ places → ((k : ℕ) → k < places → slice_index_or later k None ≡ None)
      → AreLeft c groups now booked order (record { lefts = lefts; vacant = vacant; later = later; hosts = on_hosts; until = None })
  all_left amounts hosts names order lefts vacant later on_hosts places known all are others count long unknown =
      let here : (k : ℕ) (at : InstanceId) (none : Left) → k < length order → slice_index_or lefts k none ≡ left_first c groups now booked amounts hosts names (slice_index_or order k at) =
      λ k at none inside. ap (λ rs. slice_index_or rs k none) are ∙ get_or-map (left_first c groups now booked amounts hosts names) order k at none inside in
      record {
        number = number_in hosts;
        hosts = record { each = λ k at none inside. ap (λ (left : Left). left.host) (here k at none inside) };
        long = ap (λ rs. length rs) are ∙ length-map order (left_first c groups now booked amounts hosts names);
        each = λ k at none inside. subst (λ (left : Left). IsLeftAt c groups now booked (slice_index_or order k at) left) (sym (here k at none inside)) (first_left amounts known (slice_index_or order k at) hosts names all);
        lasts = tt;
        later = record {
          long = long ∙ count;
          each = λ k none inside.
              subst (λ (known : Option ℕ). IfSome known (λ moment. are_short_then booked moment [] (slice_index_or lefts k none).rests ≡ true))
              (sym (unknown k (omega (arith, inside, count)))) tt;
        };
        others = others;
      }

  still_left : (at : InstanceId) (rest : Rest) → IsLeft c groups now booked at rest → IsLeft c groups now booked at (renewed_rest now booked rest)
  still_left at rest is =
      let whole = is.whole in
      let most = within_rest rest.limit now in
      record { of_it = is.of_it; counts = is.counts; whole = is.whole; within = omega (arith, whole, most); least = is.least }

  still_left_at : (at : InstanceId) (kept : Option ℕ) (left : Left) → IsLeftAt c groups now booked at left → IsLeftAt c groups now booked at (renewed_left now booked kept left)
  still_left_at at kept left is = record {
    rests = All-map (IsLeft c groups now booked at) (renewed_rest now booked) left.rests (λ i e under. still_left at (slice_index_or left.rests i e) (is.rests i e under));
    shut = is.shut;
    blocked = blocked_anew c groups now booked left.rests (option_or kept left.kept_from) left.blocked is.blocked;
  }

  -- what is left at a vacant place is taken anew
  pub renewed : (order : List InstanceId) (room : Room) (lefts : List Left) (vacant : List ℕ) (kept : Option ℕ) (place index : ℕ) (left : Left) → AreLeft c groups now booked order room → index < length room.vacant
      → place ≡ slice_index_or room.vacant index 0 → is_full c now room.until (slice_index_or room.lefts place left) ≡ false → left ≡ renewed_left now booked kept (slice_index_or room.lefts place left)
      → lefts ≡ slice_set room.lefts place left → vacant ≡ cond (is_full c now room.until left) (remove room.vacant index) room.vacant
      → AreLeft c groups now booked order (record room { lefts = lefts; vacant = vacant })
  renewed order room lefts vacant kept place index left are within place_is unfull is sets leaves =
      let full : Left → Bool = is_full c now room.until in
      let long : place < length room.lefts = subst (λ n. n < length room.lefts) (sym place_is) (open_within full room.lefts (length room.lefts) 0 room.vacant index within are.others) in
      let was = are.long in
      let inside : place < length order = omega (arith, long, was) in
      let put : (none : Left) → slice_index_or lefts place none ≡ left = λ none. ap (λ rs. slice_index_or rs place none) sets ∙ get_or-set_same room.lefts place left none long in
      let stays : (k : ℕ) (none : Left) → (k ≡ place → ⊥) → slice_index_or lefts k none ≡ slice_index_or room.lefts k none = λ k none other. ap (λ rs. slice_index_or rs k none) sets ∙ get_or-set_other room.lefts place k left none other in
      let length_is : length lefts ≡ length room.lefts = ap (λ rs. length rs) sets ∙ length-set room.lefts place left in
      let still_full : (k : ℕ) (none : Left) → full (slice_index_or room.lefts k none) ≡ true → full (slice_index_or lefts k none) ≡ true =
      λ k none e.
      elim (cases_eq k place) [
        | inl this ↦
            absurd (true≢false (sym e ∙ ap (λ n. full (slice_index_or room.lefts n none)) this ∙ ap (λ (l : Left). full l) (get_or_default room.lefts place none left long) ∙ unfull))
        | inr other ↦ ap (λ (l : Left). full l) (stays k none other) ∙ e
      ] in
      let still : AreOpen full lefts (length lefts) 0 room.vacant =
      subst (λ n. AreOpen full lefts n 0 room.vacant) (sym length_is) (open_on full full room.lefts lefts (length room.lefts) 0 room.vacant still_full are.others) in
      record {
        number = are.number;
        hosts = record {
          each = λ k d none inside_k.
              elim (cases_eq k place) [
                | inl this ↦
                    subst (λ n. (slice_index_or lefts n none).host ≡ are.number (slice_index_or order n d).host) (sym this)
                    (ap (λ (l : Left). l.host) (put none ∙ is) ∙ are.hosts.each place d left inside)
                | inr other ↦ ap (λ (l : Left). l.host) (stays k none other) ∙ are.hosts.each k d none inside_k
              ];
        };
        long = length_is ∙ are.long;
        each = λ k d none inside_k.
            elim (cases_eq k place) [
              | inl this ↦
                  subst (λ n. IsLeftAt c groups now booked (slice_index_or order n d) (slice_index_or lefts n none)) (sym this)
                  (subst (λ (l : Left). IsLeftAt c groups now booked (slice_index_or order place d) l) (sym (put none ∙ is))
                  (still_left_at (slice_index_or order place d) kept (slice_index_or room.lefts place left) (are.each place d left inside)))
              | inr other ↦ subst (λ (l : Left). IsLeftAt c groups now booked (slice_index_or order k d) l) (sym (stays k none other)) (are.each k d none inside_k)
            ];
        lasts = are.lasts;
        later = record {
          long = are.later.long ∙ sym length_is;
          each = λ k none inside_k.
              elim (cases_eq k place) [
                | inl this ↦
                    subst (λ n. IfSome (slice_index_or room.later n None) (λ moment. are_short_then booked moment [] (slice_index_or lefts n none).rests ≡ true)) (sym this)
                    (subst (λ (l : Left). IfSome (slice_index_or room.later place None) (λ moment. are_short_then booked moment [] l.rests ≡ true)) (sym (put none ∙ is))
                    (known_anew now booked (slice_index_or room.lefts place left).rests (slice_index_or room.later place None) (are.later.each place left long)))
                | inr other ↦
                    subst (λ (l : Left). IfSome (slice_index_or room.later k None) (λ moment. are_short_then booked moment [] l.rests ≡ true)) (sym (stays k none other))
                    (are.later.each k none (omega (arith, inside_k, length_is)))
              ];
        };
        others =
            subst (λ places. AreOpen full lefts (length lefts) 0 places) (sym leaves)
            (cond_both (full left) (remove room.vacant index) room.vacant (λ places. AreOpen full lefts (length lefts) 0 places)
            (λ e. open_less full lefts (length lefts) 0 room.vacant index within
            (λ none. ap (λ n. full (slice_index_or lefts n none)) (sym place_is) ∙ ap (λ (l : Left). full l) (put none) ∙ e) still)
            (λ _. still));
      }

  -- where the shortest window ends is found out
  pub until_found : (order : List InstanceId) (room : Room) (until : ℕ) → AreLeft c groups now booked order room → room.until ≡ None → EndsNoSooner c now until → AreLeft c groups now booked order (record room { until = Some until })
  until_found order room until are none within = record {
    number = are.number;
    hosts = are.hosts;
    long = are.long;
    each = are.each;
    lasts = within;
    later = are.later;
    others = open_on (is_full c now None) (is_full c now (Some until)) room.lefts room.lefts (length room.lefts) 0 room.vacant (λ k d e. full_before c now until (slice_index_or room.lefts k d) e)
        (subst (λ known. AreOpen (is_full c now known) room.lefts (length room.lefts) 0 room.vacant) none are.others);
  }

  -- more moments are known
  pub later_known : (order : List InstanceId) (room : Room) (later : List (Option ℕ)) → AreLeft c groups now booked order room → AreShortLater booked room.lefts later → AreLeft c groups now booked order (record room { later = later })
  later_known order room later are known = record {
    number = are.number;
    hosts = are.hosts;
    long = are.long;
    each = are.each;
    lasts = are.lasts;
    later = known;
    others = are.others;
  }

  -- at one place
  pub left_at : (order : List InstanceId) (room : Room) (all : List Left) (place : ℕ) (at : InstanceId) (left : Left) → AreLeft c groups now booked order room → all ≡ room.lefts
      → place < length order → at ≡ slice_index_or order place at → left ≡ slice_index_or all place left → IsLeftAt c groups now booked at left
  left_at order room all place at left are same inside at_is left_is =
      subst (λ x. IsLeftAt c groups now booked x left) (sym at_is)
      (subst (λ (l : Left). IsLeftAt c groups now booked (slice_index_or order place at) l) (sym (left_is ∙ ap (λ xs. slice_index_or xs place left) same)) (are.each place at left inside))

  -- an instance of which more is asked than is left takes no slot
  module _ (job : Job) (at : InstanceId) (on : goes_on c now ≡ true) (free : (job.advance == 0) ≡ true) where
    abbrev takes : Bool
    takes = takes_one c groups job booked now at

    -- at a moment of its window
    module _ (moment : ℕ) (since : now ≤ moment) (before : moment < window_end_from c job now) where
      one_short : (limit : LimitId) (resource : List ℕ) (most : ℕ) (x : Counted) → resource_of limit ≡ resource
          → (is_open c groups job at ≡ true → (job.advance == 0) ≡ true → counts_here c groups job at limit ≡ true) → capacity_of c groups limit ≤ plain_sum booked limit moment + most
          → IsAsked c groups job x → asks_more resource most x ≡ true → takes ≡ false
      one_short limit resource most x of_it counts within is e =
          false_from_ne_true takes (λ does.
          let parts = and_parts (nat_lt most (min x.amount greatest_demand)) (is_of x.limit resource) e in
          let are = admissible_is c groups job booked now (one_slot at) does in
          let opened = (and_parts (is_open c groups job at) (are_open c groups job []) are.opened).0 in
          let some = is.some in
          let same : per_slot c job (resource_of limit) ≡ x.amount = ap (λ name. per_slot c job name) (of_it ∙ sym (of_resource x.limit resource parts.1)) ∙ sym is.asks in
          let ever : now < window_end_from c job now = omega (arith, since, before) in
          let room = has_room_for c groups job at booked now limit ever (counts opened free) (λ none. some (sym same ∙ none)) does in
          let peak = within_peak booked limit now (window_end_from c job now) moment since before in
          let over = ltb-true most (min x.amount greatest_demand) parts.0 in
          absurd (omega (arith, same, room, peak, over, within)))

      -- each task that counts for a limit takes more of it than is left
      none_left : (limit : LimitId) (most least : ℕ) → (is_open c groups job at ≡ true → (job.advance == 0) ≡ true → counts_here c groups job at limit ≡ true)
          → capacity_of c groups limit ≤ plain_sum booked limit moment + most → least ≤ min (per_slot c job (resource_of limit)) greatest_demand → nat_lt most least ≡ true → takes ≡ false
      none_left limit most least counts within takes_that e =
          false_from_ne_true takes (λ does.
          let are = admissible_is c groups job booked now (one_slot at) does in
          let opened = (and_parts (is_open c groups job at) (are_open c groups job []) are.opened).0 in
          let ever : now < window_end_from c job now = omega (arith, since, before) in
          let over = ltb-true most least e in
          let room = has_room_for c groups job at booked now limit ever (counts opened free) (λ none. omega (arith, over, takes_that, none)) does in
          let peak = within_peak booked limit now (window_end_from c job now) moment since before in
          absurd (omega (arith, room, peak, over, takes_that, within)))

      some_short : (limit : LimitId) (resource : List ℕ) (most : ℕ) (asked : List Counted) → resource_of limit ≡ resource
          → (is_open c groups job at ≡ true → (job.advance == 0) ≡ true → counts_here c groups job at limit ≡ true) → capacity_of c groups limit ≤ plain_sum booked limit moment + most
          → All (IsAsked c groups job) asked → is_short asked resource most ≡ true → takes ≡ false
      some_short limit resource most [] of_it counts within is e = absurd (true≢false (sym e))
      some_short limit resource most (x ∷ xs) of_it counts within is e =
          elim (or_cases (asks_more resource most x) (is_short xs resource most) e) [
            | inl here ↦ one_short limit resource most x of_it counts within (All-head (IsAsked c groups job) x xs is) here
            | inr there ↦ some_short limit resource most xs of_it counts within (All-tail (IsAsked c groups job) x xs is) there
          ]

      -- by either
      either_short : (rest : Rest) (most : ℕ) (asked : List Counted) → resource_of rest.limit ≡ rest.resource
          → (is_open c groups job at ≡ true → (job.advance == 0) ≡ true → counts_here c groups job at rest.limit ≡ true) → capacity_of c groups rest.limit ≤ plain_sum booked rest.limit moment + most
          → rest.least ≤ min (per_slot c job (resource_of rest.limit)) greatest_demand → All (IsAsked c groups job) asked → (nat_lt most rest.least || is_short asked rest.resource most) ≡ true → takes ≡ false
      either_short rest most asked of_it counts within least is e =
          elim (or_cases (nat_lt most rest.least) (is_short asked rest.resource most) e) [
            | inl none ↦ none_left rest.limit most rest.least counts within least none
            | inr less ↦ some_short rest.limit rest.resource most asked of_it counts within is less
          ]

      -- by what is left then
      short_then : (known : ℕ) (old : List Booking) (rests : List Rest) (asked : List Counted) → IsInTable c job → All (IsLeft c groups known old at) rests → All (IsAsked c groups job) asked
          → are_short_then booked moment asked rests ≡ true → takes ≡ false
      short_then known old [] asked there left is e = absurd (true≢false (sym e))
      short_then known old (rest ∷ rests) asked there left is e =
          let first = All-head (IsLeft c groups known old at) rest rests left in
          let whole = first.whole in
          let most = within_rest rest.limit moment in
          elim (or_cases (is_short_then booked moment asked rest) (are_short_then booked moment asked rests) e) [
            | inl here ↦ either_short rest (left_then booked moment rest) asked first.of_it (λ opened alone. first.counts job opened alone) (omega (arith, whole, most)) (first.least job there) is here
            | inr later ↦ short_then known old rests asked there (All-tail (IsLeft c groups known old at) rest rests left) is later
          ]

    pub refused_short : (rests : List Rest) (asked : List Counted) → IsInTable c job → All (IsLeft c groups now booked at) rests → All (IsAsked c groups job) asked → are_short asked rests ≡ true → takes ≡ false
    refused_short [] asked there left is e = absurd (true≢false (sym e))
    refused_short (rest ∷ rests) asked there left is e =
        let first = All-head (IsLeft c groups now booked at) rest rests left in
        elim (or_cases (is_short_now asked rest) (are_short asked rests) e) [
          | inl here ↦
              either_short now (omega arith) (lasts_on c job now on free) rest rest.most asked first.of_it (λ opened alone. first.counts job opened alone) first.within (first.least job there) is here
          | inr later ↦ refused_short rests asked there (All-tail (IsLeft c groups now booked at) rest rests left) is later
        ]

    -- by what was left at another moment
    pub refused_then : (before : ℕ) (old : List Booking) (rests : List Rest) (asked : List Counted) → IsInTable c job → All (IsLeft c groups before old at) rests → All (IsAsked c groups job) asked → are_short_then booked now asked rests ≡ true → takes ≡ false
    refused_then before old rests asked there left is e = short_then now (omega arith) (lasts_on c job now on free) before old rests asked there left is e

    blocked_within : (rests : List Rest) (blocked : Option ℕ) → IsInTable c job → All (IsLeft c groups now booked at) rests → IfSome blocked (IsBlocked c groups now booked rests)
        → comes_before blocked (Some (window_end_from c job now)) ≡ true → takes ≡ false
    blocked_within rests None there left is e = absurd (true≢false (sym e))
    blocked_within rests (Some moment) there left is e =
        short_then moment is.0 (ltb-true moment (window_end_from c job now) e) now booked rests [] there left (All-nil (IsAsked c groups job)) is.1

    -- at a moment before its window ends
    pub refused_blocked : (left : Left) → IsInTable c job → IsLeftAt c groups now booked at left → comes_before left.blocked (Some (window_end_from c job now)) ≡ true → takes ≡ false
    refused_blocked left there is e = blocked_within left.rests left.blocked there is.rests is.blocked e

    pub refused_shut : is_open c groups job at ≡ false → takes ≡ false
    refused_shut shut =
        false_from_ne_true takes (λ does.
        let are = admissible_is c groups job booked now (one_slot at) does in
        true≢false (sym (and_parts (is_open c groups job at) (are_open c groups job []) are.opened).0 ∙ shut))

  -- instances before a place take no slot
  module _ (job : Job) (order : List InstanceId) (place : ℕ) (none : (k : ℕ) (d : InstanceId) → k < place → takes_one c groups job booked now (slice_index_or order k d) ≡ false) where
    pub placed_nowhere : length order ≤ place → placement_of c groups order booked job now ≡ None
    placed_nowhere all = none_placed c groups job booked now order (none_any (takes_one c groups job booked now) order (λ k d inside. none k d (omega (arith, inside, all))))

module _ (c : Cluster) (groups : Groups) (now : ℕ) (booked more : List Booking) where
  left_later : (at : InstanceId) (rest : Rest) → IsLeft c groups now booked at rest → IsLeft c groups now (booked ++ more) at rest
  left_later at rest is =
      let within = is.within in
      let grows = sum_grows rest.limit now booked more in
      record { of_it = is.of_it; counts = is.counts; whole = is.whole; within = omega (arith, within, grows); least = is.least }

  left_at_later : (at : InstanceId) (left : Left) → IsLeftAt c groups now booked at left → IsLeftAt c groups now (booked ++ more) at left
  left_at_later at left is = record {
    rests = λ i d within. left_later at (slice_index_or left.rests i d) (is.rests i d within);
    shut = is.shut;
    blocked = blocked_later c groups now booked more left.rests left.blocked is.blocked;
  }

  -- no more is left as bookings grow
  pub all_left_later : (order : List InstanceId) (room : Room) → AreLeft c groups now booked order room → AreLeft c groups now (booked ++ more) order room
  all_left_later order room are =
      record {
        number = are.number;
        hosts = are.hosts;
        long = are.long;
        each = λ k at none inside. left_at_later (slice_index_or order k at) (slice_index_or room.lefts k none) (are.each k at none inside);
        lasts = are.lasts;
        later = record {
          long = are.later.long;
          each = λ k none inside. known_later booked more (slice_index_or room.lefts k none).rests (slice_index_or room.later k None) (are.later.each k none inside);
        };
        others = are.others;
      }

-- where nothing is left

module _ (c : Cluster) (groups : Groups) (now : ℕ) (booked : List Booking) (order : List InstanceId) (room : Room) (are : AreLeft c groups now booked order room) where
  abbrev pub ArePassedBy : Job → List ℕ → Type 0
  ArePassedBy job places = ArePassed (takes_one c groups job booked now) (is_full c now room.until) order room.lefts places

  pub vacant_within : (items : List ℕ) → items ≡ room.vacant → (index : ℕ) → index < length room.vacant → slice_index_or items index 0 < length room.lefts
  vacant_within items same index inside =
      subst (λ places. slice_index_or places index 0 < length room.lefts) (sym same) (open_within (is_full c now room.until) room.lefts (length room.lefts) 0 room.vacant index inside are.others)

  -- an instance where nothing is left takes no slot
  full_takes : (job : Job) → IsInTable c job → (job.advance == 0) ≡ true → (k : ℕ) (d : InstanceId) (none : Left) → k < length room.lefts → is_full c now room.until (slice_index_or room.lefts k none) ≡ true
      → takes_one c groups job booked now (slice_index_or order k d) ≡ false
  full_takes job there free k d none inside e =
      let long = are.long in
      let at : InstanceId = slice_index_or order k d in
      let left : Left = slice_index_or room.lefts k none in
      let is : IsLeftAt c groups now booked at left = are.each k d none (omega (arith, inside, long)) in
      let parts = and_parts (goes_on c now) (left.closed || comes_before left.blocked room.until || are_short [] left.rests) e in
      elim (or_cases (left.closed || comes_before left.blocked room.until) (are_short [] left.rests) parts.1) [
        | inl either ↦
            elim (or_cases left.closed (comes_before left.blocked room.until) either) [
              | inl closed ↦ refused_shut c groups now booked job at parts.0 free (is.shut closed job there)
              | inr sooner ↦ refused_blocked c groups now booked job at parts.0 free left there is (before_each_end c groups now booked job there left.blocked room.until are.lasts sooner)
            ]
        | inr short ↦ refused_short c groups now booked job at parts.0 free left.rests [] there is.rests (All-nil (IsAsked c groups job)) short
      ]

  module _ (job : Job) (there : IsInTable c job) (free : (job.advance == 0) ≡ true) where
    pub passed_none : ArePassedBy job room.vacant
    passed_none = record { from = 0; none = λ k at less. absurd (omega (arith, less)); rest = are.others }

    passed_to : (places : List ℕ) (place : ℕ) (rest : List ℕ) → places ≡ place ∷ rest → ArePassedBy job places
        → (place < length order) × ((k : ℕ) (d : InstanceId) → k < place → takes_one c groups job booked now (slice_index_or order k d) ≡ false) × AreOpen (is_full c now room.until) room.lefts (length room.lefts) (place + 1) rest
    passed_to places place rest is were =
        let open_ = subst (λ ps. AreOpen (is_full c now room.until) room.lefts (length room.lefts) were.from ps) is were.rest in
        let inside = open_.1 in
        let long = are.long in (
          omega (arith, inside, long),
          λ k d less. elim (cases_lt k were.from) [
            | inl below ↦ were.none k d below
            | inr behind ↦ full_takes job there free k d no_left (omega (arith, less, inside)) (open_.2 k no_left behind less)
          ],
          open_.3,
        )

    -- none is left to be asked
    passed_all : (places : List ℕ) → places ≡ [] → ArePassedBy job places → (k : ℕ) (d : InstanceId) → k < length order → takes_one c groups job booked now (slice_index_or order k d) ≡ false
    passed_all places is were k d inside =
        let open_ = subst (λ ps. AreOpen (is_full c now room.until) room.lefts (length room.lefts) were.from ps) is were.rest in
        let long = are.long in
        elim (cases_lt k were.from) [
          | inl below ↦ were.none k d below
          | inr behind ↦ full_takes job there free k d no_left (omega (arith, inside, long)) (open_ k no_left behind (omega (arith, inside, long)))
        ]

    module _ (items : List ℕ) (same : items ≡ room.vacant) (index : ℕ) (were : ArePassedBy job (drop index room.vacant)) where
      -- at a place, with those behind it
      pub passed_at : index < length items
          → (slice_index_or items index 0 < length order) × ((k : ℕ) (d : InstanceId) → k < slice_index_or items index 0 → takes_one c groups job booked now (slice_index_or order k d) ≡ false) × AreOpen (is_full c now room.until) room.lefts (length room.lefts) (slice_index_or items index 0 + 1) (drop (index + 1) room.vacant)
      passed_at inside =
          let next : suc index ≡ index + 1 = omega arith in
          passed_to (drop index room.vacant) (slice_index_or items index 0) (drop (index + 1) room.vacant)
          (ap (λ xs. drop index xs) (sym same) ∙ drop-cons items index 0 inside ∙ ap (λ xs. slice_index_or items index 0 ∷ drop (suc index) xs) same
          ∙ ap (λ n. slice_index_or items index 0 ∷ drop n room.vacant) next) were

      -- one more that takes no slot
      pub passed_more : (at : InstanceId) → index < length items → at ≡ slice_index_or order (slice_index_or items index 0) at → takes_one c groups job booked now at ≡ false → ArePassedBy job (drop (index + 1) room.vacant)
      passed_more at inside at_is isnt =
          let here = passed_at inside in
          record {
            from = slice_index_or items index 0 + 1;
            none = λ k d less.
                below_more (λ (n : ℕ). (e : InstanceId) → takes_one c groups job booked now (slice_index_or order n e) ≡ false) (slice_index_or items index 0) (λ n below e. here.1 n e below)
                (λ e. ap (takes_one c groups job booked now) (sym (get_or_read order (slice_index_or items index 0) at here.0 at_is e)) ∙ isnt) k less d;
            rest = here.2;
          }

      -- none is left to be asked
      pub passed_end : length items ≤ index → (k : ℕ) (d : InstanceId) → k < length order → takes_one c groups job booked now (slice_index_or order k d) ≡ false
      passed_end past = passed_all (drop index room.vacant) (ap (λ xs. drop index xs) (sym same) ∙ drop_of_length-le items past) were

  -- where no place is vacant, no instance takes a slot of a job of the table
  pub none_open : room.vacant ≡ [] → (job : Job) → IsInTable c job → (job.advance == 0) ≡ true → list_any (takes_one c groups job booked now) order ≡ false
  none_open none job there free = none_any (takes_one c groups job booked now) order (passed_all job there free room.vacant none (passed_none job there free))

  -- where each vacant place is blocked before a job's window ends, nothing is placed
  pub all_blocked_none : (job : Job) → IsInTable c job → goes_on c now ≡ true → (job.advance == 0) ≡ true → list_all (blocked_in room.lefts (window_end_from c job now)) room.vacant ≡ true → placement_of c groups order booked job now ≡ None
  all_blocked_none job there on free all =
      let until : ℕ = window_end_from c job now in
      let long = are.long in
      let refused : (k : ℕ) → 0 ≤ k → k < length room.lefts → (d : InstanceId) → takes_one c groups job booked now (slice_index_or order k d) ≡ false =
      open_each (is_full c now room.until) room.lefts (λ k. (d : InstanceId) → takes_one c groups job booked now (slice_index_or order k d) ≡ false) (blocked_in room.lefts until) (length room.lefts) 0 room.vacant
      (λ k inside full d. full_takes job there free k d no_left inside (full no_left))
      (λ k inside e d. refused_blocked c groups now booked job (slice_index_or order k d) on free (slice_index_or room.lefts k no_left) there (are.each k d no_left (omega (arith, inside, long)))
      (sym (ap (λ left. blocked_there left until) (slice_get-get_or room.lefts k no_left inside)) ∙ e))
      all are.others in
      none_placed c groups job booked now order (none_any (takes_one c groups job booked now) order (λ k d inside. refused k (omega arith) (omega (arith, inside, long)) d))

-- hosts that are kept

each_at : {X : Type 0} (P : X → Type 0) (xs : List X) → ((k : ℕ) (d : X) → k < length xs → P (get_or xs k d)) → Each P xs
each_at P [] all = tt
each_at P (x ∷ xs) all = (all 0 x (omega arith), each_at P xs (λ k d less. all (suc k) d (omega (arith, less))))

module _ (c : Cluster) (groups : Groups) (now moment : ℕ) (booked : List Booking) (job : Job) (there : IsInTable c job) (on : goes_on c moment ≡ true) (free : (job.advance == 0) ≡ true) where
  -- at the moment of the run by what is known to be left, at another by what is booked there
  refused_at : (at : InstanceId) (rests : List Rest) (asked : List Counted) → All (IsLeft c groups now booked at) rests → All (IsAsked c groups job) asked → are_short_at now booked moment asked rests ≡ true
      → takes_one c groups job booked moment at ≡ false
  refused_at at rests asked left is short =
      elim (cases_Bool (moment == now)) [
        | inl this ↦
            let same : moment ≡ now = eqb-true moment now this in
            refused_short c groups moment booked job at on free rests asked there (subst (λ n. All (IsLeft c groups n booked at) rests) (sym same) left) is
            (sym (cond-true (moment == now) (are_short asked rests) (are_short_then booked moment asked rests) this) ∙ short)
        | inr other ↦
            refused_then c groups moment booked job at on free now booked rests asked there left is
            (sym (cond-false (moment == now) (are_short asked rests) (are_short_then booked moment asked rests) other) ∙ short)
      ]

  -- what keeps a task from it refuses it
  refused_by : (at : InstanceId) (rests : List Rest) (asked : List Counted) (until : ℕ) (known : Option ℕ) → until ≡ window_end_from c job moment → All (IsLeft c groups now booked at) rests → All (IsAsked c groups job) asked
      → OutBy now booked moment until asked rests known → takes_one c groups job booked moment at ≡ false
  refused_by at rests asked until None ends left is by = refused_at at rests asked left is by
  refused_by at rests asked until (Some later) ends left is by =
      short_then c groups moment booked job at on free later by.0 (subst (λ end. later < end) ends by.1) now booked rests [] there left (All-nil (IsAsked c groups job)) by.2

  -- where hosts are left out from each instance of which something keeps a task
  pub placed_on_hosts : (asked : List Counted) (until : ℕ) (order left : List InstanceId) (room : Room) (kept : List Bool) → until ≡ window_end_from c job moment → (are : AreLeft c groups now booked order room) → All (IsAsked c groups job) asked
      → AreKept now booked moment until asked room.lefts (length room.lefts) kept → left ≡ filter (λ (at : InstanceId). is_kept kept (are.number at.host)) order
      → placement_of c groups left booked job moment ≡ placement_of c groups order booked job moment
  placed_on_hosts asked until order left room kept ends are is keeps left_is =
      let long = are.long in
      ap (λ ats. placement_of c groups ats booked job moment) left_is
      ∙ placed_thinned c groups job booked moment (λ host. is_kept kept (are.number host)) order
      (each_at (λ (at : InstanceId). is_kept kept (are.number at.host) ≡ false → takes_one c groups job booked moment at ≡ false) order (λ k d less gone.
      let out = keeps.out k no_left (omega (arith, less, long)) (ap (λ n. is_kept kept n) (are.hosts.each k d no_left less) ∙ gone) in
      refused_by (slice_index_or order k d) (slice_index_or room.lefts k no_left).rests asked until out.known ends (are.each k d no_left less).rests is out.by))
