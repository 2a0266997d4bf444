-- The limits by name are each met once, since the names in a table differ.
use Rattle.std.proofs.Common.{◌≡◌, ℕ, true, false, not, ◌&&◌, ◌||◌, inl, inr, List, [], ◌∷◌, ◌++◌, Option, Some, None, refl, sym, ap, subst, ◌∙◌, append_assoc}
use Rattle.std.specs.Prelude.{map, flat_map, filter, fold}
use Rattle.std.specs.Cmp.Lexicographic.{texts_ties}
use Rattle.std.specs.List.{list_any, AllByRecursion}
use Rattle.std.specs.List.Sorted.{IsStrictlySortedBy}
use Rattle.std.specs.Map.{keys_of}
use Rattle.std.specs.Ordering.{is_eq}
use Rattle.std.specs.declared.cmp.Ordering.TheVariants.{Less}
use Rattle.std.proofs.lemmas.Bool.{cases_Bool, cond-true, cond-false, true≢false, false_from_ne_true}
use Rattle.std.proofs.lemmas.List.{append-nil}
use Rattle.std.proofs.lemmas.List.Folds.{list_any-append}
use Rattle.std.proofs.lemmas.List.Kept.{IsStrictlySortedBy-filter}
use Rattle.std.proofs.lemmas.List.Sums.{fold-append}
use Rattle.ge_collections.specs.Keyed.{text_cmp, text_eq, at_text}
use Rattle.ge_model_place.specs.Bookings.{same_limit}
use Rattle.ge_model_rows.specs.Complexes.{is_consumable}
use Rattle.ge_model_rows.specs.Queues.{attr_at}
use Rattle.ge_model_rows.specs.ClusterRows.{Cluster}
use Rattle.ge_model_rows.specs.HostRows.{HostRow, Groups, InstanceId}
use Rattle.ge_model_rows.specs.JobRows.{Job, PeRequest}
use Rattle.ge_model_rows.specs.QueueRows.{QueueRow}
use Rattle.ge_model_rows.specs.ScheduleRows.{LimitId, Instance, Host, Global, Pe, Quota}
use Rattle.ge_model_place.proofs.Same.{texts_equal, text_same, instance_same}
use Rattle.ge_model_place.specs.Limits.{counted, consumables, is_other, instance_limits, host_limits, pe_limits, configured_limits, who_at, with_limit_once, each_limit_once}
use Rattle.ge_model_place.specs.Opening.{slots_name, global_name}
use Rattle.ge_model_place.specs.Quotas.{quota_keys}
use Rattle.ge_capacities.specs.Found.{with_limit, with_limit_unless_found, named_limits, AreRisingAt, AreRisingOn, AllRise}
use Rattle.ge_capacities.proofs.Gathered.{counted_behind, gathered_behind}

different : (a b : List ℕ) → (a ≡ b → text_eq b a ≡ true) → text_eq b a ≡ false → text_eq a b ≡ false
different a b back apart = false_from_ne_true (text_eq a b) (λ same. true≢false (sym (back (texts_equal a b same)) ∙ apart))

apart_back : (a b : List ℕ) → text_eq b a ≡ false → text_eq a b ≡ false
apart_back a b = different a b (λ same. subst (λ n. text_eq b n ≡ true) (sym same) (text_same b))

above_apart : (a b : List ℕ) → text_cmp a b ≡ Less → text_eq b a ≡ false
above_apart a b below = apart_back b a (texts_ties a b ∙ ap is_eq below)

-- a limit that none of these names makes
none_named : (limit : List ℕ → LimitId) (x : LimitId) → ((n : List ℕ) → same_limit x (limit n) ≡ false) → (names : List (List ℕ)) → list_any (same_limit x) (map limit names) ≡ false
none_named limit x other [] = refl
none_named limit x other (n ∷ names) = ap (λ b. b || list_any (same_limit x) (map limit names)) (other n) ∙ none_named limit x other names

neither : (x : LimitId) (seen more : List LimitId) → list_any (same_limit x) seen ≡ false → list_any (same_limit x) more ≡ false → list_any (same_limit x) (seen ++ more) ≡ false
neither x seen more here there = list_any-append (same_limit x) seen more ∙ ap (λ b. b || list_any (same_limit x) more) here ∙ there

module _ (limit : List ℕ → LimitId) (apart : (m n : List ℕ) → text_eq m n ≡ false → same_limit (limit m) (limit n) ≡ false) where
  still_new : (n : List ℕ) (names : List (List ℕ)) (seen : List LimitId) → AllByRecursion (λ m. text_cmp n m ≡ Less) names
      → AllByRecursion (λ m. list_any (same_limit (limit m)) seen ≡ false) names → AllByRecursion (λ m. list_any (same_limit (limit m)) (seen ++ limit n ∷ []) ≡ false) names
  still_new n [] seen above new = tt
  still_new n (m ∷ names) seen above new =
      (neither (limit m) seen (limit n ∷ []) new.0 (ap (λ b. b || false) (apart m n (above_apart n m above.0))), still_new n names seen above.1 new.1)

  each_new : (names : List (List ℕ)) (seen : List LimitId) → IsStrictlySortedBy text_cmp names → AllByRecursion (λ n. list_any (same_limit (limit n)) seen ≡ false) names
      → fold with_limit_once seen (map limit names) ≡ seen ++ map limit names
  unfolding IsStrictlySortedBy
  each_new [] seen rising new = sym (append-nil seen)
  each_new (n ∷ names) seen rising new =
      ap (λ s. fold with_limit_once s (map limit names)) (cond-false _ _ _ new.0) ∙ each_new names (seen ++ limit n ∷ []) rising.1 (still_new n names seen rising.0 new.1)
      ∙ append_assoc seen (limit n ∷ []) (map limit names)

  all_new : (seen : List LimitId) → ((n : List ℕ) → list_any (same_limit (limit n)) seen ≡ false) → (names : List (List ℕ)) → AllByRecursion (λ n. list_any (same_limit (limit n)) seen ≡ false) names
  all_new seen new [] = tt
  all_new seen new (n ∷ names) = (new n, all_new seen new names)

  pub each_once : (names : List (List ℕ)) (seen : List LimitId) → IsStrictlySortedBy text_cmp names → ((n : List ℕ) → list_any (same_limit (limit n)) seen ≡ false)
      → fold with_limit_once seen (map limit names) ≡ seen ++ map limit names
  each_once names seen rising new = each_new names seen rising (all_new seen new names)

module _ (c : Cluster) (groups : Groups) (job : Job) (at : InstanceId) where
  -- the slots of an instance are none of its other values
  slots_apart : (names : List (List ℕ)) → list_any (same_limit (Instance at slots_name)) (map (Instance at) (filter is_other names)) ≡ false
  slots_apart [] = refl
  slots_apart (n ∷ names) =
      let among = λ (l : List (List ℕ)). list_any (same_limit (Instance at slots_name)) (map (Instance at) l) in
      elim (cases_Bool (text_eq n slots_name)) [
        | inl slots ↦ ap among (cond-false _ _ _ (ap not slots)) ∙ slots_apart names
        | inr other ↦
            let differs : same_limit (Instance at slots_name) (Instance at n) ≡ false = ap (λ b. b && text_eq slots_name n) (instance_same at) ∙ apart_back slots_name n other in
            ap among (cond-true _ _ _ (ap not other)) ∙ ap (λ b. b || among (filter is_other names)) differs ∙ slots_apart names
      ]

  instances_once : (queue : Option QueueRow) → AreRisingAt groups at queue → fold with_limit_once [] (instance_limits c groups at queue) ≡ instance_limits c groups at queue
  instances_once None rising = refl
  instances_once (Some queue) rising =
      let values = attr_at queue.values groups at.host in
      let names = filter is_other (consumables c values) in
      let rise : IsStrictlySortedBy text_cmp names = IsStrictlySortedBy-filter text_cmp is_other (consumables c values) (IsStrictlySortedBy-filter text_cmp (is_consumable c) (keys_of values) rising) in
      let apart : (m n : List ℕ) → text_eq m n ≡ false → same_limit (Instance at m) (Instance at n) ≡ false = λ m n differ. ap (λ b. b && text_eq m n) (instance_same at) ∙ differ in
      fold-append with_limit_once [] (map (Instance at) names) (Instance at slots_name ∷ [])
      ∙ ap (λ seen. with_limit_once seen (Instance at slots_name)) (each_once (Instance at) apart names [] rise (λ n. refl))
      ∙ cond-false _ _ _ (slots_apart (consumables c values))

  no_instance : (x : LimitId) → ((n : List ℕ) → same_limit x (Instance at n) ≡ false) → (queue : Option QueueRow) → list_any (same_limit x) (instance_limits c groups at queue) ≡ false
  no_instance x other None = refl
  no_instance x other (Some queue) =
      let names = filter is_other (consumables c (attr_at queue.values groups at.host)) in
      neither x (map (Instance at) names) (Instance at slots_name ∷ []) (none_named (Instance at) x other names) (ap (λ b. b || false) (other slots_name))

  no_host : (limit : List ℕ → LimitId) (x : LimitId) → ((n : List ℕ) → same_limit x (limit n) ≡ false) → (row : Option HostRow) → list_any (same_limit x) (host_limits c limit row) ≡ false
  no_host limit x other None = refl
  no_host limit x other (Some row) = none_named limit x other (consumables c row.values)

  hosts_once : (limit : List ℕ → LimitId) → ((m n : List ℕ) → text_eq m n ≡ false → same_limit (limit m) (limit n) ≡ false) → (seen : List LimitId)
      → ((n : List ℕ) → list_any (same_limit (limit n)) seen ≡ false) → (row : Option HostRow) → AreRisingOn row → fold with_limit_once seen (host_limits c limit row) ≡ seen ++ host_limits c limit row
  hosts_once limit apart seen new None rising = sym (append-nil seen)
  hosts_once limit apart seen new (Some row) rising =
      each_once limit apart (consumables c row.values) seen (IsStrictlySortedBy-filter text_cmp (is_consumable c) (keys_of row.values) rising) new

  environment_once : (seen : List LimitId) → ((n : List ℕ) → list_any (same_limit (Pe n)) seen ≡ false) → (pe : Option PeRequest) → fold with_limit_once seen (pe_limits pe) ≡ seen ++ pe_limits pe
  environment_once seen new None = sym (append-nil seen)
  environment_once seen new (Some request) = cond-false _ _ _ (new request.name)

  abbrev ofs : List LimitId
  ofs = instance_limits c groups at (at_text c.queues at.queue)

  abbrev own : List LimitId
  own = host_limits c (Host at.host) (at_text c.hosts at.host)

  abbrev shared : List LimitId
  shared = host_limits c Global (at_text c.hosts global_name)

  named_once : AllRise c groups at → fold with_limit_once [] (named_limits c groups job at) ≡ named_limits c groups job at
  named_once rise =
      let hosts_apart : (m n : List ℕ) → text_eq m n ≡ false → same_limit (Host at.host m) (Host at.host n) ≡ false = λ m n differ. ap (λ b. b && text_eq m n) (text_same at.host) ∙ differ in
      let no_own : (n : List ℕ) → list_any (same_limit (Host at.host n)) ofs ≡ false = λ n. no_instance (Host at.host n) (λ m. refl) (at_text c.queues at.queue) in
      let no_shared : (n : List ℕ) → list_any (same_limit (Global n)) (ofs ++ own) ≡ false =
      λ n. neither (Global n) ofs own (no_instance (Global n) (λ m. refl) (at_text c.queues at.queue)) (no_host (Host at.host) (Global n) (λ m. refl) (at_text c.hosts at.host)) in
      let no_pe : (n : List ℕ) → list_any (same_limit (Pe n)) (ofs ++ own ++ shared) ≡ false =
      λ n. neither (Pe n) (ofs ++ own) shared
      (neither (Pe n) ofs own (no_instance (Pe n) (λ m. refl) (at_text c.queues at.queue)) (no_host (Host at.host) (Pe n) (λ m. refl) (at_text c.hosts at.host)))
      (no_host Global (Pe n) (λ m. refl) (at_text c.hosts global_name)) in
      fold-append with_limit_once [] (ofs ++ own ++ shared) (pe_limits job.request.pe)
      ∙ ap (λ seen. fold with_limit_once seen (pe_limits job.request.pe))
      (fold-append with_limit_once [] (ofs ++ own) shared ∙ ap (λ seen. fold with_limit_once seen shared)
      (fold-append with_limit_once [] ofs own ∙ ap (λ seen. fold with_limit_once seen own) (instances_once (at_text c.queues at.queue) rise.0)
      ∙ hosts_once (Host at.host) hosts_apart ofs no_own (at_text c.hosts at.host) rise.1)
      ∙ hosts_once Global (λ m n differ. differ) (ofs ++ own) no_shared (at_text c.hosts global_name) rise.2)
      ∙ environment_once (ofs ++ own ++ shared) no_pe job.request.pe

  -- what counts of all that is configured: the named limits, with each quota that isn't found
  pub configured_once : AllRise c groups at
      → flat_map (counted c groups job) (each_limit_once (configured_limits c groups job at))
      ≡ fold (with_limit_unless_found c groups job) (fold (with_limit c groups job) [] (named_limits c groups job at)) (map Quota (quota_keys c groups (who_at job at)))
  configured_once rise =
      let named = named_limits c groups job at in
      let quotas = map Quota (quota_keys c groups (who_at job at)) in
      ap (flat_map (counted c groups job)) (fold-append with_limit_once [] named quotas ∙ ap (λ seen. fold with_limit_once seen quotas) (named_once rise))
      ∙ gathered_behind c groups job quotas named
      ∙ ap (λ found. fold (with_limit_unless_found c groups job) found quotas) (sym (counted_behind c groups job named []))
