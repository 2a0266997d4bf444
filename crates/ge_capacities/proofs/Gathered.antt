-- Each limit once, gathered as what counts of it.
use Rattle.std.proofs.Common.{◌≡◌, ℕ, ◌==◌, inl, inr, true, false, cond, ◌||◌, List, [], ◌∷◌, ◌++◌, Option, Some, None, refl, sym, ap, subst, ◌∙◌, append_assoc}
use Rattle.std.specs.Prelude.{flat_map, filter, fold, not, map}
use Rattle.std.specs.List.{list_any}
use Rattle.std.specs.Map.{keys_of}
use Rattle.std.proofs.lemmas.Bool.{cases_Bool, cond-true, cond-false, or_parts, true≢false, false_from_ne_true}
use Rattle.std.proofs.lemmas.List.{append-nil, map-append}
use Rattle.std.proofs.lemmas.List.Concat.{flat_map-cons}
use Rattle.std.proofs.lemmas.List.Sums.{fold-append}
use Rattle.std.proofs.lemmas.Grind.{flat_map-append}
use Rattle.ge_collections.specs.Keyed.{text_eq}
use Rattle.ge_model_place.specs.Bookings.{same_limit}
use Rattle.ge_model_rows.specs.Complexes.{complex_at, is_consumable, has_consumable}
use Rattle.ge_model_rows.specs.Queues.{attr_at}
use Rattle.ge_model_rows.specs.ClusterRows.{Cluster}
use Rattle.ge_model_rows.specs.HostRows.{HostRow, Groups, InstanceId}
use Rattle.ge_model_rows.specs.JobRows.{Job}
use Rattle.ge_model_rows.specs.QueueRows.{QueueRow}
use Rattle.ge_model_rows.specs.ScheduleRows.{LimitId, Instance, Host, Global}
use Rattle.ge_model_rows.specs.ValueRows.{Value, ComplexDef}
use Rattle.ge_model_place.proofs.Same.{limits_equal}
use Rattle.ge_model_place.specs.Limits.{Counted as Limited, counted, capacity_of, per_slot, is_per_job, resource_of, consumables, is_other, instance_limits, host_limits, with_limit_once, asked_or_default}
use Rattle.ge_model_place.specs.Opening.{slots_name}
use Rattle.ge_capacities.specs.declared.counting.Counted.{Counted}
use Rattle.ge_capacities.specs.Counts.{counted_as, all_counted}
use Rattle.ge_capacities.specs.Found.{amount_or_default, is_found, found_with, with_limit, with_limit_unless_found, with_instance_value, with_host_value}

pub asked_is : (c : Cluster) (name : List ℕ) (complex : ComplexDef) (asked : Option Value) → complex_at c name ≡ Some complex → asked_or_default c name asked ≡ amount_or_default complex asked
asked_is c name complex None e = rw e refl
asked_is c name complex (Some value) e = refl

pub found_anywhere : (found : List Counted) (limit : LimitId) → is_found (all_counted found) limit ≡ list_any (λ more. same_limit limit more.limit) found
found_anywhere [] limit = refl
found_anywhere (more ∷ found) limit = ap (λ b. same_limit limit more.limit || b) (found_anywhere found limit)

pub pushed_once : (found new : List Counted) (more : Counted) → list_any (λ other. same_limit more.limit other.limit) found ≡ false → new ≡ found ++ more ∷ [] → all_counted new ≡ found_with (all_counted found) (counted_as more ∷ [])
pushed_once found new more absent is = ap all_counted is ∙ map-append counted_as found (more ∷ []) ∙ sym (cond-false _ _ _ (found_anywhere found more.limit ∙ absent))

module _ (c : Cluster) (groups : Groups) (job : Job) where
  -- what counts of a limit, where something is asked of it
  abbrev row : LimitId → Limited
  row x = record { limit = x; capacity = capacity_of c groups x; amount = per_slot c job (resource_of x); once = is_per_job c (resource_of x) }

  abbrev all : List LimitId → List Limited
  all limits = flat_map (counted c groups job) limits

  nothing : (x : LimitId) → (per_slot c job (resource_of x) == 0) ≡ true → counted c groups job x ≡ []
  nothing x e = cond-true _ _ _ e

  something : (x : LimitId) → (per_slot c job (resource_of x) == 0) ≡ false → counted c groups job x ≡ row x ∷ []
  something x e = cond-false _ _ _ e

  -- a limit of which something is asked is found where it was met
  found_is : (x : LimitId) → (per_slot c job (resource_of x) == 0) ≡ false → (seen : List LimitId) → is_found (all seen) x ≡ list_any (same_limit x) seen
  found_is x e [] = refl
  found_is x e (s ∷ seen) =
      let rest = found_is x e seen in
      let front = flat_map-cons (counted c groups job) s seen in
      elim (cases_Bool (per_slot c job (resource_of s) == 0)) [
        | inl none ↦
            let differs : same_limit x s ≡ false = false_from_ne_true (same_limit x s) (λ same. true≢false (sym none ∙ subst (λ l. (per_slot c job (resource_of l) == 0) ≡ false) (limits_equal x s same) e)) in
            ap (λ l. is_found l x) (front ∙ ap (λ h. h ++ all seen) (nothing s none)) ∙ rest ∙ sym (ap (λ b. b || list_any (same_limit x) seen) differs)
        | inr some ↦ ap (λ l. is_found l x) (front ∙ ap (λ h. h ++ all seen) (something s some)) ∙ ap (λ b. same_limit x s || b) rest
      ]

  pushed : (seen : List LimitId) (x : LimitId) → all (seen ++ x ∷ []) ≡ all seen ++ counted c groups job x
  pushed seen x = flat_map-append (counted c groups job) seen (x ∷ []) ∙ ap (λ l. all seen ++ l) (flat_map-cons (counted c groups job) x [] ∙ append-nil (counted c groups job x))

  one_more : (seen : List LimitId) (x : LimitId) → all (with_limit_once seen x) ≡ with_limit_unless_found c groups job (all seen) x
  one_more seen x =
      elim (cases_Bool (per_slot c job (resource_of x) == 0)) [
        | inl none ↦
            let here = nothing x none in
            let more : all (seen ++ x ∷ []) ≡ all seen = pushed seen x ∙ ap (λ l. all seen ++ l) here ∙ append-nil (all seen) in
            let same : all (with_limit_once seen x) ≡ all seen = elim (cases_Bool (list_any (same_limit x) seen)) [
              | inl there ↦ ap all (cond-true _ _ _ there)
              | inr new ↦ ap all (cond-false _ _ _ new) ∙ more
            ] in
            same ∙ sym (ap (λ l. found_with (all seen) l) here)
        | inr some ↦
            let here = something x some in
            let is = found_is x some seen in
            let right : with_limit_unless_found c groups job (all seen) x ≡ cond (list_any (same_limit x) seen) (all seen) (all seen ++ row x ∷ []) = ap (λ l. found_with (all seen) l) here ∙ ap (λ b. cond b (all seen) (all seen ++ row x ∷ [])) is in
            elim (cases_Bool (list_any (same_limit x) seen)) [
              | inl there ↦ ap all (cond-true _ _ _ there) ∙ sym (right ∙ cond-true _ _ _ there)
              | inr new ↦ ap all (cond-false _ _ _ new) ∙ pushed seen x ∙ ap (λ l. all seen ++ l) here ∙ sym (right ∙ cond-false _ _ _ new)
            ]
      ]

  pub gathered_behind : (limits seen : List LimitId) → all (fold with_limit_once seen limits) ≡ fold (with_limit_unless_found c groups job) (all seen) limits
  gathered_behind [] seen = refl
  gathered_behind (x ∷ limits) seen = gathered_behind limits (with_limit_once seen x) ∙ ap (λ found. fold (with_limit_unless_found c groups job) found limits) (one_more seen x)

  -- what counts of limits, behind what was found
  pub counted_behind : (limits : List LimitId) (found : List Limited) → fold (with_limit c groups job) found limits ≡ found ++ all limits
  counted_behind [] found = sym (append-nil found)
  counted_behind (x ∷ limits) found =
      let here = counted c groups job x in counted_behind limits (found ++ here) ∙ append_assoc found here (all limits) ∙ ap (λ l. found ++ l) (sym (flat_map-cons (counted c groups job) x limits))

  -- nothing is asked of what is no consumable
  skipped : (limit : LimitId) (name : List ℕ) (found : List Limited) → resource_of limit ≡ name → is_consumable c name ≡ false → with_limit c groups job found limit ≡ found
  skipped limit name found named isnt =
      let parts = or_parts (text_eq name slots_name) (has_consumable (complex_at c name)) isnt in
      let zero : per_slot c job name ≡ 0 = cond-false _ _ _ parts.0 ∙ cond-false _ _ _ isnt in
      let none : (per_slot c job (resource_of limit) == 0) ≡ true = ap (λ n. per_slot c job n == 0) named ∙ ap (λ n. n == 0) zero in
      ap (λ l. found ++ l) (nothing limit none) ∙ append-nil found

  named : (limit : List ℕ → LimitId) → ((n : List ℕ) → resource_of (limit n) ≡ n) → (names : List (List ℕ)) (found : List Limited)
      → fold (with_limit c groups job) found (map limit (filter (is_consumable c) names)) ≡ fold (with_host_value c groups job limit) found names
  named limit is_of [] found = refl
  named limit is_of (n ∷ names) found =
      elim (cases_Bool (is_consumable c n)) [
        | inl is ↦ ap (λ l. fold (with_limit c groups job) found (map limit l)) (cond-true _ _ _ is) ∙ named limit is_of names (with_limit c groups job found (limit n))
        | inr isnt ↦ ap (λ l. fold (with_limit c groups job) found (map limit l)) (cond-false _ _ _ isnt) ∙ named limit is_of names found ∙ ap (λ f. fold (with_host_value c groups job limit) f names) (sym (skipped (limit n) n found (is_of n) isnt))
      ]

  named_at : (at : InstanceId) (names : List (List ℕ)) (found : List Limited)
      → fold (with_limit c groups job) found (map (Instance at) (filter is_other (filter (is_consumable c) names))) ≡ fold (with_instance_value c groups job at) found names
  named_at at [] found = refl
  named_at at (n ∷ names) found =
      let all_of = λ (l : List (List ℕ)). fold (with_limit c groups job) found (map (Instance at) (filter is_other l)) in
      elim (cases_Bool (is_consumable c n)) [
        | inl is ↦
            ap all_of (cond-true _ _ _ is)
            ∙ elim (cases_Bool (text_eq n slots_name)) [
              | inl slots ↦
                  ap (λ l. fold (with_limit c groups job) found (map (Instance at) l)) (cond-false (is_other n) _ _ (ap not slots)) ∙ named_at at names found
                  ∙ ap (λ f. fold (with_instance_value c groups job at) f names) (sym (cond-true _ _ _ slots))
              | inr other ↦
                  ap (λ l. fold (with_limit c groups job) found (map (Instance at) l)) (cond-true (is_other n) _ _ (ap not other)) ∙ named_at at names (with_limit c groups job found (Instance at n))
                  ∙ ap (λ f. fold (with_instance_value c groups job at) f names) (sym (cond-false _ _ _ other))
            ]
        | inr isnt ↦
            let other = (or_parts (text_eq n slots_name) (has_consumable (complex_at c n)) isnt).0 in
            ap all_of (cond-false _ _ _ isnt) ∙ named_at at names found
            ∙ ap (λ f. fold (with_instance_value c groups job at) f names) (sym (cond-false _ _ _ other ∙ skipped (Instance at n) n found refl isnt))
      ]

pub of_instance : (c : Cluster) (groups : Groups) (job : Job) (at : InstanceId) (q : QueueRow) (found : List Limited)
    → fold (with_limit c groups job) found (instance_limits c groups at (Some q))
    ≡ with_limit c groups job (fold (with_instance_value c groups job at) found (keys_of (attr_at q.values groups at.host))) (Instance at slots_name)
of_instance c groups job at q found =
    fold-append (with_limit c groups job) found (map (Instance at) (filter is_other (consumables c (attr_at q.values groups at.host)))) (Instance at slots_name ∷ [])
    ∙ ap (λ f. with_limit c groups job f (Instance at slots_name)) (named_at c groups job at (keys_of (attr_at q.values groups at.host)) found)

pub of_host : (c : Cluster) (groups : Groups) (job : Job) (host : List ℕ) (row : HostRow) (found : List Limited)
    → fold (with_limit c groups job) found (host_limits c (Host host) (Some row)) ≡ fold (with_host_value c groups job (Host host)) found (keys_of row.values)
of_host c groups job host row found = named c groups job (Host host) (λ n. refl) (keys_of row.values) found

pub of_all : (c : Cluster) (groups : Groups) (job : Job) (row : HostRow) (found : List Limited)
    → fold (with_limit c groups job) found (host_limits c Global (Some row)) ≡ fold (with_host_value c groups job Global) found (keys_of row.values)
of_all c groups job row found = named c groups job Global (λ n. refl) (keys_of row.values) found
