-- Instances are asked one by one whether they take a slot.
use Rattle.std.proofs.Common.{◌≡◌, ℕ, zero, suc, ◌<◌, ◌==◌, Bool, true, false, cond, take, drop, find, length, get_or, slice_index_or, List, [], ◌∷◌, Option, Some, None, IfSome, option_map, refl, sym, ap, ◌∙◌, arith}
use Rattle.std.proofs.lemmas.Bool.{true≢false, cond-true, cond-false}
use Rattle.ge_model_rows.specs.ClusterRows.{Cluster}
use Rattle.ge_model_rows.specs.HostRows.{Groups, InstanceId}
use Rattle.ge_model_rows.specs.JobRows.{Job, Grant}
use Rattle.ge_model_rows.specs.ScheduleRows.{Booking}
use Rattle.ge_model_place.specs.Placement.{placement_of}
use Rattle.ge_model_place.specs.Runs.{one_slot}
use Rattle.ge_model_place.proofs.First.{takes_one, first_admissible}

-- lists

taken_there : {X : Type 0} (place : ℕ) (xs : List X) (d : X) → place < length xs → take 1 (drop place xs) ≡ get_or xs place d ∷ []
taken_there zero [] d inside = absurd (omega (arith, inside))
taken_there zero (x ∷ xs) d inside = refl
taken_there (suc place) [] d inside = absurd (omega (arith, inside))
taken_there (suc place) (x ∷ xs) d inside = taken_there place xs d (omega (arith, inside))

-- the element at a place, alone
pub one_taken : {X : Type 0} (place : ℕ) (xs behind one : List X) (d : X) → place < length xs → behind ≡ drop place xs → one ≡ take 1 behind → one ≡ get_or xs place d ∷ []
one_taken place xs behind one d inside behind_is one_is = one_is ∙ ap (λ ys. take 1 ys) behind_is ∙ taken_there place xs d inside

found_there : {X : Type 0} (test : X → Bool) (place : ℕ) (xs : List X) (d : X) → place < length xs → ((k : ℕ) (e : X) → k < place → test (get_or xs k e) ≡ false) → test (get_or xs place d) ≡ true
    → find test xs ≡ Some (get_or xs place d)
found_there test zero [] d inside refused does = absurd (omega (arith, inside))
found_there test zero (x ∷ xs) d inside refused does = cond-true (test x) (Some x) (find test xs) does
found_there test (suc place) [] d inside refused does = absurd (omega (arith, inside))
found_there test (suc place) (x ∷ xs) d inside refused does =
    cond-false (test x) (Some x) (find test xs) (refused 0 x (omega arith))
    ∙ found_there test place xs d (omega (arith, inside)) (λ k e less. refused (suc k) e (omega (arith, less))) does

-- a list that isn't empty
pub some_there : {X : Type 0} (xs : List X) (none : Bool) → none ≡ (length xs == 0) → none ≡ false → 0 < length xs
some_there [] none is e = absurd (true≢false (sym is ∙ e))
some_there (x ∷ xs) none is e = omega arith

-- what is granted by whether a slot is taken

granted_if : (takes : Bool) (at : InstanceId) → option_map one_slot (cond takes (Some at) None) ≡ cond takes (Some (one_slot at)) None
granted_if true at = refl
granted_if false at = refl

pub does_take : (takes : Bool) (grants given : List Grant) → Some given ≡ cond takes (Some grants) None → (takes ≡ true) × (given ≡ grants)
does_take true grants given is = (refl, cc)
does_take false grants given is = absurd cc

pub takes_nothing : (takes : Bool) (grants : List Grant) → None ≡ cond takes (Some grants) None → takes ≡ false
takes_nothing true grants is = absurd cc
takes_nothing false grants is = refl

module _ (c : Cluster) (groups : Groups) (now : ℕ) (booked : List Booking) (job : Job) (single : job.request.pe ≡ None) where
  -- one instance alone
  pub placed_alone : (one : List InstanceId) (at : InstanceId) → one ≡ at ∷ [] → placement_of c groups one booked job now ≡ cond (takes_one c groups job booked now at) (Some (one_slot at)) None
  placed_alone one at is =
      ap (λ ats. placement_of c groups ats booked job now) is ∙ first_admissible c groups job booked now (at ∷ []) single ∙ granted_if (takes_one c groups job booked now at) at

  -- the first of all that takes a slot
  pub placed_first : (order : List InstanceId) (place : ℕ) (at : InstanceId) (given : List Grant) → place < length order → at ≡ slice_index_or order place at
      → ((k : ℕ) (d : InstanceId) → k < place → takes_one c groups job booked now (slice_index_or order k d) ≡ false)
      → Some given ≡ cond (takes_one c groups job booked now at) (Some (one_slot at)) None → Some given ≡ placement_of c groups order booked job now
  placed_first order place at given inside at_is none is =
      let does = does_take (takes_one c groups job booked now at) (one_slot at) given is in
      let there : takes_one c groups job booked now (slice_index_or order place at) ≡ true = sym (ap (λ x. takes_one c groups job booked now x) at_is) ∙ does.0 in
      ap (λ gs. Some gs) does.1
      ∙ ap (λ x. Some (one_slot x)) at_is
      ∙ sym (first_admissible c groups job booked now order single ∙ ap (λ found. option_map one_slot found) (found_there (takes_one c groups job booked now) place order at inside none there))

  -- what the first of those that aren't passed by gives
  pub given_first : (order : List InstanceId) (place : ℕ) (at : InstanceId) (grants : Option (List Grant)) → place < length order → at ≡ slice_index_or order place at
      → ((k : ℕ) (d : InstanceId) → k < place → takes_one c groups job booked now (slice_index_or order k d) ≡ false)
      → grants ≡ cond (takes_one c groups job booked now at) (Some (one_slot at)) None → IfSome grants (λ given. Some given ≡ placement_of c groups order booked job now)
  given_first order place at None inside at_is none is = tt
  given_first order place at (Some given) inside at_is none is = placed_first order place at given inside at_is none is
