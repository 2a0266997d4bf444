-- A task of a job without a PE takes the first instance of which one slot is admissible.
use Rattle.std.proofs.Common.{◌≡◌, ℕ, Bool, List, [], ◌∷◌, ◌++◌, Option, Some, None, option_map, inl, inr, refl, sym, ap, ◌∙◌, append_assoc, arith}
use Rattle.std.specs.List.{filter_map}
use Rattle.std.specs.Prelude.{find, nat_le}
use Rattle.std.proofs.lemmas.Bool.{cond-true, cond-false, cases_Bool, le-leb, false_from_ne_true, leb-true}
use Rattle.ge_model_rows.specs.ClusterRows.{Cluster}
use Rattle.ge_model_rows.specs.HostRows.{Groups, InstanceId}
use Rattle.ge_model_rows.specs.JobRows.{Job, PeRequest, Grant}
use Rattle.ge_model_rows.specs.ScheduleRows.{Booking}
use Rattle.ge_model_place.specs.Choosing.{no_slots, grants_in, one_slot_more, chosen_from, chosen}
use Rattle.ge_model_place.specs.Placement.{Cell, next_slot, filled, slots_given, everywhere, grant_of, granted, are_admissible, placed_by, placement_of, job_placement}
use Rattle.ge_model_place.specs.Runs.{one_slot}
use Rattle.ge_model_place.proofs.Chosen.{tally, grants_of_tally, chosen_is_one_more}
use Rattle.ge_model_place.proofs.Filled.{start_sound}
use Rattle.ge_model_place.proofs.Greatest.{gives_one, start, start_is, none_given}
use Rattle.ge_model_place.proofs.Sooner.{NoGrants, one_alone}

module _ (c : Cluster) (groups : Groups) (job : Job) (bookings : List Booking) (from : ℕ) where
  -- whether one slot of an instance is admissible
  abbrev pub takes_one : InstanceId → Bool
  takes_one at = are_admissible c groups job bookings from (one_slot at)

  first_chosen : (front : List Grant) (ats : List InstanceId) → NoGrants c groups job bookings front
      → option_map grants_in (chosen_from c groups job bookings from everywhere front (no_slots ats)) ≡ option_map one_slot (find takes_one ats)
  first_chosen front [] empty = refl
  first_chosen front (at ∷ ats) empty =
      let none : Grant = record { at = at; slots = 0 } in
      let one : grants_in (front ++ one_slot_more none ∷ no_slots ats) ≡ one_slot at = empty (one_slot_more none ∷ no_slots ats) ∙ ap (λ gs. one_slot_more none ∷ gs) (one_alone c groups job bookings ats) in
      let test : are_admissible c groups job bookings from (grants_in (front ++ one_slot_more none ∷ no_slots ats)) ≡ takes_one at = ap (λ gs. are_admissible c groups job bookings from gs) one in
      elim (cases_Bool (takes_one at)) [
        | inl is ↦
            let found : chosen_from c groups job bookings from everywhere front (no_slots (at ∷ ats)) ≡ Some (front ++ one_slot_more none ∷ no_slots ats) = rw (test ∙ is, chosen_from) refl in
            ap (λ o. option_map grants_in o) found ∙ ap (λ gs. Some gs) one ∙ sym (ap (λ o. option_map one_slot o) (cond-true _ _ _ is))
        | inr isnt ↦
            let later : chosen_from c groups job bookings from everywhere front (no_slots (at ∷ ats)) ≡ chosen_from c groups job bookings from everywhere (front ++ none ∷ []) (no_slots ats) = rw (test ∙ isnt, chosen_from) refl in
            ap (λ o. option_map grants_in o) later
            ∙ first_chosen (front ++ none ∷ []) ats (λ behind. ap grants_in (append_assoc front (none ∷ []) behind) ∙ empty (none ∷ behind))
            ∙ sym (ap (λ o. option_map one_slot o) (cond-false _ _ _ isnt))
      ]

  one_filled : (cells : List Cell) (found : Option (List Cell)) → slots_given cells ≡ 0 → next_slot everywhere cells ≡ found
      → granted 1 (elim found [ None ↦ cells | Some more ↦ more ]) ≡ option_map (λ more. filter_map grant_of more) found
  one_filled cells None none e = cond-false _ _ _ (false_from_ne_true (nat_le 1 (slots_given cells)) (λ some. let least = leb-true 1 (slots_given cells) some in absurd (omega (arith, least, none))))
  one_filled cells (Some more) none e = let one = gives_one everywhere cells more e in cond-true _ _ _ (le-leb 1 (slots_given more) (omega (arith, one)))

  grants_mapped : (found : Option (List Cell)) → option_map (λ more. filter_map grant_of more) found ≡ option_map grants_in (option_map tally found)
  grants_mapped None = refl
  grants_mapped (Some more) = ap (λ gs. Some gs) (sym (grants_of_tally more))

  -- one slot anywhere is one of the first instance that takes it
  one_anywhere : (order : List InstanceId) → granted 1 (filled everywhere 1 (start c groups job bookings from order)) ≡ option_map one_slot (find takes_one order)
  one_anywhere order =
      let cells = start c groups job bookings from order in
      one_filled cells (next_slot everywhere cells) (none_given c groups job bookings from order order) refl
      ∙ grants_mapped (next_slot everywhere cells)
      ∙ ap (λ o. option_map grants_in o) (sym (chosen_is_one_more c groups job bookings from everywhere cells (start_sound c groups job bookings from order)))
      ∙ ap (λ gs. option_map grants_in (chosen c groups job bookings from everywhere gs)) (start_is c groups job bookings from order order)
      ∙ first_chosen [] order (λ behind. refl)

  asked_none : (order : List InstanceId) (request : Option PeRequest) → request ≡ None → placed_by c (start c groups job bookings from order) request ≡ option_map one_slot (find takes_one order)
  asked_none order None none = one_anywhere order
  asked_none order (Some request) none = absurd cc

  pub first_admissible : (order : List InstanceId) → job.request.pe ≡ None → job_placement c groups order bookings from (Some job) ≡ option_map one_slot (find takes_one order)
  unfolding placement_of
  first_admissible order none = asked_none order job.request.pe none
