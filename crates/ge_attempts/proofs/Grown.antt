-- A job without a PE that has no placement has none as bookings grow.
use Rattle.std.proofs.Common.{◌≡◌, ℕ, ◌+◌, ◌≤◌, inl, inr, true, false, List, [], ◌∷◌, ◌++◌, Option, Some, None, option_map, refl, sym, subst, ap, ◌∙◌, arith}
use Rattle.std.specs.List.{list_all}
use Rattle.std.proofs.lemmas.Bool.{cases_Bool, and_parts, and_from, true≢false, false_from_ne_true, leb-true, le-leb}
use Rattle.std.proofs.lemmas.List.Sums.{sum_by-append}
use Rattle.ge_model_rows.specs.ClusterRows.{Cluster}
use Rattle.ge_model_rows.specs.HostRows.{Groups, InstanceId}
use Rattle.ge_model_rows.specs.JobRows.{Job, PeRequest, Grant}
use Rattle.ge_model_rows.specs.PeRows.{FillUp}
use Rattle.ge_model_rows.specs.ScheduleRows.{LimitId, Demand, Booking}
use Rattle.ge_model_place.specs.Bookings.{taken_by, plain_sum}
use Rattle.ge_model_place.specs.Choosing.{no_slots, grants_in, one_slot_more, has_room_at, chosen_from, chosen, grants_by, PlacesRequest}
use Rattle.ge_model_place.specs.Limits.{capacity_of, demands_of}
use Rattle.ge_model_place.specs.Placement.{everywhere, are_admissible, placement_of}
use Rattle.ge_model_place.proofs.Moments.{admissible_is, is_admissible}
use Rattle.ge_model_place.proofs.Placed.{places_of}

pub sum_grows : (limit : LimitId) (moment : ℕ) (bookings more : List Booking) → plain_sum bookings limit moment ≤ plain_sum (bookings ++ more) limit moment
sum_grows limit moment bookings more =
    let whole = sum_by-append (taken_by limit moment) bookings more in omega (arith, whole)

module _ (c : Cluster) (groups : Groups) (job : Job) (bookings more : List Booking) (from : ℕ) where
  room_before : (moment : ℕ) (ds : List Demand) → list_all (has_room_at c groups job (bookings ++ more) from moment) ds ≡ true → list_all (has_room_at c groups job bookings from moment) ds ≡ true
  room_before moment [] all = refl
  room_before moment (d ∷ ds) all =
      let parts = and_parts (has_room_at c groups job (bookings ++ more) from moment d) (list_all (has_room_at c groups job (bookings ++ more) from moment) ds) all in
      let room = leb-true (plain_sum (bookings ++ more) d.limit moment + d.amount) (capacity_of c groups d.limit) parts.0 in
      let less = sum_grows d.limit moment bookings more in
      and_from (has_room_at c groups job bookings from moment d) (list_all (has_room_at c groups job bookings from moment) ds)
      (le-leb (plain_sum bookings d.limit moment + d.amount) (capacity_of c groups d.limit) (omega (arith, room, less))) (room_before moment ds parts.1)

  -- what is admissible beside more is so beside less
  admissible_before : (grants : List Grant) → are_admissible c groups job (bookings ++ more) from grants ≡ true → are_admissible c groups job bookings from grants ≡ true
  admissible_before grants e =
      let are = admissible_is c groups job (bookings ++ more) from grants e in
      is_admissible c groups job bookings from grants
      (record { in_time = are.in_time; opened = are.opened; room = λ moment since before. room_before moment (demands_of c groups job grants) (are.room moment since before) })

  none_chosen : (front slots : List Grant) → chosen_from c groups job bookings from everywhere front slots ≡ None → chosen_from c groups job (bookings ++ more) from everywhere front slots ≡ None
  none_chosen front [] e = refl
  none_chosen front (grant ∷ behind) e =
      let given = grants_in (front ++ one_slot_more grant ∷ behind) in
      elim (cases_Bool (are_admissible c groups job bookings from given)) [
        | inl is ↦
            let found : chosen_from c groups job bookings from everywhere front (grant ∷ behind) ≡ Some (front ++ one_slot_more grant ∷ behind) = rw (is, chosen_from) refl in
            let both : Some (front ++ one_slot_more grant ∷ behind) ≡ None = sym found ∙ e in
            absurd cc
        | inr isnt ↦
            let isnt_more : are_admissible c groups job (bookings ++ more) from given ≡ false =
            false_from_ne_true (are_admissible c groups job (bookings ++ more) from given) (λ is. true≢false (sym (admissible_before given is) ∙ isnt)) in
            let later : chosen_from c groups job bookings from everywhere front (grant ∷ behind) ≡ chosen_from c groups job bookings from everywhere (front ++ grant ∷ []) behind = rw (isnt, chosen_from) refl in
            let later_more : chosen_from c groups job (bookings ++ more) from everywhere front (grant ∷ behind) ≡ chosen_from c groups job (bookings ++ more) from everywhere (front ++ grant ∷ []) behind =
            rw (isnt_more, chosen_from) refl in
            later_more ∙ none_chosen (front ++ grant ∷ []) behind (sym later ∙ e)
      ]

one_time : (found : Option (List Grant)) → option_map grants_in (elim found [ None ↦ None | Some next ↦ Some next ]) ≡ None → found ≡ None
one_time None e = refl
one_time (Some next) e = absurd cc

module _ (c : Cluster) (groups : Groups) (order : List InstanceId) (job : Job) (from : ℕ) where
  none_by : (bookings more : List Booking) → grants_by c groups job bookings from order FillUp 1 ≡ None → grants_by c groups job (bookings ++ more) from order FillUp 1 ≡ None
  none_by bookings more e =
      ap (λ found. option_map grants_in (elim found [ None ↦ None | Some next ↦ Some next ]))
      (none_chosen c groups job bookings more from [] (no_slots order) (one_time (chosen c groups job bookings from everywhere (no_slots order)) e))

  without : (bookings : List Booking) (request : Option PeRequest) (grants : Option (List Grant)) → request ≡ None → grants ≡ None → PlacesRequest c groups order bookings from job request grants
      → grants_by c groups job bookings from order FillUp 1 ≡ None
  without bookings None None none empty places = places 1 (omega arith) (omega arith) (omega arith)
  without bookings None (Some grants) none empty places = absurd cc
  without bookings (Some request) grants none empty places = absurd cc

  nothing : (bookings : List Booking) (request : Option PeRequest) (grants : Option (List Grant)) → request ≡ None → PlacesRequest c groups order bookings from job request grants
      → grants_by c groups job bookings from order FillUp 1 ≡ None → grants ≡ None
  nothing bookings None None none places e = refl
  nothing bookings None (Some grants) none places e =
      let some = places.some in
      let within = places.within in
      let one : places.count ≡ 1 = omega (arith, some, within) in
      let are : grants_by c groups job bookings from order FillUp 1 ≡ Some grants = subst (λ n. grants_by c groups job bookings from order FillUp n ≡ Some grants) one places.are in
      let both : Some grants ≡ None = sym are ∙ e in
      absurd cc
  nothing bookings (Some request) grants none places e = absurd cc

  -- no placement beside less: none beside more
  pub never_placed : (bookings more : List Booking) → job.request.pe ≡ None → placement_of c groups order bookings job from ≡ None → placement_of c groups order (bookings ++ more) job from ≡ None
  never_placed bookings more none e =
      nothing (bookings ++ more) job.request.pe (placement_of c groups order (bookings ++ more) job from) none (places_of c groups order (bookings ++ more) from job)
      (none_by bookings more (without bookings job.request.pe (placement_of c groups order bookings job from) none e (places_of c groups order bookings from job)))
