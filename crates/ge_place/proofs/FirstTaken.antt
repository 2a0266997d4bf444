-- The placement of a job without a PE is one slot at the first instance that takes it.
use Rattle.std.proofs.Common.{◌≡◌, ◌+◌, inl, inr, ◌&&◌, min, List, [], ◌∷◌, map, Option, Some, None, option_map, refl, sym, ap, ◌∙◌, arith}
use Rattle.std.specs.List.{list_all, filter_map, find}
use Rattle.std.specs.Prelude.{nat_le}
use Rattle.std.proofs.lemmas.Bool.{cond-true, cond-false, cases_Bool, leb-true, le-leb, false_from_ne_true}
use Rattle.std.proofs.lemmas.List.Sums.{sum_by-cons}
use Rattle.ge_model_rows.specs.ClusterRows.{Cluster}
use Rattle.ge_model_rows.specs.HostRows.{InstanceId}
use Rattle.ge_model_rows.specs.ScheduleRows.{LimitId}
use Rattle.ge_model_place.specs.Limits.{greatest_demand}
use Rattle.ge_model_place.specs.Placement.{Room, Cell, cell_asks, asked_so_far, fits_one_more, takes_one_more, with_slot, next_slot, slots_given, everywhere, grant_of, granted, placed_by}
use Rattle.ge_model_place.specs.Runs.{one_slot}
use Rattle.ge_model_place.proofs.Greatest.{gives_one}
use Rattle.ge_model_place.proofs.Taken.{with_one}
use Rattle.ge_place.specs.declared.searching.Search.{Search}
use Rattle.ge_place.specs.Spots.{is_free_at, rooms_at, cell_in}
use Rattle.ge_place.specs.Singles.{has_room_alone, takes_first}

alone_is : (cells : List Cell) → ((limit : LimitId) → asked_so_far cells limit ≡ 0) → (room : Room) → fits_one_more cells room ≡ has_room_alone room
alone_is cells none room =
    elim (cases_Bool room.counted.once) [
      | inl once ↦ rw once refl
      | inr each ↦
          let nothing = none room.counted.limit in
          let first : asked_so_far cells room.counted.limit + room.counted.amount ≡ room.counted.amount = omega (arith, nothing) in
          rw each (ap (λ n. nat_le (room.booked + min n greatest_demand) room.counted.capacity) first)
    ]

all_alone : (cells : List Cell) → ((limit : LimitId) → asked_so_far cells limit ≡ 0) → (rooms : List Room) → list_all (fits_one_more cells) rooms ≡ list_all has_room_alone rooms
all_alone cells none [] = refl
all_alone cells none (room ∷ rooms) = ap (λ b. b && list_all (fits_one_more cells) rooms) (alone_is cells none room) ∙ ap (λ b. has_room_alone room && b) (all_alone cells none rooms)

one_filled : (cells : List Cell) (found : Option (List Cell)) → slots_given cells ≡ 0 → next_slot everywhere cells ≡ found
    → granted 1 (elim found [ None ↦ cells | Some more ↦ more ]) ≡ option_map (λ more. filter_map grant_of more) found
one_filled cells None none e = cond-false _ _ _ (false_from_ne_true (nat_le 1 (slots_given cells)) (λ some. let least = leb-true 1 (slots_given cells) some in absurd (omega (arith, least, none))))
one_filled cells (Some more) none e = let one = gives_one everywhere cells more e in cond-true _ _ _ (le-leb 1 (slots_given more) (omega (arith, one)))

module _ (search : Search) where
  abbrev cells_of : List InstanceId → List Cell
  cells_of order = map (cell_in search) order

  none_granted : (order : List InstanceId) → filter_map grant_of (cells_of order) ≡ []
  none_granted [] = refl
  none_granted (at ∷ order) = none_granted order

  none_asked : (order : List InstanceId) (limit : LimitId) → asked_so_far (cells_of order) limit ≡ 0
  none_asked [] limit = refl
  none_asked (at ∷ order) limit = let rest = none_asked order limit in sum_by-cons (cell_asks limit) (cell_in search at) (cells_of order) ∙ omega (arith, rest)

  none_given : (order : List InstanceId) → slots_given (cells_of order) ≡ 0
  none_given [] = refl
  none_given (at ∷ order) = let rest = none_given order in sum_by-cons (λ (x : Cell). x.slots) (cell_in search at) (cells_of order) ∙ omega (arith, rest)

  passed : (at : InstanceId) (found : Option (List Cell)) → option_map (λ more. filter_map grant_of more) (option_map (λ more. cell_in search at ∷ more) found) ≡ option_map (λ more. filter_map grant_of more) found
  passed at None = refl
  passed at (Some more) = refl

  first_cell : (cells : List Cell) (order : List InstanceId) → ((limit : LimitId) → asked_so_far cells limit ≡ 0)
      → option_map (λ more. filter_map grant_of more) (with_slot everywhere cells (cells_of order)) ≡ option_map one_slot (find (takes_first search) order)
  first_cell cells [] none = refl
  first_cell cells (at ∷ order) none =
      let takes : takes_one_more cells (cell_in search at) ≡ takes_first search at = ap (λ b. is_free_at search at && b) (all_alone cells none (rooms_at search at)) in
      elim (cases_Bool (takes_first search at)) [
        | inl does ↦
            let given : with_slot everywhere cells (cells_of (at ∷ order)) ≡ Some (with_one (cell_in search at) ∷ cells_of order) = rw (takes ∙ does, with_slot) refl in
            ap (λ o. option_map (λ more. filter_map grant_of more) o) given
            ∙ ap (λ gs. Some (record { at = at; slots = 1 } ∷ gs)) (none_granted order)
            ∙ sym (ap (λ o. option_map one_slot o) (cond-true (takes_first search at) (Some at) (find (takes_first search) order) does))
        | inr fails ↦
            let later : with_slot everywhere cells (cells_of (at ∷ order)) ≡ option_map (λ more. cell_in search at ∷ more) (with_slot everywhere cells (cells_of order)) = rw (takes ∙ fails, with_slot) refl in
            ap (λ o. option_map (λ more. filter_map grant_of more) o) later
            ∙ passed at (with_slot everywhere cells (cells_of order))
            ∙ first_cell cells order none
            ∙ sym (ap (λ o. option_map one_slot o) (cond-false (takes_first search at) (Some at) (find (takes_first search) order) fails))
      ]

  pub single_is : (c : Cluster) (order : List InstanceId) → placed_by c (cells_of order) None ≡ option_map one_slot (find (takes_first search) order)
  single_is c order = one_filled (cells_of order) (next_slot everywhere (cells_of order)) (none_given order) refl ∙ first_cell (cells_of order) order (none_asked order)
