-- What is asked of limits, by sums that are kept.
use Rattle.std.proofs.Common.{◌≡◌, ℕ, ◌+◌, ◌<◌, inl, inr, Bool, true, ◌&&◌, cond, min, List, [], ◌∷◌, ◌++◌, length, get_or, sum_by, Some, refl, sym, subst, ap, ◌∙◌, arith}
use Rattle.std.specs.List.{list_all}
use Rattle.std.specs.Map.{lookup}
use Rattle.std.specs.BTreeMap.{is_at}
use Rattle.std.specs.Prelude.{nat_le, unwrap_or}
use Rattle.std.specs.Rc.{rc_with_value}
use Rattle.std.specs.declared.rc.Rc.{Rc}
use Rattle.std.proofs.lemmas.Bool.{cond-true, cond-false, cases_Bool, false≢true}
use Rattle.std.proofs.lemmas.List.{map-append}
use Rattle.std.proofs.lemmas.List.Folds.{list_all-map}
use Rattle.std.proofs.lemmas.List.Sums.{sum_by-cons, sum_by-append}
use Rattle.ge_rows.specs.contracts.scheduling.LimitIdOrd.TheImpl.{cmp-value}
use Rattle.ge_timeline.proofs.Numbering.{same_at}
use Rattle.ge_model_rows.specs.HostRows.{InstanceId}
use Rattle.ge_model_rows.specs.ScheduleRows.{LimitId}
use Rattle.ge_model_place.specs.Bookings.{same_limit}
use Rattle.ge_model_place.specs.Limits.{greatest_demand}
use Rattle.ge_model_place.specs.Placement.{Room, Cell, slot_asks, asked_so_far, fits_one_more, takes_one_more}
use Rattle.ge_model_place.proofs.Same.{limits_equal}
use Rattle.ge_place.specs.declared.spots.Bound.{Bound}
use Rattle.ge_place.specs.declared.spots.Sight.{Sight}
use Rattle.ge_place.specs.declared.spots.Sight.TheVariants.{Closed, Open}
use Rattle.ge_place.specs.Shared.{shown}
use Rattle.ge_place.specs.Spots.{room_as, rooms_as, cell_with, cells_with, one_more_at, no_slots_at, IsSeen}
use Rattle.ge_place.specs.Sums.{sum_in, sum_of_both, AreTold, has_room_for, takes_by, takes_seen, rooms_seen, AsksMore}
use Rattle.ge_place.proofs.Cells.{asked_more, none_asked}

-- sums whose limits are shared

pub shown_at : {A : Type 0} (limit : LimitId) (rows : List (Rc LimitId A × ℕ)) → lookup (λ key. is_at (cmp-value.it limit) key.value) rows ≡ lookup (same_limit limit) (shown rows)
shown_at limit [] = refl
shown_at limit (row ∷ rows) =
    ap (λ b. cond b (Some row.1) (lookup (λ key. is_at (cmp-value.it limit) key.value) rows)) (same_at limit row.0.value)
    ∙ ap (λ o. cond (same_limit limit row.0.value) (Some row.1) o) (shown_at limit rows)

pub sum_put : {A : Type 0} (limit : Rc LimitId A) (sum : ℕ) (old new : List (Rc LimitId A × ℕ))
    → ((q : Rc LimitId A) → lookup (λ key. is_at (cmp-value.it q.value) key.value) new ≡ cond (is_at (cmp-value.it limit.value) q.value) (Some sum) (lookup (λ key. is_at (cmp-value.it q.value) key.value) old))
    → (other : LimitId) → sum_in (shown new) other ≡ cond (same_limit limit.value other) sum (sum_in (shown old) other)
sum_put limit sum old new changes other =
    let is : lookup (same_limit other) (shown new) ≡ cond (same_limit limit.value other) (Some sum) (lookup (same_limit other) (shown old)) =
    sym (shown_at other new) ∙ changes (rc_with_value limit other) ∙ ap (λ b. cond b (Some sum) (lookup (λ key. is_at (cmp-value.it other) key.value) old)) (same_at limit.value other) ∙ ap (λ o. cond (same_limit limit.value other) (Some sum) o) (shown_at other old) in
    elim (cases_Bool (same_limit limit.value other)) [
      | inl same ↦ ap (λ o. unwrap_or o 0) (is ∙ cond-true _ _ _ same) ∙ sym (cond-true _ _ _ same)
      | inr apart ↦ ap (λ o. unwrap_or o 0) (is ∙ cond-false _ _ _ apart) ∙ sym (cond-false _ _ _ apart)
    ]

-- a limit that is asked more, by the copy of it that is kept where it has no sum yet
pub sum_grown : {A : Type 0} (limit copy : Rc LimitId A) (amount had sum : ℕ) (old new : List (Rc LimitId A × ℕ)) (sums : List (LimitId × ℕ))
    → copy.value ≡ limit.value → shown old ≡ sums → had ≡ unwrap_or (lookup (λ key. is_at (cmp-value.it copy.value) key.value) old) 0 → sum ≡ min (had + amount) greatest_demand
    → ((q : Rc LimitId A) → lookup (λ key. is_at (cmp-value.it q.value) key.value) new ≡ cond (is_at (cmp-value.it copy.value) q.value) (Some sum) (lookup (λ key. is_at (cmp-value.it q.value) key.value) old))
    → (other : LimitId) → sum_in (shown new) other ≡ cond (same_limit limit.value other) (min (sum_in sums limit.value + amount) greatest_demand) (sum_in sums other)
sum_grown limit copy amount had sum old new sums same view before is changes other =
    let known : had ≡ sum_in sums limit.value = before ∙ ap (λ o. unwrap_or o 0) (shown_at copy.value old) ∙ ap (λ l. sum_in (shown old) l) same ∙ ap (λ ss. sum_in ss limit.value) view in
    let total : sum ≡ min (sum_in sums limit.value + amount) greatest_demand = is ∙ ap (λ n. min (n + amount) greatest_demand) known in
    sum_put copy sum old new changes other
    ∙ ap (λ l. cond (same_limit l other) sum (sum_in (shown old) other)) same
    ∙ ap (λ ss. cond (same_limit limit.value other) sum (sum_in ss other)) view
    ∙ ap (λ n. cond (same_limit limit.value other) n (sum_in sums other)) total

-- what one more limit of an instance is asked
pub asks_next : (bounds : List Bound) (bound : Bound) (old middle new : List (LimitId × ℕ)) → AsksMore (rooms_as bounds) old middle
    → ((limit : LimitId) → sum_in new limit ≡ cond (same_limit bound.limit.value limit) (min (sum_in middle bound.limit.value + bound.amount) greatest_demand) (sum_in middle limit))
    → AsksMore (rooms_as (bounds ++ bound ∷ [])) old new
asks_next bounds bound old middle new asks put limit =
    let parts = ap (λ rooms. sum_by (slot_asks limit) rooms) (map-append room_as bounds (bound ∷ [])) in
    let both = sum_by-append (slot_asks limit) (rooms_as bounds) (room_as bound ∷ []) in
    let one = sum_by-cons (slot_asks limit) (room_as bound) [] in
    let so_far = asks limit in
    elim (cases_Bool (same_limit bound.limit.value limit)) [
      | inl same ↦
          let amount : slot_asks limit (room_as bound) ≡ bound.amount = cond-true _ _ _ same in
          let here : sum_in new limit ≡ min (sum_in middle bound.limit.value + bound.amount) greatest_demand = put limit ∙ cond-true _ _ _ same in
          let known : sum_in middle bound.limit.value ≡ sum_in middle limit = ap (λ l. sum_in middle l) (limits_equal bound.limit.value limit same) in
          omega (arith, parts, both, one, so_far, amount, here, known)
      | inr apart ↦
          let amount : slot_asks limit (room_as bound) ≡ 0 = cond-false _ _ _ apart in
          let here : sum_in new limit ≡ sum_in middle limit = put limit ∙ cond-false _ _ _ apart in
          omega (arith, parts, both, one, so_far, amount, here)
    ]

-- the test of limits that were seen is that of their rooms
all_rooms : (before since : List (LimitId × ℕ)) (bounds : List Bound) → list_all (λ (bound : Bound). has_room_for before since (room_as bound)) bounds ≡ list_all (has_room_for before since) (rooms_as bounds)
all_rooms before since bounds = sym (list_all-map (has_room_for before since) room_as bounds)

-- what was seen of an instance decides whether it takes a slot

pub open_takes : (here : InstanceId → Bool) (before since : List (LimitId × ℕ)) (spot : Cell) (sight : Sight) → here spot.at ≡ true → IsSeen spot sight → takes_seen before since sight ≡ takes_by here before since spot
open_takes here before since spot Closed there seen = sym (ap (λ b. b && (spot.opened && list_all (has_room_for before since) spot.rooms)) there ∙ ap (λ b. b && list_all (has_room_for before since) spot.rooms) seen)
open_takes here before since spot (Open bounds) there seen =
    all_rooms before since bounds.items
    ∙ ap (λ rooms. list_all (has_room_for before since) rooms) seen.1
    ∙ sym (ap (λ b. b && (spot.opened && list_all (has_room_for before since) spot.rooms)) there ∙ ap (λ b. b && list_all (has_room_for before since) spot.rooms) seen.0)

pub open_asks : (before since more : List (LimitId × ℕ)) (spot : Cell) (sight : Sight) → IsSeen spot sight → takes_seen before since sight ≡ true → AsksMore (rooms_seen sight) since more → AsksMore spot.rooms since more
open_asks before since more spot Closed seen takes asks = absurd (false≢true takes)
open_asks before since more spot (Open bounds) seen takes asks = subst (λ rooms. AsksMore rooms since more) seen.1 asks

-- the test of an instance is that of its cell

module _ (before since : List (LimitId × ℕ)) (cells : List Cell) (told : AreTold before since cells) where
  fits_is : (room : Room) → has_room_for before since room ≡ fits_one_more cells room
  fits_is room =
      elim (cases_Bool room.counted.once) [
        | inl once ↦ rw once refl
        | inr each ↦
            let sums = told room.counted.limit in
            let asked : min (sum_of_both before since room.counted.limit + room.counted.amount) greatest_demand ≡ min (asked_so_far cells room.counted.limit + room.counted.amount) greatest_demand = omega (arith, sums) in
            rw each (ap (λ n. nat_le (room.booked + n) room.counted.capacity) asked)
      ]

  all_fit : (rooms : List Room) → list_all (fits_one_more cells) rooms ≡ list_all (has_room_for before since) rooms
  all_fit [] = refl
  all_fit (room ∷ rooms) =
      ap (λ b. b && list_all (fits_one_more cells) rooms) (sym (fits_is room))
      ∙ ap (λ b. has_room_for before since room && b) (all_fit rooms)

  pub takes_is : (here : InstanceId → Bool) (spot : Cell) (n : ℕ) → (here spot.at && takes_one_more cells (cell_with spot n)) ≡ takes_by here before since spot
  takes_is here spot n = ap (λ b. here spot.at && (spot.opened && b)) (all_fit spot.rooms)

-- the sums after one more slot are those of the cells

pub told_more : (before old new : List (LimitId × ℕ)) (spots : List Cell) (slots : List ℕ) (k : ℕ) (spot : Cell) → length slots ≡ length spots → k < length spots → spot ≡ get_or spots k spot
    → AsksMore spot.rooms old new → AreTold before old (cells_with spots slots) → AreTold before new (cells_with spots (one_more_at slots k))
told_more before old new spots slots k spot long less is asks told limit =
    let more = asked_more limit spots slots k spot long less is in
    let one = asks limit in
    let so_far = told limit in
    omega (arith, more, one, so_far)

pub told_none : (spots : List Cell) → AreTold [] [] (cells_with spots (no_slots_at spots))
told_none spots limit = let none = none_asked spots limit in omega (arith, none)

-- what was given before may stand in the first sum as well
pub told_first : (sums : List (LimitId × ℕ)) (cells : List Cell) → AreTold [] sums cells → AreTold sums [] cells
told_first sums cells told limit = let e = told limit in omega (arith, e)
