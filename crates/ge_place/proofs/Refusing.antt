-- An instance that takes no slot takes none beside more.
use Rattle.std.proofs.Common.{◌≡◌, ℕ, zero, suc, ◌+◌, ◌<◌, inl, inr, Bool, true, false, ◌&&◌, min, List, [], ◌∷◌, length, get_or, Some, None, option_map, refl, sym, subst, ap, ◌∙◌, arith}
use Rattle.std.specs.List.{list_all, position}
use Rattle.std.proofs.lemmas.Bool.{cases_Bool, cases_eq, cases_lt, and_parts, and_from, leb-true, le-leb, false_from_ne_true, true≢false}
use Rattle.std.proofs.lemmas.List.{get_or_default}
use Rattle.ge_model_rows.specs.HostRows.{InstanceId}
use Rattle.ge_model_rows.specs.ScheduleRows.{LimitId}
use Rattle.ge_model_place.specs.Limits.{greatest_demand}
use Rattle.ge_model_place.specs.Placement.{Room, Cell, everywhere}
use Rattle.ge_place.specs.Sums.{sum_of_both, asked_with, has_room_for, takes_by, AsksMore}
use Rattle.ge_place.proofs.Cells.{first_is, later_is}
use Rattle.ge_place.proofs.Places.{next_place, first_apart, next_apart}

-- the instances before a place take no slot
abbrev pub AreRefused : (InstanceId → Bool) → List (LimitId × ℕ) → List (LimitId × ℕ) → List Cell → ℕ → Type 0
AreRefused here before since spots place = (k : ℕ) (d : Cell) → k < place → takes_by here before since (get_or spots k d) ≡ false

module _ (before since more : List (LimitId × ℕ)) (asked : List Room) (asks : AsksMore asked since more) where
  room_less : (room : Room) → has_room_for before more room ≡ true → has_room_for before since room ≡ true
  room_less room e =
      elim (cases_Bool room.counted.once) [
        | inl once ↦
            let same : asked_with before more room.counted ≡ asked_with before since room.counted = rw once refl in
            let fits = leb-true (room.booked + min (asked_with before more room.counted) greatest_demand) room.counted.capacity e in
            le-leb (room.booked + min (asked_with before since room.counted) greatest_demand) room.counted.capacity (omega (arith, fits, same))
        | inr each ↦
            let first : asked_with before more room.counted ≡ sum_of_both before more room.counted.limit + room.counted.amount = rw each refl in
            let second : asked_with before since room.counted ≡ sum_of_both before since room.counted.limit + room.counted.amount = rw each refl in
            let fits = leb-true (room.booked + min (asked_with before more room.counted) greatest_demand) room.counted.capacity e in
            let sums = asks room.counted.limit in
            le-leb (room.booked + min (asked_with before since room.counted) greatest_demand) room.counted.capacity (omega (arith, fits, first, second, sums))
      ]

  all_less : (rooms : List Room) → list_all (has_room_for before more) rooms ≡ true → list_all (has_room_for before since) rooms ≡ true
  all_less [] e = refl
  all_less (room ∷ rooms) e =
      let parts = and_parts (has_room_for before more room) (list_all (has_room_for before more) rooms) e in
      and_from (has_room_for before since room) (list_all (has_room_for before since) rooms) (room_less room parts.0) (all_less rooms parts.1)

  still_refused : (here : InstanceId → Bool) (spot : Cell) → takes_by here before since spot ≡ false → takes_by here before more spot ≡ false
  still_refused here spot refused =
      false_from_ne_true (takes_by here before more spot) (λ does.
      let rest : Bool = list_all (has_room_for before more) spot.rooms in
      let parts = and_parts (here spot.at) (spot.opened && rest) does in
      let both = and_parts spot.opened rest parts.1 in
      let less = all_less spot.rooms both.1 in
      true≢false (sym (and_from (here spot.at) (spot.opened && list_all (has_room_for before since) spot.rooms) parts.0
      (and_from spot.opened (list_all (has_room_for before since) spot.rooms) both.0 less)) ∙ refused))

  pub refused_more : (here : InstanceId → Bool) (spots : List Cell) (place : ℕ) → AreRefused here before since spots place → AreRefused here before more spots place
  refused_more here spots place refused k d less = still_refused here (get_or spots k d) (refused k d less)

-- an instance that is one of these takes a slot where any takes it
pub one_of_these : (here : InstanceId → Bool) (before since : List (LimitId × ℕ)) (spot : Cell) → here spot.at ≡ true → takes_by here before since spot ≡ takes_by everywhere before since spot
one_of_these here before since spot this = ap (λ b. b && (spot.opened && list_all (has_room_for before since) spot.rooms)) this

-- an instance that is none of these takes no slot
none_of_these : (here : InstanceId → Bool) (before since : List (LimitId × ℕ)) (spot : Cell) → here spot.at ≡ false → takes_by here before since spot ≡ false
none_of_these here before since spot other = ap (λ b. b && (spot.opened && list_all (has_room_for before since) spot.rooms)) other

pub refused_first : (here : InstanceId → Bool) (before since : List (LimitId × ℕ)) (spots : List Cell) → AreRefused here before since spots (next_place here spots 0)
refused_first here before since spots k d less = none_of_these here before since (get_or spots k d) (first_apart here spots k d less)

-- from one place to the next
pub refused_next : (here : InstanceId → Bool) (before since : List (LimitId × ℕ)) (spots : List Cell) (index place : ℕ) (spot : Cell) → place ≡ next_place here spots index → place < length spots → spot ≡ get_or spots place spot
    → takes_by here before since spot ≡ false → AreRefused here before since spots place → AreRefused here before since spots (next_place here spots (index + 1))
refused_next here before since spots index place spot at inside is fails refused k d less =
    elim (cases_lt k place) [
      | inl earlier ↦ refused k d earlier
      | inr reached ↦
          elim (cases_eq k place) [
            | inl same ↦ subst (λ n. takes_by here before since (get_or spots n d) ≡ false) (sym same) (subst (λ (x : Cell). takes_by here before since x ≡ false) (is ∙ get_or_default spots place spot d inside) fails)
            | inr other ↦
                let next : index + 1 ≡ suc index = omega arith in
                let behind : k < next_place here spots (suc index) = subst (λ n. k < next_place here spots n) next less in
                none_of_these here before since (get_or spots k d) (next_apart here spots index k d (omega (arith, at, reached, other)) behind)
          ]
    ]

-- the first instance that takes a slot is the one at a place before which none does

pub first_at : (test : Cell → Bool) (spots : List Cell) (place : ℕ) (spot : Cell) → place < length spots → spot ≡ get_or spots place spot → ((k : ℕ) (d : Cell) → k < place → test (get_or spots k d) ≡ false) → test spot ≡ true
    → position test spots ≡ Some place
first_at test [] place spot inside is refused does = absurd (omega (arith, inside))
first_at test (x ∷ spots) zero spot inside is refused does = first_is test x spots (subst (λ (y : Cell). test y ≡ true) is does)
first_at test (x ∷ spots) (suc place) spot inside is refused does =
    later_is test x spots (refused 0 x (omega arith))
    ∙ ap (λ o. option_map (λ k. suc k) o) (first_at test spots place spot (omega (arith, inside)) is (λ k d less. refused (suc k) d (omega (arith, less))) does)

pub none_at : (test : Cell → Bool) (spots : List Cell) → ((k : ℕ) (d : Cell) → k < length spots → test (get_or spots k d) ≡ false) → position test spots ≡ None
none_at test [] refused = refl
none_at test (x ∷ spots) refused = later_is test x spots (refused 0 x (omega arith)) ∙ ap (λ o. option_map (λ k. suc k) o) (none_at test spots (λ k d less. refused (suc k) d (omega (arith, less))))
