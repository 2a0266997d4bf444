-- One try at the place of a site's instance: it takes a slot, or it is passed.
use Rattle.std.proofs.Common.{◌≡◌, ℕ, ◌+◌, ◌<◌, Bool, true, false, List, length, get_or, ap, ◌∙◌, arith}
use Rattle.std.proofs.lemmas.List.{length-set}
use Rattle.std.specs.Prelude.{slice_index}
use Rattle.ge_model_rows.specs.HostRows.{InstanceId}
use Rattle.ge_model_rows.specs.ScheduleRows.{LimitId}
use Rattle.ge_model_place.specs.Placement.{Cell, everywhere, filled}
use Rattle.ge_place.specs.Spots.{cells_with, one_more_at}
use Rattle.ge_place.specs.Sums.{AreTold, AsksMore, takes_by}
use Rattle.ge_place.proofs.Places.{next_place, IsPlace}
use Rattle.ge_place.proofs.Refusing.{AreRefused, one_of_these, refused_more, refused_next, first_at, none_at}
use Rattle.ge_place.proofs.Spreads.{Fills, fills_more, fills_stop}
use Rattle.ge_place.proofs.Summing.{told_more}

module _ (here : InstanceId → Bool) (most given : ℕ) (spots : List Cell) (old slots : List ℕ) (before since : List (LimitId × ℕ)) (index : ℕ) (fills : Fills here most given spots old slots) (told : AreTold before since (cells_with spots slots)) (refused : AreRefused here before since spots (next_place here spots index)) where
  module _ (place : ℕ) (at : IsPlace here spots index place) (spot : Cell) (is : spot ≡ get_or spots place spot) where
    by_all : takes_by here before since spot ≡ takes_by everywhere before since spot
    by_all = one_of_these here before since spot (ap (λ (x : Cell). here x.at) is ∙ at.on_site spot)

    pub slot_fills : takes_by everywhere before since spot ≡ true → given < most → Fills here most (given + 1) spots old (one_more_at slots place)
    slot_fills takes less =
        let first = first_at (takes_by here before since) spots place spot at.inside is (λ k d less. refused k d (omega (arith, at.next, less))) (by_all ∙ takes) in
        let long : length (one_more_at slots place) ≡ length spots = length-set slots place (slice_index slots place + 1) ∙ fills.long in
        fills_more here most given spots old slots before since told fills place first at.inside less long

    pub slot_told : (more : List (LimitId × ℕ)) → AsksMore spot.rooms since more → AreTold before more (cells_with spots (one_more_at slots place)) × AreRefused here before more spots (next_place here spots index)
    slot_told more asks = (told_more before since more spots slots place spot fills.long at.inside is asks told, refused_more before since more spot.rooms asks here spots (next_place here spots index) refused)

    pub slot_taken : (more : List (LimitId × ℕ)) → takes_by everywhere before since spot ≡ true → AsksMore spot.rooms since more → given < most
        → Fills here most (given + 1) spots old (one_more_at slots place) × AreTold before more (cells_with spots (one_more_at slots place)) × AreRefused here before more spots (next_place here spots index)
    slot_taken more takes asks less = let after = slot_told more asks in (slot_fills takes less, after.0, after.1)

    pub place_passed : takes_by everywhere before since spot ≡ false → AreRefused here before since spots (next_place here spots (index + 1))
    place_passed fails = refused_next here before since spots index place spot at.next at.inside is (by_all ∙ fails) (λ k d less. refused k d (omega (arith, at.next, less)))

  pub none_left : next_place here spots index ≡ length spots → cells_with spots slots ≡ filled here most (cells_with spots old)
  none_left past =
      let none = none_at (takes_by here before since) spots (λ k d less. refused k d (omega (arith, past, less))) in
      fills_stop here most given spots old slots before since told fills none
