use Rattle.std.proofs.Common.{◌≡◌, ◌+◌, List, length, get_or, set, refl, sym, subst, ap, ◌∙◌, arith}
use Rattle.std.proofs.lemmas.List.{set-get_or}
use Rattle.ge_model_place.specs.Placement.{Cell}
use Rattle.ge_place.specs.Spots.{cells_with, is_in}
use Rattle.ge_place.specs.Sums.{AreTold}
use Rattle.ge_place.proofs.Places.{next_place, place_is, place_past}
use Rattle.ge_place.proofs.Refusing.{AreRefused, refused_first}
use Rattle.ge_place.proofs.Spreads.{Fills, fills_none}
use Rattle.ge_place.proofs.Tries.{slot_taken, place_passed, none_left}
use Rattle.ge_place.proofs.filling.fill.Goals as goal

pub loop-given-init : goal.loop-given-init
loop-given-init c =
    (fills_none (is_in c.args.site) c.args.most c.args.spots.now.items c.args.slots.now c.requires.long, c.requires.told, refused_first (is_in c.args.site) c.args.before.now c.args.since.now c.args.spots.now.items, refl)

pub returns-in_default-clause-filled : goal.returns-in_default-clause-filled
returns-in_default-clause-filled c =
    let here = is_in c.args.site in
    let spots = c.args.spots.now.items in
    let l = c.loop-given in
    let past = place_past here spots c.as_slice.result.now l.index (c.as_slice.ensures.value ∙ l.invariant.3) (sym c.place_at.ensures ∙ c.in_default.is) in
    none_left here c.args.most l.given spots c.args.slots.now l.slots c.args.before.now l.since l.index l.invariant.0 l.invariant.1 l.invariant.2 past

pub index_mut-requires : goal.index_mut-requires
index_mut-requires c =
    let same = c.loop-given.invariant.3 in
    let at = place_is (is_in c.args.site) c.args.spots.now.items c.as_slice.result.now c.loop-given.index c.in-Some.place (c.as_slice.ensures.value ∙ same) c.in-Some.ensures in
    omega (arith, at.inside, ap (λ (xs : List Cell). length xs) same, c.loop-given.spots.ok.0)

pub give-requires : goal.give-requires
give-requires c =
    let at = place_is (is_in c.args.site) c.args.spots.now.items c.as_slice.result.now c.loop-given.index c.in-Some.place (c.as_slice.ensures.value ∙ c.loop-given.invariant.3) c.in-Some.ensures in
    omega (arith, at.inside, c.loop-given.invariant.0.long)

pub overflow_add-index : goal.overflow_add-index
overflow_add-index c =
    let same = c.loop-given.invariant.3 in
    let at = place_is (is_in c.args.site) c.args.spots.now.items c.as_slice.result.now c.loop-given.index c.in-Some.place (c.as_slice.ensures.value ∙ same) c.in-Some.ensures in
    omega (arith, at.counted, ap (λ (xs : List Cell). length xs) same, c.loop-given.spots.ok.0)

pub loop-given-smaller : goal.loop-given-smaller
loop-given-smaller c =
    let at = place_is (is_in c.args.site) c.args.spots.now.items c.as_slice.result.now c.loop-given.index c.in-Some.place (c.as_slice.ensures.value ∙ c.loop-given.invariant.3) c.in-Some.ensures in
    omega (arith, at.counted)

pub loop-given-preserved-then-taken : goal.loop-given-preserved-then-taken
loop-given-preserved-then-taken c =
    let here = is_in c.args.site in
    let spots = c.args.spots.now.items in
    let l = c.loop-given in
    let items = l.spots.items in
    let before = c.args.before.now in
    let place = c.in-Some.place in
    let spot = c.index_mut.result.now in
    let same : items ≡ spots = l.invariant.3 in
    let at = place_is here spots c.as_slice.result.now l.index place (c.as_slice.ensures.value ∙ same) c.in-Some.ensures in
    let is : spot ≡ get_or spots place spot = c.index_mut.ensures.value ∙ ap (λ xs. get_or xs place spot) same in
    let taken = slot_taken here c.args.most l.given spots c.args.slots.now l.slots before l.since l.index l.invariant.0 l.invariant.1 l.invariant.2 place at spot is c.takes.new.since (sym c.in_ok-taken.ensures.takes ∙ c.if-taken.true) (c.in_ok-taken.ensures.asks c.if-taken.true) c.loop-given-test.true in
    let kept : set items place c.takes.new.spot ≡ spots = ap (λ x. set items place x) (c.in_ok-taken.ensures.same ∙ c.index_mut.ensures.value) ∙ set-get_or items place spot ∙ same in
    subst (λ ss. Fills here c.args.most (l.given + 1) spots c.args.slots.now ss × AreTold before c.takes.new.since (cells_with spots ss) × AreRefused here before c.takes.new.since spots (next_place here spots l.index) × (set items place c.takes.new.spot ≡ spots))
    (sym c.in_ok-give.ensures) (taken.0, taken.1, taken.2, kept)

pub loop-given-preserved : goal.loop-given-preserved
loop-given-preserved c =
    let here = is_in c.args.site in
    let spots = c.args.spots.now.items in
    let l = c.loop-given in
    let items = l.spots.items in
    let before = c.args.before.now in
    let place = c.in-Some.place in
    let spot = c.index_mut.result.now in
    let same : items ≡ spots = l.invariant.3 in
    let at = place_is here spots c.as_slice.result.now l.index place (c.as_slice.ensures.value ∙ same) c.in-Some.ensures in
    let is : spot ≡ get_or spots place spot = c.index_mut.ensures.value ∙ ap (λ xs. get_or xs place spot) same in
    let refused = place_passed here c.args.most l.given spots c.args.slots.now l.slots before l.since l.index l.invariant.0 l.invariant.1 l.invariant.2 place at spot is (sym c.in_ok-taken.ensures.takes ∙ c.if-taken.false) in
    let kept : set items place c.takes.new.spot ≡ spots = ap (λ x. set items place x) (c.in_ok-taken.ensures.same ∙ c.index_mut.ensures.value) ∙ set-get_or items place spot ∙ same in
    subst (λ s. Fills here c.args.most l.given spots c.args.slots.now l.slots × AreTold before s (cells_with spots l.slots) × AreRefused here before s spots (next_place here spots (l.index + 1)) × (set items place c.takes.new.spot ≡ spots))
    (sym (c.in_ok-taken.ensures.none c.if-taken.false)) (l.invariant.0, l.invariant.1, refused, kept)
