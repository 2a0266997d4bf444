use Rattle.std.proofs.Common.{◌≡◌, ◌+◌, ◌<◌, None, List, length, get_or, set, refl, sym, subst, ap, ◌∙◌, arith}
use Rattle.std.proofs.lemmas.List.{set-get_or}
use Rattle.std.specs.List.{slice_get}
use Rattle.ge_model_place.specs.Placement.{Cell, is_on, slots_given}
use Rattle.ge_place.specs.Spots.{cells_with, places_of, one_more_at}
use Rattle.ge_place.specs.Sums.{AreTold, AsksMore}
use Rattle.ge_place.proofs.Places.{next_place, place_is, place_past}
use Rattle.ge_place.proofs.Refusing.{AreRefused, refused_first}
use Rattle.ge_place.proofs.Spreads.{fills_none}
use Rattle.ge_place.proofs.Summing.{told_first}
use Rattle.ge_place.proofs.Tries.{slot_fills, slot_told, place_passed, none_left}
use Rattle.ge_place.proofs.giving.count_on.Goals as goal

pub loop-count-init : goal.loop-count-init
loop-count-init c =
    let here = is_on c.args.host.now.host.now in
    let spots = c.args.spots.now.items in
    let given = c.args.given.now in
    let told : AreTold given.sums c.new-since.result (cells_with spots given.slots) = subst (λ sums. AreTold given.sums sums (cells_with spots given.slots)) (sym c.new-since.ensures) (told_first given.sums (cells_with spots given.slots) c.requires.kept.told) in
    (given.slots, fills_none here c.args.most spots given.slots c.requires.kept.long, λ _. told, λ _. refused_first here given.sums c.new-since.result spots, refl)

pub returns-in_default-clause-counted : goal.returns-in_default-clause-counted
returns-in_default-clause-counted c =
    let here = is_on c.args.host.now.host.now in
    let spots = c.args.spots.now.items in
    let given = c.args.given.now in
    let l = c.loop-count in
    let more = c.loop-count-test.true in
    let found : slice_get (places_of here spots) l.index ≡ None = ap (λ places. slice_get places l.index) (sym c.requires.on) ∙ sym c.place_on.ensures ∙ c.in_default.is in
    let past = place_past here spots spots l.index refl found in
    let filled = none_left here c.args.most l.count spots given.slots l.invariant.0 given.sums l.since l.index l.invariant.1 (l.invariant.2 more) (l.invariant.3 more) past in
    sym (ap slots_given filled) ∙ l.invariant.1.counts ∙ ap (λ n. n + l.count) c.requires.kept.count

pub index_mut-requires : goal.index_mut-requires
index_mut-requires c =
    let here = is_on c.args.host.now.host.now in
    let spots = c.args.spots.now.items in
    let same = c.loop-count.invariant.4 in
    let at = place_is here spots spots c.loop-count.index c.in-Some.place refl (c.in-Some.ensures ∙ ap (λ places. slice_get places c.loop-count.index) c.requires.on) in
    omega (arith, at.inside, ap (λ (xs : List Cell). length xs) same, c.loop-count.spots.ok.0)

pub overflow_add-index : goal.overflow_add-index
overflow_add-index c =
    let here = is_on c.args.host.now.host.now in
    let spots = c.args.spots.now.items in
    let same = c.loop-count.invariant.4 in
    let at = place_is here spots spots c.loop-count.index c.in-Some.place refl (c.in-Some.ensures ∙ ap (λ places. slice_get places c.loop-count.index) c.requires.on) in
    omega (arith, at.counted, ap (λ (xs : List Cell). length xs) same, c.loop-count.spots.ok.0, c.loop-count.spots.small)

pub loop-count-smaller : goal.loop-count-smaller
loop-count-smaller c =
    let here = is_on c.args.host.now.host.now in
    let spots = c.args.spots.now.items in
    let at = place_is here spots spots c.loop-count.index c.in-Some.place refl (c.in-Some.ensures ∙ ap (λ places. slice_get places c.loop-count.index) c.requires.on) in
    omega (arith, at.counted)

pub loop-count-preserved-then-taken : goal.loop-count-preserved-then-taken
loop-count-preserved-then-taken c =
    let here = is_on c.args.host.now.host.now in
    let spots = c.args.spots.now.items in
    let given = c.args.given.now in
    let l = c.loop-count in
    let more = c.loop-count-test.true in
    let items = l.spots.items in
    let place = c.in-Some.place in
    let spot = c.index_mut.result.now in
    let same : items ≡ spots = l.invariant.4 in
    let at = place_is here spots spots l.index place refl (c.in-Some.ensures ∙ ap (λ places. slice_get places l.index) c.requires.on) in
    let is : spot ≡ get_or spots place spot = c.index_mut.ensures.value ∙ ap (λ xs. get_or xs place spot) same in
    let fills = slot_fills here c.args.most l.count spots given.slots l.invariant.0 given.sums l.since l.index l.invariant.1 (l.invariant.2 more) (l.invariant.3 more) place at spot is (sym c.in_ok-taken.ensures.takes ∙ c.if-taken.true) more in
    let after = λ (asks : AsksMore spot.rooms l.since c.takes_next.new.since). slot_told here c.args.most l.count spots given.slots l.invariant.0 given.sums l.since l.index l.invariant.1 (l.invariant.2 more) (l.invariant.3 more) place at spot is c.takes_next.new.since asks in
    let asked = λ (left : l.count + 1 < c.args.most). c.in_ok-taken.ensures.asks c.if-taken.true (omega (arith, left)) in
    let kept : set items place c.takes_next.new.spot ≡ spots = ap (λ x. set items place x) (c.in_ok-taken.ensures.same ∙ c.index_mut.ensures.value) ∙ set-get_or items place spot ∙ same in
    (one_more_at l.invariant.0 place, fills, λ left. (after (asked left)).0, λ left. (after (asked left)).1, kept)

pub loop-count-preserved : goal.loop-count-preserved
loop-count-preserved c =
    let here = is_on c.args.host.now.host.now in
    let spots = c.args.spots.now.items in
    let given = c.args.given.now in
    let l = c.loop-count in
    let more = c.loop-count-test.true in
    let items = l.spots.items in
    let place = c.in-Some.place in
    let spot = c.index_mut.result.now in
    let same : items ≡ spots = l.invariant.4 in
    let at = place_is here spots spots l.index place refl (c.in-Some.ensures ∙ ap (λ places. slice_get places l.index) c.requires.on) in
    let is : spot ≡ get_or spots place spot = c.index_mut.ensures.value ∙ ap (λ xs. get_or xs place spot) same in
    let refused = place_passed here c.args.most l.count spots given.slots l.invariant.0 given.sums l.since l.index l.invariant.1 (l.invariant.2 more) (l.invariant.3 more) place at spot is (sym c.in_ok-taken.ensures.takes ∙ c.if-taken.false) in
    let kept : set items place c.takes_next.new.spot ≡ spots = ap (λ x. set items place x) (c.in_ok-taken.ensures.same ∙ c.index_mut.ensures.value) ∙ set-get_or items place spot ∙ same in
    let none : l.since ≡ c.takes_next.new.since = sym (c.in_ok-taken.ensures.none c.if-taken.false) in
    (l.invariant.0, l.invariant.1, λ _. subst (λ s. AreTold given.sums s (cells_with spots l.invariant.0)) none (l.invariant.2 more), λ _. subst (λ s. AreRefused here given.sums s spots (next_place here spots (l.index + 1))) none refused, kept)
