use Rattle.std.proofs.Common.{◌≡◌, length, slice_index_or, slice_set, sym, ap, ◌∙◌, arith}
use Rattle.std.proofs.lemmas.List.{length-set, set-set, get_or_read}
use Rattle.std.proofs.lemmas.Option.{slice_get-get_or}
use Rattle.ge_attempts.specs.Rests.{is_full, renewed_left}
use Rattle.ge_attempts.proofs.Remaining.{renewed, vacant_within}
use Rattle.ge_attempts.proofs.renewing.renew_vacant.Goals as goal

pub offset_bounds-items-place : goal.offset_bounds-items-place
offset_bounds-items-place c =
    let inside = vacant_within c.args.at.now.cluster.now c.args.at.now.groups.now c.args.at.now.moment c.args.booked.now c.args.at.now.order.now c.args.room.now c.requires.left c.items.result.now c.items.ensures c.args.index c.requires.within in
    let same = ap (λ lefts. length lefts) c.items-2.ensures in
    let fits = c.items-2.type_inv.1 in
    omega (arith, inside, same, fits)

pub bounds-items-place : goal.bounds-items-place
bounds-items-place c =
    let inside = vacant_within c.args.at.now.cluster.now c.args.at.now.groups.now c.args.at.now.moment c.args.booked.now c.args.at.now.order.now c.args.room.now c.requires.left c.items.result.now c.items.ensures c.args.index c.requires.within in
    let same = ap (λ lefts. length lefts) c.items-2.ensures in
    omega (arith, inside, same)

pub replace-before-requires : goal.replace-before-requires
replace-before-requires c = vacant_within c.args.at.now.cluster.now c.args.at.now.groups.now c.args.at.now.moment c.args.booked.now c.args.at.now.order.now c.args.room.now c.requires.left c.items.result.now c.items.ensures c.args.index c.requires.within

pub replace-none-requires : goal.replace-none-requires
replace-none-requires c =
    let inside = vacant_within c.args.at.now.cluster.now c.args.at.now.groups.now c.args.at.now.moment c.args.booked.now c.args.at.now.order.now c.args.room.now c.requires.left c.items.result.now c.items.ensures c.args.index c.requires.within in
    let same = ap (λ lefts. length lefts) c.replace-before.ensures.rest ∙ length-set c.args.room.now.lefts (slice_index_or c.items.result.now c.args.index 0) _ in
    omega (arith, inside, same)

pub returns : goal.returns
returns c =
    let C = c.args.at.now.cluster.now in
    let now = c.args.at.now.moment in
    let lefts = c.args.room.now.lefts in
    let place = slice_index_or c.items.result.now c.args.index 0 in
    let left = c.renewed-left.result in
    let inside = vacant_within c.args.at.now.cluster.now c.args.at.now.groups.now c.args.at.now.moment c.args.booked.now c.args.at.now.order.now c.args.room.now c.requires.left c.items.result.now c.items.ensures c.args.index c.requires.within in
    let was : c.index-items-place.result ≡ slice_index_or lefts place left =
    get_or_read lefts place c.index-items-place.result inside (c.index-items-place.is ∙ ap (λ xs. slice_index_or xs place c.index-items-place.result) c.items-2.ensures) left in
    let taken : c.replace-before.result ≡ slice_index_or lefts place left =
    (let value = c.replace-before.ensures.value in let there = slice_get-get_or lefts place left inside in cc) in
    renewed C c.args.at.now.groups.now now c.args.booked.now c.args.at.now.order.now c.args.room.now c.replace-none.new.self c.leave_out_full.new.vacant c.args.kept place c.args.index left
    c.requires.left c.requires.within (ap (λ xs. slice_index_or xs c.args.index 0) c.items.ensures)
    (ap (λ l. is_full C now c.args.room.now.until l) (sym was) ∙ sym c.is_full.ensures ∙ c.if-is_full.false)
    (c.renewed-left.ensures ∙ ap (λ l. renewed_left now c.args.booked.now c.args.kept l) taken)
    (c.replace-none.ensures.rest ∙ ap (λ xs. slice_set xs place left) c.replace-before.ensures.rest ∙ set-set lefts place _ left)
    c.leave_out_full.ensures
