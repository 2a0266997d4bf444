use Rattle.std.proofs.Common.{◌≡◌, true, [], sym, subst, arith}
use Rattle.std.specs.Prelude.{IfSome}
use Rattle.ge_attempts.specs.Rests.{are_short_then, IsOut, FindsAt}
use Rattle.ge_attempts.proofs.Looked.{kept_host, kept_without, known_here, noted_here}
use Rattle.ge_attempts.proofs.thinning.note_place.Goals as goal

pub found_at-requires : goal.found_at-requires
found_at-requires c =
    let look = c.args.look.now in
    subst (λ rests. IfSome c.known_at-known.result (λ moment. are_short_then look.booked.now moment [] rests ≡ true)) (sym c.items-2.ensures)
    (known_here look.booked.now look.from look.asked.now c.args.at.now.moment look.until c.args.lefts.now c.args.place c.index-lefts-place.result c.requires.within c.index-lefts-place.is
    c.args.later.now c.requires.later c.known_at-known.result c.items.result.now c.items.ensures c.known_at-known.ensures)

pub returns-in-Enough-clause-kept : goal.returns-in-Enough-clause-kept
returns-in-Enough-clause-kept c =
    let look = c.args.look.now in
    kept_host look.booked.now look.from look.asked.now c.args.at.now.moment look.until c.args.lefts.now c.args.place c.index-lefts-place.result c.requires.within c.index-lefts-place.is
    c.args.kept.now c.keep_host.new.kept c.requires.kept c.keep_host.ensures

pub returns-in-TooLittle-clause-kept : goal.returns-in-TooLittle-clause-kept
returns-in-TooLittle-clause-kept c =
    let look = c.args.look.now in
    let left = c.index-lefts-place.result in
    let out : IsOut c.args.at.now.moment look.booked.now look.from look.until look.asked.now left.rests =
    subst (λ rests. IsOut c.args.at.now.moment look.booked.now look.from look.until look.asked.now rests) c.items-2.ensures
    (subst (λ found. FindsAt c.args.at.now.moment look.booked.now look.from look.until look.asked.now c.items-2.result.now found) c.in-TooLittle.is c.found_at.ensures) in
    kept_without look.booked.now look.from look.asked.now c.args.at.now.moment look.until c.args.lefts.now c.args.place left c.requires.within c.index-lefts-place.is c.args.kept.now c.requires.kept out

pub returns-in-Nothing-clause-kept : goal.returns-in-Nothing-clause-kept
returns-in-Nothing-clause-kept c =
    let look = c.args.look.now in
    let left = c.index-lefts-place.result in
    let finds = subst (λ found. FindsAt c.args.at.now.moment look.booked.now look.from look.until look.asked.now c.items-2.result.now found) c.in-Nothing.is c.found_at.ensures in
    kept_without look.booked.now look.from look.asked.now c.args.at.now.moment look.until c.args.lefts.now c.args.place left c.requires.within c.index-lefts-place.is c.args.kept.now c.requires.kept
    (subst (λ rests. IsOut c.args.at.now.moment look.booked.now look.from look.until look.asked.now rests) c.items-2.ensures finds.0)

pub replace-known-requires : goal.replace-known-requires
replace-known-requires c =
    let inside = c.requires.within in
    let long = c.requires.later.long in
    omega (arith, inside, long)

pub returns-in-Nothing-clause-later : goal.returns-in-Nothing-clause-later
returns-in-Nothing-clause-later c =
    let look = c.args.look.now in
    let left = c.index-lefts-place.result in
    let finds = subst (λ found. FindsAt c.args.at.now.moment look.booked.now look.from look.until look.asked.now c.items-2.result.now found) c.in-Nothing.is c.found_at.ensures in
    noted_here look.booked.now look.from look.asked.now c.args.at.now.moment look.until c.args.lefts.now c.args.place left c.requires.within c.index-lefts-place.is
    c.args.later.now c.requires.later c.replace-known.new.self c.replace-known.ensures.rest
    (subst (λ rests. are_short_then look.booked.now look.from [] rests ≡ true) c.items-2.ensures finds.1)
