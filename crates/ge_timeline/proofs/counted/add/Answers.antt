use Rattle.std.proofs.Common.{◌≡◌, [], ◌∷◌, length, drop, ◌∙◌, sym, ap, subst, arith}
use Rattle.std.proofs.lemmas.List.{take_at}
use Rattle.ge_timeline.specs.StepFunctions.{IsRising, level, level_with, with_raised, nothing, HasMoments}
use Rattle.ge_timeline.proofs.Levels.{raised_rises, raised_level, front_at, both_moments}
use Rattle.ge_timeline.proofs.counted.add.Goals as goal

pub raise_part-requires-clause-order : goal.raise_part-requires-clause-order
raise_part-requires-clause-order c =
    let first = c.in_ok-first.first in
    let here = c.in_ok-first.ensures.here nothing in
    let some = c.requires.some in
    let less = c.in_ok-end.ensures.before first nothing c.in_ok-first.ensures.within (omega (arith, here, some)) in
    omega (arith, less)

pub returns-clause-rising : goal.returns-clause-rising
returns-clause-rising c =
    let first = c.in_ok-first.first in
    let here = c.in_ok-first.ensures.here nothing in
    let some = c.requires.some in
    let less = c.in_ok-end.ensures.before first nothing c.in_ok-first.ensures.within (omega (arith, here, some)) in
    let items = c.point_at-2.new.points.items in
    let long : length c.raise_part.new.points ≡ c.point_at-2.new.points.len = omega arith in
    let whole = take_at c.raise_part.new.points (drop (length c.raise_part.new.points) items) c.point_at-2.new.points.len long in
    let final = whole ∙ c.raise_part.ensures ∙ ap (λ xs. with_raised c.args.amount first c.in_ok-end.end xs) c.as_mut_slice.ensures.value in
    subst IsRising (sym final) (raised_rises items c.args.amount first c.in_ok-end.end (omega (arith, less)) c.in_ok-end.ensures.rising)

pub returns-clause-level : goal.returns-clause-level
returns-clause-level c =
    let first = c.in_ok-first.first in
    let here = c.in_ok-first.ensures.here nothing in
    let some = c.requires.some in
    let less = c.in_ok-end.ensures.before first nothing c.in_ok-first.ensures.within (omega (arith, here, some)) in
    let items = c.point_at-2.new.points.items in
    let long : length c.raise_part.new.points ≡ c.point_at-2.new.points.len = omega arith in
    let whole = take_at c.raise_part.new.points (drop (length c.raise_part.new.points) items) c.point_at-2.new.points.len long in
    let final = whole ∙ c.raise_part.ensures ∙ ap (λ xs. with_raised c.args.amount first c.in_ok-end.end xs) c.as_mut_slice.ensures.value in
    let begins = ap (λ p. p.at) (front_at items c.point_at.new.points.items c.in_ok-end.end first nothing less c.in_ok-end.ensures.front) ∙ here in
    λ t.
    ap (λ xs. level xs t) final
    ∙ raised_level items c.args.amount first c.in_ok-end.end c.args.from c.args.until nothing c.in_ok-end.ensures.rising less c.in_ok-end.ensures.within begins (c.in_ok-end.ensures.here nothing) t
    ∙ ap (λ n. level_with c.args.from c.args.until c.args.amount t n) (c.in_ok-end.ensures.level t ∙ c.in_ok-first.ensures.level t)

pub returns-clause-moments : goal.returns-clause-moments
returns-clause-moments c =
    let first = c.in_ok-first.first in
    let here = c.in_ok-first.ensures.here nothing in
    let some = c.requires.some in
    let less = c.in_ok-end.ensures.before first nothing c.in_ok-first.ensures.within (omega (arith, here, some)) in
    let items = c.point_at-2.new.points.items in
    let long : length c.raise_part.new.points ≡ c.point_at-2.new.points.len = omega arith in
    let whole = take_at c.raise_part.new.points (drop (length c.raise_part.new.points) items) c.point_at-2.new.points.len long in
    let final = whole ∙ c.raise_part.ensures ∙ ap (λ xs. with_raised c.args.amount first c.in_ok-end.end xs) c.as_mut_slice.ensures.value in
    subst (λ xs. HasMoments c.args.points.now.items (c.args.from ∷ c.args.until ∷ []) xs) (sym final)
    (both_moments c.args.points.now.items c.point_at.new.points.items items c.args.from c.args.until c.args.amount first c.in_ok-end.end (omega (arith, less)) c.in_ok-first.ensures.moments c.in_ok-end.ensures.moments)
