use Rattle.std.proofs.Common.{◌≡◌, ◌∙◌, sym, ap, subst, [], ◌∷◌}
use Rattle.ge_timeline.specs.StepFunctions.{IsRising, level, nothing, HasMoments}
use Rattle.ge_timeline.proofs.Levels.{below_place, put_in_rises, put_in_same, put_in_moments}
use Rattle.ge_timeline.proofs.counted.point_at.Goals as goal

pub returns-clause-rising : goal.returns-clause-rising
returns-clause-rising c =
    let ps = c.args.points.now.items in
    let place = c.place_of-place.result in
    let same : c.as_slice.result.now ≡ ps = c.as_slice.ensures.value in
    let within = rw same at c.place_of-place.ensures.within in
    let by = rw same at c.place_of-place.ensures.by in
    let later = rw same at c.place_of-place.ensures.later in
    let apart = rw c.as_slice-2.ensures.value at (c.is_met.ensures.unmet c.if-is_met.false) in
    let below = below_place ps place c.args.moment nothing c.requires within by apart in
    subst IsRising (sym c.in_ok-insert.ensures.items) (put_in_rises ps place c.args.moment c.sum_before-sum.result c.requires below later)

pub returns-clause-level : goal.returns-clause-level
returns-clause-level c =
    let ps = c.args.points.now.items in
    let place = c.place_of-place.result in
    let same : c.as_slice.result.now ≡ ps = c.as_slice.ensures.value in
    let within = rw same at c.place_of-place.ensures.within in
    let by = rw same at c.place_of-place.ensures.by in
    let apart = rw c.as_slice-2.ensures.value at (c.is_met.ensures.unmet c.if-is_met.false) in
    let sum = rw c.as_slice-3.ensures.value at c.sum_before-sum.ensures in
    let below = below_place ps place c.args.moment nothing c.requires within by apart in
    λ t. ap (λ xs. level xs t) c.in_ok-insert.ensures.items ∙ put_in_same ps place c.args.moment c.sum_before-sum.result below sum t

pub returns-clause-moments : goal.returns-clause-moments
returns-clause-moments c =
    subst (λ xs. HasMoments c.args.points.now.items (c.args.moment ∷ []) xs) (sym c.in_ok-insert.ensures.items)
    (put_in_moments c.args.points.now.items c.place_of-place.result (record { at = c.args.moment; sum = c.sum_before-sum.result }))
