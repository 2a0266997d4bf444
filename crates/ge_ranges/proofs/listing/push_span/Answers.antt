use Rattle.std.proofs.Common.{◌≡◌, ◌+◌, ◌-◌, ◌*◌, ◌++◌, ℕ, List, [], ◌∷◌, min, sym, ap, ◌∙◌, arith, append-nil}
use Rattle.ge_model_rows.specs.Spans.{steps_of, stepping}
use Rattle.ge_ranges.proofs.Listed.{next_number, steps_taken}
use Rattle.ge_ranges.proofs.listing.push_span.Goals as goal

pub loop-place-preserved : goal.loop-place-preserved
loop-place-preserved c =
    let s = c.args.span.now in
    let left : List ℕ = stepping (c.min-count.result - (c.loop-place.place + 1)) (s.first + (c.loop-place.place + 1) * s.step) s.step in
    ap (λ (xs : List ℕ). xs ++ left) c.in_ok-push.ensures.ok
    ∙ ap (λ n. (c.loop-place.numbers ++ n ∷ []) ++ left) c.number_at.ensures
    ∙ next_number c.loop-place.numbers c.min-count.result c.loop-place.place s.first s.step c.loop-place-test.true
    ∙ c.loop-place.invariant

pub returns : goal.returns
returns c =
    let s = c.args.span.now in
    let none : c.min-count.result - c.loop-place.place ≡ 0 = let t = c.loop-place-test.false in omega arith in
    let count : c.min-count.result ≡ min c.args.room (steps_of s + 1) = c.min-count.ensures ∙ ap (λ n. min c.args.room (n + 1)) (c.from.ensures ∙ c.steps.ensures) in
    sym (ap (λ n. c.loop-place.numbers ++ stepping n (s.first + c.loop-place.place * s.step) s.step) none ∙ append-nil c.loop-place.numbers)
    ∙ c.loop-place.invariant
    ∙ ap (λ (xs : List ℕ). c.args.numbers.now ++ xs) (ap (λ n. stepping n s.first s.step) count ∙ sym (steps_taken c.args.room (steps_of s + 1) s.first s.step))
