use Rattle.std.proofs.Common.{◌≡◌, ◌+◌, ◌∙◌, sym, ap, subst, arith, length, take, drop}
use Rattle.std.proofs.lemmas.List.{drop-drop}
use Rattle.ge_model_log.specs.Lines.{lines_in, logged}
use Rattle.ge_acctlog.proofs.Walking.{HasCounted, counted-next, walked-end, walked-frame, walked-bad, walked-all, no-count}
use Rattle.ge_acctlog.proofs.counting.count_lines.Goals as goal

pub returns-then-ends_list-clause-counted : goal.returns-then-ends_list-clause-counted
returns-then-ends_list-clause-counted c =
    let parts = c.in-Some.ensures.cases in
    let here = subst (λ rest. HasCounted c.args.bytes.now rest c.loop-gate.place c.loop-gate.count) parts.0 c.loop-gate.invariant in (
      here.lines,
      walked-end lines_in c.in-Some.gate.now c.loop-gate.place c.in-Some.after.now here.lines (logged c.args.bytes.now) here.walked (sym c.ends_list.ensures ∙ c.if-ends_list.true),
      here.counted,
    )

pub returns-in_default-body_length-clause-counted : goal.returns-in_default-body_length-clause-counted
returns-in_default-body_length-clause-counted c =
    let parts = c.in-Some.ensures.cases in
    let here = subst (λ rest. HasCounted c.args.bytes.now rest c.loop-gate.place c.loop-gate.count) parts.0 c.loop-gate.invariant in
    walked-frame lines_in c.in-Some.gate.now c.loop-gate.place c.in-Some.after.now here.lines (logged c.args.bytes.now) here.walked
    (sym c.ends_list.ensures ∙ c.if-ends_list.false) c.in_default-body_length.ensures

pub returns-in_default-read-clause-counted : goal.returns-in_default-read-clause-counted
returns-in_default-read-clause-counted c =
    let parts = c.in-Some.ensures.cases in
    let here = subst (λ rest. HasCounted c.args.bytes.now rest c.loop-gate.place c.loop-gate.count) parts.0 c.loop-gate.invariant in
    let size = c.in-Some-body_length.size in
    let length_is = c.in-Some-body_length.ensures in
    walked-bad lines_in c.in-Some.gate.now c.loop-gate.place size c.in-Some.after.now c.split_at-in-Some.result.0.now here.lines (logged c.args.bytes.now) here.walked
    (sym c.ends_list.ensures ∙ c.if-ends_list.false) length_is.0 (sym length_is.1)
    (sym (c.split_at-in-Some.ensures.front ∙ ap (λ xs. take size xs) c.split_at.ensures.back))
    (no-count c.in_ok-read.read (lines_in c.split_at-in-Some.result.0.now) (length c.split_at-in-Some.result.0.now) c.in_default-read.not-Some c.in_ok-read.ensures)

pub loop-gate-preserved : goal.loop-gate-preserved
loop-gate-preserved c =
    let parts = c.in-Some.ensures.cases in
    let here = subst (λ rest. HasCounted c.args.bytes.now rest c.loop-gate.place c.loop-gate.count) parts.0 c.loop-gate.invariant in
    let size = c.in-Some-body_length.size in
    let length_is = c.in-Some-body_length.ensures in
    let body = c.split_at-in-Some.result.0.now in
    let others = c.split_at-in-Some.result.1.now in
    let sizes : length others + size + 4 ≡ length c.in-Some.after.now = omega (arith, c.split_at.ensures.back_len, c.split_at-in-Some.ensures.back_len) in
    let counted = rw c.in-Some-read.is at c.in_ok-read.ensures in
    counted-next c.args.bytes.now c.in-Some.gate.now c.loop-gate.place size c.loop-gate.count c.in-Some-read.more c.in-Some.after.now body others counted.0 here
    (sym c.ends_list.ensures ∙ c.if-ends_list.false) length_is.0 (sym length_is.1)
    (sym (c.split_at-in-Some.ensures.front ∙ ap (λ xs. take size xs) c.split_at.ensures.back))
    (sym (c.split_at-in-Some.ensures.back ∙ ap (λ xs. drop size xs) c.split_at.ensures.back ∙ drop-drop size 4 c.in-Some.after.now))
    sizes counted.1 counted.2 (omega (arith, counted.3, sizes))

pub returns-clause-counted : goal.returns-clause-counted
returns-clause-counted c =
    let all = c.loop-gate.invariant in
    (all.lines, walked-all lines_in c.loop-gate.rest.now c.loop-gate.place all.lines (logged c.args.bytes.now) all.walked c.in_default.ensures.cases, all.counted)
