use Rattle.std.proofs.Common.{◌-◌, ◌∙◌, arith}
use Rattle.ge_ranges.proofs.Walked.{seconds_left, turned, first_ends, second_ends}
use Rattle.ge_ranges.proofs.merging.merge.Goals as goal

pub returns-in_default : goal.returns-in_default
returns-in_default c =
    let w = c.args.wanted in
    let l = c.loop-turns in
    let k = c.keep_all in
    c.in_ok-made.ensures
    ∙ first_ends w.alone w.shared w.others l.turns (omega arith) _ _ _ l.forming.done l.forming.run l.invariant.same
    c.in_default.ensures.none k.new.forming.done k.new.forming.run c.in_ok-keep_all.ensures

pub returns-in_default-front : goal.returns-in_default-front
returns-in_default-front c =
    let w = c.args.wanted in
    let l = c.loop-turns in
    let k = c.keep_all-in_default-front in
    c.in_ok-made-2.ensures
    ∙ second_ends w.alone w.shared w.others l.turns (omega arith) _ _ _ l.forming.done l.forming.run l.invariant.same
    c.in-Some.s c.in-Some.behind.now c.in-Some.ensures.some c.in_default-front.ensures.none k.new.forming.done k.new.forming.run c.in_ok-keep_all-2.ensures

pub turn-requires-clause-one : goal.turn-requires-clause-one
turn-requires-clause-one c =
    let l = c.loop-turns in
    (seconds_left l.left.0 l.spans.now c.in-Some.behind.now c.in-Some.s c.in-Some.ensures.some l.invariant.part l.invariant.spans).0

pub turn-requires-clause-other : goal.turn-requires-clause-other
turn-requires-clause-other c =
    let l = c.loop-turns in
    (seconds_left l.left.1 l.others.now c.in-Some-front.other_behind.now c.in-Some-front.t c.in-Some-front.ensures.some l.invariant.other_part l.invariant.others).0

pub loop-turns-preserved : goal.loop-turns-preserved
loop-turns-preserved c =
    let w = c.args.wanted in
    let l = c.loop-turns in
    let left = c.in_ok-left in
    let s = c.in-Some in
    let t = c.in-Some-front in
    record {
      same = turned w.alone w.shared w.others l.turns (omega arith) _ _ _ l.forming.done l.forming.run l.invariant.same
          s.s t.t s.behind.now t.other_behind.now s.ensures.some t.ensures.some c.turn.new.forming.done c.turn.new.forming.run _ _
          (left.ensures.merges (l.turns - 1) s.behind.now t.other_behind.now);
      part = left.ensures.one;
      spans = (seconds_left l.left.0 l.spans.now s.behind.now s.s s.ensures.some l.invariant.part l.invariant.spans).1;
      other_part = left.ensures.other;
      others = (seconds_left l.left.1 l.others.now t.other_behind.now t.t t.ensures.some l.invariant.other_part l.invariant.others).1;
    }
