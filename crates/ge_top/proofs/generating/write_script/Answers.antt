use Rattle.std.proofs.Common.{arith}
use Rattle.ge_top.proofs.Written.{written-none, written-more, written-all, written-cut, written-front}
use Rattle.ge_top.proofs.generating.write_script.Goals as goal

pub requests-init : goal.requests-init
requests-init g c = record { wrote = written-none _ _ _ c.new-generator.ensures; later = omega arith }

pub returns-in-Err-clause-front : goal.returns-in-Err-clause-front
returns-in-Err-clause-front g c = written-front _ _ _ _ c.requests.invariant.wrote

pub returns-in_err-write_all-clause-front : goal.returns-in_err-write_all-clause-front
returns-in_err-write_all-clause-front g c =
    written-cut _ _ (g.K.Sink.written c.write_all.new.sink) _ _ _ c.in-Ok-Some.request c.requests.invariant.wrote (rw c.in-Ok-Some.field-0-is at c.in-Ok-Some.ensures.next)
    (rw c.bytes.ensures at c.in_err-write_all.ensures.front)

pub requests-preserved : goal.requests-preserved
requests-preserved g c = record {
  wrote = written-more _ _ (g.K.Sink.written c.write_all.new.sink) _ _ _ c.in-Ok-Some.request c.requests.invariant.wrote (rw c.in-Ok-Some.field-0-is at c.in-Ok-Some.ensures.next)
      (rw c.bytes.ensures at c.in_ok-write_all.ensures.whole);
  later = omega (arith, c.write_all.ensures.cause.later, c.requests.invariant.later);
}

pub returns-in-Ok-None-clause-whole : goal.returns-in-Ok-None-clause-whole
returns-in-Ok-None-clause-whole g c = written-all _ _ _ _ _ c.requests.invariant.wrote (rw c.in-Ok-None.field-0-is at c.in-Ok-None.ensures.next)

pub returns-in-Ok-None-clause-front : goal.returns-in-Ok-None-clause-front
returns-in-Ok-None-clause-front g c = written-front _ _ _ _ c.requests.invariant.wrote
