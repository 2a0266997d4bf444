use Rattle.std.proofs.Common.{◌∷◌, [], ◌∙◌, length, length-append, refl, ap, inr, arith}
use Rattle.ge_script.specs.Pieces.{coming}
use Rattle.ge_script.specs.declared.input.ScriptFault.TheVariants.{Read, Long}
use Rattle.ge_top.proofs.Told.{handed-on}
use Rattle.ge_top.proofs.TakenEvents.{gives-none, gives-more, gives-last, no-more}
use Rattle.ge_top.proofs.batches.next_batch.Goals as goal

pub taking-init : goal.taking-init
taking-init g c = record {
  gives = rw c.new-events.ensures (gives-none _);
  few = omega (arith, ap length c.new-events.ensures);
  goes_on = omega (arith, ap length c.new-events.ensures);
  over = c.requires;
  total = refl;
  later = omega arith;
}

pub returns-in-Ok-None-clause-gives : goal.returns-in-Ok-None-clause-gives
returns-in-Ok-None-clause-gives g c = gives-last _ _ _ _ c.taking.invariant.gives (rw c.in-Ok-None.field-0-is at c.in-Ok-None.ensures.next)

pub returns-in-Ok-None-clause-all : goal.returns-in-Ok-None-clause-all
returns-in-Ok-None-clause-all g c =
    inr (record { none = no-more (coming c.taking.script (g.S.Source.rest c.taking.input)) (coming c.next.new.self (g.S.Source.rest c.next.new.s)) (rw c.in-Ok-None.field-0-is at c.in-Ok-None.ensures.next); ended = rw c.in-Ok-None.field-0-is at c.in-Ok-None.ensures.goes_on })

pub returns-in-Ok-None-clause-total : goal.returns-in-Ok-None-clause-total
returns-in-Ok-None-clause-total g c = c.in-Ok-None.ensures.total ∙ c.taking.invariant.total

pub returns-in-Err-clause-long_total : goal.returns-in-Err-clause-long_total
returns-in-Err-clause-long_total g c = λ is. c.in-Err.ensures.long_total (handed-on c.in-Err.fault Long is) ∙ c.taking.invariant.total

pub returns-in-Err-clause-fault : goal.returns-in-Err-clause-fault
returns-in-Err-clause-fault g c = λ is. omega (arith, c.in-Err.ensures.fault (handed-on c.in-Err.fault Read is), c.taking.invariant.later)

pub taking-preserved : goal.taking-preserved
taking-preserved g c =
    let next = rw c.in-Ok-Some.field-0-is at c.in-Ok-Some.ensures.next in
    let on = rw c.in-Ok-Some.field-0-is at c.in-Ok-Some.ensures.goes_on in
    let more = length-append c.taking.events (c.in-Ok-Some.event ∷ []) in
    record {
      gives = rw c.in_ok-push.ensures.ok (gives-more _ _ _ _ c.in-Ok-Some.event c.taking.invariant.gives next);
      few = omega (arith, ap length c.in_ok-push.ensures.ok, more, c.len.ensures, c.taking-test.true);
      goes_on = omega (arith, ap length c.in_ok-push.ensures.ok, more, on, c.taking.invariant.goes_on);
      over = c.in-Ok-Some.ensures.over;
      total = c.in-Ok-Some.ensures.total ∙ c.taking.invariant.total;
      later = omega (arith, c.next.ensures.later, c.taking.invariant.later);
    }
