use Rattle.ge_model_core.specs.Altering.{alter_faults}
use Rattle.ge_submitting.proofs.Altered.{one_noted}
use Rattle.ge_submitting.proofs.altering.note_numbers.Goals as goal

pub loop-number-preserved : goal.loop-number-preserved
loop-number-preserved c =
    one_noted (alter_faults c.args.c.now c.args.e.now c.args.options.now.items) c.args.numbers.now c.loop-number.number-index c.loop-number.faults c.note_number.new.faults _ c.loop-number-test.true
    c.in_ok-note_number.ensures c.loop-number.invariant
