use Rattle.std.proofs.Common.{rules}
use Rattle.ge_submitting.proofs.Altered.{cycle_noted}
use Rattle.ge_submitting.proofs.altering.note_cycle.Goals as goal

pub returns : goal.returns
returns c =
    cycle_noted c.args.c.now c.args.options.now.items c.args.patches.now c.in_ok-waits.waits c.sets_holds.result c.in_ok-closes.closes c.args.faults.now c.note.new.faults c.sets_holds.ensures
    (search rules) (search rules) c.in_ok-closes.ensures c.note.ensures
