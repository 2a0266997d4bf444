use Rattle.std.proofs.Common.{sym, ◌∙◌}
use Rattle.std.proofs.lemmas.Bool.{not-true}
use Rattle.ge_scheduling.specs.Bases.{may_keep}
use Rattle.ge_scheduling.proofs.PartByPart.{others_waiting}
use Rattle.ge_scheduling.proofs.underway.others_wait.Goals as goal

pub returns-then-no_slot_is_left-clause-waits : goal.returns-then-no_slot_is_left-clause-waits
returns-then-no_slot_is_left-clause-waits c = λ none.
    let left = c.no_slot_is_left.ensures.none c.if-no_slot_is_left.true in
    others_waiting c.args.cluster.now c.args.run.now c.requires left.0 left.1
    (not-true (may_keep c.args.cluster.now c.args.run.now.so_far.tally.reserved) (sym c.none_is_kept.ensures ∙ none))
