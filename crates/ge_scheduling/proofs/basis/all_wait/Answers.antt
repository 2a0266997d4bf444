use Rattle.std.proofs.Common.{sym, ◌∙◌}
use Rattle.std.proofs.lemmas.Bool.{not-true}
use Rattle.ge_scheduling.specs.Bases.{may_keep}
use Rattle.ge_scheduling.proofs.Waiting.{all_waiting}
use Rattle.ge_scheduling.proofs.basis.all_wait.Goals as goal

pub returns-then-no_slot_is_left-clause-waits : goal.returns-then-no_slot_is_left-clause-waits
returns-then-no_slot_is_left-clause-waits c = λ none.
    let left = c.no_slot_is_left.ensures.none c.if-no_slot_is_left.true in
    all_waiting c.args.cluster.now c.args.basis.now c.requires left.0 left.1 (not-true (may_keep c.args.cluster.now 0) (sym c.none_is_kept.ensures ∙ none))
