use Rattle.std.proofs.Common.{◌≡◌, take}
use Rattle.std.specs.Prelude.{flat_map}
use Rattle.ge_model_core.specs.Scheduling as scheduling
use Rattle.ge_dispatching.proofs.dispatching.decision_lines.Given as goal

abbrev pub invariant-loop-decision : goal.invariant-loop-decision
invariant-loop-decision l = l.lines ≡ flat_map scheduling.decision_lines (take l.decision-index l.decisions)
