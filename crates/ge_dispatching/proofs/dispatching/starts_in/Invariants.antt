use Rattle.std.proofs.Common.{◌≡◌, ◌++◌, drop}
use Rattle.std.specs.Prelude.{filter_map}
use Rattle.ge_rows.specs.Parts.{start_of}
use Rattle.ge_dispatching.proofs.dispatching.starts_in.Given as goal

abbrev pub invariant-loop-decision : goal.invariant-loop-decision
invariant-loop-decision l = l.starts ++ filter_map start_of (drop l.decision-index l.decisions) ≡ filter_map start_of l.decisions
