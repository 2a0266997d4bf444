use Rattle.std.proofs.Common.{◌≡◌, ◌++◌, map}
use Rattle.ge_model_report.specs.Listing.{prio_line, prios_listing}
use Rattle.ge_listing.proofs.priorities.list_priorities.Given as goal

abbrev pub invariant-loop-prio : goal.invariant-loop-prio
invariant-loop-prio l = l.lines ++ map prio_line l.prio-iterator ≡ prios_listing l.prios
