use Rattle.std.proofs.Common.{◌≡◌, ◌++◌, []}
use Rattle.std.specs.Map.{values_of}
use Rattle.std.specs.Prelude.{fold}
use Rattle.ge_listing.specs.Gathered.{with_orders}
use Rattle.ge_listing.proofs.hosts.gathered_lines.Given as goal

abbrev pub invariant-loop-text : goal.invariant-loop-text
invariant-loop-text l = l.lines ++ l.text-iterator ≡ values_of (fold (with_orders l.host) [] l.jobs)
