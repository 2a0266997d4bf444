use Rattle.std.proofs.Common.{◌≡◌, ◌++◌, drop}
use Rattle.std.specs.List.{filter_map}
use Rattle.ge_execd.specs.Daemons.{killed}
use Rattle.ge_execd.proofs.obeying.all_kills.Given as goal

-- those so far, and those of the orders that are left
abbrev pub invariant-loop-line : goal.invariant-loop-line
invariant-loop-line l = l.kills ++ filter_map (killed l.seen l.tasks) (drop l.line-index l.lines) ≡ filter_map (killed l.seen l.tasks) l.lines
