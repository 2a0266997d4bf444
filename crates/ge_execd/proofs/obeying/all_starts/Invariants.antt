use Rattle.std.proofs.Common.{◌≡◌, ◌++◌, drop}
use Rattle.std.specs.List.{filter_map}
use Rattle.ge_execd.specs.Daemons.{started}
use Rattle.ge_execd.proofs.obeying.all_starts.Given as goal

-- those so far, and those of the orders that are left
abbrev pub invariant-loop-line : goal.invariant-loop-line
invariant-loop-line l = l.starts ++ filter_map (started l.seen) (drop l.line-index l.lines) ≡ filter_map (started l.seen) l.lines
