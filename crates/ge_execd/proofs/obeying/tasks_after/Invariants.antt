use Rattle.std.proofs.Common.{◌≡◌, fold, drop}
use Rattle.ge_execd.specs.Daemons.{obeyed}
use Rattle.ge_execd.proofs.obeying.tasks_after.Given as goal

-- the orders that are left lead to the same
abbrev pub invariant-loop-line : goal.invariant-loop-line
invariant-loop-line l = fold (obeyed l.seen) l.after (drop l.line-index l.lines) ≡ fold (obeyed l.seen) l.tasks l.lines
