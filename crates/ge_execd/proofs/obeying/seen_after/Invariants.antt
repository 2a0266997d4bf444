use Rattle.std.proofs.Common.{◌≡◌, fold, drop}
use Rattle.ge_execd.specs.Daemons.{seen_with}
use Rattle.ge_execd.proofs.obeying.seen_after.Given as goal

-- the orders that are left lead to the same
abbrev pub invariant-loop-line : goal.invariant-loop-line
invariant-loop-line l = fold seen_with l.most (drop l.line-index l.lines) ≡ fold seen_with l.seen l.lines
