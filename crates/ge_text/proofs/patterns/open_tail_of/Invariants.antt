use Rattle.std.proofs.Common.{◌≡◌, length}
use Rattle.ge_text.proofs.TailLemmas.{tail_from}
use Rattle.ge_text.proofs.patterns.open_tail_of.Given as goal

-- counted on from here it is the count from the front
abbrev pub invariant-loop-first : goal.invariant-loop-first
invariant-loop-first l = tail_from l.open_tail l.rest ≡ tail_from (length l.fn.pattern) l.fn.pattern

abbrev pub decreases-loop-first : goal.decreases-loop-first
decreases-loop-first l = length l.rest
