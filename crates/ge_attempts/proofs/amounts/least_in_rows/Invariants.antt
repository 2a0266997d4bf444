use Rattle.std.proofs.Common.{◌≡◌, fold}
use Rattle.ge_attempts.specs.Amounts.{lesser_asked}
use Rattle.ge_attempts.proofs.amounts.least_in_rows.Given as goal

abbrev pub invariant-loop-number : goal.invariant-loop-number
invariant-loop-number l =
    fold (lesser_asked l.complex l.name l.jobs) l.least l.number-iterator ≡ fold (lesser_asked l.complex l.name l.jobs) l.first l.rows.entries
