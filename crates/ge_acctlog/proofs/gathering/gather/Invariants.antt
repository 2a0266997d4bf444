use Rattle.std.proofs.Common.{ℕ, length}
use Rattle.ge_acctlog.proofs.Gathered.{Gathering}
use Rattle.ge_acctlog.proofs.gathering.gather.Given as goal

-- some records are gathered
abbrev pub invariant-records : goal.invariant-records
invariant-records l = record {
  so_far : (k : ℕ) × Gathering l.each l.end l.lines l.rest l.records.items k;
}

abbrev pub decreases-records : goal.decreases-records
decreases-records l = length l.rest
