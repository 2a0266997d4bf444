use Rattle.std.proofs.Common.{◌≡◌, ◌+◌, ◌≤◌, ℕ, length}
use Rattle.ge_model_journal.specs.Area.{records_from}
use Rattle.ge_spool.specs.Reads.{and_records}
use Rattle.ge_spool.proofs.surveying.read_records.Given as goal

abbrev pub invariant-loop-gate : goal.invariant-loop-gate
invariant-loop-gate l =
    ((fuel : ℕ) × (length l.rest ≤ fuel)
    × (and_records l.records (records_from fuel l.place l.rest) ≡ records_from (length l.fn.bytes) l.fn.start l.fn.bytes))
    × (l.place + length l.rest ≡ l.fn.start + length l.fn.bytes)
    × (l.fn.start + length l.records ≤ l.place)

abbrev pub decreases-loop-gate : goal.decreases-loop-gate
decreases-loop-gate l = length l.rest
