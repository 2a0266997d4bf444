-- What is ready to be written.
use Rattle.std.specs.Prelude.{ℕ, List}
use Rattle.ge_model_journal.specs.Area.{number8}
use Rattle.ge_spool.specs.Pieces.{body_in, snapshot_in}
use Rattle.ge_spool.specs.declared.pieces.RecordBytes.{RecordBytes}
use Rattle.ge_spool.specs.declared.pieces.SnapshotBytes.{SnapshotBytes}

-- the body of a record
abbrev pub record_body : RecordBytes → List ℕ
record_body r = body_in r.piece.items

-- the snapshot that is ready
abbrev pub snapshot_of : SnapshotBytes → List ℕ
snapshot_of s = snapshot_in s.piece.items

-- the generation in the header before it
abbrev pub header_generation : SnapshotBytes → ℕ
header_generation s = number8 s.piece.items 1
