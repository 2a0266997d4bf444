-- The pieces that are written: one record, or a header with a snapshot.
use Rattle.std.specs.Prelude.{◌≡◌, ℕ, ◌-◌, ◌<◌, List, [], ◌∷◌, ◌++◌, length, take, drop, slice_index}
use Rattle.std.specs.Int.{bytes_high_first}
use Rattle.ge_model_journal.specs.Area.{number4, number8, written_format}

-- a length field, a body of that length, and a closed gate
pub record IsRecordPiece (piece body : List ℕ) : Type 0 where
  pub whole : piece ≡ take 4 piece ++ (body ++ 0 ∷ [])
  pub width : length (take 4 piece) ≡ 4
  pub number : number4 piece 0 ≡ length body
  pub field : take 4 piece ≡ bytes_high_first 4 (length body)
  pub some : 0 < length body

-- the format, a generation, the size of a snapshot, the snapshot, and a closed gate
pub record IsSnapshotPiece (piece : List ℕ) (generation : ℕ) (snapshot : List ℕ) : Type 0 where
  pub behind : drop 17 piece ≡ snapshot ++ 0 ∷ []
  pub width : length (take 17 piece) ≡ 17
  pub format : slice_index piece 0 ≡ written_format
  pub generation_field : number8 piece 1 ≡ generation
  pub size_field : number8 piece 9 ≡ length snapshot
  pub fields : take 17 piece ≡ written_format ∷ (bytes_high_first 8 generation ++ bytes_high_first 8 (length snapshot))

-- the body in a record's piece
abbrev pub body_in : List ℕ → List ℕ
body_in piece = take (length piece - 5) (drop 4 piece)

-- the snapshot in a snapshot's piece
abbrev pub snapshot_in : List ℕ → List ℕ
snapshot_in piece = take (length piece - 18) (drop 17 piece)
