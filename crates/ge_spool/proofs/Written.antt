-- What areas read after a call, by the bytes that are written.
use Rattle.std.specs.Prelude.{◌≡◌, ℕ, zero, suc, ◌+◌, ◌<◌, ◌≤◌, Bool, true, false, not, List, [], ◌∷◌, ◌++◌, length, take, drop, refl}
use Rattle.std.proofs.Common.{arith, ◌∙◌, sym, ap, ⊎_elim, append_assoc}
use Rattle.std.proofs.lemmas.List.{take-append-drop, drop-drop}
use Rattle.std.proofs.lemmas.Bool.{cases_lt}
use Rattle.std.specs.Int.{bytes_high_first}
use Rattle.ge_model_journal.specs.Disk.{Content, overwritten, read_bytes}
use Rattle.ge_model_journal.specs.Journal.{picked}
use Rattle.ge_model_journal.specs.Writing.{bytes_of_record, bytes_of_area, padded}
use Rattle.ge_spool.specs.Moments.{IsQuiet, read_bytes-quiet}
use Rattle.ge_spool.specs.Pieces.{IsRecordPiece, IsSnapshotPiece}
use Rattle.ge_spool.specs.Settled.{HasWritten}
use Rattle.ge_spool.specs.Steps.{opened_behind, refilled}
use Rattle.ge_spool.proofs.ShortAreas.{padded-short, padded-long, padded-some}
use Rattle.ge_spool.proofs.Tearing.{opened-whole}

-- a piece behind a gate of 1 is a record
pub record-piece : (piece body : List ℕ) → IsRecordPiece piece body → 1 ∷ piece ≡ bytes_of_record body
unfolding bytes_of_record
record-piece piece body is_piece =
    ap (λ xs. 1 ∷ xs) (is_piece.whole ∙ ap (λ field. field ++ (body ++ 0 ∷ [])) is_piece.field)

-- or an area
pub snapshot-piece : (piece : List ℕ) (generation : ℕ) (snapshot : List ℕ) → IsSnapshotPiece piece generation snapshot → 1 ∷ piece ≡ bytes_of_area generation snapshot
unfolding bytes_of_area
snapshot-piece piece generation snapshot is_piece =
    ap (λ xs. 1 ∷ xs) (sym (take-append-drop 17 piece) ∙ ap (λ xs. xs ++ drop 17 piece) is_piece.fields
    ∙ ap (λ xs. (2 ∷ (bytes_high_first 8 generation ++ bytes_high_first 8 (length snapshot))) ++ xs) is_piece.behind
    ∙ ap (λ xs. 2 ∷ xs) (append_assoc (bytes_high_first 8 generation) (bytes_high_first 8 (length snapshot)) (snapshot ++ 0 ∷ [])))

-- a gate that was closed stands before all else
drop-closed : (n : ℕ) (bytes : List ℕ) → 0 < n → drop n (overwritten bytes 0 (0 ∷ [])) ≡ drop n bytes
drop-closed zero bytes some = absurd (omega (arith, some))
drop-closed (suc n) bytes some =
    let same : 1 + n ≡ suc n = omega arith in
    drop-drop n 1 bytes ∙ ap (λ k. drop k bytes) same

-- the two writes together are one
pub opened-overwritten : (bytes : List ℕ) (gate : ℕ) (piece : List ℕ) → gate < length bytes → opened_behind gate piece bytes ≡ overwritten bytes gate (1 ∷ piece)
opened-overwritten bytes gate piece within =
    opened-whole bytes gate piece within
    ∙ ap (λ k. take gate bytes ++ (1 ∷ (piece ++ drop k bytes))) (omega arith)

-- and so are the three
pub refilled-overwritten : (close : Bool) (bytes piece : List ℕ) → 0 < length bytes → refilled close piece bytes ≡ overwritten bytes 0 (1 ∷ piece)
refilled-overwritten false bytes piece some = opened-overwritten bytes 0 piece some
refilled-overwritten true bytes piece some =
    opened-overwritten (overwritten bytes 0 (0 ∷ [])) 0 piece (omega arith)
    ∙ ap (λ xs. (1 ∷ piece) ++ xs) (drop-closed (0 + length (1 ∷ piece)) bytes (omega arith))

-- an area that was padded before
pub padded-overwritten : (bytes piece : List ℕ) → 0 < length piece → overwritten (padded bytes) 0 piece ≡ overwritten bytes 0 piece
padded-overwritten bytes [] some = absurd (omega (arith, some))
padded-overwritten bytes (first ∷ piece) some =
    ⊎_elim
    (λ (short : length bytes < 19).
    ap (λ xs. overwritten xs 0 (first ∷ piece)) (padded-short bytes short)
    ∙ ap (λ xs. (first ∷ piece) ++ xs) (drop-closed (0 + length (first ∷ piece)) bytes (omega arith)))
    (λ (long : 19 ≤ length bytes). ap (λ xs. overwritten xs 0 (first ∷ piece)) (padded-long bytes long)) (cases_lt (length bytes) 19)

-- what a first area reads that was made
pub made-first : (bytes piece : List ℕ) → IsSnapshotPiece piece 1 [] → refilled false piece (padded bytes) ≡ overwritten bytes 0 (bytes_of_area 1 [])
made-first bytes piece is_piece =
    refilled-overwritten false (padded bytes) piece (padded-some bytes) ∙ padded-overwritten bytes (1 ∷ piece) (omega arith)
    ∙ ap (λ xs. overwritten bytes 0 xs) (snapshot-piece piece 1 [] is_piece)

read-picked : (second : Bool) (a b : List Content) → picked second (read_bytes a) (read_bytes b) ≡ read_bytes (picked second a b)
read-picked false a b = refl
read-picked true a b = refl

-- what two areas read of which one was written
pub has-written : (second : Bool) (at : ℕ) (piece after : List ℕ) (a new_a b new_b : List Content) → IsQuiet (picked second new_a new_b) after
    → after ≡ overwritten (picked second (read_bytes a) (read_bytes b)) at piece → picked second new_b new_a ≡ picked second b a
    → HasWritten second at piece (read_bytes a) (read_bytes new_a) (read_bytes b) (read_bytes new_b)
has-written second at piece after a new_a b new_b quiet written same = record {
  here = read-picked second new_a new_b ∙ read_bytes-quiet (picked second new_a new_b) after quiet ∙ written;
  there = read-picked second new_b new_a ∙ ap read_bytes same ∙ sym (read-picked second b a);
}

-- the same, told of the other area
pub has-written-other : (second : Bool) (at : ℕ) (piece a new_a b new_b : List ℕ) → HasWritten second at piece b new_b a new_a → HasWritten (not second) at piece a new_a b new_b
has-written-other false at piece a new_a b new_b written = record { here = written.here; there = written.there }
has-written-other true at piece a new_a b new_b written = record { here = written.here; there = written.there }
