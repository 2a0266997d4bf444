-- What filling an area anew leaves at each moment.
use Rattle.std.specs.Prelude.{◌≡◌, ◌⊎◌, ℕ, ◌+◌, ◌<◌, ◌≤◌, Bool, true, false, ◌==◌, ◌||◌, nat_lt, List, [], ◌∷◌, ◌++◌, length, take, drop, slice_index, refl}
use Rattle.std.proofs.Common.{arith, ◌∙◌, sym, ap, subst, inl, inr, ⊎_elim, length-append, append_assoc, drop-cons}
use Rattle.std.proofs.lemmas.List.{get_or_append_left, get_or-take, drop_at, take-append-drop}
use Rattle.std.proofs.lemmas.Bool.{eqb-true, ne_eqb}
use Rattle.ge_model_journal.specs.Disk.{overwritten}
use Rattle.ge_model_journal.specs.Area.{number8, head, is_bad_generation, written_format}
use Rattle.ge_model_journal.specs.Journal.{State}
use Rattle.ge_model_journal.specs.declared.Head.TheVariants.{Closed}
use Rattle.ge_spool.specs.Pieces.{IsSnapshotPiece}
use Rattle.ge_spool.specs.Steps.{IsBehindImage, IsRefillImage, refilled}
use Rattle.ge_spool.proofs.Parts.{IsArea}
use Rattle.ge_spool.proofs.Reading.{either, number8-append}
use Rattle.ge_spool.proofs.Tearing.{torn-gate, torn-whole, opened-whole}
use Rattle.ge_spool.proofs.Meanings.{IsLower}

or-true : (b : Bool) → (b || true) ≡ true
or-true true = refl
or-true false = refl

-- an area whose gate isn't 1
pub head-closed : (bytes : List ℕ) → (slice_index bytes 0 == 1) ≡ false → head bytes ≡ Closed
unfolding head
head-closed bytes closed = rw (closed, or-true (nat_lt (length bytes) 19)) refl

pub lower-closed : (bytes : List ℕ) (generation : ℕ) → (slice_index bytes 0 == 1) ≡ false → IsLower (head bytes) generation
lower-closed bytes generation closed = rw (head-closed bytes closed) tt

good-generation : (generation : ℕ) → 0 < generation → is_bad_generation written_format generation ≡ false
good-generation generation above = rw (ne_eqb generation 0 (λ e. omega arith)) refl

-- a piece by the generation and the snapshot that its owner keeps
pub piece-of : (piece : List ℕ) (g generation : ℕ) (xs snapshot : List ℕ) → g ≡ generation → xs ≡ snapshot → IsSnapshotPiece piece g xs → IsSnapshotPiece piece generation snapshot
piece-of piece g generation xs snapshot same_generation same is_piece = rw (← same_generation, ← same) is_piece

-- the state of a snapshot that was just written
abbrev pub filled : ℕ → List ℕ → State
filled generation snapshot = record { format = written_format; generation = generation; snapshot = snapshot; records = [] }

-- a piece behind an open gate
pub fresh-area : (piece snapshot tail : List ℕ) (generation : ℕ) → IsSnapshotPiece piece generation snapshot → 0 < generation
    → IsArea (1 ∷ (piece ++ tail)) (filled generation snapshot) (18 + length snapshot)
fresh-area piece snapshot tail generation is_piece above =
    let eight : (at : ℕ) → at + 8 ≤ 17 → number8 (take 17 piece ++ snapshot) at ≡ number8 piece at =
    λ at fits. number8-append (take 17 piece) snapshot at (omega (arith, is_piece.width))
    ∙ sym (number8-append (take 17 piece) (drop 17 piece) at (omega (arith, is_piece.width))) ∙ ap (λ xs. number8 xs at) (take-append-drop 17 piece) in
    let first : slice_index (take 17 piece ++ snapshot) 0 ≡ slice_index piece 0 =
    get_or_append_left (take 17 piece) snapshot 0 0 (omega (arith, is_piece.width)) ∙ get_or-take 17 piece 0 0 (omega arith) in
    record {
      top = 1 ∷ (take 17 piece ++ snapshot);
      front = [];
      gate = 0;
      rest = tail;
      whole = ap (λ xs. 1 ∷ xs)
          (ap (λ xs. xs ++ tail) (sym (take-append-drop 17 piece) ∙ ap (λ xs. take 17 piece ++ xs) is_piece.behind) ∙ append_assoc (take 17 piece) (snapshot ++ 0 ∷ []) tail
          ∙ ap (λ xs. take 17 piece ++ xs) (append_assoc snapshot (0 ∷ []) tail) ∙ sym (append_assoc (take 17 piece) snapshot (0 ∷ tail)));
      is_top = record {
        size = omega (arith, length-append (take 17 piece) snapshot, is_piece.width);
        gate = refl;
        format_field = first ∙ is_piece.format;
        format_known = refl;
        generation_field = eight 1 (omega arith) ∙ is_piece.generation_field;
        generation_good = good-generation generation above;
        size_field = eight 9 (omega arith) ∙ is_piece.size_field;
        kept = drop_at (take 17 piece) snapshot 17 is_piece.width;
      };
      is_front = refl;
      closed = refl;
      place = omega (arith, length-append (take 17 piece) snapshot, is_piece.width);
    }

-- each moment of opening an area that was closed
pub behind-closed : (bytes image piece snapshot : List ℕ) (generation below : ℕ) → 0 < length bytes → (slice_index bytes 0 == 1) ≡ false
    → IsSnapshotPiece piece generation snapshot → 0 < generation → IsBehindImage 0 piece bytes image
    → IsLower (head image) below ⊎ IsArea image (filled generation snapshot) (18 + length snapshot)
behind-closed bytes image piece snapshot generation below some closed is_piece above (inl torn) =
    let same : slice_index image 0 ≡ slice_index bytes 0 =
    sym (get_or-take 1 image 0 0 (omega arith)) ∙ ap (λ xs. slice_index xs 0) torn.front ∙ get_or-take 1 bytes 0 0 (omega arith) in
    inl (lower-closed image below (rw same closed))
behind-closed bytes image piece snapshot generation below some closed is_piece above (inr torn) =
    let whole : image ≡ slice_index image 0 ∷ (piece ++ drop (0 + 1 + length piece) bytes) = torn-whole bytes image 0 piece some torn in
    ⊎_elim
    (λ (opened : (slice_index image 0 == 1) ≡ true).
    inr (subst (λ xs. IsArea xs (filled generation snapshot) (18 + length snapshot)) (sym (whole ∙ ap (λ k. k ∷ (piece ++ drop (0 + 1 + length piece) bytes)) (eqb-true (slice_index image 0) 1 opened)))
    (fresh-area piece snapshot (drop (0 + 1 + length piece) bytes) generation is_piece above)))
    (λ (shut : (slice_index image 0 == 1) ≡ false). inl (lower-closed image below shut))
    (either (slice_index image 0 == 1))

-- Each moment of filling an area that doesn't count: it still doesn't, or it has the new generation, its snapshot and no records.
pub refill-area : (close : Bool) (bytes image piece snapshot : List ℕ) (generation below : ℕ) → 0 < length bytes → close ≡ (slice_index bytes 0 == 1)
    → IsLower (head bytes) below → IsSnapshotPiece piece generation snapshot → 0 < generation → IsRefillImage close piece bytes image
    → IsLower (head image) below ⊎ IsArea image (filled generation snapshot) (18 + length snapshot)
refill-area false bytes image piece snapshot generation below some flag lower is_piece above behind =
    behind-closed bytes image piece snapshot generation below some (sym flag) is_piece above behind
refill-area true bytes image piece snapshot generation below some flag lower is_piece above (inl torn) =
    let whole : image ≡ slice_index image 0 ∷ drop 1 bytes = torn-gate bytes image 0 some torn in
    let before : bytes ≡ slice_index bytes 0 ∷ drop 1 bytes = drop-cons bytes 0 0 some in
    ⊎_elim
    (λ (opened : (slice_index image 0 == 1) ≡ true).
    let same : image ≡ bytes = whole ∙ ap (λ k. k ∷ drop 1 bytes) (eqb-true (slice_index image 0) 1 opened ∙ sym (eqb-true (slice_index bytes 0) 1 (sym flag))) ∙ sym before in
    inl (rw same lower))
    (λ (shut : (slice_index image 0 == 1) ≡ false). inl (lower-closed image below shut))
    (either (slice_index image 0 == 1))
refill-area true bytes image piece snapshot generation below some flag lower is_piece above (inr behind) =
    behind-closed (overwritten bytes 0 (0 ∷ [])) image piece snapshot generation below (omega arith) refl is_piece above behind

-- and once it is filled
pub refill-done : (close : Bool) (bytes piece snapshot : List ℕ) (generation : ℕ) → 0 < length bytes → IsSnapshotPiece piece generation snapshot → 0 < generation
    → IsArea (refilled close piece bytes) (filled generation snapshot) (18 + length snapshot)
refill-done false bytes piece snapshot generation some is_piece above =
    subst (λ xs. IsArea xs (filled generation snapshot) (18 + length snapshot)) (sym (opened-whole bytes 0 piece some))
    (fresh-area piece snapshot (drop (0 + 1 + length piece) bytes) generation is_piece above)
refill-done true bytes piece snapshot generation some is_piece above =
    subst (λ xs. IsArea xs (filled generation snapshot) (18 + length snapshot)) (sym (opened-whole (overwritten bytes 0 (0 ∷ [])) 0 piece (omega arith)))
    (fresh-area piece snapshot (drop (0 + 1 + length piece) (overwritten bytes 0 (0 ∷ []))) generation is_piece above)
