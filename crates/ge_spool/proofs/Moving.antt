-- What every pair of images stands for while one of the two areas is written.
use Rattle.std.specs.Prelude.{◌≡◌, ◌⊎◌, ℕ, ◌+◌, ◌<◌, Bool, true, false, ◌==◌, List, length, slice_index, refl}
use Rattle.std.proofs.Common.{arith, subst, inl, inr}
use Rattle.ge_model_journal.specs.Disk.{Content, IsImageSince}
use Rattle.ge_model_journal.specs.Area.{head}
use Rattle.ge_model_journal.specs.Journal.{State, header_of, picked, with_record, compacted, IsOneOf}
use Rattle.ge_spool.specs.Moments.{IsQuiet, Torn, Since, since_none, since_quiet}
use Rattle.ge_spool.specs.Pieces.{IsRecordPiece, IsSnapshotPiece}
use Rattle.ge_spool.specs.Steps.{IsBehindImage, IsRefillImage}
use Rattle.ge_model_journal.specs.declared.Head.TheVariants.{Sound}
use Rattle.ge_spool.proofs.Parts.{IsArea}
use Rattle.ge_spool.proofs.Reading.{head-area}
use Rattle.ge_spool.proofs.Tearing.{behind-area}
use Rattle.ge_spool.proofs.Filling.{refill-area}
use Rattle.ge_spool.proofs.Meanings.{IsLower, meaning-area}

torn-same : (at size : ℕ) (bytes : List ℕ) → Torn at size bytes bytes
torn-same at size bytes = record { no_shorter = omega arith; no_longer = omega arith; front = refl; back = refl }

-- a disk on which nothing happened has one image
pub still-image : (old new : List Content) (bytes image : List ℕ) → IsQuiet old bytes → new ≡ old → IsImageSince (length old) new image → image ≡ bytes
still-image old new bytes image quiet same left =
    since_quiet old old bytes (λ xs. xs ≡ bytes) quiet (since_none old (λ xs. xs ≡ bytes)) refl image (subst (λ told. IsImageSince (length old) told image) same left)

-- one image of the area that counts
one-of-record : (second : Bool) (c d : List ℕ) (s : State) (end : ℕ) (body : List ℕ)
    → IsArea (picked second c d) s end
    ⊎ IsArea (picked second c d) (with_record s body) (end + 5 + length body)
    → IsLower (head (picked second d c)) s.generation → IsOneOf s (with_record s body) c d
one-of-record second c d s end body (inl before) lower = inl (meaning-area second c d s end before lower)
one-of-record second c d s end body (inr after) lower =
    inr (meaning-area second c d (with_record s body) (end + 5 + length body) after lower)

-- While a record is appended every pair of images is what stood before, or that with the record.
pub append-moments : (second : Bool) (a new_a b new_b : List Content) (A B : List ℕ) (s : State) (end : ℕ) (piece body : List ℕ)
    → IsQuiet a A → IsQuiet b B → IsArea (picked second A B) s end → IsLower (head (picked second B A)) s.generation
    → IsRecordPiece piece body
    → Since (picked second a b) (picked second new_a new_b) (IsBehindImage end piece (picked second A B)) → picked second new_b new_a ≡ picked second b a
    → (c d : List ℕ) → IsImageSince (length a) new_a c → IsImageSince (length b) new_b d → IsOneOf s (with_record s body) c d
append-moments false a new_a b new_b A B s end piece body quiet_a quiet_b area lower is_piece since same c d of_c of_d =
    let image = since_quiet a new_a A (IsBehindImage end piece A) quiet_a since (inl (torn-same (end + 1) (length piece) A)) c of_c in
    let other : d ≡ B = still-image b new_b B d quiet_b same of_d in
    one-of-record false c d s end body (behind-area A c s end piece body area is_piece image) (rw other lower)
append-moments true a new_a b new_b A B s end piece body quiet_a quiet_b area lower is_piece since same c d of_c of_d =
    let image = since_quiet b new_b B (IsBehindImage end piece B) quiet_b since (inl (torn-same (end + 1) (length piece) B)) d of_d in
    let other : c ≡ A = still-image a new_a A c quiet_a same of_c in
    one-of-record true c d s end body (behind-area B d s end piece body area is_piece image) (rw other lower)

-- one image of the area that is filled
one-of-compacted : (second : Bool) (c d : List ℕ) (s : State) (end : ℕ) (snapshot : List ℕ)
    → IsArea (picked second c d) s end
    → IsLower (head (picked second d c)) s.generation ⊎ IsArea (picked second d c) (compacted s snapshot) (18 + length snapshot)
    → head (picked second c d) ≡ Sound (header_of s)
    → IsOneOf s (compacted s snapshot) c d
one-of-compacted second c d s end snapshot area (inl lower) sound = inl (meaning-area second c d s end area lower)
one-of-compacted false c d s end snapshot area (inr new) sound =
    inr (meaning-area true c d (compacted s snapshot) (18 + length snapshot) new (rw sound (omega arith)))
one-of-compacted true c d s end snapshot area (inr new) sound =
    inr (meaning-area false c d (compacted s snapshot) (18 + length snapshot) new (rw sound (omega arith)))

refill-same : (close : Bool) (piece bytes : List ℕ) → IsRefillImage close piece bytes bytes
refill-same false piece bytes = inl (torn-same 1 (length piece) bytes)
refill-same true piece bytes = inl (torn-same 0 1 bytes)

-- While the other area is filled every pair of images is what stood before, or the next generation with the snapshot.
pub compact-moments : (second : Bool) (a new_a b new_b : List Content) (A B : List ℕ) (s : State) (end : ℕ) (close : Bool) (piece snapshot : List ℕ)
    → IsQuiet a A → IsQuiet b B → IsArea (picked second A B) s end → IsLower (head (picked second B A)) s.generation
    → 0 < length (picked second B A) → close ≡ (slice_index (picked second B A) 0 == 1) → IsSnapshotPiece piece (s.generation + 1) snapshot
    → Since (picked second b a) (picked second new_b new_a) (IsRefillImage close piece (picked second B A)) → picked second new_a new_b ≡ picked second a b
    → (c d : List ℕ) → IsImageSince (length a) new_a c → IsImageSince (length b) new_b d → IsOneOf s (compacted s snapshot) c d
compact-moments false a new_a b new_b A B s end close piece snapshot quiet_a quiet_b area lower some flag is_piece since same c d of_c of_d =
    let image = since_quiet b new_b B (IsRefillImage close piece B) quiet_b since (refill-same close piece B) d of_d in
    let other : c ≡ A = still-image a new_a A c quiet_a same of_c in
    one-of-compacted false c d s end snapshot (rw other area)
    (refill-area close B d piece snapshot (s.generation + 1) s.generation some flag lower is_piece (omega arith) image)
    (rw other (head-area A s end area))
compact-moments true a new_a b new_b A B s end close piece snapshot quiet_a quiet_b area lower some flag is_piece since same c d of_c of_d =
    let image = since_quiet a new_a A (IsRefillImage close piece A) quiet_a since (refill-same close piece A) c of_c in
    let other : d ≡ B = still-image b new_b B d quiet_b same of_d in
    one-of-compacted true c d s end snapshot (rw other area)
    (refill-area close A c piece snapshot (s.generation + 1) s.generation some flag lower is_piece (omega arith) image)
    (rw other (head-area B s end area))
