-- What padding leaves: what two areas stand for.
use Rattle.std.specs.Prelude.{◌≡◌, ℕ, ◌+◌, ◌-◌, ◌<◌, ◌≤◌, Bool, true, false, not, ◌==◌, ◌||◌, if◌then◌else◌, nat_lt, List, [], ◌∷◌, length, take, drop, slice_index, Result, Ok, Err, refl}
use Rattle.std.proofs.Common.{arith, ◌∙◌, sym, ap, subst, inl, inr, ⊎_elim, eq-eqb}
use Rattle.std.proofs.lemmas.Bool.{lt-ltb, le-ltb, cases_lt}
use Rattle.ge_model_journal.specs.Disk.{Content, HasLength, overwritten}
use Rattle.ge_model_journal.specs.Area.{number8, head, is_format, is_bad_generation, records_from, records_of}
use Rattle.ge_model_journal.specs.Journal.{State, meaning, meaning_by, choice, picked, state_of, area_number, first_state}
use Rattle.ge_model_journal.specs.Writing.{padded}
use Rattle.ge_model_journal.specs.declared.Header.{Header}
use Rattle.ge_model_journal.specs.declared.Head.{Head}
use Rattle.ge_model_journal.specs.declared.Head.TheVariants.{Closed, Faulty, Overlong, Sound}
use Rattle.ge_model_journal.specs.declared.Choice.{Choice}
use Rattle.ge_model_journal.specs.declared.Choice.TheVariants.{Neither, Chosen, Wrong}
use Rattle.ge_spool.specs.Moments.{IsQuiet, Torn}
use Rattle.ge_spool.specs.Opening.{IsPadImage, IsFreshImage, FindsIn, FindsInRest, Opens}
use Rattle.ge_spool.specs.Pieces.{IsSnapshotPiece}
use Rattle.ge_spool.specs.Reads.{IsHeadOf}
use Rattle.ge_spool.specs.Steps.{IsRefillImage}
use Rattle.ge_spool.proofs.Parts.{IsArea}
use Rattle.ge_spool.proofs.Filling.{behind-closed}
use Rattle.ge_spool.proofs.Looking.{head-short}
use Rattle.ge_spool.proofs.Reading.{header-sound, head-area, records_of-area, area-back}
use Rattle.ge_spool.proofs.Meanings.{choice-back, choice-lower}
use Rattle.ge_spool.proofs.Settling.{AtRest, at-rest, quiet-picked}
use Rattle.ge_spool.specs.Heads.{IsLower, is_sound}
use Rattle.ge_spool.specs.declared.finding.Found.{Found}
use Rattle.ge_spool.specs.declared.faults.OpenFault.{OpenFault}
use Rattle.ge_spool.specs.declared.faults.OpenFault.TheVariants.{Disk, Frame, Bad, Memory}
use Rattle.ge_outside.specs.Images.{length-overwritten-le}
use Rattle.std.proofs.lemmas.List.{drop-drop}

-- how long a quiet disk is
pub quiet-length : (told : List Content) (bytes : List ℕ) (size : ℕ) → IsQuiet told bytes → HasLength told size → size ≡ length bytes
quiet-length [] bytes size quiet long = absurd quiet
quiet-length (now ∷ earlier) bytes size quiet long = long ∙ ap (λ c. length c.bytes) quiet

pub pad-torn : (bytes image : List ℕ) → length bytes < 19 → Torn 0 1 bytes image → IsPadImage bytes image
pad-torn bytes image short torn = inr (short, omega (arith, torn.no_longer))

pub padded-short : (bytes : List ℕ) → length bytes < 19 → padded bytes ≡ overwritten bytes 0 (0 ∷ [])
padded-short bytes short = rw (lt-ltb (length bytes) 19 short) refl

pub padded-long : (bytes : List ℕ) → 19 ≤ length bytes → padded bytes ≡ bytes
padded-long bytes long = rw (le-ltb (length bytes) 19 long) refl

-- padding leaves the header
pub head-pad : (bytes image : List ℕ) → IsPadImage bytes image → head image ≡ head bytes
head-pad bytes image (inl same) = ap head same
head-pad bytes image (inr short) = head-short image short.1 ∙ sym (head-short bytes short.0)

-- and the bytes of an area that is open
pub sound-pad : (bytes image : List ℕ) (header : Header) → head bytes ≡ Sound header → IsPadImage bytes image → image ≡ bytes
unfolding head
sound-pad bytes image header sound (inl same) = same
sound-pad bytes image header sound (inr short) = absurd (omega (arith, (header-sound (length bytes) bytes header sound).long, short.0))

by-choice : (a b c d : List ℕ) (ch : Choice) → ((second : Bool) (header : Header) → ch ≡ Chosen second header → picked second c d ≡ picked second a b)
    → meaning_by ch c d ≡ meaning_by ch a b
by-choice a b c d Neither same = refl
by-choice a b c d (Wrong area place) same = refl
by-choice a b c d (Chosen second header) same = rw (same second header refl) refl

picked-pad : (second : Bool) (a b c d : List ℕ) (header : Header) → picked second (head a) (head b) ≡ Sound header → IsPadImage a c → IsPadImage b d
    → picked second c d ≡ picked second a b
picked-pad false a b c d header sound pad_a pad_b = sound-pad a c header sound pad_a
picked-pad true a b c d header sound pad_a pad_b = sound-pad b d header sound pad_b

-- two areas stand for the same while they are padded
pub meaning-pad : (a b c d : List ℕ) → IsPadImage a c → IsPadImage b d → meaning c d ≡ meaning a b
unfolding meaning
meaning-pad a b c d pad_a pad_b =
    rw (head-pad a c pad_a, head-pad b d pad_b)
    (by-choice a b c d (choice (head a) (head b)) (λ second header chosen.
    picked-pad second a b c d header (choice-back (head a) (head b) second header chosen).0 pad_a pad_b))

-- while the first one is made they stand for a journal in which nothing was written
pub meaning-fresh : (c d : List ℕ) → IsFreshImage c → head d ≡ Closed → meaning c d ≡ Ok first_state
unfolding meaning
meaning-fresh c d (inl closed) other = rw (closed, other) refl
meaning-fresh c d (inr fresh) other = rw (fresh.0, other, fresh.1) refl

-- the header of a quiet disk
pub quiet-head : (told : List Content) (bytes : List ℕ) (size : ℕ) (h : Head) → IsQuiet told bytes → IsHeadOf told size h → h ≡ head bytes
quiet-head [] bytes size h quiet said = absurd quiet
quiet-head (now ∷ earlier) bytes size h quiet said = said.1 ∙ ap (λ c. head c.bytes) quiet

-- the length that goes with it
pub head-length : (told : List Content) (size : ℕ) (h : Head) → IsHeadOf told size h → HasLength told size
head-length [] size h said = tt
head-length (now ∷ earlier) size h said = said.0

closed-test : (closed format bad past : Bool) (g : ℕ) (said : Header)
    → (if closed then Closed else (if not format then Faulty 1 else (if bad then Faulty 2 else (if past then Overlong g else Sound said)))) ≡ Closed → closed ≡ true
closed-test true format bad past g said e = refl
closed-test false false bad past g said e = absurd (cc)
closed-test false true true past g said e = absurd (cc)
closed-test false true false true g said e = absurd (cc)
closed-test false true false false g said e = absurd (cc)

not-true : (b : Bool) → not b ≡ true → b ≡ false
not-true true e = sym e
not-true false e = refl

-- an area of 19 bytes that isn't open has its gate closed
closed-gate : (bytes : List ℕ) → head bytes ≡ Closed → 19 ≤ length bytes → (slice_index bytes 0 == 1) ≡ false
unfolding head
closed-gate bytes closed long =
    let either_way : (nat_lt (length bytes) 19 || not (slice_index bytes 0 == 1)) ≡ true =
    closed-test (nat_lt (length bytes) 19 || not (slice_index bytes 0 == 1)) (is_format (slice_index bytes 1)) (is_bad_generation (slice_index bytes 1) (number8 bytes 2))
    (nat_lt (length bytes - 18) (number8 bytes 10)) (number8 bytes 2) (record { format = slice_index bytes 1; generation = number8 bytes 2; size = number8 bytes 10 }) closed in
    not-true (slice_index bytes 0 == 1) (rw (le-ltb (length bytes) 19 long) at either_way)

-- after padding the gate of an area that isn't open is closed
pub padded-closed : (bytes : List ℕ) → head bytes ≡ Closed → (slice_index (padded bytes) 0 == 1) ≡ false
padded-closed bytes closed =
    ⊎_elim (λ (short : length bytes < 19). rw (padded-short bytes short) refl)
    (λ (long : 19 ≤ length bytes). rw (padded-long bytes long) (closed-gate bytes closed long)) (cases_lt (length bytes) 19)

-- and there is one
pub padded-some : (bytes : List ℕ) → 0 < length (padded bytes)
padded-some bytes =
    ⊎_elim (λ (short : length bytes < 19). rw (padded-short bytes short) (omega arith))
    (λ (long : 19 ≤ length bytes). rw (padded-long bytes long) (omega (arith, long))) (cases_lt (length bytes) 19)

lower-zero : (h : Head) → IsLower h 0 → h ≡ Closed
lower-zero Closed lower = refl
lower-zero (Faulty place) lower = absurd lower
lower-zero (Overlong other) lower = absurd lower
lower-zero (Sound other) lower = absurd (omega (arith, lower))

-- each moment of padding an area that isn't open
pub fresh-pad : (bytes image : List ℕ) → head bytes ≡ Closed → IsPadImage bytes image → IsFreshImage image
fresh-pad bytes image closed pad = inl (head-pad bytes image pad ∙ closed)

-- and of filling it
pub fresh-fill : (bytes image piece : List ℕ) → head bytes ≡ Closed → IsSnapshotPiece piece 1 [] → IsRefillImage false piece (padded bytes) image → IsFreshImage image
fresh-fill bytes image piece closed is_piece left =
    ⊎_elim (λ lower. inl (lower-zero (head image) lower))
    (λ area. inr (head-area image first_state 18 area, records_of-area image first_state 18 area))
    (behind-closed (padded bytes) image piece [] 1 0 (padded-some bytes) (padded-closed bytes closed) is_piece (omega arith) left)

-- the same, by the flag
padded-picked : (second : Bool) (a b : List ℕ) → picked second (padded a) (padded b) ≡ padded (picked second a b)
padded-picked false a b = refl
padded-picked true a b = refl

head-picked : (second : Bool) (a b : List ℕ) → picked second (head a) (head b) ≡ head (picked second a b)
head-picked false a b = refl
head-picked true a b = refl

-- an open area is not short
sound-long : (bytes : List ℕ) (header : Header) → head bytes ≡ Sound header → 19 ≤ length bytes
unfolding head
sound-long bytes header sound = (header-sound (length bytes) bytes header sound).long

sound-gate : (bytes : List ℕ) (header : Header) → head bytes ≡ Sound header → slice_index bytes 0 ≡ 1
unfolding head
sound-gate bytes header sound = (header-sound (length bytes) bytes header sound).gate

head-padded : (bytes : List ℕ) → head (padded bytes) ≡ head bytes
head-padded bytes =
    ⊎_elim (λ (short : length bytes < 19). head-short (padded bytes) (rw (padded-short bytes short) (omega (arith, length-overwritten-le bytes 0 (0 ∷ [])))) ∙ sym (head-short bytes short))
    (λ (long : 19 ≤ length bytes). ap head (padded-long bytes long)) (cases_lt (length bytes) 19)

-- whether the gate of the area that doesn't count is open
padded-flag : (bytes : List ℕ) (h : Head) (generation : ℕ) → head bytes ≡ h → IsLower h generation → is_sound h ≡ (slice_index (padded bytes) 0 == 1)
padded-flag bytes Closed generation is_head lower = sym (padded-closed bytes is_head)
padded-flag bytes (Faulty place) generation is_head lower = absurd lower
padded-flag bytes (Overlong other) generation is_head lower = absurd lower
padded-flag bytes (Sound other) generation is_head lower =
    rw (padded-long bytes (sound-long bytes other is_head)) (sym (eq-eqb (slice_index bytes 0) 1 (sound-gate bytes other is_head)))

-- what two areas stand for, by the one that counts
pub meaning-chosen : (second : Bool) (a b : List ℕ) (header : Header) → picked second (head a) (head b) ≡ Sound header
    → IsLower (picked second (head b) (head a)) header.generation
    → meaning a b ≡ state_of (area_number second) header (take header.size (drop 18 (picked second a b))) (records_of header.size (picked second a b))
unfolding meaning
meaning-chosen second a b header sound lower = rw (choice-lower second (head a) (head b) header sound lower) refl

-- the state of a header, with its snapshot and records
abbrev pub read_state : Header → List ℕ → List (List ℕ) → State
read_state header snapshot records = record { format = header.format; generation = header.generation; snapshot = snapshot; records = records }

-- two areas at rest after opening
pub opened-at-rest : (second : Bool) (told_a told_b : List Content) (a b : List ℕ) (header : Header) (snapshot : List ℕ) (records : List (List ℕ)) (end : ℕ)
    → IsQuiet told_a (padded a) → IsQuiet told_b (padded b) → picked second (head a) (head b) ≡ Sound header → IsLower (picked second (head b) (head a)) header.generation
    → records_of header.size (picked second a b) ≡ Ok (records, end) → snapshot ≡ take header.size (drop 18 (picked second a b))
    → AtRest second told_a told_b (read_state header snapshot records) end (is_sound (picked second (head b) (head a)))
opened-at-rest second told_a told_b a b header snapshot records end quiet_a quiet_b sound lower listed is_snapshot =
    let is_head : head (picked second a b) ≡ Sound header = sym (head-picked second a b) ∙ sound in
    let whole : padded (picked second a b) ≡ picked second a b = padded-long (picked second a b) (sound-long (picked second a b) header is_head) in
    let quiet = subst (λ xs. IsQuiet (picked second told_a told_b) xs) (padded-picked second a b ∙ whole) (quiet-picked second told_a told_b (padded a) (padded b) quiet_a quiet_b) in
    let still = subst (λ xs. IsQuiet (picked second told_b told_a) xs) (padded-picked second b a) (quiet-picked second told_b told_a (padded b) (padded a) quiet_b quiet_a) in
    let area = subst (λ xs. IsArea (picked second a b) (read_state header xs records) end) (sym is_snapshot) (area-back (picked second a b) header records end is_head listed) in
    let other_head : head (padded (picked second b a)) ≡ picked second (head b) (head a) = head-padded (picked second b a) ∙ sym (head-picked second b a) in
    at-rest second told_a told_b (picked second a b) (padded (picked second b a)) (read_state header snapshot records) end
    (is_sound (picked second (head b) (head a))) quiet still area (subst (λ h. IsLower h header.generation) (sym other_head) lower) (padded-some (picked second b a))
    (padded-flag (picked second b a) (picked second (head b) (head a)) header.generation (sym (head-picked second b a)) lower)

-- the records behind a header
pub records_of-rest : (n : ℕ) (bytes : List ℕ)
    → records_from (length (drop n (drop 18 bytes))) (18 + n) (drop n (drop 18 bytes)) ≡ records_of n bytes
records_of-rest n bytes = ap (λ xs. records_from (length xs) (18 + n) xs) (drop-drop n 18 bytes)

-- what was found in a quiet disk
pub finds-quiet : (result : Result Found OpenFault) (area n : ℕ) (told : List Content) (bytes : List ℕ) → IsQuiet told bytes → FindsIn result area n told
    → FindsInRest result area n (drop 18 bytes)
finds-quiet result area n [] bytes quiet found = absurd quiet
finds-quiet result area n (now ∷ earlier) bytes quiet found = subst (λ c. FindsInRest result area n (drop 18 c.bytes)) quiet found

-- a fault that was found
pub opens-fault : (fault : OpenFault) (second : Bool) (a b : List ℕ) (told_a told_b : List Content) (header : Header)
    → picked second (head a) (head b) ≡ Sound header → IsLower (picked second (head b) (head a)) header.generation
    → FindsInRest (Err fault) (area_number second) header.size (drop 18 (picked second a b)) → Opens (Err fault) a b told_a told_b
opens-fault Disk second a b told_a told_b header sound lower found = tt
opens-fault (Frame number place) second a b told_a told_b header sound lower found =
    meaning-chosen second a b header sound lower
    ∙ ap (λ r. state_of (area_number second) header (take header.size (drop 18 (picked second a b))) r) (sym (records_of-rest header.size (picked second a b)) ∙ found.1)
    ∙ ap (λ k. Err (k, place)) (sym found.0)
opens-fault (Bad number place) second a b told_a told_b header sound lower found = found
opens-fault Memory second a b told_a told_b header sound lower found = tt
