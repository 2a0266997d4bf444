-- Opening as a whole: what every pair of images stands for, and what is answered.
use Rattle.std.specs.Prelude.{◌≡◌, ◌⊎◌, ℕ, Bool, true, false, ◌==◌, nat_lt, if◌then◌else◌, List, [], ◌∷◌, length, Ok, Err, refl}
use Rattle.std.proofs.Common.{◌∙◌, sym, ap, subst, inl, inr, ⊎_elim}
use Rattle.ge_model_journal.specs.Disk.{Content, IsImageSince, overwritten, read_bytes, settled_content, told_synced}
use Rattle.ge_model_journal.specs.Area.{head}
use Rattle.ge_model_journal.specs.Journal.{meaning, meaning_by, choice, first_state, area_number, counted_area}
use Rattle.ge_model_journal.specs.Writing.{bytes_of_area, padded, first_opened, second_opened}
use Rattle.ge_model_journal.specs.declared.Header.{Header}
use Rattle.ge_model_journal.specs.declared.Head.{Head}
use Rattle.ge_model_journal.specs.declared.Head.TheVariants.{Closed, Faulty, Overlong, Sound}
use Rattle.ge_model_journal.specs.declared.Choice.TheVariants.{Neither, Chosen, Wrong}
use Rattle.ge_spool.specs.Moments.{IsQuiet, Since, read_bytes-quiet, quiet_image, since_none, since_same, since_join, since_weaker, since_quiet}
use Rattle.ge_spool.specs.Opening.{Tells, HasOpened, IsPadImage, IsFreshImage, raw_state}
use Rattle.ge_spool.specs.Settled.{IsSettled}
use Rattle.ge_spool.specs.declared.spool.Spool.{Spool}
use Rattle.ge_spool.specs.declared.raw.Raw.{Raw}
use Rattle.ge_spool.proofs.ShortAreas.{head-pad, meaning-pad, meaning-fresh}

-- a sync leaves a quiet disk as it is
pub quiet-synced : (old new : List Content) (bytes : List ℕ) → IsQuiet old bytes → new ≡ told_synced old → IsQuiet new bytes
quiet-synced [] new bytes quiet synced = absurd quiet
quiet-synced (now ∷ earlier) new bytes quiet synced = rw (synced, quiet) refl

-- and any disk that tells quiet
pub tells-quiet : (old new : List Content) → Tells old → new ≡ told_synced old → IsQuiet new (read_bytes old)
tells-quiet [] new tells synced = absurd tells
tells-quiet (now ∷ earlier) new tells synced = rw synced refl

pub since-synced : (old new : List Content) (bytes : List ℕ) → IsQuiet old bytes → (new ≡ old) ⊎ (new ≡ told_synced old) → Since old new (λ image. image ≡ bytes)
since-synced [] new bytes quiet synced = absurd quiet
since-synced (now ∷ earlier) new bytes quiet (inl same) = since_same (now ∷ earlier) (now ∷ earlier) new _ (since_none (now ∷ earlier) (λ image. image ≡ bytes)) same
since-synced (now ∷ earlier) new bytes quiet (inr synced) = record {
  more = settled_content now.bytes ∷ [];
  later = synced;
  each = λ image left. ⊎_elim
      (λ here. quiet_image (settled_content now.bytes ∷ []) bytes image (ap (λ c. settled_content c.bytes) quiet) here) (λ none. absurd none) left;
}

-- only syncs: every pair of images is what the areas read
pub open-still : (a new_a b new_b : List Content) (A B : List ℕ) → IsQuiet a A → IsQuiet b B
    → (new_a ≡ a) ⊎ (new_a ≡ told_synced a) → (new_b ≡ b) ⊎ (new_b ≡ told_synced b)
    → (c d : List ℕ) → IsImageSince (length a) new_a c → IsImageSince (length b) new_b d → meaning c d ≡ meaning A B
open-still a new_a b new_b A B quiet_a quiet_b synced_a synced_b c d of_c of_d =
    let is_c : c ≡ A = since_quiet a new_a A (λ image. image ≡ A) quiet_a (since-synced a new_a A quiet_a synced_a) refl c of_c in
    let is_d : d ≡ B = since_quiet b new_b B (λ image. image ≡ B) quiet_b (since-synced b new_b B quiet_b synced_b) refl d of_d in
    rw (is_c, is_d) refl

-- one disk: syncs, and then more
synced-then : (old mid new : List Content) (bytes : List ℕ) (Q : List ℕ → Type 0) → IsQuiet old bytes → mid ≡ told_synced old → Since mid new Q → Q bytes
    → (image : List ℕ) → IsImageSince (length old) new image → Q image
synced-then old mid new bytes Q quiet synced since here image left =
    since_quiet old new bytes Q quiet
    (since_join old mid new Q
    (since_weaker old mid (λ xs. xs ≡ bytes) Q (since-synced old mid bytes quiet (inr synced)) (λ xs same. subst Q (sym same) here)) since)
    here image left

pub open-chosen-moments : (a mid_a new_a b mid_b new_b : List Content) (A B : List ℕ) → IsQuiet a A → IsQuiet b B → mid_a ≡ told_synced a → mid_b ≡ told_synced b
    → Since mid_a new_a (IsPadImage A) → Since mid_b new_b (IsPadImage B)
    → (c d : List ℕ) → IsImageSince (length a) new_a c → IsImageSince (length b) new_b d → meaning c d ≡ meaning A B
open-chosen-moments a mid_a new_a b mid_b new_b A B quiet_a quiet_b synced_a synced_b since_a since_b c d of_c of_d =
    meaning-pad A B c d
    (synced-then a mid_a new_a A (IsPadImage A) quiet_a synced_a since_a (inl refl) c of_c)
    (synced-then b mid_b new_b B (IsPadImage B) quiet_b synced_b since_b (inl refl) d of_d)

pub open-fresh-moments : (a mid_a new_a b mid_b new_b : List Content) (A B : List ℕ) → IsQuiet a A → IsQuiet b B → mid_a ≡ told_synced a → mid_b ≡ told_synced b
    → head A ≡ Closed → head B ≡ Closed → Since mid_a new_a IsFreshImage → Since mid_b new_b (IsPadImage B)
    → (c d : List ℕ) → IsImageSince (length a) new_a c → IsImageSince (length b) new_b d → meaning c d ≡ meaning A B
open-fresh-moments a mid_a new_a b mid_b new_b A B quiet_a quiet_b synced_a synced_b closed_a closed_b since_a since_b c d of_c of_d =
    meaning-fresh c d
    (synced-then a mid_a new_a A IsFreshImage quiet_a synced_a since_a (inl closed_a) c of_c)
    (head-pad B d (synced-then b mid_b new_b B (IsPadImage B) quiet_b synced_b since_b (inl refl) d of_d) ∙ closed_b)
    ∙ sym (meaning-fresh A B (inl closed_a) closed_b)

-- a wrong header
pub meaning-wrong : (a b : List ℕ) (ha hb : Head) (area place : ℕ) → ha ≡ head a → hb ≡ head b → choice ha hb ≡ Wrong area place → meaning a b ≡ Err (area, place)
unfolding meaning
meaning-wrong a b ha hb area place is_a is_b wrong =
    ap (λ ch. meaning_by ch a b) (ap (λ h. choice h (head b)) (sym is_a) ∙ ap (λ h. choice ha h) (sym is_b) ∙ wrong)

both-tests : (same less : Bool) (x y : Header) → (if same then Wrong 1 2 else (if less then Chosen false x else Chosen true y)) ≡ Neither → ⊥
both-tests true less x y e = cc
both-tests false true x y e = cc
both-tests false false x y e = cc

overlong-tests : (same : Bool) → (if same then Wrong 1 2 else Wrong 1 10) ≡ Neither → ⊥
overlong-tests true e = cc
overlong-tests false e = cc

-- where none of them counts both are closed
pub choice-neither : (a b : Head) → choice a b ≡ Neither → (a ≡ Closed) × (b ≡ Closed)
choice-neither Closed Closed e = (refl, refl)
choice-neither Closed (Faulty place) e = absurd (cc)
choice-neither Closed (Overlong other) e = absurd (cc)
choice-neither Closed (Sound x) e = absurd (cc)
choice-neither (Faulty place) b e = absurd (cc)
choice-neither (Overlong other) b e = absurd (cc)
choice-neither (Sound x) Closed e = absurd (cc)
choice-neither (Sound x) (Faulty place) e = absurd (cc)
choice-neither (Sound x) (Overlong h) e = absurd (overlong-tests (x.generation == h) e)
choice-neither (Sound x) (Sound y) e = absurd (both-tests (x.generation == y.generation) (nat_lt y.generation x.generation) x y e)

-- what is opened where a first area was made
pub opened-first : (s : Spool) (raw : Raw) (A B : List ℕ) (a b : List Content) → IsSettled s a b first_state
    → raw.format ≡ 2 → raw.generation ≡ 1 → raw.area ≡ 0 → raw.snapshot ≡ [] → raw.records ≡ [] → head A ≡ Closed → head B ≡ Closed
    → read_bytes a ≡ overwritten A 0 (bytes_of_area 1 []) → read_bytes b ≡ padded B → HasOpened s raw A B a b
opened-first s raw A B a b settled format generation area snapshot records closed_a closed_b reads_a reads_b =
    let is_first : raw_state raw ≡ first_state = rw (format, generation, snapshot, records) refl in
    record {
      settled = subst (λ state. IsSettled s a b state) (sym is_first) settled;
      stands = meaning-fresh A B (inl closed_a) closed_b ∙ ap (λ state. Ok state) (sym is_first);
      area = rw (closed_a, closed_b) area;
      first = rw (closed_a, closed_b) reads_a;
      second = rw (closed_a, closed_b) reads_b;
    }

-- and where an area was open
pub opened-chosen : (s : Spool) (raw : Raw) (A B : List ℕ) (a b : List Content) (second : Bool) (header : Header) → IsSettled s a b (raw_state raw)
    → meaning A B ≡ Ok (raw_state raw) → raw.area ≡ area_number second → choice (head A) (head B) ≡ Chosen second header
    → IsQuiet a (padded A) → IsQuiet b (padded B) → HasOpened s raw A B a b
opened-chosen s raw A B a b second header settled stands area chosen quiet_a quiet_b = record {
  settled = settled;
  stands = stands;
  area = area ∙ sym (ap (λ ch. counted_area ch) chosen);
  first = read_bytes-quiet a (padded A) quiet_a ∙ sym (ap (λ ch. first_opened ch A) chosen);
  second = read_bytes-quiet b (padded B) quiet_b ∙ sym (ap (λ ch. second_opened ch B) chosen);
}
