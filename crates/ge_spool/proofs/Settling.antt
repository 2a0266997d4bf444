-- From a journal at rest to the parts of its areas, and back.
use Rattle.std.specs.Prelude.{◌≡◌, ℕ, ◌<◌, Bool, true, false, not, ◌==◌, ◌++◌, List, ◌∷◌, length, take, drop, slice_index, Result, Ok, Err, OnOk, is_err, refl}
use Rattle.std.proofs.Common.{arith, ◌∙◌, sym, ap, subst, eq-eqb}
use Rattle.std.proofs.lemmas.List.{get_or_append_left}
use Rattle.ge_model_journal.specs.Disk.{Content, IsImageSince, read_bytes}
use Rattle.ge_model_journal.specs.Area.{head, records_of}
use Rattle.ge_model_journal.specs.Journal.{State, choice, header_of, picked, meaning}
use Rattle.ge_model_journal.specs.declared.Choice.TheVariants.{Chosen}
use Rattle.ge_spool.specs.Moments.{IsQuiet, read_bytes-quiet}
use Rattle.ge_spool.specs.Settled.{IsSettled}
use Rattle.ge_spool.specs.declared.spool.Spool.{Spool}
use Rattle.ge_spool.proofs.Parts.{IsArea}
use Rattle.ge_spool.proofs.Reading.{area-back, head-area, snapshot-area, records_of-area}
use Rattle.ge_spool.proofs.Meanings.{IsLower, choice-back, choice-lower, meaning-area}
use Rattle.ge_spool.proofs.Moving.{still-image}
use Rattle.ge_spool.proofs.Tearing.{length-area}

head-picked : (second : Bool) (a b : List ℕ) → picked second (head a) (head b) ≡ head (picked second a b)
head-picked false a b = refl
head-picked true a b = refl

-- the parts of the area that counts
pub settled-area : (s : Spool) (a b : List Content) (state : State) → IsSettled s a b state
    → IsArea (picked s.second (read_bytes a) (read_bytes b)) state s.end
settled-area s a b state settled =
    let back = choice-back (head (read_bytes a)) (head (read_bytes b)) s.second (header_of state) settled.chosen in
    subst (λ snapshot. IsArea (picked s.second (read_bytes a) (read_bytes b)) (record { format = state.format; generation = state.generation; snapshot = snapshot; records = state.records }) s.end)
    settled.snapshot
    (area-back (picked s.second (read_bytes a) (read_bytes b)) (header_of state) state.records s.end
    (sym (head-picked s.second (read_bytes a) (read_bytes b)) ∙ back.0) settled.listed)

-- and the header of the other one
pub settled-lower : (s : Spool) (a b : List Content) (state : State) → IsSettled s a b state
    → IsLower (head (picked s.second (read_bytes b) (read_bytes a))) state.generation
settled-lower s a b state settled =
    let back = choice-back (head (read_bytes a)) (head (read_bytes b)) s.second (header_of state) settled.chosen in
    subst (λ h. IsLower h state.generation) (head-picked s.second (read_bytes b) (read_bytes a)) back.1

-- what two areas at rest must be
pub record AtRest (second : Bool) (a b : List Content) (state : State) (end : ℕ) (other_open : Bool) : Type 0 where
  pub quiet_a : IsQuiet a (read_bytes a)
  pub quiet_b : IsQuiet b (read_bytes b)
  pub some_a : 0 < length (read_bytes a)
  pub some_b : 0 < length (read_bytes b)
  pub chosen : choice (head (read_bytes a)) (head (read_bytes b)) ≡ Chosen second (header_of state)
  pub snapshot : take (length state.snapshot) (drop 18 (picked second (read_bytes a) (read_bytes b))) ≡ state.snapshot
  pub listed : records_of (length state.snapshot) (picked second (read_bytes a) (read_bytes b)) ≡ Ok (state.records, end)
  pub other_gate : other_open ≡ (slice_index (picked second (read_bytes b) (read_bytes a)) 0 == 1)

quiet-read : (told : List Content) (bytes : List ℕ) → IsQuiet told bytes → IsQuiet told (read_bytes told)
quiet-read told bytes quiet = rw (read_bytes-quiet told bytes quiet) quiet

pub at-rest : (second : Bool) (a b : List Content) (chosen other : List ℕ) (state : State) (end : ℕ) (other_open : Bool)
    → IsQuiet (picked second a b) chosen → IsQuiet (picked second b a) other → IsArea chosen state end
    → IsLower (head other) state.generation → 0 < length other → other_open ≡ (slice_index other 0 == 1) → AtRest second a b state end other_open
at-rest false a b chosen other state end other_open quiet quiet_other area lower some flag =
    let is_a = read_bytes-quiet a chosen quiet in
    let is_b = read_bytes-quiet b other quiet_other in
    let long = length-area chosen state end area in
    record {
      quiet_a = quiet-read a chosen quiet;
      quiet_b = quiet-read b other quiet_other;
      some_a = rw is_a (omega arith);
      some_b = rw is_b some;
      chosen = rw (is_a, is_b) (choice-lower false (head chosen) (head other) (header_of state) (head-area chosen state end area) lower);
      snapshot = rw is_a (snapshot-area chosen state end area);
      listed = rw is_a (records_of-area chosen state end area);
      other_gate = rw is_b flag;
    }
at-rest true a b chosen other state end other_open quiet quiet_other area lower some flag =
    let is_b = read_bytes-quiet b chosen quiet in
    let is_a = read_bytes-quiet a other quiet_other in
    let long = length-area chosen state end area in
    record {
      quiet_a = quiet-read a other quiet_other;
      quiet_b = quiet-read b chosen quiet;
      some_a = rw is_a some;
      some_b = rw is_b (omega arith);
      chosen = rw (is_a, is_b) (choice-lower true (head other) (head chosen) (header_of state) (head-area chosen state end area) lower);
      snapshot = rw is_b (snapshot-area chosen state end area);
      listed = rw is_b (records_of-area chosen state end area);
      other_gate = rw is_a flag;
    }

pub settled-again : (s : Spool) (a b : List Content) (state : State) → AtRest s.second a b state s.end s.other_open
    → s.dead ≡ false → s.format ≡ state.format → s.generation ≡ state.generation → s.records ≡ length state.records → IsSettled s a b state
settled-again s a b state rest alive format generation count = record {
  alive = alive;
  quiet_a = rest.quiet_a;
  quiet_b = rest.quiet_b;
  some_a = rest.some_a;
  some_b = rest.some_b;
  chosen = rest.chosen;
  snapshot = rest.snapshot;
  listed = rest.listed;
  format = format;
  generation = generation;
  count = count;
  other_gate = rest.other_gate;
}

pub quiet-picked : (second : Bool) (a b : List Content) (A B : List ℕ) → IsQuiet a A → IsQuiet b B → IsQuiet (picked second a b) (picked second A B)
quiet-picked false a b A B quiet_a quiet_b = quiet_a
quiet-picked true a b A B quiet_a quiet_b = quiet_b

pub some-picked : (second : Bool) (A B : List ℕ) → 0 < length A → 0 < length B → 0 < length (picked second A B)
some-picked false A B some_a some_b = some_a
some-picked true A B some_a some_b = some_b

-- the fact of a call that succeeded
pub from-ok : {T E : Type 0} (r : Result T E) (P : Type 0) → is_err r ≡ false → OnOk r P → P
from-ok (Ok x) P sound h = h
from-ok (Err e) P sound h = absurd (cc)

-- while nothing happens every pair of images is what stands
pub still-moments : (s : Spool) (a b : List Content) (state : State) → IsSettled s a b state
    → (c d : List ℕ) → IsImageSince (length a) a c → IsImageSince (length b) b d → meaning c d ≡ Ok state
still-moments s a b state settled c d of_c of_d =
    let is_c : c ≡ read_bytes a = still-image a a (read_bytes a) c settled.quiet_a refl of_c in
    let is_d : d ≡ read_bytes b = still-image b b (read_bytes b) d settled.quiet_b refl of_d in
    rw (is_c, is_d) (meaning-area s.second (read_bytes a) (read_bytes b) state s.end
    (settled-area s a b state settled) (settled-lower s a b state settled))

-- the gate of an open area
pub gate-area : (bytes : List ℕ) (s : State) (end : ℕ) → IsArea bytes s end
    → true ≡ (slice_index bytes 0 == 1)
gate-area bytes s end area =
    let first : slice_index (area.top ++ (area.front ++ (area.gate ∷ area.rest))) 0 ≡ slice_index area.top 0 =
    get_or_append_left area.top (area.front ++ (area.gate ∷ area.rest)) 0 0 (omega (arith, area.is_top.size)) in
    let opened : slice_index bytes 0 ≡ 1 = ap (λ xs. slice_index xs 0) area.whole ∙ first ∙ area.is_top.gate in
    sym (eq-eqb (slice_index bytes 0) 1 opened)

-- the other one of two
pub picked-not : {T : Type 0} (second : Bool) (a b : T) → picked (not second) a b ≡ picked second b a
picked-not false a b = refl
picked-not true a b = refl
