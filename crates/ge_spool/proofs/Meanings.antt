-- What two areas stand for, by the parts of the one that counts.
use Rattle.std.specs.Prelude.{◌≡◌, ◌⊎◌, ℕ, ◌<◌, ◌≤◌, Bool, true, false, ◌==◌, nat_lt, if◌then◌else◌, List, Ok, refl}
use Rattle.std.proofs.Common.{arith, ap, subst, inl, inr, ⊎_elim}
use Rattle.std.proofs.lemmas.Bool.{lt-ltb, le-ltb, ltb-false, ltb-true, ne_eqb, eqb-false, cases_lt}
use Rattle.ge_model_journal.specs.Area.{head}
use Rattle.ge_model_journal.specs.Journal.{State, meaning, choice, header_of, picked}
use Rattle.ge_model_journal.specs.declared.Header.{Header}
use Rattle.ge_model_journal.specs.declared.Head.{Head}
use Rattle.ge_model_journal.specs.declared.Head.TheVariants.{Closed, Faulty, Overlong, Sound}
use Rattle.ge_model_journal.specs.declared.Choice.TheVariants.{Chosen, Wrong}
pub use Rattle.ge_spool.specs.Heads.{IsLower}
use Rattle.ge_spool.proofs.Parts.{IsArea}
use Rattle.ge_spool.proofs.Reading.{head-area, snapshot-area, records_of-area}

-- the one of greater generation counts
pub choice-lower : (second : Bool) (a b : Head) (header : Header) → picked second a b ≡ Sound header → IsLower (picked second b a) header.generation
    → choice a b ≡ Chosen second header
choice-lower false a Closed header chosen lower = rw chosen refl
choice-lower false a (Faulty place) header chosen lower = absurd lower
choice-lower false a (Overlong other) header chosen lower = absurd lower
choice-lower false a (Sound other) header chosen lower =
    rw (chosen, ne_eqb header.generation other.generation (λ e. omega arith), lt-ltb other.generation header.generation lower) refl
choice-lower true Closed b header chosen lower = rw chosen refl
choice-lower true (Faulty place) b header chosen lower = absurd lower
choice-lower true (Overlong other) b header chosen lower = absurd lower
choice-lower true (Sound other) b header chosen lower =
    rw (chosen, ne_eqb other.generation header.generation (λ e. omega arith), le-ltb header.generation other.generation (omega arith)) refl

-- what an area stands for beside one that doesn't count
pub meaning-area : (second : Bool) (a b : List ℕ) (s : State) (end : ℕ) → IsArea (picked second a b) s end → IsLower (head (picked second b a)) s.generation
    → meaning a b ≡ Ok s
unfolding meaning
meaning-area false a b s end area lower =
    rw (choice-lower false (head a) (head b) (header_of s) (head-area a s end area) lower, records_of-area a s end area, snapshot-area a s end area) refl
meaning-area true a b s end area lower =
    rw (choice-lower true (head a) (head b) (header_of s) (head-area b s end area) lower, records_of-area b s end area, snapshot-area b s end area) refl

lower-of : {g h : ℕ} → (g ≡ h → ⊥) → g ≤ h → g < h
lower-of {g} {h} apart le = ⊎_elim (λ less. less) (λ other. absurd (apart (omega (arith, le, other)))) (cases_lt g h)

-- two sound headers
both-sound : (same less : Bool) (x y : Header) (second : Bool) (header : Header)
    → (if same then Wrong 1 2 else (if less then Chosen false x else Chosen true y)) ≡ Chosen second header
    → ((less ≡ true) × (second ≡ false) × (x ≡ header)) ⊎ ((same ≡ false) × (less ≡ false) × (second ≡ true) × (y ≡ header))
both-sound true less x y second header e = absurd (cc)
both-sound false true x y second header e = inl (refl, cc, cc)
both-sound false false x y second header e = inr (refl, refl, cc, cc)

overlong-chosen : (same second : Bool) (header : Header) → (if same then Wrong 1 2 else Wrong 1 10) ≡ Chosen second header → ⊥
overlong-chosen true second header e = cc
overlong-chosen false second header e = cc

-- by a choice the header is known, and that the other one doesn't count
pub choice-back : (a b : Head) (second : Bool) (header : Header) → choice a b ≡ Chosen second header
    → (picked second a b ≡ Sound header) × IsLower (picked second b a) header.generation
choice-back (Faulty place) b second header e = absurd (cc)
choice-back (Overlong other) b second header e = absurd (cc)
choice-back Closed Closed second header e = absurd (cc)
choice-back Closed (Faulty place) second header e = absurd (cc)
choice-back Closed (Overlong other) second header e = absurd (cc)
choice-back Closed (Sound x) true header e = (cc, tt)
choice-back Closed (Sound x) false header e = absurd (cc)
choice-back (Sound x) Closed true header e = absurd (cc)
choice-back (Sound x) Closed false header e = (cc, tt)
choice-back (Sound x) (Faulty place) second header e = absurd (cc)
choice-back (Sound x) (Overlong other) second header e = absurd (overlong-chosen (x.generation == other) second header e)
choice-back (Sound x) (Sound y) true header e =
    ⊎_elim (λ first. let no : true ≡ false = first.1 in absurd (cc))
    (λ last. (
      ap (λ h. Sound h) last.3,
      subst (λ h. x.generation < h.generation) last.3
          (lower-of (eqb-false x.generation y.generation last.0) (ltb-false y.generation x.generation last.1)),
    ))
    (both-sound (x.generation == y.generation) (nat_lt y.generation x.generation) x y true header e)
choice-back (Sound x) (Sound y) false header e =
    ⊎_elim (λ first. (ap (λ h. Sound h) first.2, subst (λ h. y.generation < h.generation) first.2 (ltb-true y.generation x.generation first.0)))
    (λ last. let no : false ≡ true = last.2 in absurd (cc))
    (both-sound (x.generation == y.generation) (nat_lt y.generation x.generation) x y false header e)
