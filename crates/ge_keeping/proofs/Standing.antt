-- What two areas stand for when what they mean holds a value, and what a journal holds after one more was kept.
use Rattle.std.proofs.Common.{◌≡◌, ℕ, ◌+◌, ◌<◌, Bool, true, false, List, [], ◌∷◌, ◌++◌, length, Option, Some, Result, Ok, Err, refl, ap, ◌∙◌, subst, ⊎_elim, inl, inr, arith}
use Rattle.ge_model_journal.specs.Disk.{IsImageSince}
use Rattle.ge_model_journal.specs.Area.{head}
use Rattle.ge_model_journal.specs.Journal.{State, choice, meaning, counted_area, IsOneOf, with_record}
use Rattle.ge_model_keeping.specs.Reading.{or_at, at_record, after_records, held_in}
use Rattle.ge_model_keeping.specs.Standing.{or_bad, or_frame, stands_for, StandsForOneOf}
use Rattle.ge_model_keeping.specs.Wholes.{in_snapshot, in_record, held}
use Rattle.ge_spool.proofs.Settling.{still-moments}
use Rattle.ge_spool.specs.declared.spool.Spool.{Spool}
use Rattle.ge_keeping.specs.Areas.{Areas}
use Rattle.ge_keeping.specs.Homes.{StandsSince, IsHome}
use Rattle.ge_keeping.specs.Keeping.{stored}

module _ {T W : Type 0} (frame bad : ℕ → ℕ → W) (held_by : State → Result T ℕ) where
  -- areas with a meaning stand for what it holds
  pub stands-for : (a b : List ℕ) (s : State) (t : T) → meaning a b ≡ Ok s → held_by s ≡ Ok t → stands_for frame bad held_by a b ≡ Ok t
  stands-for a b s t is holds =
      ap (or_frame frame bad held_by (counted_area (choice (head a) (head b)))) is ∙ ap (or_bad frame bad held_by (counted_area (choice (head a) (head b)))) holds

  pub stands-for-one : (before after : State) (t later : T) (a b : List ℕ) → held_by before ≡ Ok t → held_by after ≡ Ok later → IsOneOf before after a b
      → StandsForOneOf frame bad held_by t later a b
  stands-for-one before after t later a b holds holds_later is =
      ⊎_elim (λ h. inl (stands-for a b before t h holds)) (λ h. inr (stands-for a b after later h holds_later)) is

  -- while nothing is written every pair of images stands for the value
  pub stays : (spool : Spool) (t : T) (before after : Areas) → IsHome held_by spool t before → after.a ≡ before.a → after.b ≡ before.b → StandsSince frame bad held_by before after t
  stays spool t before after home same_a same_b c d of_c of_d =
      stands-for c d home.state t
      (still-moments spool before.a before.b home.state home.settled c d
      (subst (λ told. IsImageSince (length before.a) told c) same_a of_c) (subst (λ told. IsImageSince (length before.b) told d) same_b of_d))
      home.holds

module _ {T : Type 0} (start : List ℕ → Result T ℕ) (step : T → List ℕ → Option T) where
  -- what was wrong before stays wrong
  pub after-wrong : (place : ℕ) (records : List (List ℕ)) (wrong : ℕ) → after_records start step place records (Err wrong) ≡ Err wrong
  after-wrong place [] wrong = refl
  after-wrong place (bytes ∷ records) wrong = after-wrong (place + 5 + length bytes) records wrong

  -- one record more
  after-more : (place : ℕ) (records : List (List ℕ)) (bytes : List ℕ) (r : Result T ℕ) (t later : T) → after_records start step place records r ≡ Ok t → step t bytes ≡ Some later
      → after_records start step place (records ++ bytes ∷ []) r ≡ Ok later
  after-more place [] bytes r t later stands applies = ap (at_record start step place bytes) stands ∙ ap (or_at place) applies
  after-more place (one ∷ records) bytes r t later stands applies =
      after-more (place + 5 + length one) records bytes (at_record start step place one r) t later stands applies

  -- a state with one record more
  pub held-more : (s : State) (bytes : List ℕ) (t later : T) → held_in start step s ≡ Ok t → step t bytes ≡ Some later → held_in start step (with_record s bytes) ≡ Ok later
  held-more s bytes t later holds applies = after-more (23 + length s.snapshot) s.records bytes (start s.snapshot) t later holds applies

module _ {T : Type 0} (part : List ℕ → Option T) (first : T) where
  snapshot-read : (bytes : List ℕ) (t : T) → part bytes ≡ Some t → 0 < length bytes → in_snapshot part first bytes ≡ Ok t
  snapshot-read [] t reads some = absurd (omega (arith, some))
  snapshot-read (b ∷ bytes) t reads some = ap (or_at 18) reads

  -- the whole value that was kept is held
  pub held-stored : (compacting : Bool) (s : State) (bytes : List ℕ) (t later : T) → held part first s ≡ Ok t → part bytes ≡ Some later → 0 < length bytes
      → held part first (stored compacting s bytes bytes) ≡ Ok later
  held-stored true s bytes t later holds reads some = snapshot-read bytes later reads some
  held-stored false s bytes t later holds reads some = held-more (in_snapshot part first) (in_record part first) s bytes t later holds reads
