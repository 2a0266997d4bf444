-- How far a journal has been read, and what it comes to.
use Rattle.std.proofs.Common.{◌≡◌, ℕ, ◌+◌, ◌^◌, ◌<◌, List, [], ◌∷◌, length, drop, get_or, Option, Some, None, Result, Ok, Err, sym, ap, ◌∙◌, add-one, drop-cons, arith}
use Rattle.ge_model_journal.specs.Area.{end_from}
use Rattle.ge_model_journal.specs.Journal.{State}
use Rattle.ge_model_keeping.specs.Reading.{or_at, after_records, held_in}
use Rattle.ge_spool.proofs.Places.{end-behind}
use Rattle.ge_spool.specs.declared.faults.OpenFault.{OpenFault}
use Rattle.ge_spool.specs.declared.faults.OpenFault.TheVariants.{Disk, Frame, Bad, Memory}
use Rattle.ge_keeping.specs.Reading.{ReadsPart, ReadsBack, ReadsBehind}
use Rattle.ge_keeping.proofs.Standing.{after-wrong}

-- a list from one of its items on
pub at_item : (xs : List (List ℕ)) (i : ℕ) (x : List ℕ) → i < length xs → x ≡ get_or xs i x → drop i xs ≡ x ∷ drop (i + 1) xs
at_item xs i x inside is = drop-cons xs i x inside ∙ (λ k. sym is k ∷ drop (sym (add-one i) k) xs)

module _ {T : Type 0} where
  -- what a snapshot was read as
  pub part-good : (o : Option T) (t : T) (want : Result T ℕ) (place : ℕ) → ReadsPart o want place → o ≡ Some t → want ≡ Ok t
  part-good None t want place h is = absurd (never is)
    where
      never : ◌≡◌ {A = Option T} None (Some t) → ⊥
      never e = cc
  part-good (Some u) t want place h is = h ∙ ap (λ (x : T). Ok x) (some-is u t is)
    where
      some-is : (u t : T) → ◌≡◌ {A = Option T} (Some u) (Some t) → u ≡ t
      some-is u t e = cc

  pub part-bad : (o : Option T) (want : Result T ℕ) (place : ℕ) → ReadsPart o want place → o ≡ None → want ≡ Err place
  part-bad None want place h is = h
  part-bad (Some u) want place h is = absurd (never u is)
    where
      never : (u : T) → ◌≡◌ {A = Option T} (Some u) None → ⊥
      never u e = cc

module _ {T : Type 0} (start : List ℕ → Result T ℕ) (step : T → List ℕ → Option T) where
  -- the records up to the one behind a gate are read, and the list ends below a bound
  pub record HasWalked (state : State) (rest : List (List ℕ)) (gate : ℕ) (t : T) : Type 0 where
    pub left : after_records start step (gate + 5) rest (Ok t) ≡ held_in start step state
    pub below : end_from gate rest < 2 ^ 63

  -- so there is room for the next one
  pub next-below : (state : State) (bytes : List ℕ) (rest : List (List ℕ)) (gate : ℕ) (t : T) → HasWalked state (bytes ∷ rest) gate t → gate + 5 + length bytes < 2 ^ 63
  next-below state bytes rest gate t h = omega (arith, h.below, end-behind rest (gate + 5 + length bytes))

  pub HasWalked-none : (state : State) (t : T) → start state.snapshot ≡ Ok t → end_from (18 + length state.snapshot) state.records < 2 ^ 63
      → HasWalked state state.records (18 + length state.snapshot) t
  HasWalked-none state t read below =
      let first_place : 18 + length state.snapshot + 5 ≡ 23 + length state.snapshot = omega arith in
      record {
        left = ap (λ place. after_records start step place state.records (Ok t)) first_place
            ∙ ap (after_records start step (23 + length state.snapshot) state.records) (sym read);
        below = below;
      }

  -- the snapshot can't be read
  pub bad-snapshot : (state : State) → start state.snapshot ≡ Err 18 → held_in start step state ≡ Err 18
  bad-snapshot state read =
      ap (after_records start step (23 + length state.snapshot) state.records) read
      ∙ after-wrong start step (23 + length state.snapshot) state.records 18

  pub HasWalked-more : (state : State) (bytes : List ℕ) (rest : List (List ℕ)) (gate : ℕ) (t later : T) → HasWalked state (bytes ∷ rest) gate t
      → step t bytes ≡ Some later → HasWalked state rest (gate + 5 + length bytes) later
  HasWalked-more state bytes rest gate t later h read =
      let next : gate + 5 + length bytes + 5 ≡ gate + 5 + 5 + length bytes = omega arith in
      record {
        left = ap (λ place. after_records start step place rest (Ok later)) next
            ∙ sym (ap (λ o. after_records start step (gate + 5 + 5 + length bytes) rest (or_at (gate + 5) o)) read) ∙ h.left;
        below = h.below;
      }

  HasWalked-bad : (state : State) (bytes : List ℕ) (rest : List (List ℕ)) (gate : ℕ) (t : T) → HasWalked state (bytes ∷ rest) gate t
      → step t bytes ≡ None → held_in start step state ≡ Err (gate + 5)
  HasWalked-bad state bytes rest gate t h none =
      sym h.left
      ∙ ap (λ o. after_records start step (gate + 5 + 5 + length bytes) rest (or_at (gate + 5) o)) none
      ∙ after-wrong start step (gate + 5 + 5 + length bytes) rest (gate + 5)

  -- the record behind the gate wasn't read
  pub HasWalked-fault : (state : State) (bytes : List ℕ) (rest : List (List ℕ)) (gate : ℕ) (t : T) → HasWalked state (bytes ∷ rest) gate t
      → (fault : OpenFault) (area : ℕ) (new : T) → ReadsBehind (Err fault) area gate (length bytes) new (step t bytes)
      → ReadsBack (Err fault) area (held_in start step state)
  HasWalked-fault state bytes rest gate t h Disk area new behind = absurd behind
  HasWalked-fault state bytes rest gate t h (Frame number place) area new behind = absurd behind
  HasWalked-fault state bytes rest gate t h (Bad number place) area new behind =
      (behind.0, HasWalked-bad state bytes rest gate t h behind.2 ∙ ap (λ (n : ℕ). Err n) (sym behind.1))
  HasWalked-fault state bytes rest gate t h Memory area new behind = tt

  pub HasWalked-all : (state : State) (gate : ℕ) (t : T) → HasWalked state [] gate t → held_in start step state ≡ Ok t
  HasWalked-all state gate t h = sym h.left
