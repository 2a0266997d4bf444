-- Without faults a run over the areas does all, or wants memory.
use Rattle.std.proofs.Common.{◌≡◌, ◌⊎◌, ℕ, List, [], ◌∷◌, length, Option, Some, Result, Ok, IfSome, ap, subst, inl, inr, ⊎_elim, arith}
use Rattle.std.specs.Prelude.{IsErr}
use Rattle.std.proofs.lemmas.Bool.{false≢true}
use Rattle.ge_model_rows.specs.ClusterRows.{Cluster}
use Rattle.ge_model_program.proofs.Answered.{first-or-other, no-status, not-long}
use Rattle.ge_model_program.specs.Traced.{Traced}
use Rattle.ge_model_program.specs.View.{View}
use Rattle.ge_model_program.specs.Keeping.{Ledger, FitsBatch, HasNoRoom, ledger_in}
use Rattle.ge_model_program.specs.Replaying.{Replays, ReplaysAreas, WereStill, opened_view}
use Rattle.ge_model_program.specs.Showing.{ShowsAreas}
use Rattle.ge_model_program.specs.Faultless.{AreSound, IsFaultless, AreFaultless}

on-told : {T : Type 0} (P : T → Type 0) (o : Option T) (x : T) → o ≡ Some x → IfSome o P → P x
on-told P o x is holds = subst (λ o. IfSome o P) is holds

not-refused : {R E : Type 0} (o : Option (Result R E)) (c : R) → o ≡ Some (Ok c) → IfSome o IsErr → ⊥
not-refused {R = R} {E = E} o c is refused = false≢true (subst (λ (o : Option (Result R E)). IfSome o IsErr) is refused)

-- what fits has room
not-both : (l : Ledger) (t : Traced) (place : ℕ) → FitsBatch l t → HasNoRoom l t place → ⊥
not-both l t place (inl none) room = omega (arith, room.some, ap length none)
not-both l t place (inr holds) room = omega (arith, room.end, room.past, holds)

-- a replay without faults
pub replay-answered : (batch status : ℕ) (script rest : Option (List ℕ)) (reads_before reads_after : ℕ) (x y : View) (start : Cluster) (home : Type 0) (ledger : Ledger)
    → IsFaultless batch script reads_before reads_after x y start ledger → Replays status script rest reads_before reads_after x y start home ledger batch
    → (status ≡ 0) ⊎ (status ≡ 10)
replay-answered batch status script rest reads_before reads_after x y start home ledger faultless ran =
    let long : status ≡ 3 → ⊥ = λ is. not-long faultless.bytes script rest faultless.told faultless.below (ran.causes.long is) in
    let full : status ≡ 5 → ⊥ = λ is.
    let full = on-told _ script faultless.bytes faultless.told (ran.full is) in not-both _ _ full.place (faultless.fits full.next) full.room in
    ⊎_elim inl
    (λ one. ⊎_elim (λ is. absurd (long is))
    (λ one. ⊎_elim (λ is. absurd (full is))
    (λ one. ⊎_elim (λ is. absurd (faultless.reads (ran.causes.read is)))
    (λ one. ⊎_elim (λ is. absurd (faultless.writes (ran.causes.written is)))
    (λ one. ⊎_elim (λ is. absurd (faultless.disks (ran.causes.disk is)))
    (λ one. ⊎_elim inr (λ none. absurd (no-status status none)) (first-or-other 10 status [] one))
    (first-or-other 8 status (10 ∷ []) one))
    (first-or-other 7 status (8 ∷ 10 ∷ []) one))
    (first-or-other 6 status (7 ∷ 8 ∷ 10 ∷ []) one))
    (first-or-other 5 status (6 ∷ 7 ∷ 8 ∷ 10 ∷ []) one))
    (first-or-other 3 status (5 ∷ 6 ∷ 7 ∷ 8 ∷ 10 ∷ []) one))
    (first-or-other 0 status (3 ∷ 5 ∷ 6 ∷ 7 ∷ 8 ∷ 10 ∷ []) ran.statuses)

-- the same, over areas that were opened
pub areas-answered : (batch status : ℕ) (script rest : Option (List ℕ)) (reads_before reads_after : ℕ) (x y : View)
    → AreFaultless batch script reads_before reads_after x y → ReplaysAreas batch status script rest reads_before reads_after x y → (status ≡ 0) ⊎ (status ≡ 10)
areas-answered batch status script rest reads_before reads_after x y areas replays =
    let f = areas.faultless in
    ⊎_elim (λ refused. absurd (not-refused _ areas.start areas.stands (replays.refused refused)))
    (λ one. replay-answered batch status script rest reads_before reads_after (opened_view x) y areas.start (WereStill status x) (ledger_in areas.state)
    (record { reads = f.reads; writes = f.writes; disks = f.disks; bytes = f.bytes; told = f.told; below = f.below; fits = f.fits })
    (replays.ran areas.start areas.state areas.stands areas.means))
    replays.statuses

-- a look at the areas without faults
pub look-answered : (status : ℕ) (x y : View) → AreSound x y → ShowsAreas status x y → (status ≡ 0) ⊎ (status ≡ 10)
look-answered status x y sound shows =
    ⊎_elim (λ refused. absurd (not-refused _ sound.start sound.stands (shows.refused refused)))
    (λ others. ⊎_elim (λ is. absurd (sound.disks (shows.disk is)))
    (λ one. ⊎_elim inl
    (λ one. ⊎_elim (λ is. absurd (sound.writes (shows.written is)))
    (λ one. ⊎_elim inr (λ none. absurd (no-status status none)) (first-or-other 10 status [] one))
    (first-or-other 7 status (10 ∷ []) one))
    (first-or-other 0 status (7 ∷ 10 ∷ []) one))
    others)
    shows.statuses
