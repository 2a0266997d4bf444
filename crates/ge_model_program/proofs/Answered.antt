-- Without faults a run over streams does all, or wants memory.
use Rattle.std.proofs.Common.{◌≡◌, ◌⊎◌, ℕ, ◌<◌, ◌≤◌, ◌==◌, ◌||◌, Bool, true, false, List, [], ◌∷◌, length, Option, Some, None, refl, sym, subst, inl, inr, ⊎_elim, arith}
use Rattle.std.specs.Prelude.{IsTrue}
use Rattle.std.specs.List.{list_any}
use Rattle.std.proofs.lemmas.Bool.{eqb-true, false≢true}
use Rattle.ge_limits.specs.Limits as limit
use Rattle.ge_model_program.specs.Statuses.{IsOneStatusOf}
use Rattle.ge_model_program.specs.Simulating.{Simulates, IfRead, AreFaultlessStreams}
use Rattle.ge_model_program.specs.Generating.{IsWriterStatus}

by-test : (t u : Bool) → IsTrue (t || u) → (t ≡ true) ⊎ IsTrue u
by-test true u is = inl refl
by-test false u is = inr is

-- the first status of some, or one of the others
pub first-or-other : (s status : ℕ) (others : List ℕ) → IsOneStatusOf (s ∷ others) status → (status ≡ s) ⊎ IsOneStatusOf others status
first-or-other s status others is =
    ⊎_elim (λ h. inl (sym (eqb-true s status h))) inr (by-test (s == status) (list_any (λ n. n == status) others) is)

pub no-status : (status : ℕ) → IsOneStatusOf [] status → ⊥
no-status status none = false≢true none

-- a script below its limit isn't read up to it
read-within : (bytes : List ℕ) (rest : Option (List ℕ)) → length bytes < limit.script_bytes → IfRead (Some bytes) rest (λ count. limit.script_bytes ≤ count) → ⊥
read-within bytes None below long = long
read-within bytes (Some left) below long = omega (arith, below, long)

pub not-long : (bytes : List ℕ) (script rest : Option (List ℕ)) → script ≡ Some bytes → length bytes < limit.script_bytes → IfRead script rest (λ count. limit.script_bytes ≤ count) → ⊥
not-long bytes script rest is below long =
    read-within bytes rest below (subst (λ (o : Option (List ℕ)). IfRead o rest (λ count. limit.script_bytes ≤ count)) is long)

-- a run that only writes
pub writer-answered : (status : ℕ) → IsWriterStatus status → (status ≡ 7 → ⊥) → (status ≡ 0) ⊎ (status ≡ 10)
writer-answered status one write =
    ⊎_elim inl
    (λ one. ⊎_elim (λ is. absurd (write is))
    (λ one. ⊎_elim inr (λ none. absurd (no-status status none)) (first-or-other 10 status [] one))
    (first-or-other 7 status (10 ∷ []) one))
    (first-or-other 0 status (7 ∷ 10 ∷ []) one)

pub simulate-answered : (status : ℕ) (script rest : Option (List ℕ)) (reads_before reads_after : ℕ) (old new : Option (List ℕ)) (writes_before writes_after : ℕ)
    → AreFaultlessStreams script reads_before reads_after writes_before writes_after → Simulates status script rest reads_before reads_after old new writes_before writes_after
    → (status ≡ 0) ⊎ (status ≡ 10)
simulate-answered status script rest reads_before reads_after old new writes_before writes_after streams run =
    ⊎_elim inl
    (λ one. ⊎_elim (λ is. absurd (not-long streams.bytes script rest streams.told streams.below (run.long is)))
    (λ one. ⊎_elim (λ is. absurd (streams.reads (run.read is)))
    (λ one. writer-answered status (zero-too status one) (λ is. streams.writes (run.written is)))
    (first-or-other 6 status (7 ∷ 10 ∷ []) one))
    (first-or-other 3 status (6 ∷ 7 ∷ 10 ∷ []) one))
    (first-or-other 0 status (3 ∷ 6 ∷ 7 ∷ 10 ∷ []) run.statuses)
  where
    or-true : (t u : Bool) → IsTrue u → IsTrue (t || u)
    or-true true u is = refl
    or-true false u is = is

    zero-too : (status : ℕ) → IsOneStatusOf (7 ∷ 10 ∷ []) status → IsWriterStatus status
    zero-too status is = or-true (0 == status) (list_any (λ n. n == status) (7 ∷ 10 ∷ [])) is
