-- Batches that are kept fit.
use Rattle.std.proofs.Common.{◌≡◌, ℕ, zero, suc, ◌+◌, ◌-◌, ◌≤◌, Bool, false, List, [], ◌∷◌, ◌++◌, length, take, drop, refl, ap, ◌∙◌, sym, subst, inl, arith}
use Rattle.std.proofs.lemmas.List.{take_all}
use Rattle.std.proofs.Math.ListN.{drop_of_length-le}
use Rattle.std.proofs.Math.Seq.{take-nil, drop-nil, take-append-add, take-append_seam, drop-append_seam}
use Rattle.ge_model_rows.specs.ClusterRows.{Cluster}
use Rattle.ge_model_rows.specs.EventRows.{Event, Planned}
use Rattle.ge_model_program.specs.Traced.{Traced, ends_at, traced}
use Rattle.ge_model_program.specs.Keeping.{Ledger, ledger_in, FitsBatch, next_ledger, ledger_after, BatchesFit}
use Rattle.ge_spool.specs.Settled.{IsSettled}
use Rattle.ge_model_journal.specs.Disk.{Content, read_bytes}
use Rattle.ge_model_journal.specs.Journal.{State, picked}
use Rattle.ge_spool.specs.declared.spool.Spool.{Spool}
use Rattle.ge_spool.proofs.Places.{end-found}
use Rattle.ge_serve.specs.Ledgers.{ledger_of}
use Rattle.ge_top.proofs.TracedBatches.{traced-alone}

-- the ledger of a journal at rest is that of what its areas stand for
pub ledger-settled : (s : Spool) (a b : List Content) (state : State) → IsSettled s a b state → ledger_of s ≡ ledger_in state
ledger-settled s a b state is =
    let bytes = picked s.second (read_bytes a) (read_bytes b) in
    let end = end-found (length (drop (18 + length state.snapshot) bytes)) (18 + length state.snapshot) (drop (18 + length state.snapshot) bytes) state.records s.end is.listed in
    λ i. record { format = is.format i; generation = is.generation i; count = is.count i; end = end i }

module _ (plan : Cluster → Event → Planned) (size : ℕ) where
  -- one batch more
  fits-step : (k : ℕ) (l : Ledger) (c : Cluster) (events batch rest : List Event) (marks ms more : List Bool) → take size events ≡ batch → drop size events ≡ rest
      → take size marks ≡ ms → drop size marks ≡ more → FitsBatch l (traced plan c batch ms)
      → BatchesFit plan size k (next_ledger l (traced plan c batch ms)) (traced plan c batch ms).cluster rest more → BatchesFit plan size (suc k) l c events marks
  fits-step k l c events batch rest marks ms more first behind first_marks marks_behind fits later = rw (first, behind, first_marks, marks_behind) (fits, later)

  ledger-step : (k : ℕ) (l : Ledger) (c : Cluster) (events batch rest : List Event) (marks ms more : List Bool) → take size events ≡ batch → drop size events ≡ rest
      → take size marks ≡ ms → drop size marks ≡ more
      → ledger_after plan size (suc k) l c events marks ≡ ledger_after plan size k (next_ledger l (traced plan c batch ms)) (traced plan c batch ms).cluster rest more
  ledger-step k l c events batch rest marks ms more first behind first_marks marks_behind = rw (first, behind, first_marks, marks_behind) refl

  traced-none : (c : Cluster) (events : List Event) → traced plan c events [] ≡ ends_at false c
  traced-none c [] = refl
  traced-none c (e ∷ events) = refl

  -- without marks nothing is kept
  pub nothing-fits : (k : ℕ) (l : Ledger) (c : Cluster) (events : List Event) → BatchesFit plan size k l c events []
  nothing-fits zero l c events = tt
  nothing-fits (suc k) l c events =
      let t = traced plan c (take size events) [] in
      fits-step k l c events (take size events) (drop size events) [] [] [] refl refl (take-nil size) (drop-nil size)
      (inl (ap (λ (t : Traced). t.entries) (traced-none c (take size events)))) (nothing-fits k (next_ledger l t) t.cluster (drop size events))

  module _ (l : Ledger) (c : Cluster) (batch rest : List Event) (ms : List Bool) (counted : length ms ≡ length batch) where
    -- a batch, behind which there are no marks
    pub last-fits : FitsBatch l (traced plan c batch ms) → length batch ≤ size → (k : ℕ) → BatchesFit plan size k l c (batch ++ rest) ms
    last-fits fits few zero = tt
    last-fits fits few (suc k) =
        let others = take (size - length batch) rest in
        let t = traced plan c (batch ++ others) ms in
        let short : length ms ≤ size = omega (arith, counted, few) in
        let whole : length batch + (size - length batch) ≡ size = omega (arith, few) in
        let first : take size (batch ++ rest) ≡ batch ++ others = subst (λ n. take n (batch ++ rest) ≡ batch ++ others) whole (take-append-add batch rest (size - length batch)) in
        fits-step k l c (batch ++ rest) (batch ++ others) (drop size (batch ++ rest)) ms ms [] first refl (take_all size ms short)
        (drop_of_length-le ms short) (subst (λ (t : Traced). FitsBatch l t) (sym (traced-alone plan c batch others ms counted)) fits)
        (nothing-fits k (next_ledger l t) t.cluster (drop size (batch ++ rest)))

    -- a full batch before others
    module _ (full : length batch ≡ size) (more : List Bool) where
      first : take size (batch ++ rest) ≡ batch
      first = subst (λ n. take n (batch ++ rest) ≡ batch) full (take-append_seam batch rest)

      behind : drop size (batch ++ rest) ≡ rest
      behind = subst (λ n. drop n (batch ++ rest) ≡ rest) full (drop-append_seam batch rest)

      first-marks : take size (ms ++ more) ≡ ms
      first-marks = subst (λ n. take n (ms ++ more) ≡ ms) (counted ∙ full) (take-append_seam ms more)

      marks-behind : drop size (ms ++ more) ≡ more
      marks-behind = subst (λ n. drop n (ms ++ more) ≡ more) (counted ∙ full) (drop-append_seam ms more)

      pub full-fits : FitsBatch l (traced plan c batch ms)
          → ((j : ℕ) → BatchesFit plan size j (next_ledger l (traced plan c batch ms)) (traced plan c batch ms).cluster rest more)
          → (k : ℕ) → BatchesFit plan size k l c (batch ++ rest) (ms ++ more)
      full-fits fits later zero = tt
      full-fits fits later (suc k) = fits-step k l c (batch ++ rest) batch rest (ms ++ more) ms more first behind first-marks marks-behind fits (later k)

      pub full-ledger : (k : ℕ) → ledger_after plan size (suc k) l c (batch ++ rest) (ms ++ more)
          ≡ ledger_after plan size k (next_ledger l (traced plan c batch ms)) (traced plan c batch ms).cluster rest more
      full-ledger k = ledger-step k l c (batch ++ rest) batch rest (ms ++ more) ms more first behind first-marks marks-behind
