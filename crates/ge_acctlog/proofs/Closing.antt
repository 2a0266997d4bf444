-- The end of a log is closed and lines are appended: what the bytes stand for then, and what a stop may leave.
use Rattle.std.specs.Prelude.{◌≡◌, ◌⊎◌, ℕ, ◌+◌, ◌<◌, ◌≤◌, Bool, true, false, not, ◌==◌, ◌&&◌, nat_lt, List, [], ◌∷◌, ◌++◌, length, drop, slice_index, Option, Ok, refl}
use Rattle.std.proofs.Common.{arith, ◌∙◌, sym, ap, inl, inr, ⊎_elim, length-append}
use Rattle.std.proofs.lemmas.List.{drop_at, get_or-drop}
use Rattle.std.proofs.lemmas.Bool.{lt-ltb, ltb-true, ltb-false}
use Rattle.ge_limits.specs.Limits as limit
use Rattle.ge_model_journal.specs.Disk.{overwritten}
use Rattle.ge_spool.specs.Steps.{IsBehindImage, opened_behind}
use Rattle.ge_spool.proofs.Reading.{either}
use Rattle.ge_model_log.specs.Records.{records_behind}
use Rattle.ge_acctlog.specs.Gates.{closed_at, IsClosedAt, needs_gate, with_gate, IsGateImage}
use Rattle.ge_acctlog.proofs.Parts.{IsLog, HasRecords}
use Rattle.ge_acctlog.proofs.Finding.{found-back, found-reads, log-reads}
use Rattle.ge_acctlog.proofs.Tearing.{length-log, behind-log, behind-done, torn-end, closed-log, whole-log, open-end}

and-true : (a b : Bool) → (a && b) ≡ true → (a ≡ true) × (b ≡ true)
and-true true b e = (refl, e)
and-true false b e = absurd (cc)

and-not : (a b : Bool) → (a && not b) ≡ true → (a ≡ true) × (b ≡ false)
and-not true true e = absurd (cc)
and-not true false e = (refl, refl)
and-not false b e = absurd (cc)

or-not : (a b : Bool) → (a && not b) ≡ false → (a ≡ false) ⊎ (b ≡ true)
or-not true true e = inr refl
or-not true false e = absurd (cc)
or-not false b e = inl refl

pub closed-parts : (bytes : List ℕ) (end : ℕ) → IsClosedAt bytes end → (end < length bytes) × ((slice_index bytes end == 1) ≡ false)
closed-parts bytes end closed =
    let both = and-not (nat_lt end (length bytes)) (slice_index bytes end == 1) closed in (ltb-true end (length bytes) both.0, both.1)

is-closed : (bytes : List ℕ) (end : ℕ) → end < length bytes → (slice_index bytes end == 1) ≡ false → IsClosedAt bytes end
is-closed bytes end within closed = let long : nat_lt end (length bytes) ≡ true = lt-ltb end (length bytes) within in rw (long, closed) refl

module _ {X : Type 0} (read_body : List ℕ → Option (List X)) where
  pub within-end : (bytes : List ℕ) (all : List X) (end : ℕ) → records_behind read_body (length bytes) 0 bytes [] ≡ Ok (all, end) → end ≤ length bytes
  within-end bytes all end read =
      let found = found-back read_body (length bytes) 0 bytes [] all end (omega arith) read in
      omega (arith, found.reached, ap length found.whole, length-append found.front found.tail)

  -- a whole log, by its bytes
  pub log-back : (bytes : List ℕ) (all : List X) (end : ℕ) → records_behind read_body (length bytes) 0 bytes [] ≡ Ok (all, end) → IsClosedAt bytes end → IsLog read_body bytes all end
  log-back bytes all end read closed =
      let parts = closed-parts bytes end closed in
      whole-log read_body bytes all end (found-back read_body (length bytes) 0 bytes [] all end (omega arith) read) parts.0 parts.1

  log-closed : (bytes : List ℕ) (all : List X) (end : ℕ) → IsLog read_body bytes all end → IsClosedAt bytes end
  log-closed bytes all end log =
      let behind : drop end bytes ≡ log.gate ∷ log.rest = ap (λ xs. drop end xs) log.whole ∙ drop_at log.front (log.gate ∷ log.rest) end (sym log.place) in
      let first : slice_index (drop end bytes) 0 ≡ slice_index bytes end = get_or-drop end bytes 0 0 ∙ ap (λ k. slice_index bytes k) (omega arith) in
      let here : slice_index bytes end ≡ log.gate = sym first ∙ ap (λ xs. slice_index xs 0) behind in
      is-closed bytes end (length-log read_body bytes all end log) (rw here log.closed)

  -- what a stop may leave while the end is closed
  pub gate-image : (bytes image : List ℕ) (all : List X) (end : ℕ) → records_behind read_body (length bytes) 0 bytes [] ≡ Ok (all, end) → IsGateImage bytes end image
      → records_behind read_body (length image) 0 image [] ≡ Ok (all, end)
  gate-image bytes image all end read torn =
      let found = found-back read_body (length bytes) 0 bytes [] all end (omega arith) read in
      let needed = and-not (nat_lt end limit.area_bytes) (closed_at bytes end) torn.needed in
      let missing : (length bytes ≡ end) ⊎ ((slice_index bytes end == 1) ≡ true) = ⊎_elim
      (λ (past : nat_lt end (length bytes) ≡ false). inl (omega (arith, ltb-false end (length bytes) past, within-end bytes all end read)))
      (λ (opened : (slice_index bytes end == 1) ≡ true). inr opened)
      (or-not (nat_lt end (length bytes)) (slice_index bytes end == 1) needed.1) in
      found-reads read_body image [] all 0 end (torn-end read_body bytes image all end found (open-end read_body bytes all end found missing) torn.torn)

  -- and what the bytes stand for once it is closed
  pub gate-done : (bytes : List ℕ) (all : List X) (end : ℕ) → records_behind read_body (length bytes) 0 bytes [] ≡ Ok (all, end)
      → (records_behind read_body (length (with_gate bytes end)) 0 (with_gate bytes end) [] ≡ Ok (all, end)) × (end < limit.area_bytes → IsClosedAt (with_gate bytes end) end)
  gate-done bytes all end read = ⊎_elim
      (λ (needed : needs_gate bytes end ≡ true). rw needed (let log = closed-log read_body bytes all end (found-back read_body (length bytes) 0 bytes [] all end (omega arith) read) in (
        log-reads read_body (overwritten bytes end (0 ∷ [])) all end log,
        λ below. log-closed (overwritten bytes end (0 ∷ [])) all end log,
      )))
      (λ (needless : needs_gate bytes end ≡ false). rw needless (
        read,
        λ below. ⊎_elim
            (λ (far : nat_lt end limit.area_bytes ≡ false). absurd (omega (arith, ltb-false end limit.area_bytes far, below)))
            (λ (closed : closed_at bytes end ≡ true). closed)
            (or-not (nat_lt end limit.area_bytes) (closed_at bytes end) needless),
      ))
      (either (needs_gate bytes end))

  -- records were written, or part of them
  pub behind-image : (bytes image : List ℕ) (all more : List X) (end : ℕ) (piece records : List ℕ) → records_behind read_body (length bytes) 0 bytes [] ≡ Ok (all, end)
      → IsClosedAt bytes end → HasRecords read_body records more → 1 ∷ piece ≡ records ++ 0 ∷ [] → IsBehindImage end piece bytes image
      → (records_behind read_body (length image) 0 image [] ≡ Ok (all, end)) ⊎ (records_behind read_body (length image) 0 image [] ≡ Ok (all ++ more, end + length records))
  behind-image bytes image all more end piece records read closed has is_piece behind =
      ⊎_elim
      (λ log. inl (log-reads read_body image all end log))
      (λ log. inr (log-reads read_body image (all ++ more) (end + length records) log))
      (behind-log read_body bytes image all more end piece records (log-back bytes all end read closed) has is_piece behind)

  -- they were written
  pub opened-log : (bytes : List ℕ) (all more : List X) (end : ℕ) (piece records : List ℕ) → records_behind read_body (length bytes) 0 bytes [] ≡ Ok (all, end)
      → IsClosedAt bytes end → HasRecords read_body records more → 1 ∷ piece ≡ records ++ 0 ∷ []
      → (records_behind read_body (length (opened_behind end piece bytes)) 0 (opened_behind end piece bytes) [] ≡ Ok (all ++ more, end + length records))
      × IsClosedAt (opened_behind end piece bytes) (end + length records)
  opened-log bytes all more end piece records read closed has is_piece =
      let log = behind-done read_body bytes all more end piece records (log-back bytes all end read closed) has is_piece in (
        log-reads read_body (opened_behind end piece bytes) (all ++ more) (end + length records) log,
        log-closed (opened_behind end piece bytes) (all ++ more) (end + length records) log,
      )
