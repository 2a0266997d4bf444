-- Without faults a run does all, or wants memory.
use Rattle.std.proofs.Common.{◌≡◌, ◌⊎◌, ℕ, ◌<◌, List, [], ◌∷◌, length, drop, Ok, refl, ◌∙◌, sym, inl, inr, ⊎_elim, arith}
use Rattle.ge_limits.specs.Limits as limit
use Rattle.ge_model_program.proofs.Answered.{first-or-other, no-status}
use Rattle.ge_model_rows.specs.AccountRows.{Line}
use Rattle.ge_master.specs.Areas.{Areas}
use Rattle.ge_gridacct.specs.Flushes.{Flushes, FlushTells, AreFlushable}
use Rattle.ge_gridacct.specs.Fronts.{IsFront, Fits, IsFull}
use Rattle.ge_gridacct.specs.Looks.{Looks, IsShowable}
use Rattle.ge_gridacct.specs.Sights.{Sight, IsFailure}

failed : (status : ℕ) → IsFailure status → (status ≡ 7 → ⊥) → (status ≡ 8 → ⊥) → status ≡ 10
failed status one write disk =
    ⊎_elim (λ is. absurd (write is))
    (λ others. ⊎_elim (λ is. absurd (disk is))
    (λ others. ⊎_elim (λ is. is) (λ none. absurd (no-status status none)) (first-or-other 10 status [] others))
    (first-or-other 8 status (10 ∷ []) others))
    (first-or-other 7 status (8 ∷ 10 ∷ []) one)

both : (end : ℕ) (lines : List Line) → Fits end lines → IsFull end lines → ⊥
both end lines fits full = let within = fits full.k full.within in let past = full.past in omega (arith, within, past)

pub flush_answered : (status : ℕ) (a b : Areas) (x y : Sight) → AreFlushable a b x y → Flushes status a b x y → (status ≡ 0) ⊎ (status ≡ 10)
flush_answered status a b x y able flushes =
    ⊎_elim (λ tells. inl (done tells))
    (λ failure. inr (failed status failure (λ is. able.writes (flushes.written is)) (λ is. ⊎_elim able.areas able.disk (flushes.disk is))))
    ((flushes.flushed able.start able.spool_says).answer (Ok (able.held, able.end)) able.log_says)
  where
    done : FlushTells status (Ok (able.held, able.end)) able.start.lines → status ≡ 0
    done (inl fits) = fits.2
    done (inr (inl full)) = absurd (both able.end (drop (length able.held) able.start.lines) able.fits full.1)
    done (inr (inr other)) = absurd (other.0 able.front)

pub look_answered : (status : ℕ) (text : List Line → List ℕ) (x y : Sight) → IsShowable x y → Looks status text x y → (status ≡ 0) ⊎ (status ≡ 10)
look_answered status text x y able looks =
    ⊎_elim inl
    (λ failure. inr (failed status failure (λ is. able.writes (looks.written is)) (λ is. able.disk (looks.disk is))))
    (looks.answer (Ok (able.lines, able.end)) able.says)
