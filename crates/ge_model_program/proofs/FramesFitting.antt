-- Where frames fit, and the next one does, all of them do.
use Rattle.std.proofs.Common.{◌≡◌, ℕ, Bool, true, false, List, [], ◌∷◌, ◌++◌, length, drop, subst}
use Rattle.ge_outside.specs.Clocks.{Answers, next_answer, later_answers}
use Rattle.ge_model_rows.specs.ClusterRows.{Cluster}
use Rattle.ge_model_rows.specs.EventRows.{Event, Planned}
use Rattle.ge_model_program.specs.Answered.{FrameMarks, unless_stopped, frame_trace, answered}
use Rattle.ge_model_program.specs.FramesKept.{OnMore, ledger_where, frames_ledger, FramesFit}
use Rattle.ge_model_program.specs.Keeping.{Ledger, FitsBatch, next_ledger}

first-is : (p payload : List ℕ) (ps others : List (List ℕ)) → ◌≡◌ {A = List (List ℕ)} (p ∷ ps) (payload ∷ others) → payload ≡ p
first-is p payload ps others same = cc

-- without marks nothing is asked
pub fits-none : (plan : Cluster → Event → Planned) (l : Ledger) (c : Cluster) (clock : Answers) (payloads : List (List ℕ)) → FramesFit plan l c clock payloads []
fits-none plan l c clock [] = tt
fits-none plan l c clock (p ∷ ps) = tt

on-none : (plan : Cluster → Event → Planned) (stops : Bool) (l : Ledger) (c : Cluster) (clock : Answers) (payloads : List (List ℕ)) → OnMore stops (FramesFit plan l c clock payloads [])
on-none plan true l c clock payloads = tt
on-none plan false l c clock payloads = fits-none plan l c clock payloads

module _ (plan : Cluster → Event → Planned) (m : FrameMarks) (payload : List ℕ) (others : List (List ℕ)) where
  -- what follows a frame
  behind : (stops : Bool) (l : Ledger) (d : Cluster) (k : Answers) (ps : List (List ℕ)) (ms : List FrameMarks)
      → ((answered plan d k ps ms).stopped ≡ false → FramesFit plan l d k ps ms
      → FitsBatch (frames_ledger plan l d k ps ms) (frame_trace plan (answered plan d k ps ms).cluster (next_answer (answered plan d k ps ms).clock) payload m)
      → FramesFit plan l d k ps (ms ++ m ∷ []))
      → (unless_stopped stops d k (answered plan d k ps ms)).stopped ≡ false → OnMore stops (FramesFit plan l d k ps ms)
      → FitsBatch (ledger_where stops l (frames_ledger plan l d k ps ms))
      (frame_trace plan (unless_stopped stops d k (answered plan d k ps ms)).cluster (next_answer (unless_stopped stops d k (answered plan d k ps ms)).clock) payload m)
      → OnMore stops (FramesFit plan l d k ps (ms ++ m ∷ []))
  behind true l d k ps ms step going so_far fit = tt
  behind false l d k ps ms step going so_far fit = step going so_far fit

  pub fits-more : (l : Ledger) (c : Cluster) (clock : Answers) (payloads : List (List ℕ)) (marks : List FrameMarks) → drop (length marks) payloads ≡ payload ∷ others
      → (answered plan c clock payloads marks).stopped ≡ false → FramesFit plan l c clock payloads marks
      → FitsBatch (frames_ledger plan l c clock payloads marks)
      (frame_trace plan (answered plan c clock payloads marks).cluster (next_answer (answered plan c clock payloads marks).clock) payload m)
      → FramesFit plan l c clock payloads (marks ++ m ∷ [])
  fits-more l c clock [] [] next going so_far fit = tt
  fits-more l c clock (p ∷ ps) [] next going so_far fit =
      let t = frame_trace plan c (next_answer clock) p m in
      (subst (λ (x : List ℕ). FitsBatch l (frame_trace plan c (next_answer clock) x m)) (first-is p payload ps others next) fit, on-none plan t.stopped (next_ledger l t) t.cluster (later_answers clock) ps)
  fits-more l c clock [] (m0 ∷ ms) next going so_far fit = tt
  fits-more l c clock (p ∷ ps) (m0 ∷ ms) next going so_far fit =
      let t = frame_trace plan c (next_answer clock) p m0 in (
        so_far.0,
        behind t.stopped (next_ledger l t) t.cluster (later_answers clock) ps ms
            (λ going so_far fit. fits-more (next_ledger l t) t.cluster (later_answers clock) ps ms next going so_far fit) going so_far.1 fit,
      )
