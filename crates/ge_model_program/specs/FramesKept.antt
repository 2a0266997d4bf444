-- How a journal keeps what the frames of a connection changed, the events of each as one batch.
use Rattle.std.specs.Prelude.{◌≡◌, ℕ, Bool, true, false, List, [], ◌∷◌, length, drop}
use Rattle.ge_outside.specs.Clocks.{Answers, next_answer, later_answers}
use Rattle.ge_model_rows.specs.ClusterRows.{Cluster}
use Rattle.ge_model_rows.specs.EventRows.{Event, Planned}
use Rattle.ge_model_wire.specs.Frames.{frames_of}
use Rattle.ge_model_program.specs.Answered.{FrameMarks, frame_trace, answered}
use Rattle.ge_model_program.specs.Keeping.{Ledger, FitsBatch, HasNoRoom, next_ledger}

-- the one ledger where the master stops, else the other
abbrev pub ledger_where : Bool → Ledger → Ledger → Ledger
ledger_where true l more = l
ledger_where false l more = more

-- a fact of what follows a frame, where that doesn't stop the master
abbrev pub OnMore : Bool → Type 0 → Type 0
OnMore true P = Unit {0}
OnMore false P = P

module _ (plan : Cluster → Event → Planned) where
  -- the ledger after frames with these marks
  abbrev pub frames_ledger : Ledger → Cluster → Answers → List (List ℕ) → List FrameMarks → Ledger
  frames_ledger l c clock payloads [] = l
  frames_ledger l c clock [] (m ∷ marks) = l
  frames_ledger l c clock (payload ∷ payloads) (m ∷ marks) =
      let t = frame_trace plan c (next_answer clock) payload m in
      ledger_where t.stopped (next_ledger l t) (frames_ledger (next_ledger l t) t.cluster (later_answers clock) payloads marks)

  -- each of those frames fits
  abbrev pub FramesFit : Ledger → Cluster → Answers → List (List ℕ) → List FrameMarks → Type 0
  FramesFit l c clock payloads [] = Unit {0}
  FramesFit l c clock [] (m ∷ marks) = Unit {0}
  FramesFit l c clock (payload ∷ payloads) (m ∷ marks) =
      let t = frame_trace plan c (next_answer clock) payload m in
      FitsBatch l t × OnMore t.stopped (FramesFit (next_ledger l t) t.cluster (later_answers clock) payloads marks)

  -- Frames of a connection with these marks are answered, and there is no room for what the next one changes, which is in hand.
  pub record IsFull (l : Ledger) (start : Cluster) (clock : Answers) (bytes : List ℕ) (marks hand : List FrameMarks) (place : ℕ) : Type 0 where
    pub mark : FrameMarks
    pub payload : List ℕ
    pub others : List (List ℕ)
    pub in_hand : hand ≡ mark ∷ []
    pub next : drop (length marks) (frames_of bytes) ≡ payload ∷ others
    pub going : (answered plan start clock (frames_of bytes) marks).stopped ≡ false
    pub room : HasNoRoom (frames_ledger l start clock (frames_of bytes) marks)
        (frame_trace plan (answered plan start clock (frames_of bytes) marks).cluster (next_answer (answered plan start clock (frames_of bytes) marks).clock) payload mark) place
