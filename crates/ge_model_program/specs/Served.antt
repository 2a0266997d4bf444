-- Connections that were served one after the other and given back.
use Rattle.std.specs.Prelude.{◌≡◌, ℕ, ◌<◌, Bool, true, false, List, [], ◌∷◌, ◌++◌, length, Some}
use Rattle.std.specs.List.{sum_by}
use Rattle.ge_outside.specs.Clocks.{Answers}
use Rattle.ge_outside.specs.Doors.{ClosedLink}
use Rattle.ge_model_rows.specs.ClusterRows.{Cluster}
use Rattle.ge_model_rows.specs.EventRows.{Event, Planned}
use Rattle.ge_model_wire.specs.Frames.{frames_of}
use Rattle.ge_model_program.specs.Answered.{FrameMarks}
use Rattle.ge_model_program.specs.FramesKept.{frames_ledger, FramesFit}
use Rattle.ge_model_program.specs.Keeping.{Ledger}
use Rattle.ge_model_program.specs.Links.{EndsAs}
use Rattle.ge_model_program.specs.declared.LinkEnd.{LinkEnd}
use Rattle.ge_model_program.specs.declared.LinkEnd.TheVariants as end

-- how many frames connections have
abbrev pub frames_in : List (List ℕ) → ℕ
frames_in came = sum_by (λ bytes. length (frames_of bytes)) came

-- the ends after which a connection is given back: those by a fault have it counted, and want of memory is none
abbrev pub IsGivenBack : LinkEnd → ℕ → Type 0
IsGivenBack end.Done faults = Unit {0}
IsGivenBack end.Stopped faults = Unit {0}
IsGivenBack end.Read faults = 0 < faults
IsGivenBack end.Write faults = 0 < faults
IsGivenBack (end.Frame place) faults = Unit {0}
IsGivenBack end.Long faults = Unit {0}
IsGivenBack end.Memory faults = ⊥

-- what follows a connection: nothing, where it stopped the master
abbrev pub Follows : Bool → List (List ℕ) → List ClosedLink → (same rest : Type 0) → Bool → Type 0
Follows true coming links same rest stopped = (coming ≡ []) × (links ≡ []) × same × (stopped ≡ true)
Follows false coming links same rest stopped = rest

module _ (plan : Cluster → Event → Planned) where
  -- what a journal keeps of all frames of a connection, those in hand too; each fits
  abbrev pub KeepsFrames : Ledger → Cluster → Answers → List ℕ → Ledger → List FrameMarks → List FrameMarks → Cluster → Cluster → Type 0
  KeepsFrames l start clock bytes kept marks hand one other = (kept ≡ frames_ledger plan l start clock (frames_of bytes) (marks ++ hand)) × FramesFit plan l start clock (frames_of bytes) (marks ++ hand)

  -- What one connection leaves that was given back: a ledger, a cluster and what the clock has yet to answer, and whether it stopped the
  -- master.
  pub record LinkLeaves (l : Ledger) (start : Cluster) (clock : Answers) (bytes : List ℕ) (link : ClosedLink) (kept : Ledger) (new : Cluster) (later : Answers) (stopped : Bool) : Type 0 where
    pub end : LinkEnd
    pub ends : EndsAs plan start clock bytes (KeepsFrames l start clock bytes kept) (Some []) (Some link.written) (Some later) end new stopped
    pub given : IsGivenBack end link.faults

  -- Connections that were served one after the other, of those that came, lead from a ledger and a cluster with what the clock is to answer to
  -- others. Only the last of them stops the master.
  abbrev pub Served : Ledger → Cluster → Answers → List (List ℕ) → List ClosedLink → Ledger → Cluster → Answers → Bool → Type 0
  Served l start clock [] [] kept new later stopped = (new ≡ start) × (later ≡ clock) × (stopped ≡ false) × (kept ≡ l)
  Served l start clock (bytes ∷ coming) (link ∷ links) kept new later stopped =
      (mid : Cluster) × (between : Answers) × (ended : Bool) × (middle : Ledger) × LinkLeaves l start clock bytes link middle mid between ended
      × Follows ended coming links ((new ≡ mid) × (later ≡ between) × (kept ≡ middle)) (Served middle mid between coming links kept new later stopped) stopped
  Served l start clock [] (link ∷ links) kept new later stopped = ⊥
  Served l start clock (bytes ∷ coming) [] kept new later stopped = ⊥
