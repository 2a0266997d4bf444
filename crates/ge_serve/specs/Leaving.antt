-- What the areas are left with after frames of a connection.
use Rattle.std.specs.Prelude.{◌≡◌, ◌⊎◌, ℕ, ◌+◌, ◌*◌, ◌≤◌, List, ◌++◌, length}
use Rattle.ge_outside.specs.Clocks.{Answers}
use Rattle.ge_model_rows.specs.ClusterRows.{Cluster}
use Rattle.ge_model_rows.specs.EventRows.{Event, Planned}
use Rattle.ge_model_wire.specs.Frames.{frames_of}
use Rattle.ge_model_program.specs.Answered.{FrameMarks}
use Rattle.ge_model_program.specs.FramesKept.{frames_ledger, FramesFit, IsFull}
use Rattle.ge_model_program.specs.Runs.{EachStandsForOneOf}
use Rattle.ge_model_program.specs.declared.LinkEnd.{LinkEnd}
use Rattle.ge_model_program.specs.declared.LinkEnd.TheVariants as end
use Rattle.ge_master.specs.Areas.{Areas}
use Rattle.ge_master.specs.Homes.{Parts, IsHome}
use Rattle.ge_master.specs.Ledgers.{ledger_of}
use Rattle.ge_master.specs.declared.faults.Stop.{Stop}
use Rattle.ge_master.specs.declared.faults.Stop.TheVariants.{Disk, Full, Spent, Dead}

-- For a master that was at home every pair of what a stop may leave now stands for the one cluster or the other. Each frame takes three
-- syncs at most.
pub record Leaves (before after : Areas) (home : Type 0) (frames : ℕ) (c d : Cluster) : Type 0 where
  pub images : home → EachStandsForOneOf after.a after.b c d
  pub syncs : after.syncs ≤ before.syncs + 3 * frames

-- a fact of the place where an area was full
abbrev pub OnFull : Stop → (ℕ → Type 0) → Type 0
OnFull Disk P = Unit {0}
OnFull (Full place) P = P place
OnFull Spent P = Unit {0}
OnFull Dead P = Unit {0}

-- old: the master when the connection began; bytes and clock: what it has to read, and what the clock is to answer
module _ (plan : Cluster → Event → Planned) (old : Parts) (before after : Areas) (bytes : List ℕ) (clock : Answers) where
  -- frames with these marks are kept, by a journal that goes on, and each fits
  abbrev pub FitSoFar : List FrameMarks → Type 0
  FitSoFar marks = FramesFit plan (ledger_of old.spool) old.cluster clock (frames_of bytes) marks

  abbrev pub HasKept : Parts → List FrameMarks → Type 0
  HasKept new marks = (ledger_of new.spool ≡ frames_ledger plan (ledger_of old.spool) old.cluster clock (frames_of bytes) marks) × FitSoFar marks

  abbrev pub LeavesHand : List FrameMarks → List FrameMarks → Cluster → Cluster → Type 0
  LeavesHand marks hand c d = Leaves before after (IsHome old before) (length (marks ++ hand)) c d

  -- the areas with a journal that keeps all frames, those in hand too
  abbrev pub Keeps : Parts → List FrameMarks → List FrameMarks → Cluster → Cluster → Type 0
  Keeps new marks hand c d = LeavesHand marks hand c d × HasKept new (marks ++ hand)

  -- with one that keeps all frames, or all but those in hand
  abbrev pub KeepsSome : Parts → List FrameMarks → List FrameMarks → Cluster → Cluster → Type 0
  KeepsSome new marks hand c d = LeavesHand marks hand c d × (HasKept new marks ⊎ HasKept new (marks ++ hand))

  -- at each end: where memory ran out, the frame in hand may not be handled
  abbrev pub KeepsAt : LinkEnd → Parts → List FrameMarks → List FrameMarks → Cluster → Cluster → Type 0
  KeepsAt end.Done = Keeps
  KeepsAt end.Stopped = Keeps
  KeepsAt end.Read = Keeps
  KeepsAt end.Write = Keeps
  KeepsAt (end.Frame place) = Keeps
  KeepsAt end.Long = Keeps
  KeepsAt end.Memory = KeepsSome

  -- where the master stopped: at Full there is no room for the frame in hand, and the place is where the area would end
  abbrev pub LeavesAt : Stop → List FrameMarks → List FrameMarks → Cluster → Cluster → Type 0
  LeavesAt stop marks hand c d = LeavesHand marks hand c d × FitSoFar marks × OnFull stop (λ place. IsFull plan (ledger_of old.spool) old.cluster clock bytes marks hand place)
