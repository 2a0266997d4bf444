-- What answering one frame comes to.
use Rattle.std.specs.Prelude.{◌≡◌, ◌⊎◌, ℕ, ◌+◌, ◌≤◌, ◌||◌, List, Option, Some, None, Result, Ok, Err, OnOk}
use Rattle.ge_outside.specs.Clocks.{Answers, Ticks}
use Rattle.ge_model_rows.specs.ClusterRows.{Cluster}
use Rattle.ge_model_rows.specs.EventRows.{Event, Planned}
use Rattle.ge_model_program.specs.Traced.{Traced}
use Rattle.ge_model_program.specs.Keeping.{FitsBatch, HasNoRoom, next_ledger}
use Rattle.ge_model_program.specs.Runs.{EachStandsForOneOf}
use Rattle.ge_model_wire.specs.Frames.{reply_frame}
use Rattle.ge_model_program.specs.Answered.{FrameMarks, own_reply, framed, frame_trace}
use Rattle.ge_master.specs.Areas.{Areas, HasFailed}
use Rattle.ge_master.specs.Homes.{Parts, IsHome}
use Rattle.ge_master.specs.Ledgers.{ledger_of}
use Rattle.ge_master.specs.declared.faults.Stop.{Stop}
use Rattle.ge_master.specs.declared.faults.Stop.TheVariants.{Disk, Full, Spent, Dead}
use Rattle.ge_serve.specs.Leaving.{OnFull}

-- the master is as it was, or as a trace leaves it that fits, and so is what its journal keeps
abbrev pub IsAsBefore : Parts → Parts → Type 0
IsAsBefore old new = (new.cluster ≡ old.cluster) × (new.stopping ≡ old.stopping) × (ledger_of new.spool ≡ ledger_of old.spool)

abbrev pub IsAfter : Traced → Parts → Parts → Type 0
IsAfter t old new =
    (new.cluster ≡ t.cluster) × (new.stopping ≡ (old.stopping || t.stopped)) × (ledger_of new.spool ≡ next_ledger (ledger_of old.spool) t)
    × FitsBatch (ledger_of old.spool) t

-- a disk is blamed for a reason, and a master that lives is not dead
abbrev pub BlamesDisk : Stop → Type 0 → Type 0
BlamesDisk Disk reason = reason
BlamesDisk (Full place) reason = Unit {0}
BlamesDisk Spent reason = Unit {0}
BlamesDisk Dead reason = ⊥

-- the text of the reply to the frame's own event, or nothing for want of memory
abbrev pub RepliesWith : Traced → Parts → Parts → Result (Option (List ℕ)) Stop → Type 0 → Type 0
RepliesWith t old new (Ok (Some text)) reason = (framed (own_reply t.replies) ≡ reply_frame text) × IsAfter t old new
RepliesWith t old new (Ok None) reason = IsAsBefore old new ⊎ IsAfter t old new
RepliesWith t old new (Err stop) reason = BlamesDisk stop reason × OnFull stop (λ place. HasNoRoom (ledger_of old.spool) t place)

-- The frame takes one answer of the clock, and its events are handled as one batch.
pub record AnswersFrame (plan : Cluster → Event → Planned) (old new : Parts) (payload : List ℕ) (clock later : Option Answers) (result : Result (Option (List ℕ)) Stop)
    (before after : Areas) : Type 0 where
  pub moment : ℕ
  pub ticks : Ticks clock later moment
  pub marks : FrameMarks
  pub replies : RepliesWith (frame_trace plan old.cluster moment payload marks) old new result (HasFailed before after)
  pub images : IsHome old before → EachStandsForOneOf after.a after.b old.cluster (frame_trace plan old.cluster moment payload marks).cluster
  pub home : IsHome old before → OnOk result (IsHome new after)
  pub syncs : after.syncs ≤ before.syncs + 3
