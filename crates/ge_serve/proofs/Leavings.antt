-- What the areas are left with, one frame more.
use Rattle.std.proofs.Common.{◌≡◌, ◌⊎◌, ℕ, ◌+◌, ◌*◌, ◌≤◌, List, [], ◌∷◌, ◌++◌, length, Option, Some, None, Result, Ok, Err, ap, ◌∙◌, sym, subst, inl, inr, ⊎_elim, arith}
use Rattle.std.proofs.lemmas.List.{append-nil, length-append}
use Rattle.ge_outside.specs.Clocks.{Answers}
use Rattle.ge_model_rows.specs.ClusterRows.{Cluster}
use Rattle.ge_model_rows.specs.EventRows.{Event, Planned}
use Rattle.ge_model_wire.specs.Frames.{frames_of}
use Rattle.ge_model_program.specs.Traced.{Traced}
use Rattle.ge_model_program.specs.Answered.{FrameMarks, frame_trace}
use Rattle.ge_model_program.specs.FramesKept.{frames_ledger, FramesFit, IsFull}
use Rattle.ge_model_program.specs.Keeping.{Ledger, FitsBatch, HasNoRoom, next_ledger}
use Rattle.ge_model_program.specs.declared.LinkEnd.{LinkEnd}
use Rattle.ge_model_program.specs.declared.LinkEnd.TheVariants as end
use Rattle.ge_model_program.proofs.FramesFitting.{fits-none}
use Rattle.ge_model_program.proofs.Serving.{IsNextFrame, ledger-none}
use Rattle.ge_master.specs.Areas.{Areas}
use Rattle.ge_master.specs.Homes.{Parts, IsHome}
use Rattle.ge_master.specs.Ledgers.{ledger_of}
use Rattle.ge_master.specs.declared.faults.Stop.{Stop}
use Rattle.ge_master.specs.declared.faults.Stop.TheVariants as stop
use Rattle.ge_master.proofs.AtHome.{home-stands}
use Rattle.ge_serve.specs.Leaving.{Leaves, HasKept, LeavesHand, Keeps, KeepsSome, KeepsAt, LeavesAt, OnFull}
use Rattle.ge_serve.specs.Replies.{AnswersFrame}

-- what follows where an area was full
pub on-full : (s : Stop) (P Q : ℕ → Type 0) → ((place : ℕ) → P place → Q place) → OnFull s P → OnFull s Q
on-full stop.Disk P Q step full = tt
on-full (stop.Full place) P Q step full = step place full
on-full stop.Spent P Q step full = tt
on-full stop.Dead P Q step full = tt

-- nothing was done
pub leaves-start : (start : Parts) (before : Areas) → Leaves before before (IsHome start before) 0 start.cluster start.cluster
leaves-start start before = record { images = λ home c d of_c of_d. inl (home-stands start before home c d of_c of_d); syncs = omega arith }

module _ (plan : Cluster → Event → Planned) (start : Parts) (before : Areas) (bytes : List ℕ) (clock : Answers) where
  start-fits : FramesFit plan (ledger_of start.spool) start.cluster clock (frames_of bytes) []
  start-fits = fits-none plan (ledger_of start.spool) start.cluster clock (frames_of bytes)

  pub keeps-start : Keeps plan start before before bytes clock start [] [] start.cluster start.cluster
  keeps-start = (leaves-start start before, (sym (ledger-none plan (ledger_of start.spool) start.cluster clock (frames_of bytes)), start-fits))

  pub dead-start : LeavesAt plan start before before bytes clock stop.Dead [] [] start.cluster start.cluster
  dead-start = (leaves-start start before, start-fits, tt)

  module _ (now : Areas) (new : Parts) (marks hand : List FrameMarks) (c d : Cluster) where
    -- what is kept at an end, where all is kept
    pub keeps-at : (e : LinkEnd) → Keeps plan start before now bytes clock new marks hand c d → KeepsAt plan start before now bytes clock e new marks hand c d
    keeps-at end.Done keeps = keeps
    keeps-at end.Stopped keeps = keeps
    keeps-at end.Read keeps = keeps
    keeps-at end.Write keeps = keeps
    keeps-at (end.Frame place) keeps = keeps
    keeps-at end.Long keeps = keeps
    keeps-at end.Memory keeps = (keeps.0, inr keeps.1)

    -- and what the areas are left with at each
    pub at-leaves : (e : LinkEnd) → KeepsAt plan start before now bytes clock e new marks hand c d → LeavesHand plan start before now bytes clock marks hand c d
    at-leaves end.Done keeps = keeps.0
    at-leaves end.Stopped keeps = keeps.0
    at-leaves end.Read keeps = keeps.0
    at-leaves end.Write keeps = keeps.0
    at-leaves (end.Frame place) keeps = keeps.0
    at-leaves end.Long keeps = keeps.0
    at-leaves end.Memory keeps = keeps.0

  module _ (now after : Areas) (old new : Parts) (payload : List ℕ) (ticks later : Option Answers) (go : IsHome start before → IsHome old now) (marks : List FrameMarks)
      (so_far : Keeps plan start before now bytes clock old marks [] old.cluster old.cluster) where
    abbrev origin : Ledger
    origin = ledger_of start.spool

    so-far-ledger : ledger_of old.spool ≡ frames_ledger plan origin start.cluster clock (frames_of bytes) marks
    so-far-ledger = so_far.1.0 ∙ ap (frames_ledger plan origin start.cluster clock (frames_of bytes)) (append-nil marks)

    so-far-fits : FramesFit plan origin start.cluster clock (frames_of bytes) marks
    so-far-fits = subst (λ (ms : List FrameMarks). FramesFit plan origin start.cluster clock (frames_of bytes) ms) (append-nil marks) so_far.1.1

    -- the syncs of one frame more
    one-more-syncs : (m : FrameMarks) → after.syncs ≤ now.syncs + 3 → after.syncs ≤ before.syncs + 3 * length (marks ++ m ∷ [])
    one-more-syncs m few = omega (arith, so_far.0.syncs, few, length-append marks (m ∷ []), ap length (append-nil marks))

    -- a frame is in hand
    leaves-hand : (result : Result (Option (List ℕ)) Stop) (f : AnswersFrame plan old new payload ticks later result now after)
        → LeavesHand plan start before after bytes clock marks (f.marks ∷ []) old.cluster (frame_trace plan old.cluster f.moment payload f.marks).cluster
    leaves-hand result f = record { images = λ at_home. f.images (go at_home); syncs = one-more-syncs f.marks f.syncs }

    -- it is kept
    with-frame : (m : FrameMarks) (t : Traced) → IsNextFrame plan start.cluster clock bytes marks m t → ledger_of new.spool ≡ next_ledger (ledger_of old.spool) t
        → FitsBatch (ledger_of old.spool) t → HasKept plan start before after bytes clock new (marks ++ m ∷ [])
    with-frame m t next is fit = (
      is ∙ ap (λ (l : Ledger). next_ledger l t) so-far-ledger ∙ sym (next.keeps origin),
      next.fits origin so-far-fits (subst (λ (l : Ledger). FitsBatch l t) so-far-ledger fit),
    )

    -- the master stopped in the midst of it
    pub leaves-at : (s : Stop) (f : AnswersFrame plan old new payload ticks later (Err s) now after)
        → IsNextFrame plan start.cluster clock bytes marks f.marks (frame_trace plan old.cluster f.moment payload f.marks)
        → LeavesAt plan start before after bytes clock s marks (f.marks ∷ []) old.cluster (frame_trace plan old.cluster f.moment payload f.marks).cluster
    leaves-at s f next = (
      leaves-hand (Err s) f,
      so-far-fits,
      on-full s (λ place. HasNoRoom (ledger_of old.spool) (frame_trace plan old.cluster f.moment payload f.marks) place)
          (λ place. IsFull plan origin start.cluster clock bytes marks (f.marks ∷ []) place)
          (λ place room. next.full origin place
          (subst (λ (l : Ledger). HasNoRoom l (frame_trace plan old.cluster f.moment payload f.marks) place) so-far-ledger room)) f.replies.1,
    )

    -- memory was wanted for it, or for its reply
    pub keeps-some : (f : AnswersFrame plan old new payload ticks later (Ok None) now after)
        → IsNextFrame plan start.cluster clock bytes marks f.marks (frame_trace plan old.cluster f.moment payload f.marks)
        → KeepsSome plan start before after bytes clock new marks (f.marks ∷ []) old.cluster (frame_trace plan old.cluster f.moment payload f.marks).cluster
    keeps-some f next = (
      leaves-hand (Ok None) f,
      ⊎_elim (λ e. inl (e.2 ∙ so-far-ledger, so-far-fits)) (λ e. inr (with-frame f.marks (frame_trace plan old.cluster f.moment payload f.marks) next e.2 e.3)) f.replies,
    )

    -- its reply isn't written whole
    pub keeps-hand : (text : List ℕ) (f : AnswersFrame plan old new payload ticks later (Ok (Some text)) now after)
        → IsNextFrame plan start.cluster clock bytes marks f.marks (frame_trace plan old.cluster f.moment payload f.marks)
        → Keeps plan start before after bytes clock new marks (f.marks ∷ []) old.cluster (frame_trace plan old.cluster f.moment payload f.marks).cluster
    keeps-hand text f next =
        (leaves-hand (Ok (Some text)) f, with-frame f.marks (frame_trace plan old.cluster f.moment payload f.marks) next f.replies.1.2 f.replies.1.3)

    -- it is answered
    pub keeps-whole : (text : List ℕ) (f : AnswersFrame plan old new payload ticks later (Ok (Some text)) now after)
        → IsNextFrame plan start.cluster clock bytes marks f.marks (frame_trace plan old.cluster f.moment payload f.marks)
        → Keeps plan start before after bytes clock new (marks ++ f.marks ∷ []) [] (frame_trace plan old.cluster f.moment payload f.marks).cluster (frame_trace plan old.cluster f.moment payload f.marks).cluster
    keeps-whole text f next = (
      record {
        images = λ at_home c d of_c of_d. inl (home-stands new after (f.home (go at_home)) c d of_c of_d ∙ ap (λ x. Ok x) f.replies.1.0);
        syncs = omega (arith, one-more-syncs f.marks f.syncs, ap length (append-nil (marks ++ f.marks ∷ [])));
      },
      subst (λ (ms : List FrameMarks). HasKept plan start before after bytes clock new ms) (sym (append-nil (marks ++ f.marks ∷ [])))
          (with-frame f.marks (frame_trace plan old.cluster f.moment payload f.marks) next f.replies.1.2 f.replies.1.3),
    )
