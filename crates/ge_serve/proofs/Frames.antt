-- One frame as one batch.
use Rattle.std.proofs.Common.{◌≡◌, ℕ, Bool, true, false, List, [], ◌∷◌, ◌++◌, length, Option, Some, None, Result, Ok, Err, refl, ap, ◌∙◌, sym, subst, inl, inr, arith}
use Rattle.std.proofs.lemmas.List.{append-nil}
use Rattle.ge_outside.specs.Clocks.{Answers, Ticks}
use Rattle.ge_model_rows.specs.ClusterRows.{Cluster}
use Rattle.ge_model_rows.specs.EventRows.{Event, Reply, Planned}
use Rattle.ge_model_core.specs.Render.{rendered}
use Rattle.ge_model_program.specs.Traced.{Traced, traced}
use Rattle.ge_model_wire.specs.Frames.{reply_frame}
use Rattle.ge_model_wire.specs.Payloads.{event_in_payload}
use Rattle.ge_model_program.specs.Moments.{frame_moment, is_due, runs_before, frame_events}
use Rattle.ge_model_program.specs.Answered.{FrameMarks, marks_of, own_reply, framed, framed_reply, frame_trace}
use Rattle.ge_model_program.specs.StandsFor.{StandsForOneOf}
use Rattle.ge_master.specs.Areas.{Areas, HasFailed}
use Rattle.ge_master.specs.Homes.{Parts}
use Rattle.ge_master.specs.Handling.{Handles, HandlesBatch, RepliesAs, traced_compacts}
use Rattle.ge_master.specs.declared.faults.Stop.{Stop}
use Rattle.ge_master.specs.declared.faults.Stop.TheVariants as stop
use Rattle.ge_master.proofs.AtHome.{home-stands}
use Rattle.ge_serve.proofs.Kept.{ends-images, three-syncs}
use Rattle.ge_serve.specs.Replies.{RepliesWith, AnswersFrame}

module _ (plan : Cluster → Event → Planned) where
  by-due : (c : Cluster) (due : Bool) (moment : ℕ) (e : Event) (marks : List Bool) → length marks ≡ length (runs_before due moment ++ e ∷ [])
      → (m : FrameMarks) × (traced plan c (runs_before due moment ++ e ∷ []) marks ≡ traced plan c (runs_before due moment ++ e ∷ []) (marks_of due m))
  by-due c true moment e [] counted = absurd (omega arith)
  by-due c true moment e (run ∷ []) counted = absurd (omega arith)
  by-due c true moment e (run ∷ own ∷ []) counted = (record { run = run; own = own }, refl)
  by-due c true moment e (run ∷ own ∷ mark ∷ marks) counted = absurd (omega arith)
  by-due c false moment e [] counted = absurd (omega arith)
  by-due c false moment e (own ∷ []) counted = (record { run = true; own = own }, refl)
  by-due c false moment e (own ∷ mark ∷ marks) counted = absurd (omega arith)

  -- marks for each of its events are marks of the frame
  frame-marks : (c : Cluster) (moment : ℕ) (payload : List ℕ) (marks : List Bool) → length marks ≡ length (frame_events c moment payload)
      → (m : FrameMarks) × (traced plan c (frame_events c moment payload) marks ≡ frame_trace plan c moment payload m)
  unfolding frame_events frame_trace
  frame-marks c moment payload marks counted =
      by-due c (is_due c (frame_moment c moment)) (frame_moment c moment) (event_in_payload (frame_moment c moment) payload) marks counted

  module _ (old : Parts) (payload : List ℕ) (clock later : Option Answers) (moment : ℕ) (ticks : Ticks clock later moment) (before : Areas) where
    -- memory was wanted before the events were handled
    pub unhandled : AnswersFrame plan old old payload clock later (Ok None) before before
    unhandled = record {
      moment = moment;
      ticks = ticks;
      marks = record { run = true; own = true };
      replies = inl (refl, refl, refl);
      images = λ home c d of_c of_d. inl (home-stands old before home c d of_c of_d);
      home = λ home. home;
      syncs = omega arith;
    }

    module _ (new : Parts) (after : Areas) (events : List Event) (made : events ≡ frame_events old.cluster moment payload) where
      as-frame : (result : Result (List Reply) Stop) → HandlesBatch plan old new events result before after
          → (m : FrameMarks) × Handles (frame_trace plan old.cluster moment payload m) old new result before after
      as-frame result h =
          let m = frame-marks old.cluster moment payload h.marks (h.counted ∙ ap length made) in
          (m.0, subst (λ t. Handles t old new result before after) (ap (λ es. traced plan old.cluster es h.marks) made ∙ m.1) h.handled)

      stop-replies : (s : Stop) (t : Traced) → RepliesAs t old.spool (Err s) (HasFailed before after) → RepliesWith t old new (Err s) (HasFailed before after)
      stop-replies stop.Disk t answer = (answer.0, tt)
      stop-replies (stop.Full place) t answer = (tt, answer)
      stop-replies stop.Spent t answer = (tt, tt)
      stop-replies stop.Dead t answer = absurd answer

      -- the master stopped
      pub stopped : (s : Stop) → HandlesBatch plan old new events (Err s) before after → AnswersFrame plan old new payload clock later (Err s) before after
      stopped s batch =
          let f = as-frame (Err s) batch in
          let t = frame_trace plan old.cluster moment payload f.0 in
          record {
            moment = moment;
            ticks = ticks;
            marks = f.0;
            replies = stop-replies s t f.1.answer;
            images = λ home. ends-images before.a after.a before.b after.b (StandsForOneOf old.cluster t.cluster) f.1.grows.0 f.1.grows.1 (f.1.any_moment home);
            home = λ home. tt;
            syncs = three-syncs (traced_compacts old.spool t) before.syncs after.syncs f.1.syncs;
          }

      -- the events were handled, but memory was wanted for the reply
      pub unwritten : (replies : List Reply) → HandlesBatch plan old new events (Ok replies) before after → AnswersFrame plan old new payload clock later (Ok None) before after
      unwritten replies batch =
          let f = as-frame (Ok replies) batch in
          let t = frame_trace plan old.cluster moment payload f.0 in
          record {
            moment = moment;
            ticks = ticks;
            marks = f.0;
            replies = inr (f.1.left.cluster, f.1.left.stopping, f.1.left.ledger, f.1.answer.1);
            images = λ home. ends-images before.a after.a before.b after.b (StandsForOneOf old.cluster t.cluster) f.1.grows.0 f.1.grows.1 (f.1.any_moment home);
            home = f.1.home;
            syncs = three-syncs (traced_compacts old.spool t) before.syncs after.syncs f.1.syncs;
          }

      framed-one : (replies : List Reply) (reply : Reply) (text : List ℕ) → own_reply replies ≡ reply ∷ [] → text ≡ rendered reply → framed (own_reply replies) ≡ reply_frame text
      framed-one replies reply text own is = ap framed own ∙ append-nil (framed_reply reply) ∙ ap reply_frame (sym is)

      -- the frame is answered
      pub answered : (replies : List Reply) (reply : Reply) (text : List ℕ) → HandlesBatch plan old new events (Ok replies) before after
          → own_reply replies ≡ reply ∷ [] → text ≡ rendered reply → AnswersFrame plan old new payload clock later (Ok (Some text)) before after
      answered replies reply text batch own is =
          let f = as-frame (Ok replies) batch in
          let t = frame_trace plan old.cluster moment payload f.0 in
          record {
            moment = moment;
            ticks = ticks;
            marks = f.0;
            replies = (framed-one t.replies reply text (ap own_reply (sym f.1.answer.0) ∙ own) is, (f.1.left.cluster, f.1.left.stopping, f.1.left.ledger, f.1.answer.1));
            images = λ home. ends-images before.a after.a before.b after.b (StandsForOneOf old.cluster t.cluster) f.1.grows.0 f.1.grows.1 (f.1.any_moment home);
            home = f.1.home;
            syncs = three-syncs (traced_compacts old.spool t) before.syncs after.syncs f.1.syncs;
          }
