-- The trace of the frames of a connection: each takes one answer of the clock, and gets one reply.
use Rattle.std.specs.Prelude.{ℕ, Bool, true, false, List, [], ◌∷◌, ◌++◌, flat_map}
use Rattle.ge_outside.specs.Clocks.{Answers, next_answer, later_answers}
use Rattle.ge_model_rows.specs.ClusterRows.{Cluster}
use Rattle.ge_model_rows.specs.EventRows.{Event, Reply, Planned}
use Rattle.ge_model_core.specs.Render.{rendered}
use Rattle.ge_model_program.specs.Traced.{Traced, traced}
use Rattle.ge_model_wire.specs.Frames.{reply_frame}
use Rattle.ge_model_program.specs.Moments.{frame_moment, is_due, frame_events}

-- whether the run that is put in before a frame, and the frame's own event, are answered by their plans (true) or by want of
-- memory (false)
pub record FrameMarks : Type 0 where
  pub run : Bool
  pub own : Bool

-- the marks of its events, with a run or without one
abbrev pub marks_of : Bool → FrameMarks → List Bool
marks_of true m = m.run ∷ m.own ∷ []
marks_of false m = m.own ∷ []

-- the last of the replies to the events of a frame, which is that to its own
abbrev pub own_reply : List Reply → List Reply
own_reply [] = []
own_reply (r ∷ []) = r ∷ []
own_reply (r ∷ s ∷ more) = own_reply (s ∷ more)

-- a reply as it is written, and the bytes of several
abbrev pub framed_reply : Reply → List ℕ
framed_reply r = reply_frame (rendered r)

abbrev pub framed : List Reply → List ℕ
framed replies = flat_map framed_reply replies

-- What frames give that were answered: a reply each, the cluster after them, what the clock answers later, and whether the last
-- one stops the master.
pub record Answered : Type 0 where
  pub replies : List Reply
  pub cluster : Cluster
  pub clock : Answers
  pub stopped : Bool

abbrev pub answered_at : Bool → Cluster → Answers → Answered
answered_at stopped c clock = record { replies = []; cluster = c; clock = clock; stopped = stopped }

-- replies before those of more frames
abbrev pub then_answered : List Reply → Answered → Answered
then_answered replies a = record { replies = replies ++ a.replies; cluster = a.cluster; clock = a.clock; stopped = a.stopped }

-- a frame that stops the master is the last
abbrev pub unless_stopped : Bool → Cluster → Answers → Answered → Answered
unless_stopped true c clock more = answered_at true c clock
unless_stopped false c clock more = more

module _ (plan : Cluster → Event → Planned) where
  -- the trace of the events of a frame, for what the clock answers
  unfoldable pub frame_trace : Cluster → ℕ → List ℕ → FrameMarks → Traced
  frame_trace c clock payload m = traced plan c (frame_events c clock payload) (marks_of (is_due c (frame_moment c clock)) m)

  -- the trace of frames with these marks, from a cluster and what the clock is to answer; the replies of the runs that were put
  -- in aren't among the replies
  abbrev pub answered : Cluster → Answers → List (List ℕ) → List FrameMarks → Answered
  answered c clock payloads [] = answered_at false c clock
  answered c clock [] (m ∷ marks) = answered_at false c clock
  answered c clock (payload ∷ payloads) (m ∷ marks) =
      let t = frame_trace c (next_answer clock) payload m in
      then_answered (own_reply t.replies) (unless_stopped t.stopped t.cluster (later_answers clock) (answered t.cluster (later_answers clock) payloads marks))
