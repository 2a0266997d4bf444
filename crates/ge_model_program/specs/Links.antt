-- What a connection leaves at each of its ends.
use Rattle.std.specs.Prelude.{◌≡◌, ◌≢◌, ◌⊎◌, ℕ, ◌+◌, ◌-◌, ◌<◌, ◌≤◌, Bool, true, false, List, [], ◌++◌, length, take, Option, Some, None}
use Rattle.ge_outside.specs.Clocks.{Answers}
use Rattle.ge_outside.specs.Streams.{Gains}
use Rattle.ge_model_rows.specs.ClusterRows.{Cluster}
use Rattle.ge_model_rows.specs.EventRows.{Event, Planned}
use Rattle.ge_model_wire.specs.Frames.{link_bytes, taken_of, frames_of, behind_frames}
use Rattle.ge_model_program.specs.Answered.{FrameMarks, Answered, framed, answered}
use Rattle.ge_model_program.specs.declared.LinkEnd.{LinkEnd}
use Rattle.ge_model_program.specs.declared.LinkEnd.TheVariants as end

-- how many bytes are taken to read the frames of a connection, and to see that no other follows them
abbrev pub bytes_to_read : List ℕ → ℕ
bytes_to_read bytes = (length bytes - length (behind_frames bytes)) + taken_of (behind_frames bytes)

-- a fact of a connection and a clock that tell
abbrev pub OnTold : Option (List ℕ) → Option Answers → (List ℕ → Answers → Type 0) → Type 0
OnTold (Some bytes) (Some clock) P = P bytes clock
OnTold None clock P = Unit {0}
OnTold (Some bytes) None P = Unit {0}

-- start and clock: the cluster and what the clock was to answer when the connection began; bytes: all that it has to read; Leaves: what the
-- areas are left with after frames with these marks and those in hand, of which the one cluster or the other stands
module _ (plan : Cluster → Event → Planned) (start : Cluster) (clock : Answers) (bytes : List ℕ) (Leaves : List FrameMarks → List FrameMarks → Cluster → Cluster → Type 0) where
  -- the trace of the first frames
  abbrev pub after_frames : List FrameMarks → Answered
  after_frames marks = answered plan start clock (frames_of bytes) marks

  -- Some frames are answered, and the events of one more at most are in hand.
  pub record InHand : Type 0 where
    pub marks : List FrameMarks
    pub hand : List FrameMarks
    pub few : length (marks ++ hand) ≤ length (frames_of bytes)
    pub one : length hand ≤ 1
    pub areas : Leaves marks hand (after_frames marks).cluster (after_frames (marks ++ hand)).cluster

  -- the master holds the cluster after the first frames, and stops where the last of them asked for it
  abbrev pub HoldsAfter : List FrameMarks → Cluster → Bool → Type 0
  HoldsAfter marks reached stopping = (reached ≡ (after_frames marks).cluster) × (stopping ≡ (after_frames marks).stopped)

  -- that after those that are answered, or with the one in hand
  abbrev pub HoldsOneOf : InHand → Cluster → Bool → Type 0
  HoldsOneOf h reached stopping = HoldsAfter h.marks reached stopping ⊎ HoldsAfter (h.marks ++ h.hand) reached stopping

  -- old and now: what was written before and is now; later: what the clock has yet to answer
  module _ (old now : Option (List ℕ)) (later : Option Answers) where
    -- Some frames were answered whole, and nothing else was done. The master holds the cluster reached, and is stopping or not.
    pub record LeftWhole (reached : Cluster) (stopping : Bool) : Type 0 where
      pub marks : List FrameMarks
      pub few : length marks ≤ length (frames_of bytes)
      pub wrote : Gains old now (framed (after_frames marks).replies)
      pub ticks : later ≡ Some (after_frames marks).clock
      pub holds : HoldsAfter marks reached stopping
      pub areas : Leaves marks [] (after_frames marks).cluster (after_frames marks).cluster

    -- all frames were answered whole, and none stopped the master
    pub record LeftAll (reached : Cluster) (stopping : Bool) : Type 0 where
      pub whole : LeftWhole reached stopping
      pub all : length whole.marks ≡ length (frames_of bytes)
      pub going : stopping ≡ false

    -- Frames were answered whole, and of the reply to the one in hand a front is written, but not all of it.
    pub record LeftInHand : Type 0 where
      pub in_hand : InHand
      pub size : ℕ
      pub least : length (framed (after_frames in_hand.marks).replies) ≤ size
      pub most : (in_hand.hand ≡ []) ⊎ (size < length (framed (after_frames (in_hand.marks ++ in_hand.hand)).replies))
      pub wrote : Gains old now (take size (framed (after_frames (in_hand.marks ++ in_hand.hand)).replies))
      pub ticks : later ≡ Some (after_frames (in_hand.marks ++ in_hand.hand)).clock

    -- What each end says: the conditions of no two of Done, Stopped, Frame and Long hold together. A frame that ends where a connection has as
    -- many bytes as it may is Long. At Write the frame in hand is handled, at Memory it may be; and it may be an accepted stop.
    abbrev pub EndsAs : LinkEnd → Cluster → Bool → Type 0
    EndsAs end.Done reached stopping = LeftAll reached stopping × (behind_frames bytes ≡ []) × (length bytes < link_bytes)
    EndsAs end.Stopped reached stopping = LeftWhole reached stopping × (stopping ≡ true)
    EndsAs end.Read reached stopping = LeftWhole reached stopping × (stopping ≡ false)
    EndsAs end.Write reached stopping = (left : LeftInHand) × HoldsAfter (left.in_hand.marks ++ left.in_hand.hand) reached stopping
    EndsAs (end.Frame place) reached stopping =
        LeftAll reached stopping × (behind_frames bytes ≢ []) × (place + length (behind_frames bytes) ≡ length bytes)
        × (place + taken_of (behind_frames bytes) < link_bytes)
    EndsAs end.Long reached stopping = LeftWhole reached stopping × (stopping ≡ false) × (link_bytes ≤ bytes_to_read bytes)
    EndsAs end.Memory reached stopping = (left : LeftInHand) × HoldsOneOf left.in_hand reached stopping
