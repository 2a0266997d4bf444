-- What all ends of a connection have in common.
use Rattle.std.proofs.Common.{◌≡◌, ℕ, ◌≤◌, Bool, List, [], ◌++◌, length, take, Option, Some, refl, ap, ◌∙◌, sym, subst, inl, arith}
use Rattle.std.proofs.lemmas.List.{append-nil}
use Rattle.std.proofs.Math.Seq.{take-length}
use Rattle.ge_outside.specs.Clocks.{Answers}
use Rattle.ge_outside.specs.Streams.{Gains}
use Rattle.ge_model_rows.specs.ClusterRows.{Cluster}
use Rattle.ge_model_rows.specs.EventRows.{Event, Planned}
use Rattle.ge_model_wire.specs.Frames.{frames_of}
use Rattle.ge_model_program.specs.Answered.{FrameMarks, framed, answered}
use Rattle.ge_model_program.specs.Links.{InHand, LeftWhole, LeftAll, LeftInHand, HoldsAfter, EndsAs}
use Rattle.ge_model_program.specs.declared.LinkEnd.{LinkEnd}
use Rattle.ge_model_program.specs.declared.LinkEnd.TheVariants as end

module _ (plan : Cluster → Event → Planned) (start : Cluster) (clock : Answers) (bytes : List ℕ) (Leaves : List FrameMarks → List FrameMarks → Cluster → Cluster → Type 0) where
  -- what is said of the areas may be put otherwise
  module _ (Others : List FrameMarks → List FrameMarks → Cluster → Cluster → Type 0)
      (say : (marks hand : List FrameMarks) (c d : Cluster) → length (marks ++ hand) ≤ length (frames_of bytes) → Leaves marks hand c d → Others marks hand c d) where
    abbrev pub map-hand : InHand plan start clock bytes Leaves → InHand plan start clock bytes Others
    map-hand h = record { marks = h.marks; hand = h.hand; few = h.few; one = h.one; areas = say _ _ _ _ h.few h.areas }

    module _ (old now : Option (List ℕ)) (later : Option Answers) (reached : Cluster) (stopping : Bool) where
      abbrev pub map-whole : LeftWhole plan start clock bytes Leaves old now later reached stopping → LeftWhole plan start clock bytes Others old now later reached stopping
      map-whole w = record {
        marks = w.marks;
        few = w.few;
        wrote = w.wrote;
        ticks = w.ticks;
        holds = w.holds;
        areas = say _ _ _ _ (omega (arith, w.few, ap length (append-nil w.marks))) w.areas;
      }

      map-all : LeftAll plan start clock bytes Leaves old now later reached stopping → LeftAll plan start clock bytes Others old now later reached stopping
      map-all a = record { whole = map-whole a.whole; all = a.all; going = a.going }

      abbrev pub map-left : LeftInHand plan start clock bytes Leaves old now later → LeftInHand plan start clock bytes Others old now later
      map-left l = record { in_hand = map-hand l.in_hand; size = l.size; least = l.least; most = l.most; wrote = l.wrote; ticks = l.ticks }

      pub map-ends : (end : LinkEnd) → EndsAs plan start clock bytes Leaves old now later end reached stopping → EndsAs plan start clock bytes Others old now later end reached stopping
      map-ends end.Done e = (map-all e.0, e.1, e.2)
      map-ends end.Stopped e = (map-whole e.0, e.1)
      map-ends end.Read e = (map-whole e.0, e.1)
      map-ends end.Write e = (map-left e.0, e.1)
      map-ends (end.Frame place) e = (map-all e.0, e.1, e.2, e.3)
      map-ends end.Long e = (map-whole e.0, e.1, e.2)
      map-ends end.Memory e = (map-left e.0, e.1)

  module _ (old now : Option (List ℕ)) (later : Option Answers) (reached : Cluster) (stopping : Bool) where
    -- frames that were answered whole, with none in hand
    abbrev pub whole-hand : LeftWhole plan start clock bytes Leaves old now later reached stopping → InHand plan start clock bytes Leaves
    whole-hand w = record {
      marks = w.marks;
      hand = [];
      few = omega (arith, w.few, ap length (append-nil w.marks));
      one = omega arith;
      areas = subst (λ (ms : List FrameMarks). Leaves w.marks [] (answered plan start clock (frames_of bytes) w.marks).cluster (answered plan start clock (frames_of bytes) ms).cluster) (sym (append-nil w.marks)) w.areas;
    }

    all-wrote : (w : LeftWhole plan start clock bytes Leaves old now later reached stopping)
        → Gains old now (take (length (framed (answered plan start clock (frames_of bytes) w.marks).replies)) (framed (answered plan start clock (frames_of bytes) (w.marks ++ [])).replies))
    all-wrote w =
        let bytes_of : List FrameMarks → List ℕ = λ ms. framed (answered plan start clock (frames_of bytes) ms).replies in
        subst (λ (ms : List FrameMarks). Gains old now (take (length (bytes_of w.marks)) (bytes_of ms))) (sym (append-nil w.marks)) (rw (take-length (bytes_of w.marks)) w.wrote)

    -- and so nothing but their replies is written
    pub whole-left : LeftWhole plan start clock bytes Leaves old now later reached stopping
        → (left : LeftInHand plan start clock bytes Leaves old now later) × HoldsAfter plan start clock bytes Leaves (left.in_hand.marks ++ left.in_hand.hand) reached stopping
    whole-left w = (
      record {
        in_hand = whole-hand w;
        size = length (framed (answered plan start clock (frames_of bytes) w.marks).replies);
        least = omega arith;
        most = inl refl;
        wrote = all-wrote w;
        ticks = w.ticks ∙ ap (λ (ms : List FrameMarks). Some (answered plan start clock (frames_of bytes) ms).clock) (sym (append-nil w.marks));
      },
      subst (λ (ms : List FrameMarks). HoldsAfter plan start clock bytes Leaves ms reached stopping) (sym (append-nil w.marks)) w.holds,
    )

    -- at each end there are frames that are answered, and perhaps one in hand
    pub hand-of : (end : LinkEnd) → EndsAs plan start clock bytes Leaves old now later end reached stopping → InHand plan start clock bytes Leaves
    hand-of end.Done e = whole-hand e.0.whole
    hand-of end.Stopped e = whole-hand e.0
    hand-of end.Read e = whole-hand e.0
    hand-of end.Write e = e.0.in_hand
    hand-of (end.Frame place) e = whole-hand e.0.whole
    hand-of end.Long e = whole-hand e.0
    hand-of end.Memory e = e.0.in_hand

    -- a clock that told its answers goes on telling them
    pub later-told : (end : LinkEnd) → EndsAs plan start clock bytes Leaves old now later end reached stopping → (answers : Answers) × (later ≡ Some answers)
    later-told end.Done e = (_, e.0.whole.ticks)
    later-told end.Stopped e = (_, e.0.ticks)
    later-told end.Read e = (_, e.0.ticks)
    later-told end.Write e = (_, e.0.ticks)
    later-told (end.Frame place) e = (_, e.0.whole.ticks)
    later-told end.Long e = (_, e.0.ticks)
    later-told end.Memory e = (_, e.0.ticks)
