-- What each end of a connection leaves.
use Rattle.std.proofs.Common.{◌≡◌, ℕ, ◌<◌, ◌≤◌, Bool, true, false, List, ◌++◌, length, take, drop, Option, refl, ap, ◌∙◌, sym, subst, inr, ⊎_elim, arith}
use Rattle.std.specs.Prelude.{nat_le}
use Rattle.std.proofs.lemmas.Bool.Decides.{nat_tests}
use Rattle.std.proofs.lemmas.List.{length-append, length-take-le, take-append-drop, take-append-le}
use Rattle.std.proofs.Math.Seq.{take-length}
use Rattle.ge_outside.specs.Clocks.{Answers}
use Rattle.ge_model_rows.specs.ClusterRows.{Cluster}
use Rattle.ge_model_rows.specs.EventRows.{Event, Planned}
use Rattle.ge_model_journal.specs.Disk.{Content}
use Rattle.ge_model_wire.specs.Frames.{frames_of}
use Rattle.ge_model_program.specs.Answered.{FrameMarks, answered}
use Rattle.ge_model_program.specs.Links.{HoldsAfter, HoldsOneOf, LeftInHand, EndsAs}
use Rattle.ge_model_program.specs.declared.LinkEnd.{LinkEnd}
use Rattle.ge_model_program.specs.declared.LinkEnd.TheVariants as end
use Rattle.ge_model_program.proofs.Ending.{whole-left}
use Rattle.ge_run_laws.specs.Standing.{WroteWhole}
use Rattle.ge_run_laws.specs.StandingFrames.{LeavesHome, InAll, HasFrames, replies_to, FramesStand}
use Rattle.ge_run_laws.proofs.Runs.{gained-front, for-one-of}

module _ (plan : Cluster → Event → Planned) (start : Cluster) (clock : Answers) (bytes : List ℕ) where
  -- the first of frames that were answered, with one in hand or without
  front-has : (k : ℕ) (marks hand : List FrameMarks) → k ≤ length marks
      → HasFrames plan start clock bytes (take k (marks ++ hand)) (answered plan start clock (frames_of bytes) marks).cluster
  front-has k marks hand within = subst (λ (ms : List FrameMarks). HasFrames plan start clock bytes ms (answered plan start clock (frames_of bytes) marks).cluster)
      (sym (take-append-le k marks hand within)) (drop k marks, ap (λ (ms : List FrameMarks). (answered plan start clock (frames_of bytes) ms).cluster) (sym (take-append-drop k marks)))

  all-has : (k : ℕ) (marks : List FrameMarks) → HasFrames plan start clock bytes (take k marks) (answered plan start clock (frames_of bytes) marks).cluster
  all-has k marks = (drop k marks, ap (λ (ms : List FrameMarks). (answered plan start clock (frames_of bytes) ms).cluster) (sym (take-append-drop k marks)))

  -- all doesn't stand whole in less than it
  not-less : (size : ℕ) (all whole later : List ℕ) → size < length all → whole ≡ all → take size all ≡ whole ++ later → ⊥
  not-less size all whole later below same has =
      omega (arith, below, ap length same, ap length has, length-append whole later, length-take-le size all (omega (arith, below)))

  module _ (Leaves : List FrameMarks → List FrameMarks → Cluster → Cluster → Type 0) (old now : Option (List ℕ)) (later : Option Answers) where
    -- the master holds the cluster after all of them
    with-all : (reached : Cluster) (stopping : Bool)
        → (left : LeftInHand plan start clock bytes Leaves old now later) × HoldsAfter plan start clock bytes Leaves (left.in_hand.marks ++ left.in_hand.hand) reached stopping
        → (left : LeftInHand plan start clock bytes Leaves old now later) × HoldsOneOf plan start clock bytes Leaves left.in_hand reached stopping
    with-all reached stopping left = (left.0, inr left.1)

    -- at each end there are frames that are answered, and perhaps one in hand
    pub left-of : (how : LinkEnd) (reached : Cluster) (stopping : Bool) → EndsAs plan start clock bytes Leaves old now later how reached stopping
        → (left : LeftInHand plan start clock bytes Leaves old now later) × HoldsOneOf plan start clock bytes Leaves left.in_hand reached stopping
    left-of end.Done reached stopping e = with-all reached stopping (whole-left plan start clock bytes Leaves old now later reached stopping e.0.whole)
    left-of end.Stopped reached stopping e = with-all reached stopping (whole-left plan start clock bytes Leaves old now later reached stopping e.0)
    left-of end.Read reached stopping e = with-all reached stopping (whole-left plan start clock bytes Leaves old now later reached stopping e.0)
    left-of end.Write reached stopping e = with-all reached stopping e
    left-of (end.Frame place) reached stopping e = with-all reached stopping (whole-left plan start clock bytes Leaves old now later reached stopping e.0.whole)
    left-of end.Long reached stopping e = with-all reached stopping (whole-left plan start clock bytes Leaves old now later reached stopping e.0)
    left-of end.Memory reached stopping e = e

    module _ (l : LeftInHand plan start clock bytes Leaves old now later) where
      abbrev taken : List FrameMarks
      taken = l.in_hand.marks ++ l.in_hand.hand

      -- the one in hand isn't answered whole
      few-whole : (k : ℕ) → k ≤ length taken → WroteWhole old now (replies_to plan start clock bytes (take k taken)) → k ≤ length l.in_hand.marks
      few-whole k within w = ⊎_elim (λ none. omega (arith, within, length-append l.in_hand.marks l.in_hand.hand, ap length none)) (λ below. by (nat_le k (length l.in_hand.marks)) refl below) l.most
        where
          by : (t : Bool) → nat_le k (length l.in_hand.marks) ≡ t → l.size < length (replies_to plan start clock bytes taken) → k ≤ length l.in_hand.marks
          by true is below = grind (arith, nat_tests, is)
          by false beyond below =
              let past : length l.in_hand.marks < k = grind (arith, nat_tests, beyond) in
              let count : k ≡ length taken = omega (arith, within, past, length-append l.in_hand.marks l.in_hand.hand, l.in_hand.one) in
              let all : take k taken ≡ taken = ap (λ (n : ℕ). take n taken) count ∙ take-length taken in
              absurd (not-less l.size (replies_to plan start clock bytes taken) (replies_to plan start clock bytes (take k taken)) w.later below (ap (replies_to plan start clock bytes) all)
              (gained-front old now (replies_to plan start clock bytes (take k taken)) (take l.size (replies_to plan start clock bytes taken)) l.wrote w))

      -- what is left has the first frames
      pub frames-stand : (Left : (Cluster → Type 0) → Type 0) → ((k : ℕ) → k ≤ length l.in_hand.marks → Left (HasFrames plan start clock bytes (take k taken))) → FramesStand plan start clock bytes old now Left
      frames-stand Left left = record {
        marks = taken;
        few = l.in_hand.few;
        size = l.size;
        wrote = l.wrote;
        count = length l.in_hand.marks;
        one = omega (arith, length-append l.in_hand.marks l.in_hand.hand, l.in_hand.one);
        stand = left (length l.in_hand.marks) (omega arith);
        each = λ k within w. (few-whole k within w, left k (few-whole k within w));
      }

      pub reached-has : (reached : Cluster) (stopping : Bool) → HoldsOneOf plan start clock bytes Leaves l.in_hand reached stopping
          → (k : ℕ) → k ≤ length l.in_hand.marks → HasFrames plan start clock bytes (take k taken) reached
      reached-has reached stopping holds k within =
          ⊎_elim (λ e. subst (HasFrames plan start clock bytes (take k taken)) (sym e.0) (front-has k l.in_hand.marks l.in_hand.hand within))
          (λ e. subst (HasFrames plan start clock bytes (take k taken)) (sym e.0) (all-has k taken)) holds

  module _ (home : Type 0) (a b : List Content) (old now : Option (List ℕ)) (later : Option Answers) where
    home-stands : (l : LeftInHand plan start clock bytes (LeavesHome home a b) old now later) (reached : Cluster) (stopping : Bool)
        → HoldsOneOf plan start clock bytes (LeavesHome home a b) l.in_hand reached stopping → FramesStand plan start clock bytes old now (InAll home a b reached)
    home-stands l reached stopping holds = frames-stand (LeavesHome home a b) old now later l (InAll home a b reached) (λ k within. (
      reached-has (LeavesHome home a b) old now later l reached stopping holds k within,
      λ at. for-one-of a b _ _ (HasFrames plan start clock bytes (take k (l.in_hand.marks ++ l.in_hand.hand))) (l.in_hand.areas at)
          (front-has k l.in_hand.marks l.in_hand.hand within) (all-has k (l.in_hand.marks ++ l.in_hand.hand)),
    ))

    pub link-stands : (how : LinkEnd) (reached : Cluster) (stopping : Bool) → EndsAs plan start clock bytes (LeavesHome home a b) old now later how reached stopping
        → FramesStand plan start clock bytes old now (InAll home a b reached)
    link-stands how reached stopping e = let left = left-of (LeavesHome home a b) old now later how reached stopping e in home-stands left.0 reached stopping left.1
