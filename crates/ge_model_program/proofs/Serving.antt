-- How far a connection has come, one frame more, and what it leaves when it ends there.
use Rattle.std.proofs.Common.{◌≡◌, ℕ, ◌+◌, ◌<◌, ◌≤◌, Bool, true, false, List, [], ◌∷◌, ◌++◌, length, take, drop, Option, Some, None, refl, ap, ◌∙◌, sym, subst, append_assoc, arith, inr}
use Rattle.std.proofs.lemmas.List.{length-append, append-nil, length-drop, drop-drop}
use Rattle.std.proofs.lemmas.List.Concat.{flat_map-append}
use Rattle.std.proofs.lemmas.Bool.Decides.{nat_tests}
use Rattle.std.proofs.Math.Seq.{take-append-add}
use Rattle.ge_outside.specs.Clocks.{Answers, next_answer, later_answers}
use Rattle.ge_outside.specs.Streams.{Gains, Gains-append}
use Rattle.ge_model_rows.specs.ClusterRows.{Cluster}
use Rattle.ge_model_rows.specs.EventRows.{Event, Reply, Planned}
use Rattle.ge_model_program.specs.Traced.{Traced}
use Rattle.ge_model_wire.specs.Frames.{link_bytes, frame_size, is_no_frame, frames_of, behind_frames, first_payload, behind_first, taken_of}
use Rattle.ge_model_wire.proofs.Cuts.{frames-first, behind-first, frames-none, behind-none}
use Rattle.ge_model_program.specs.Answered.{FrameMarks, Answered, answered_at, then_answered, unless_stopped, own_reply, framed, framed_reply, frame_trace, answered}
use Rattle.ge_model_program.specs.FramesKept.{ledger_where, frames_ledger, FramesFit, IsFull}
use Rattle.ge_model_program.specs.Keeping.{Ledger, FitsBatch, HasNoRoom, next_ledger}
use Rattle.ge_model_program.specs.Links.{bytes_to_read, HoldsAfter, HoldsOneOf, LeftWhole, LeftAll, LeftInHand}
use Rattle.ge_model_program.proofs.Ending.{whole-left}
use Rattle.ge_model_program.proofs.FramesFitting.{fits-more}
use Rattle.ge_model_program.proofs.Lengths.{reads-more}

-- How far a connection has come: what the rest gives is what is missing.
pub record HasServed (plan : Cluster → Event → Planned) (start : Cluster) (clock : Answers) (bytes : List ℕ) (Leaves : List FrameMarks → List FrameMarks → Cluster → Cluster → Type 0)
    (old now : Option (List ℕ)) (reached : Cluster) (told : Option (List ℕ)) (later : Option Answers) (place : ℕ) : Type 0 where
  pub rest : List ℕ
  pub left : Answers
  pub told_is : told ≡ Some rest
  pub later_is : later ≡ Some left
  pub marks : List FrameMarks
  pub replies : List Reply
  pub counted : length marks + length (frames_of rest) ≡ length (frames_of bytes)
  pub behind : behind_frames bytes ≡ behind_frames rest
  pub place_is : place + length rest ≡ length bytes
  pub goes_on : (more : List FrameMarks) → answered plan start clock (frames_of bytes) (marks ++ more) ≡ then_answered replies (answered plan reached left (frames_of rest) more)
  pub keeps_on : (l : Ledger) (more : List FrameMarks) → frames_ledger plan l start clock (frames_of bytes) (marks ++ more)
      ≡ frames_ledger plan (frames_ledger plan l start clock (frames_of bytes) marks) reached left (frames_of rest) more
  pub dropped : drop (length marks) (frames_of bytes) ≡ frames_of rest
  pub wrote : Gains old now (framed replies)
  pub areas : Leaves marks [] reached reached

-- A frame is the next behind those with these marks, and this is the trace of its events.
pub record IsNextFrame (plan : Cluster → Event → Planned) (start : Cluster) (clock : Answers) (bytes : List ℕ) (marks : List FrameMarks) (m : FrameMarks) (t : Traced) : Type 0 where
  pub keeps : (l : Ledger) → frames_ledger plan l start clock (frames_of bytes) (marks ++ m ∷ []) ≡ next_ledger (frames_ledger plan l start clock (frames_of bytes) marks) t
  pub full : (l : Ledger) (place : ℕ) → HasNoRoom (frames_ledger plan l start clock (frames_of bytes) marks) t place → IsFull plan l start clock bytes marks (m ∷ []) place
  pub fits : (l : Ledger) → FramesFit plan l start clock (frames_of bytes) marks → FitsBatch (frames_ledger plan l start clock (frames_of bytes) marks) t
      → FramesFit plan l start clock (frames_of bytes) (marks ++ m ∷ [])

then-then : (first second : List Reply) (a : Answered) → then_answered first (then_answered second a) ≡ then_answered (first ++ second) a
then-then first second a = λ i. record { replies = sym (append_assoc first second a.replies) i; cluster = a.cluster; clock = a.clock; stopped = a.stopped }

pub Gains-nothing : {T : Type 0} (old : Option (List T)) → Gains old old []
Gains-nothing None = tt
Gains-nothing (Some xs) = sym (append-nil xs)

-- what the areas are left with, at equal clusters
pub carried : (Leaves : List FrameMarks → List FrameMarks → Cluster → Cluster → Type 0) (marks hand : List FrameMarks) (c c' d d' : Cluster) → c ≡ c' → d ≡ d' → Leaves marks hand c d → Leaves marks hand c' d'
carried Leaves marks hand c c' d d' first second left = subst (λ x. Leaves marks hand x d') first (subst (λ x. Leaves marks hand c x) second left)

-- the ledger of a frame that nothing follows, whether it stops the master or not
same-where : (stops : Bool) (l more : Ledger) → more ≡ l → ledger_where stops l more ≡ l
same-where true l more same = refl
same-where false l more same = same

module _ (plan : Cluster → Event → Planned) where
  answered-none : (c : Cluster) (clock : Answers) (payloads : List (List ℕ)) → answered plan c clock payloads [] ≡ answered_at false c clock
  answered-none c clock [] = refl
  answered-none c clock (payload ∷ payloads) = refl

  -- without frames nothing more is kept
  pub ledger-none : (l : Ledger) (c : Cluster) (clock : Answers) (payloads : List (List ℕ)) → frames_ledger plan l c clock payloads [] ≡ l
  ledger-none l c clock [] = refl
  ledger-none l c clock (payload ∷ payloads) = refl

  then-end : (replies : List Reply) (c : Cluster) (clock : Answers) (stopped : Bool)
      → then_answered replies (answered_at stopped c clock) ≡ record { replies = replies; cluster = c; clock = clock; stopped = stopped }
  then-end replies c clock stopped = λ i. record { replies = append-nil replies i; cluster = c; clock = clock; stopped = stopped }

  module _ (start : Cluster) (clock : Answers) (bytes : List ℕ) (Leaves : List FrameMarks → List FrameMarks → Cluster → Cluster → Type 0) (old : Option (List ℕ)) where
    pub served-none : Leaves [] [] start start → HasServed plan start clock bytes Leaves old old start (Some bytes) (Some clock) 0
    served-none areas = record {
      rest = bytes;
      left = clock;
      told_is = refl;
      later_is = refl;
      marks = [];
      replies = [];
      counted = omega arith;
      behind = refl;
      place_is = omega arith;
      goes_on = λ more. refl;
      keeps_on = λ l more. ap (λ k. frames_ledger plan k start clock (frames_of bytes) more) (sym (ledger-none l start clock (frames_of bytes)));
      dropped = refl;
      wrote = Gains-nothing old;
      areas = areas;
    }

    module _ (now : Option (List ℕ)) (reached : Cluster) (told : Option (List ℕ)) (later : Option Answers) (place : ℕ) (s : HasServed plan start clock bytes Leaves old now reached told later place) where
      -- the frames so far
      pub so-far : answered plan start clock (frames_of bytes) s.marks ≡ record { replies = s.replies; cluster = reached; clock = s.left; stopped = false }
      so-far = ap (answered plan start clock (frames_of bytes)) (sym (append-nil s.marks)) ∙ s.goes_on [] ∙ ap (then_answered s.replies) (answered-none reached s.left (frames_of s.rest)) ∙ then-end s.replies reached s.left false

      pub so-far-cluster : reached ≡ (answered plan start clock (frames_of bytes) s.marks).cluster
      so-far-cluster = ap (λ (a : Answered). a.cluster) (sym so-far)

      pub so-far-going : false ≡ (answered plan start clock (frames_of bytes) s.marks).stopped
      so-far-going = ap (λ (a : Answered). a.stopped) (sym so-far)

      -- a connection that ends with nothing in hand
      abbrev pub left-whole : LeftWhole plan start clock bytes Leaves old now later reached false
      left-whole = record {
        marks = s.marks;
        few = omega (arith, s.counted);
        wrote = subst (λ (a : Answered). Gains old now (framed a.replies)) (sym so-far) s.wrote;
        ticks = s.later_is ∙ ap (λ (a : Answered). Some a.clock) (sym so-far);
        holds = (so-far-cluster, so-far-going);
        areas = carried Leaves s.marks [] reached _ reached _ so-far-cluster so-far-cluster s.areas;
      }

      -- at bytes that begin no frame
      pub left-all : is_no_frame s.rest ≡ true → LeftAll plan start clock bytes Leaves old now later reached false
      left-all none = record { whole = left-whole; all = omega (arith, s.counted, ap length (frames-none s.rest none)); going = refl }

      pub rest-is : is_no_frame s.rest ≡ true → behind_frames bytes ≡ s.rest
      rest-is none = s.behind ∙ behind-none s.rest none

      -- memory was wanted before a frame
      pub nothing-in-hand : (left : LeftInHand plan start clock bytes Leaves old now later) × HoldsOneOf plan start clock bytes Leaves left.in_hand reached false
      nothing-in-hand = let left = whole-left plan start clock bytes Leaves old now later reached false left-whole in (left.0, inr left.1)

      -- so many bytes are read to find the first frame of the rest that a connection has as many as it may
      pub is-long : link_bytes ≤ place + taken_of s.rest → link_bytes ≤ bytes_to_read bytes
      is-long past = omega (arith, past, reads-more bytes s.rest place s.place_is s.behind)

      -- One frame more; Later: what the areas are left with then.
      module _ (frame : is_no_frame s.rest ≡ false) (m : FrameMarks) (Later : List FrameMarks → List FrameMarks → Cluster → Cluster → Type 0) where
        abbrev pub t : Traced
        t = frame_trace plan reached (next_answer s.left) (first_payload s.rest) m

        with-frame : (more : List FrameMarks) → answered plan start clock (frames_of bytes) (s.marks ++ m ∷ more)
            ≡ then_answered (s.replies ++ own_reply t.replies) (unless_stopped t.stopped t.cluster (later_answers s.left) (answered plan t.cluster (later_answers s.left) (frames_of (behind_first s.rest)) more))
        with-frame more =
            s.goes_on (m ∷ more) ∙ ap (λ ps. then_answered s.replies (answered plan reached s.left ps (m ∷ more))) (frames-first s.rest frame)
            ∙ then-then s.replies (own_reply t.replies) (unless_stopped t.stopped t.cluster (later_answers s.left) (answered plan t.cluster (later_answers s.left) (frames_of (behind_first s.rest)) more))

        one-more : (stopped : Bool) → t.stopped ≡ stopped
            → answered plan start clock (frames_of bytes) (s.marks ++ m ∷ []) ≡ record { replies = s.replies ++ own_reply t.replies; cluster = t.cluster; clock = later_answers s.left; stopped = stopped }
        one-more true is = with-frame [] ∙ ap (λ k. then_answered (s.replies ++ own_reply t.replies) (unless_stopped k t.cluster (later_answers s.left) (answered plan t.cluster (later_answers s.left) (frames_of (behind_first s.rest)) []))) is
            ∙ then-end (s.replies ++ own_reply t.replies) t.cluster (later_answers s.left) true
        one-more false is = with-frame [] ∙ ap (λ k. then_answered (s.replies ++ own_reply t.replies) (unless_stopped k t.cluster (later_answers s.left) (answered plan t.cluster (later_answers s.left) (frames_of (behind_first s.rest)) []))) is
            ∙ ap (then_answered (s.replies ++ own_reply t.replies)) (answered-none t.cluster (later_answers s.left) (frames_of (behind_first s.rest)))
            ∙ then-end (s.replies ++ own_reply t.replies) t.cluster (later_answers s.left) false

        one-more-cluster : t.cluster ≡ (answered plan start clock (frames_of bytes) (s.marks ++ m ∷ [])).cluster
        one-more-cluster = ap (λ (a : Answered). a.cluster) (sym (one-more t.stopped refl))

        within : length (s.marks ++ m ∷ []) ≤ length (frames_of bytes)
        within = omega (arith, s.counted, ap length (frames-first s.rest frame), length-append s.marks (m ∷ []))

        one-longer : length (s.marks ++ m ∷ []) ≡ length s.marks + 1
        one-longer = omega (arith, length-append s.marks (m ∷ []))

        with-ledger : (l : Ledger) (more : List FrameMarks) → frames_ledger plan l start clock (frames_of bytes) (s.marks ++ m ∷ more)
            ≡ ledger_where t.stopped (next_ledger (frames_ledger plan l start clock (frames_of bytes) s.marks) t)
            (frames_ledger plan (next_ledger (frames_ledger plan l start clock (frames_of bytes) s.marks) t) t.cluster (later_answers s.left) (frames_of (behind_first s.rest)) more)
        with-ledger l more =
            s.keeps_on l (m ∷ more) ∙ ap (λ ps. frames_ledger plan (frames_ledger plan l start clock (frames_of bytes) s.marks) reached s.left ps (m ∷ more)) (frames-first s.rest frame)

        -- what it changed is kept behind what was kept
        kept-one : (l : Ledger) → frames_ledger plan l start clock (frames_of bytes) (s.marks ++ m ∷ []) ≡ next_ledger (frames_ledger plan l start clock (frames_of bytes) s.marks) t
        kept-one l = with-ledger l [] ∙ same-where t.stopped _ _ (ledger-none (next_ledger (frames_ledger plan l start clock (frames_of bytes) s.marks) t) t.cluster (later_answers s.left) (frames_of (behind_first s.rest)))

        -- it is the next
        next-frame : IsNextFrame plan start clock bytes s.marks m t
        next-frame = record {
          keeps = kept-one;
          full = λ l place room. record {
            mark = m;
            payload = first_payload s.rest;
            others = frames_of (behind_first s.rest);
            in_hand = refl;
            next = s.dropped ∙ frames-first s.rest frame;
            going = sym so-far-going;
            room = subst (λ (a : Answered). HasNoRoom (frames_ledger plan l start clock (frames_of bytes) s.marks) (frame_trace plan a.cluster (next_answer a.clock) (first_payload s.rest) m) place)
                (sym so-far) room;
          };
          fits = λ l so_far fit.
              fits-more plan m (first_payload s.rest) (frames_of (behind_first s.rest)) l start clock (frames_of bytes) s.marks (s.dropped ∙ frames-first s.rest frame) (sym so-far-going) so_far
              (subst (λ (a : Answered). FitsBatch (frames_ledger plan l start clock (frames_of bytes) s.marks) (frame_trace plan a.cluster (next_answer a.clock) (first_payload s.rest) m))
              (sym so-far) fit);
        }

        framed-more : framed (s.replies ++ own_reply t.replies) ≡ framed s.replies ++ framed (own_reply t.replies)
        framed-more = flat_map-append framed_reply s.replies (own_reply t.replies)

        -- its reply was written
        pub whole-here : (stopped : Bool) → t.stopped ≡ stopped → (after : Option (List ℕ)) (new : Cluster) (ticked : Option Answers) → new ≡ t.cluster → ticked ≡ Some (later_answers s.left)
            → Gains now after (framed (own_reply t.replies)) → ((marks : List FrameMarks) → IsNextFrame plan start clock bytes marks m t → Leaves marks [] reached reached → Later (marks ++ m ∷ []) [] t.cluster t.cluster)
            → LeftWhole plan start clock bytes Later old after ticked new stopped
        whole-here stopped is after new ticked same ticks gains step = record {
          marks = s.marks ++ m ∷ [];
          few = within;
          wrote = subst (λ (a : Answered). Gains old after (framed a.replies)) (sym (one-more stopped is))
              (subst (λ (xs : List ℕ). Gains old after xs) (sym framed-more) (Gains-append old now after (framed s.replies) (framed (own_reply t.replies)) s.wrote gains));
          ticks = ticks ∙ ap (λ (a : Answered). Some a.clock) (sym (one-more stopped is));
          holds = (same ∙ one-more-cluster, ap (λ (a : Answered). a.stopped) (sym (one-more stopped is)));
          areas = carried Later (s.marks ++ m ∷ []) [] t.cluster _ t.cluster _ one-more-cluster one-more-cluster (step s.marks next-frame s.areas);
        }

        -- its reply was written and the connection goes on
        pub goes-on : (after : Option (List ℕ)) (new : Cluster) (told_new : Option (List ℕ)) (ticked : Option Answers) (place_new : ℕ) → t.stopped ≡ false → new ≡ t.cluster → told_new ≡ Some (behind_first s.rest)
            → ticked ≡ Some (later_answers s.left) → place_new ≡ place + (4 + frame_size s.rest) → Gains now after (framed (own_reply t.replies))
            → ((marks : List FrameMarks) → IsNextFrame plan start clock bytes marks m t → Leaves marks [] reached reached → Later (marks ++ m ∷ []) [] t.cluster t.cluster)
            → HasServed plan start clock bytes Later old after new told_new ticked place_new
        goes-on after new told_new ticked place_new going same rest ticks raised gains step = record {
          rest = behind_first s.rest;
          left = later_answers s.left;
          told_is = rest;
          later_is = ticks;
          marks = s.marks ++ m ∷ [];
          replies = s.replies ++ own_reply t.replies;
          counted = omega (arith, s.counted, ap length (frames-first s.rest frame), length-append s.marks (m ∷ []));
          behind = s.behind ∙ behind-first s.rest frame;
          place_is = grind (arith, nat_tests, s.place_is, raised, frame, length-drop (4 + frame_size s.rest) s.rest);
          goes_on = λ more.
              ap (answered plan start clock (frames_of bytes)) (append_assoc s.marks (m ∷ []) more) ∙ with-frame more
              ∙ ap (λ k. then_answered (s.replies ++ own_reply t.replies) (unless_stopped k t.cluster (later_answers s.left) (answered plan t.cluster (later_answers s.left) (frames_of (behind_first s.rest)) more))) going
              ∙ ap (λ c. then_answered (s.replies ++ own_reply t.replies) (answered plan c (later_answers s.left) (frames_of (behind_first s.rest)) more)) (sym same);
          keeps_on = λ l more.
              ap (frames_ledger plan l start clock (frames_of bytes)) (append_assoc s.marks (m ∷ []) more) ∙ with-ledger l more
              ∙ ap (λ k. ledger_where k (next_ledger (frames_ledger plan l start clock (frames_of bytes) s.marks) t)
              (frames_ledger plan (next_ledger (frames_ledger plan l start clock (frames_of bytes) s.marks) t) t.cluster (later_answers s.left) (frames_of (behind_first s.rest)) more)) going
              ∙ ap (λ k. frames_ledger plan k t.cluster (later_answers s.left) (frames_of (behind_first s.rest)) more) (sym (kept-one l))
              ∙ ap (λ c. frames_ledger plan (frames_ledger plan l start clock (frames_of bytes) (s.marks ++ m ∷ [])) c (later_answers s.left) (frames_of (behind_first s.rest)) more) (sym same);
          dropped = ap (λ n. drop n (frames_of bytes)) one-longer
              ∙ sym (drop-drop 1 (length s.marks) (frames_of bytes)) ∙ ap (λ ps. drop 1 ps) (s.dropped ∙ frames-first s.rest frame);
          wrote = subst (λ (xs : List ℕ). Gains old after xs) (sym framed-more) (Gains-append old now after (framed s.replies) (framed (own_reply t.replies)) s.wrote gains);
          areas = carried Later (s.marks ++ m ∷ []) [] t.cluster _ t.cluster _ (sym same) (sym same) (step s.marks next-frame s.areas);
        }

        one-more-replies : framed (answered plan start clock (frames_of bytes) (s.marks ++ m ∷ [])).replies ≡ framed s.replies ++ framed (own_reply t.replies)
        one-more-replies = ap (λ (a : Answered). framed a.replies) (one-more t.stopped refl) ∙ framed-more

        -- It is in hand, and n bytes of its reply were written, but not all; and what the master holds where its events weren't handled, and where
        -- they were.
        pub in-hand : (after : Option (List ℕ)) (ticked : Option Answers) → ticked ≡ Some (later_answers s.left)
            → (n : ℕ) → n < length (framed (own_reply t.replies)) → Gains now after (take n (framed (own_reply t.replies)))
            → ((marks : List FrameMarks) → IsNextFrame plan start clock bytes marks m t → Leaves marks [] reached reached → Later marks (m ∷ []) reached t.cluster)
            → (left : LeftInHand plan start clock bytes Later old after ticked)
            × ((new : Cluster) (stopping : Bool) → (new ≡ reached) × (stopping ≡ false) → HoldsAfter plan start clock bytes Later left.in_hand.marks new stopping)
            × ((new : Cluster) (stopping : Bool) → (new ≡ t.cluster) × (stopping ≡ t.stopped)
            → HoldsAfter plan start clock bytes Later (left.in_hand.marks ++ left.in_hand.hand) new stopping)
        in-hand after ticked ticks n below gains step =
            let front = framed s.replies in
            let back = framed (own_reply t.replies) in
            let whole : framed (answered plan start clock (frames_of bytes) s.marks).replies ≡ front = ap (λ (a : Answered). framed a.replies) so-far in (
              record {
                in_hand = record {
                  marks = s.marks;
                  hand = m ∷ [];
                  few = within;
                  one = omega arith;
                  areas = carried Later s.marks (m ∷ []) reached _ t.cluster _ so-far-cluster one-more-cluster (step s.marks next-frame s.areas);
                };
                size = length front + n;
                least = omega (arith, ap length whole);
                most = inr (omega (arith, below, ap length one-more-replies, length-append front back));
                wrote = subst (λ (xs : List ℕ). Gains old after (take (length front + n) xs)) (sym one-more-replies)
                    (rw (take-append-add front back n) (Gains-append old now after front (take n back) s.wrote gains));
                ticks = ticks ∙ ap (λ (a : Answered). Some a.clock) (sym (one-more t.stopped refl));
              },
              λ new stopping e. (e.0 ∙ so-far-cluster, e.1 ∙ so-far-going),
              λ new stopping e. (e.0 ∙ one-more-cluster, e.1 ∙ ap (λ (a : Answered). a.stopped) (sym (one-more t.stopped refl))),
            )
