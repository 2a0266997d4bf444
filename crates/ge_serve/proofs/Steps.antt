-- Where a connection and a clock tell: what each exit leaves.
use Rattle.std.proofs.Common.{◌≡◌, ◌⊎◌, ℕ, ◌+◌, ◌<◌, ◌≤◌, Bool, true, false, List, [], ◌∷◌, ◌++◌, length, take, drop, Option, Some, None, Result, Ok, Err, sym, ap, ◌∙◌, refl, subst, inl, inr, ⊎_elim, arith}
use Rattle.std.proofs.lemmas.List.{length-take, length-drop}
use Rattle.std.proofs.lemmas.Bool.{cases_lt}
use Rattle.std.proofs.lemmas.Bool.Decides.{nat_tests}
use Rattle.std.proofs.Math.Seq.{take-length}
use Rattle.ge_outside.specs.Clocks.{Answers, Ticks, next_answer, later_answers}
use Rattle.ge_outside.specs.Streams.{Gains, GainsPrefix}
use Rattle.ge_model_rows.specs.ClusterRows.{Cluster}
use Rattle.ge_model_rows.specs.EventRows.{Event, Planned}
use Rattle.ge_model_program.specs.Traced.{Traced}
use Rattle.ge_model_wire.specs.Frames.{link_bytes, frame_size, is_no_frame, first_payload, taken_of}
use Rattle.ge_model_program.specs.Answered.{FrameMarks, own_reply, framed, frame_trace}
use Rattle.ge_model_program.specs.Links.{OnTold, LeftWhole, LeftInHand, HoldsAfter, HoldsOneOf, EndsAs}
use Rattle.ge_model_program.specs.declared.LinkEnd.TheVariants as end
use Rattle.ge_model_program.proofs.Own.{reply-some}
use Rattle.ge_model_program.proofs.Ending.{whole-left}
use Rattle.ge_model_program.proofs.Serving as serving
use Rattle.ge_model_program.proofs.Serving.{HasServed, IsNextFrame}
use Rattle.ge_wire.specs.Answers.{Reads, OnlyReads}
use Rattle.ge_wire.specs.declared.faults.WireFault.{WireFault}
use Rattle.ge_wire.specs.declared.faults.WireFault.TheVariants as fault
use Rattle.ge_master.specs.Homes.{Parts}
use Rattle.ge_serve.proofs.Kept.{stops-as}
use Rattle.ge_master.specs.declared.faults.Stop.{Stop}
use Rattle.ge_master.specs.declared.faults.Stop.TheVariants as stop
use Rattle.ge_serve.specs.Ends.{end_of_fault, LinkBlames}
use Rattle.ge_serve.specs.Replies.{RepliesWith, BlamesDisk}

pub on-told : (told : Option (List ℕ)) (clock : Option Answers) (P Q : List ℕ → Answers → Type 0) → ((bytes : List ℕ) (answers : Answers) → P bytes answers → Q bytes answers) → OnTold told clock P → OnTold told clock Q
on-told (Some bytes) (Some answers) P Q step p = step bytes answers p
on-told None clock P Q step p = tt
on-told (Some bytes) None P Q step p = tt

pub none-yet : (plan : Cluster → Event → Planned) (told : Option (List ℕ)) (clock : Option Answers) (start : Cluster) (Leaves : List ℕ → Answers → List FrameMarks → List FrameMarks → Cluster → Cluster → Type 0) (old : Option (List ℕ))
    → ((bytes : List ℕ) (answers : Answers) → Leaves bytes answers [] [] start start) → OnTold told clock (λ bytes answers. HasServed plan start answers bytes (Leaves bytes answers) old old start told clock 0)
none-yet plan (Some bytes) (Some answers) start Leaves old areas = serving.served-none plan start answers bytes (Leaves bytes answers) old (areas bytes answers)
none-yet plan None clock start Leaves old areas = tt
none-yet plan (Some bytes) None start Leaves old areas = tt

ticks-told : (a new : Option Answers) (old : Answers) (moment : ℕ) → a ≡ Some old → Ticks a new moment → (moment ≡ next_answer old) × (new ≡ Some (later_answers old))
ticks-told a new old moment is ticks = told new (subst (λ x. Ticks x new moment) is ticks)
  where
    told : (new : Option Answers) → Ticks (Some old) new moment → (moment ≡ next_answer old) × (new ≡ Some (later_answers old))
    told None ticks = absurd ticks
    told (Some x) ticks = (ticks.0, ap (λ y. Some y) ticks.1)

reads-told : (a new : Option (List ℕ)) (rest : List ℕ) (at : ℕ) (result : Result (Option (List ℕ)) WireFault) → a ≡ Some rest → Reads a new at result → Reads (Some rest) new at result
reads-told a new rest at result is reads = subst (λ x. Reads x new at result) is reads

payload-long : (bytes : List ℕ) → is_no_frame bytes ≡ false → length (first_payload bytes) ≡ frame_size bytes
payload-long bytes frame = grind (arith, nat_tests, frame, length-take (frame_size bytes) (drop 4 bytes), length-drop 4 bytes)

-- a front of a reply was written, but not all of it
abbrev pub Starts : Option (List ℕ) → Option (List ℕ) → List ℕ → Type 0
Starts old new bytes = (n : ℕ) × (n < length bytes) × Gains old new (take n bytes)

pub starts-none : (now after : Option (List ℕ)) (bytes : List ℕ) → after ≡ now → 0 < length bytes → Starts now after bytes
starts-none now after bytes kept some = (0, some, subst (λ (w : Option (List ℕ)). Gains now w []) (sym kept) (serving.Gains-nothing now))

module _ (plan : Cluster → Event → Planned) (told : Option (List ℕ)) (clock : Option Answers) (start : Cluster) (Leaves : List ℕ → Answers → List FrameMarks → List FrameMarks → Cluster → Cluster → Type 0) (old now : Option (List ℕ)) (reached : Cluster)
    (told_now : Option (List ℕ)) (later : Option Answers) (place : ℕ) (so_far : OnTold told clock (λ bytes answers. HasServed plan start answers bytes (Leaves bytes answers) old now reached told_now later place)) where
  pub at-done : (told_new : Option (List ℕ)) → Reads told_now told_new place (Ok None) → OnTold told clock (λ bytes answers. EndsAs plan start answers bytes (Leaves bytes answers) old now later end.Done reached false)
  at-done told_new reads = on-told told clock _ _ (λ bytes answers s.
      let r = reads-told told_now told_new s.rest place (Ok None) s.told_is reads in
      let none : is_no_frame s.rest ≡ true = ap is_no_frame r.0 in (
        serving.left-all plan start answers bytes (Leaves bytes answers) old now reached told_now later place s none,
        serving.rest-is plan start answers bytes (Leaves bytes answers) old now reached told_now later place s none ∙ r.0,
        omega (arith, r.1, ap length r.0, s.place_is),
      )) so_far

  -- no frame was read
  pub at-fault : (f : WireFault) (told_new : Option (List ℕ)) (reason : Type 0) → Reads told_now told_new place (Err f) → OnlyReads {T = Option (List ℕ)} (Err f) place reason
      → OnTold told clock (λ bytes answers. EndsAs plan start answers bytes (Leaves bytes answers) old now later (end_of_fault f) reached false)
  at-fault fault.Read told_new reason reads alone = on-told told clock _ _ (λ bytes answers s. (serving.left-whole plan start answers bytes (Leaves bytes answers) old now reached told_now later place s, refl)) so_far
  at-fault fault.Write told_new reason reads alone = absurd alone
  at-fault (fault.Frame at) told_new reason reads alone = on-told told clock _ _ (λ bytes answers s.
      let r = reads-told told_now told_new s.rest place (Err (fault.Frame at)) s.told_is reads in
      let is = serving.rest-is plan start answers bytes (Leaves bytes answers) old now reached told_now later place s r.1 in
      let below : at + taken_of s.rest < link_bytes = subst (λ (n : ℕ). n + taken_of s.rest < link_bytes) (sym alone) r.2 in (
        serving.left-all plan start answers bytes (Leaves bytes answers) old now reached told_now later place s r.1,
        (λ e. r.0 (sym is ∙ e)),
        omega (arith, alone, ap length is, s.place_is),
        subst (λ (xs : List ℕ). at + taken_of xs < link_bytes) (sym is) below,
      )) so_far
  at-fault fault.Long told_new reason reads alone = on-told told clock _ _ (λ bytes answers s.
      let r = reads-told told_now told_new s.rest place (Err fault.Long) s.told_is reads in
      (serving.left-whole plan start answers bytes (Leaves bytes answers) old now reached told_now later place s, refl, serving.is-long plan start answers bytes (Leaves bytes answers) old now reached told_now later place s r)) so_far
  at-fault fault.NoMemory told_new reason reads alone = on-told told clock _ _ (λ bytes answers s. serving.nothing-in-hand plan start answers bytes (Leaves bytes answers) old now reached told_now later place s) so_far

  -- a frame was read and its events were handled; Later: what the areas are left with then
  module _ (told_new : Option (List ℕ)) (payload : List ℕ) (reads : Reads told_now told_new place (Ok (Some payload))) (ticked : Option Answers) (moment : ℕ) (ticks : Ticks later ticked moment)
      (m : FrameMarks) (Later : List ℕ → Answers → List FrameMarks → List FrameMarks → Cluster → Cluster → Type 0) where
    abbrev pub t : Traced
    t = frame_trace plan reached moment payload m

    same-trace : (rest : List ℕ) (left : Answers) → payload ≡ first_payload rest → moment ≡ next_answer left → t ≡ frame_trace plan reached (next_answer left) (first_payload rest) m
    same-trace rest left same is = ap (λ n. frame_trace plan reached n payload m) is ∙ ap (λ p. frame_trace plan reached (next_answer left) p m) same

    -- what it leaves where its reply is written, and where it is in hand
    abbrev pub WholeStep : Type 0
    WholeStep = (bytes : List ℕ) (answers : Answers) (marks : List FrameMarks) → IsNextFrame plan start answers bytes marks m t → Leaves bytes answers marks [] reached reached
        → Later bytes answers (marks ++ m ∷ []) [] t.cluster t.cluster

    abbrev pub HandStep : Type 0
    HandStep = (bytes : List ℕ) (answers : Answers) (marks : List FrameMarks) → IsNextFrame plan start answers bytes marks m t → Leaves bytes answers marks [] reached reached
        → Later bytes answers marks (m ∷ []) reached t.cluster

    module _ (after : Option (List ℕ)) (new : Cluster) where
      -- a front of its reply was written
      in-hand : Starts now after (framed (own_reply t.replies)) → HandStep
          → OnTold told clock (λ bytes answers. (left : LeftInHand plan start answers bytes (Later bytes answers) old after ticked)
          × ((stopping : Bool) → (new ≡ reached) × (stopping ≡ false) → HoldsAfter plan start answers bytes (Later bytes answers) left.in_hand.marks new stopping)
          × ((stopping : Bool) → (new ≡ t.cluster) × (stopping ≡ t.stopped)
          → HoldsAfter plan start answers bytes (Later bytes answers) (left.in_hand.marks ++ left.in_hand.hand) new stopping))
      in-hand starts step = on-told told clock _ _ (λ bytes answers s.
          let r = reads-told told_now told_new s.rest place (Ok (Some payload)) s.told_is reads in
          let k = ticks-told later ticked s.left moment s.later_is ticks in
          let same = same-trace s.rest s.left r.1 k.0 in
          let begun = subst (λ (t : Traced). Starts now after (framed (own_reply t.replies))) same starts in
          let left = serving.in-hand plan start answers bytes (Leaves bytes answers) old now reached told_now later place s r.0 m (Later bytes answers) after ticked k.1
          begun.0 begun.1 begun.2
          (λ marks next areas. subst (λ (t : Traced). Later bytes answers marks (m ∷ []) reached t.cluster) same
          (step bytes answers marks (subst (λ (t : Traced). IsNextFrame plan start answers bytes marks m t) (sym same) next) areas)) in
          (left.0, (λ stopping e. left.1 new stopping e), (λ stopping e. left.2 new stopping (e.0 ∙ ap (λ (t : Traced). t.cluster) same, e.1 ∙ ap (λ (t : Traced). t.stopped) same)))) so_far

      -- memory was wanted, before its events were handled or behind that
      pub at-memory : (stopping : Bool) → ((new ≡ reached) × (stopping ≡ false)) ⊎ ((new ≡ t.cluster) × (stopping ≡ t.stopped)) → Starts now after (framed (own_reply t.replies)) → HandStep
          → OnTold told clock (λ bytes answers. (left : LeftInHand plan start answers bytes (Later bytes answers) old after ticked) × HoldsOneOf plan start answers bytes (Later bytes answers) left.in_hand new stopping)
      at-memory stopping which starts step = on-told told clock _ _ (λ bytes answers h. (h.0, ⊎_elim (λ e. inl (h.1 stopping e)) (λ e. inr (h.2 stopping e)) which)) (in-hand starts step)

      -- its events were handled, and writing its reply failed
      pub at-part : (stopping : Bool) → new ≡ t.cluster → stopping ≡ t.stopped → Starts now after (framed (own_reply t.replies)) → HandStep
          → OnTold told clock (λ bytes answers. EndsAs plan start answers bytes (Later bytes answers) old after ticked end.Write new stopping)
      at-part stopping to stops starts step = on-told told clock _ _ (λ bytes answers h. (h.0, h.2 stopping (to, stops))) (in-hand starts step)

      -- the master stopped
      pub at-given-up : Starts now after (framed (own_reply t.replies)) → HandStep
          → OnTold told clock (λ bytes answers. LeftInHand plan start answers bytes (Later bytes answers) old after ticked)
      at-given-up starts step = on-told told clock _ _ (λ bytes answers h. h.0) (in-hand starts step)

      -- its reply was written
      at-whole : (stopped : Bool) → new ≡ t.cluster → t.stopped ≡ stopped → Gains now after (framed (own_reply t.replies)) → WholeStep
          → OnTold told clock (λ bytes answers. LeftWhole plan start answers bytes (Later bytes answers) old after ticked new stopped)
      at-whole stopped to stops gains step = on-told told clock _ _ (λ bytes answers s.
          let r = reads-told told_now told_new s.rest place (Ok (Some payload)) s.told_is reads in
          let k = ticks-told later ticked s.left moment s.later_is ticks in
          let same = same-trace s.rest s.left r.1 k.0 in
          serving.whole-here plan start answers bytes (Leaves bytes answers) old now reached told_now later place s r.0 m (Later bytes answers) stopped
          (ap (λ (t : Traced). t.stopped) (sym same) ∙ stops) after new ticked (to ∙ ap (λ (t : Traced). t.cluster) same) k.1
          (subst (λ (t : Traced). Gains now after (framed (own_reply t.replies))) same gains)
          (λ marks next areas. subst (λ (t : Traced). Later bytes answers (marks ++ m ∷ []) [] t.cluster t.cluster) same
          (step bytes answers marks (subst (λ (t : Traced). IsNextFrame plan start answers bytes marks m t) (sym same) next) areas))) so_far

      -- though the write failed behind it
      pub at-written : (stopping : Bool) → new ≡ t.cluster → t.stopped ≡ stopping → Gains now after (framed (own_reply t.replies)) → WholeStep
          → OnTold told clock (λ bytes answers. EndsAs plan start answers bytes (Later bytes answers) old after ticked end.Write new stopping)
      at-written stopping to stops gains step =
          on-told told clock _ _ (λ bytes answers w. whole-left plan start answers bytes (Later bytes answers) old after ticked new stopping w) (at-whole stopping to stops gains step)

      pub at-stopped : new ≡ t.cluster → t.stopped ≡ true → Gains now after (framed (own_reply t.replies)) → WholeStep
          → OnTold told clock (λ bytes answers. EndsAs plan start answers bytes (Later bytes answers) old after ticked end.Stopped new true)
      at-stopped to stops gains step = on-told told clock _ _ (λ bytes answers w. (w, refl)) (at-whole true to stops gains step)

      pub goes-on : (told_after : Option (List ℕ)) (place_new : ℕ) → new ≡ t.cluster → t.stopped ≡ false → told_after ≡ told_new → place_new ≡ place + (4 + length payload) → Gains now after (framed (own_reply t.replies))
          → WholeStep
          → OnTold told clock (λ bytes answers. HasServed plan start answers bytes (Later bytes answers) old after new told_after ticked place_new)
      goes-on told_after place_new to going stays raised gains step = on-told told clock _ _ (λ bytes answers s.
          let r = reads-told told_now told_new s.rest place (Ok (Some payload)) s.told_is reads in
          let k = ticks-told later ticked s.left moment s.later_is ticks in
          let same = same-trace s.rest s.left r.1 k.0 in
          serving.goes-on plan start answers bytes (Leaves bytes answers) old now reached told_now later place s r.0 m (Later bytes answers) after new told_after ticked place_new
          (ap (λ (t : Traced). t.stopped) (sym same) ∙ going) (to ∙ ap (λ (t : Traced). t.cluster) same) (stays ∙ r.2) k.1 (omega (arith, raised, ap length r.1, payload-long s.rest r.0))
          (subst (λ (t : Traced). Gains now after (framed (own_reply t.replies))) same gains)
          (λ marks next areas. subst (λ (t : Traced). Later bytes answers (marks ++ m ∷ []) [] t.cluster t.cluster) same
          (step bytes answers marks (subst (λ (t : Traced). IsNextFrame plan start answers bytes marks m t) (sym same) next) areas))) so_far

    -- the master stopped, and nothing of a reply was written
    pub at-stop : (after : Option (List ℕ)) → after ≡ now → HandStep → OnTold told clock (λ bytes answers. LeftInHand plan start answers bytes (Later bytes answers) old after ticked)
    at-stop after kept step = at-given-up after reached (starts-none now after (framed (own_reply t.replies)) kept (reply-some plan reached moment payload m)) step

-- a connection that isn't begun
pub at-once : (plan : Cluster → Event → Planned) (told : Option (List ℕ)) (clock : Option Answers) (start : Cluster) (Leaves : List ℕ → Answers → List FrameMarks → List FrameMarks → Cluster → Cluster → Type 0) (old : Option (List ℕ))
    → ((bytes : List ℕ) (answers : Answers) → Leaves bytes answers [] [] start start) → OnTold told clock (λ bytes answers. LeftInHand plan start answers bytes (Leaves bytes answers) old old clock)
at-once plan (Some bytes) (Some answers) start Leaves old areas =
    (serving.nothing-in-hand plan start answers bytes (Leaves bytes answers) old old start (Some bytes) (Some answers) 0
    (serving.served-none plan start answers bytes (Leaves bytes answers) old (areas bytes answers))).0
at-once plan None clock start Leaves old areas = tt
at-once plan (Some bytes) None start Leaves old areas = tt

-- what the master holds where memory was wanted, for one that was going
pub held : (t : Traced) (old new : Parts) (reason : Type 0) → old.stopping ≡ false → RepliesWith t old new (Ok None) reason
    → ((new.cluster ≡ old.cluster) × (new.stopping ≡ false)) ⊎ ((new.cluster ≡ t.cluster) × (new.stopping ≡ t.stopped))
held t old new reason going replies =
    ⊎_elim (λ e. inl (e.0, e.1 ∙ going)) (λ e. inr (e.0, sym (stops-as old.stopping new.stopping t.stopped going e.1))) replies

-- a front of a reply was written, or all of it
pub same-start : (before now after : Option (List ℕ)) (wanted bytes : List ℕ) → before ≡ now → wanted ≡ bytes → Starts before after bytes → Starts now after wanted
same-start before now after wanted bytes kept is begun = subst (λ w. Starts w after wanted) kept (subst (λ (xs : List ℕ). Starts before after xs) (sym is) begun)

by-size : (old new : Option (List ℕ)) (bytes : List ℕ) (n : ℕ) → n ≤ length bytes → Gains old new (take n bytes) → (n < length bytes) ⊎ (length bytes ≤ n) → Starts old new bytes ⊎ Gains old new bytes
by-size old new bytes n within gains (inl below) = inl (n, below, gains)
by-size old new bytes n within gains (inr above) =
    let all : n ≡ length bytes = omega (arith, within, above) in
    let taken : take n bytes ≡ bytes = ap (λ k. take k bytes) all ∙ take-length bytes in
    inr (subst (λ (xs : List ℕ). Gains old new xs) taken gains)

pub part-or-whole : (old new : Option (List ℕ)) (bytes : List ℕ) → GainsPrefix old new bytes → Starts old new bytes ⊎ Gains old new bytes
part-or-whole old new bytes gains = by-size old new bytes gains.0 gains.1 gains.2 (cases_lt gains.0 (length bytes))

pub same-whole : (before now after : Option (List ℕ)) (wanted bytes : List ℕ) → before ≡ now → wanted ≡ bytes → Gains before after bytes → Gains now after wanted
same-whole before now after wanted bytes kept is gains = subst (λ w. Gains w after wanted) kept (subst (λ (xs : List ℕ). Gains before after xs) (sym is) gains)

-- a fault of reading has its reason
pub blames-fault : (f : WireFault) (place : ℕ) (reason reads writes disks gone : Type 0) → OnlyReads {T = Option (List ℕ)} (Err f) place reason → (reason → reads) → LinkBlames (Ok (end_of_fault f)) reads writes disks gone
blames-fault fault.Read place reason reads writes disks gone alone why = why alone
blames-fault fault.Write place reason reads writes disks gone alone why = absurd alone
blames-fault (fault.Frame at) place reason reads writes disks gone alone why = tt
blames-fault fault.Long place reason reads writes disks gone alone why = tt
blames-fault fault.NoMemory place reason reads writes disks gone alone why = tt

-- and so has a stop
pub blames-stop : (s : Stop) (reason reads writes disks gone : Type 0) → BlamesDisk s reason → (reason → disks) → LinkBlames (Err s) reads writes disks gone
blames-stop stop.Disk reason reads writes disks gone blames why = why blames
blames-stop (stop.Full place) reason reads writes disks gone blames why = tt
blames-stop stop.Spent reason reads writes disks gone blames why = tt
blames-stop stop.Dead reason reads writes disks gone blames why = absurd blames
