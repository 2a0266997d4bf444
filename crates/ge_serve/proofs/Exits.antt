-- How far a connection has come at a master, one frame more, and what each exit leaves and blames.
use Rattle.std.proofs.Common.{◌≡◌, ℕ, ◌+◌, Bool, true, false, List, length, Option, Some, None, Ok, Err, sym, ap, ◌∙◌, subst, ⊎_elim}
use Rattle.ge_outside.specs.Clocks.{Answers}
use Rattle.ge_outside.specs.Streams.{Gains, GainsPrefix}
use Rattle.ge_model_rows.specs.ClusterRows.{Cluster}
use Rattle.ge_model_rows.specs.EventRows.{Event, Planned}
use Rattle.ge_model_program.specs.Traced.{Traced}
use Rattle.ge_model_wire.specs.Frames.{reply_frame}
use Rattle.ge_model_program.specs.Answered.{FrameMarks, own_reply, framed, frame_trace}
use Rattle.ge_model_program.specs.Links.{OnTold, EndsAs}
use Rattle.ge_model_program.specs.declared.LinkEnd.{LinkEnd}
use Rattle.ge_model_program.specs.declared.LinkEnd.TheVariants as end
use Rattle.ge_model_program.proofs.Ending.{map-ends}
use Rattle.ge_model_program.proofs.Own.{reply-some}
use Rattle.ge_model_program.proofs.Serving.{HasServed}
use Rattle.ge_wire.specs.Answers.{Reads, OnlyReads}
use Rattle.ge_wire.specs.declared.faults.WireFault.{WireFault}
use Rattle.ge_master.specs.Areas.{Areas, HasFailed}
use Rattle.ge_master.specs.Homes.{Parts, IsHome}
use Rattle.ge_master.specs.declared.faults.Stop.{Stop}
use Rattle.ge_master.specs.declared.faults.Stop.TheVariants as stop
use Rattle.ge_serve.proofs.Kept.{stops-as}
use Rattle.ge_serve.specs.Leaving.{Keeps, KeepsSome, KeepsAt, LeavesAt}
use Rattle.ge_serve.specs.Ends.{end_of_fault, LinkEndsAs, LinkBlames}
use Rattle.ge_serve.specs.Replies.{AnswersFrame}
use Rattle.ge_serve.proofs.Leavings.{keeps-start, dead-start, keeps-at, leaves-at, keeps-some, keeps-hand, keeps-whole}
use Rattle.ge_serve.proofs.Steps.{on-told, none-yet, at-once, at-done, at-fault, Starts, starts-none, at-memory, at-part, at-stop, at-written, at-stopped, goes-on, held, same-start, same-whole, part-or-whole, blames-fault}

-- one side of a connection that a call on the other side leaves
pub same-side : (before after : Option (List ℕ) × ℕ) (old new : Option (List ℕ)) (m n : ℕ)
    → ◌≡◌ {A = Option (List ℕ) × ℕ} before (old, m) → ◌≡◌ {A = Option (List ℕ) × ℕ} after (new, n) → after ≡ before → (new ≡ old) × (n ≡ m)
same-side before after old new m n first second kept =
    let same : ◌≡◌ {A = Option (List ℕ) × ℕ} (new, n) (old, m) = sym second ∙ kept ∙ first in
    (ap (λ (p : Option (List ℕ) × ℕ). p.0) same, ap (λ (p : Option (List ℕ) × ℕ). p.1) same)

-- How far a connection has come, where it and the clock tell: what the master and the areas hold of it.
-- told and clock: what the connection had to read and the clock to answer at its start; left and later: what they have now
pub record HasCome (plan : Cluster → Event → Planned) (told : Option (List ℕ)) (clock : Option Answers) (start : Parts) (before : Areas) (old : Option (List ℕ))
    (mid : Parts) (now : Areas) (written left : Option (List ℕ)) (later : Option Answers) (place : ℕ) : Type 0 where
  pub served : OnTold told clock (λ bytes answers. HasServed plan start.cluster answers bytes (Keeps plan start before now bytes answers mid)
      old written mid.cluster left later place)

module _ (plan : Cluster → Event → Planned) (told : Option (List ℕ)) (clock : Option Answers) (start : Parts) (before : Areas) (old : Option (List ℕ)) where
  -- nothing was read yet
  pub come-none : HasCome plan told clock start before old start before old told clock 0
  come-none = record {
    served = none-yet plan told clock start.cluster (λ bytes answers. Keeps plan start before before bytes answers start) old
        (λ bytes answers. keeps-start plan start before bytes answers);
  }

  -- a master that is dead answers at once
  pub exit-dead : OnTold told clock (λ bytes answers. LinkEndsAs plan start start before before bytes answers old old clock (Err stop.Dead))
  exit-dead = at-once plan told clock start.cluster (λ bytes answers. LeavesAt plan start before before bytes answers stop.Dead) old
      (λ bytes answers. dead-start plan start before bytes answers)

  module _ (mid : Parts) (now : Areas) (written left : Option (List ℕ)) (later : Option Answers) (place : ℕ)
      (come : HasCome plan told clock start before old mid now written left later place) (going : mid.stopping ≡ false) where
    abbrev Left : List ℕ → Answers → List FrameMarks → List FrameMarks → Cluster → Cluster → Type 0
    Left bytes answers = Keeps plan start before now bytes answers mid

    -- reading leaves what was written, and the master
    as-left : (e : LinkEnd) (after : Option (List ℕ)) → after ≡ written
        → OnTold told clock (λ bytes answers. EndsAs plan start.cluster answers bytes (Left bytes answers) old written later e mid.cluster false)
        → OnTold told clock (λ bytes answers. LinkEndsAs plan start mid before now bytes answers old after later (Ok e))
    as-left e after kept ends =
        subst (λ (w : Option (List ℕ)). OnTold told clock (λ bytes answers. EndsAs plan start.cluster answers bytes (KeepsAt plan start before now bytes answers e mid) old w later e mid.cluster mid.stopping)) (sym kept)
        (subst (λ (s : Bool). OnTold told clock (λ bytes answers. EndsAs plan start.cluster answers bytes (KeepsAt plan start before now bytes answers e mid) old written later e mid.cluster s)) (sym going)
        (on-told told clock _ _ (λ bytes answers x.
        map-ends plan start.cluster answers bytes (Left bytes answers) (KeepsAt plan start before now bytes answers e mid) (λ marks hand c d few keeps. keeps-at plan start before bytes answers now mid marks hand c d e keeps)
        old written later mid.cluster false e x) ends))

    -- the bytes end where a frame ends
    pub exit-done : (left_new after : Option (List ℕ)) → after ≡ written → Reads left left_new place (Ok None)
        → OnTold told clock (λ bytes answers. LinkEndsAs plan start mid before now bytes answers old after later (Ok end.Done))
    exit-done left_new after kept reads =
        as-left end.Done after kept (at-done plan told clock start.cluster Left old written mid.cluster left later place come.served left_new reads)

    -- no frame was read
    pub exit-fault : (f : WireFault) (e : LinkEnd) → e ≡ end_of_fault f → (left_new after : Option (List ℕ)) → after ≡ written → (reason : Type 0)
        → Reads left left_new place (Err f) → OnlyReads {T = Option (List ℕ)} (Err f) place reason
        → OnTold told clock (λ bytes answers. LinkEndsAs plan start mid before now bytes answers old after later (Ok e))
    exit-fault f e is left_new after kept reason reads alone =
        as-left e after kept
        (subst (λ (x : LinkEnd). OnTold told clock (λ bytes answers. EndsAs plan start.cluster answers bytes (Left bytes answers) old written later x mid.cluster false)) (sym is)
        (at-fault plan told clock start.cluster Left old written mid.cluster left later place come.served f left_new reason reads alone))

    -- a frame was read, and its events were handled; left_read: what is left to read behind it
    module _ (left_read : Option (List ℕ)) (payload : List ℕ) (reads : Reads left left_read place (Ok (Some payload))) (home : IsHome start before → IsHome mid now)
        (new : Parts) (after : Areas) (ticked : Option Answers) where
      abbrev LeftNow : List ℕ → Answers → List FrameMarks → List FrameMarks → Cluster → Cluster → Type 0
      LeftNow bytes answers = Keeps plan start before after bytes answers new

      -- memory was wanted for it
      pub exit-memory : (written_now : Option (List ℕ)) → written_now ≡ written → AnswersFrame plan mid new payload later ticked (Ok None) now after
          → OnTold told clock (λ bytes answers. LinkEndsAs plan start new before after bytes answers old written_now ticked (Ok end.Memory))
      exit-memory written_now kept f =
          let t : Traced = frame_trace plan mid.cluster f.moment payload f.marks in
          at-memory plan told clock start.cluster Left old written mid.cluster left later place come.served left_read payload reads ticked f.moment f.ticks f.marks
          (λ bytes answers. KeepsSome plan start before after bytes answers new)
          written_now new.cluster new.stopping (held t mid new (HasFailed now after) going f.replies)
          (starts-none written written_now (framed (own_reply t.replies)) kept (reply-some plan mid.cluster f.moment payload f.marks))
          (λ bytes answers marks next areas. keeps-some plan start before bytes answers now after mid new payload later ticked home marks areas f next)

      -- the master stopped
      pub exit-stop : (written_now : Option (List ℕ)) → written_now ≡ written → (s : Stop) → AnswersFrame plan mid new payload later ticked (Err s) now after
          → OnTold told clock (λ bytes answers. LinkEndsAs plan start new before after bytes answers old written_now ticked (Err s))
      exit-stop written_now kept s f =
          at-stop plan told clock start.cluster Left old written mid.cluster left later place come.served left_read payload reads ticked f.moment f.ticks f.marks
          (λ bytes answers. LeavesAt plan start before after bytes answers s) written_now kept
          (λ bytes answers marks next areas. leaves-at plan start before bytes answers now after mid new payload later ticked home marks areas s f next)

      -- its reply is text; written_read and written_now: what was written before the reply and is now
      module _ (text : List ℕ) (f : AnswersFrame plan mid new payload later ticked (Ok (Some text)) now after) (written_read written_now : Option (List ℕ)) (kept : written_read ≡ written) where
        abbrev trace : Traced
        trace = frame_trace plan mid.cluster f.moment payload f.marks

        stops : trace.stopped ≡ new.stopping
        stops = stops-as mid.stopping new.stopping trace.stopped going f.replies.1.1

        all-of : Gains written_read written_now (reply_frame text) → Gains written written_now (framed (own_reply trace.replies))
        all-of gains = same-whole written_read written written_now (framed (own_reply trace.replies)) (reply_frame text) kept f.replies.0 gains

        in-part : Starts written_read written_now (reply_frame text)
            → OnTold told clock (λ bytes answers. LinkEndsAs plan start new before after bytes answers old written_now ticked (Ok end.Write))
        in-part begun =
            at-part plan told clock start.cluster Left old written mid.cluster left later place come.served left_read payload reads ticked f.moment f.ticks f.marks LeftNow
            written_now new.cluster new.stopping f.replies.1.0 (sym stops)
            (same-start written_read written written_now (framed (own_reply trace.replies)) (reply_frame text) kept f.replies.0 begun)
            (λ bytes answers marks next areas. keeps-hand plan start before bytes answers now after mid new payload later ticked home marks areas text f next)

        in-whole : Gains written_read written_now (reply_frame text)
            → OnTold told clock (λ bytes answers. LinkEndsAs plan start new before after bytes answers old written_now ticked (Ok end.Write))
        in-whole gains =
            at-written plan told clock start.cluster Left old written mid.cluster left later place come.served left_read payload reads ticked f.moment f.ticks f.marks LeftNow
            written_now new.cluster new.stopping f.replies.1.0 stops (all-of gains)
            (λ bytes answers marks next areas. keeps-whole plan start before bytes answers now after mid new payload later ticked home marks areas text f next)

        -- writing the reply failed
        pub exit-write : GainsPrefix written_read written_now (reply_frame text)
            → OnTold told clock (λ bytes answers. LinkEndsAs plan start new before after bytes answers old written_now ticked (Ok end.Write))
        exit-write gains = ⊎_elim (λ begun. in-part begun) (λ all. in-whole all) (part-or-whole written_read written_now (reply_frame text) gains)

        -- it was written, and the master stops
        pub exit-stopped : new.stopping ≡ true → Gains written_read written_now (reply_frame text)
            → OnTold told clock (λ bytes answers. LinkEndsAs plan start new before after bytes answers old written_now ticked (Ok end.Stopped))
        exit-stopped asks gains =
            subst (λ (s : Bool). OnTold told clock (λ bytes answers. EndsAs plan start.cluster answers bytes (LeftNow bytes answers) old written_now ticked end.Stopped new.cluster s)) (sym asks)
            (at-stopped plan told clock start.cluster Left old written mid.cluster left later place come.served left_read payload reads ticked f.moment f.ticks f.marks LeftNow
            written_now new.cluster f.replies.1.0 (stops ∙ asks) (all-of gains)
            (λ bytes answers marks next areas. keeps-whole plan start before bytes answers now after mid new payload later ticked home marks areas text f next))

        -- it was written, and the connection goes on
        pub come-on : (left_now : Option (List ℕ)) (place_now : ℕ) → new.stopping ≡ false → left_now ≡ left_read → place_now ≡ place + (4 + length payload)
            → Gains written_read written_now (reply_frame text) → HasCome plan told clock start before old new after written_now left_now ticked place_now
        come-on left_now place_now still stays raised gains = record {
          served =
              goes-on plan told clock start.cluster Left old written mid.cluster left later place come.served left_read payload reads ticked f.moment f.ticks f.marks LeftNow
              written_now new.cluster left_now place_now f.replies.1.0 (stops ∙ still) stays raised (all-of gains)
              (λ bytes answers marks next areas. keeps-whole plan start before bytes answers now after mid new payload later ticked home marks areas text f next);
        }

-- the reason of an end by a fault of reading
pub fault-blames : (f : WireFault) (e : LinkEnd) → e ≡ end_of_fault f → (place : ℕ) (reason reads writes disks gone : Type 0)
    → OnlyReads {T = Option (List ℕ)} (Err f) place reason → (reason → reads) → LinkBlames (Ok e) reads writes disks gone
fault-blames f e is place reason reads writes disks gone alone why =
    subst (λ (x : LinkEnd). LinkBlames (Ok x) reads writes disks gone) (sym is) (blames-fault f place reason reads writes disks gone alone why)
