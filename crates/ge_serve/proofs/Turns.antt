-- One connection of a door: what each exit of a turn tells.
use Rattle.std.proofs.Common.{◌≡◌, ◌⊎◌, ℕ, ◌+◌, ◌<◌, Bool, true, false, List, [], ◌∷◌, ◌++◌, Option, Some, None, Ok, Err, refl, ap, ◌∙◌, subst, inl, inr, arith}
use Rattle.ge_outside.specs.Clocks.{Answers}
use Rattle.ge_outside.specs.Doors.{ClosedLink, Opens, Closes}
use Rattle.ge_outside.specs.Faults.{Rose}
use Rattle.ge_model_rows.specs.ClusterRows.{Cluster}
use Rattle.ge_model_rows.specs.EventRows.{Event, Planned}
use Rattle.ge_model_program.specs.Links.{OnTold, LeftInHand, EndsAs}
use Rattle.ge_model_program.specs.Answered.{FrameMarks}
use Rattle.ge_model_program.specs.FramesKept.{IsFull}
use Rattle.ge_model_program.specs.Served.{IsGivenBack, KeepsFrames}
use Rattle.ge_model_program.specs.Doors.{OnDoor}
use Rattle.ge_model_program.specs.declared.LinkEnd.{LinkEnd}
use Rattle.ge_model_program.specs.declared.LinkEnd.TheVariants as end
use Rattle.ge_model_program.proofs.Ending.{map-hand, map-ends, hand-of, later-told}
use Rattle.ge_master.specs.Areas.{Areas}
use Rattle.ge_master.specs.Homes.{Parts, IsHome}
use Rattle.ge_master.specs.Ledgers.{ledger_of}
use Rattle.ge_master.specs.declared.faults.Stop.{Stop}
use Rattle.ge_master.specs.declared.faults.Stop.TheVariants as stop
use Rattle.ge_master.proofs.AtHome.{home-stands}
use Rattle.ge_serve.specs.Leaving.{LeavesHand, KeepsAt, LeavesAt, OnFull}
use Rattle.ge_serve.specs.Ends.{LinkBlames}
use Rattle.ge_serve.specs.Serves.{is_memory, status_of_stop, status_of_fault, FaultBlames, OneServed, NoneAccepted, OneKept}
use Rattle.ge_serve.specs.declared.statuses.ServeFault.{ServeFault}
use Rattle.ge_serve.specs.declared.statuses.ServeFault.TheVariants as fault
use Rattle.ge_serve.proofs.Leavings.{at-leaves}

-- where a door and a clock tell, what follows from a connection that was accepted and served
opened : (coming coming_now : Option (List (List ℕ))) (closed : Option (List ClosedLink)) (clock : Option Answers) (rest written : Option (List ℕ)) (Q : List ℕ → Answers → Type 0)
    (R : List (List ℕ) → List ClosedLink → Answers → Type 0) → Opens coming coming_now rest written → OnTold rest clock Q
    → ((bytes : List ℕ) (others : List (List ℕ)) (links : List ClosedLink) (answers : Answers) → closed ≡ Some links → clock ≡ Some answers → coming_now ≡ Some others → written ≡ Some [] → Q bytes answers → R (bytes ∷ others) links answers)
    → OnDoor coming closed clock R
opened None coming_now closed clock rest written Q R opens served follow = tt
opened (Some coming) coming_now None clock rest written Q R opens served follow = tt
opened (Some coming) coming_now (Some links) None rest written Q R opens served follow = tt
opened (Some []) coming_now (Some links) (Some answers) rest written Q R opens served follow = absurd opens
opened (Some (bytes ∷ others)) None (Some links) (Some answers) rest written Q R opens served follow = absurd opens
opened (Some (bytes ∷ others)) (Some now) (Some links) (Some answers) None written Q R opens served follow = absurd opens
opened (Some (bytes ∷ others)) (Some now) (Some links) (Some answers) (Some rest) None Q R opens served follow = absurd opens
opened (Some (bytes ∷ others)) (Some now) (Some links) (Some answers) (Some rest) (Some written) Q R opens served follow =
    follow bytes others links answers refl refl (ap (λ x. Some x) opens.0) (ap (λ x. Some x) opens.2) (subst (λ (x : List ℕ). Q x answers) opens.1 served)

-- what was given back
closed-told : (links : List ClosedLink) (closed_now : Option (List ClosedLink)) (rest written : Option (List ℕ)) (faults : ℕ) → Closes (Some links) closed_now rest written faults
    → (unread : List ℕ) × (wrote : List ℕ) × (written ≡ Some wrote) × (closed_now ≡ Some (links ++ record { unread = unread; written = wrote; faults = faults } ∷ []))
closed-told links None rest written faults closes = absurd closes
closed-told links (Some now) None written faults closes = absurd closes
closed-told links (Some now) (Some rest) None faults closes = absurd closes
closed-told links (Some now) (Some rest) (Some written) faults closes = (rest, written, refl, ap (λ x. Some x) closes)

some_fault : (before count other : ℕ) → before ≡ 0 → Rose before count → 0 < count + other
some_fault before count other none rose = omega (arith, none, rose)

never_both : ◌≡◌ {A = Bool} true false → ⊥
never_both e = cc

-- a connection that ended otherwise than for want of memory may be given back
given-back : (end : LinkEnd) (reads reads_now writes writes_now : ℕ) (disks gone : Type 0) → reads ≡ 0 → writes ≡ 0 → is_memory end ≡ false → LinkBlames (Ok end) (Rose reads reads_now) (Rose writes writes_now) disks gone
    → IsGivenBack end (reads_now + writes_now)
given-back end.Done reads reads_now writes writes_now disks gone no_reads no_writes is blames = tt
given-back end.Stopped reads reads_now writes writes_now disks gone no_reads no_writes is blames = tt
given-back end.Read reads reads_now writes writes_now disks gone no_reads no_writes is blames = some_fault reads reads_now writes_now no_reads blames
given-back end.Write reads reads_now writes writes_now disks gone no_reads no_writes is blames = omega (arith, some_fault writes writes_now reads_now no_writes blames)
given-back (end.Frame place) reads reads_now writes writes_now disks gone no_reads no_writes is blames = tt
given-back end.Long reads reads_now writes writes_now disks gone no_reads no_writes is blames = tt
given-back end.Memory reads reads_now writes writes_now disks gone no_reads no_writes is blames = absurd (never_both is)

-- the door failed before a connection was accepted
pub none-accepted : (plan : Cluster → Event → Planned) (old : Parts) (before : Areas) (coming coming_now : Option (List (List ℕ))) (closed closed_now : Option (List ClosedLink)) (clock : Option Answers)
    → coming_now ≡ coming → closed_now ≡ closed
    → OnDoor coming closed clock (λ cs links answers. NoneAccepted old old before before cs links answers coming_now closed_now clock fault.Door ⊎ OneKept plan old before before cs links answers coming_now closed_now fault.Door)
none-accepted plan old before None coming_now closed closed_now clock same kept = tt
none-accepted plan old before (Some coming) coming_now None closed_now clock same kept = tt
none-accepted plan old before (Some coming) coming_now (Some closed) closed_now None same kept = tt
none-accepted plan old before (Some coming) coming_now (Some closed) closed_now (Some clock) same kept =
    inl (record { door = refl; still_coming = same; closed_is = kept; ticks = refl; same = refl; untouched = refl })

-- a master that lives stops for a reason
never_gone : (dead : Bool) → dead ≡ false → dead ≡ true → ⊥
never_gone dead lives gone = cc

pub stop-blames : (s : Stop) (dead : Bool) (reads writes disks doors : Type 0) → dead ≡ false → LinkBlames (Err s) reads writes disks (dead ≡ true) → FaultBlames (fault.Stopped s) disks doors
stop-blames stop.Disk dead reads writes disks doors lives blames = blames
stop-blames (stop.Full place) dead reads writes disks doors lives blames = tt
stop-blames stop.Spent dead reads writes disks doors lives blames = tt
stop-blames stop.Dead dead reads writes disks doors lives blames = absurd (never_gone dead lives blames)

-- only an area that is full gives the status 5
full-at : (s : Stop) (P : ℕ → Type 0) → status_of_stop s ≡ 5 → OnFull s P → (place : ℕ) × P place
full-at stop.Disk P is full = absurd (omega (arith, is))
full-at (stop.Full place) P is full = (place, full)
full-at stop.Spent P is full = absurd (omega (arith, is))
full-at stop.Dead P is full = absurd (omega (arith, is))

-- an end otherwise than for want of memory keeps all frames
all-kept : (plan : Cluster → Event → Planned) (old : Parts) (before : Areas) (bytes : List ℕ) (answers : Answers) (after : Areas) (new : Parts) (marks hand : List FrameMarks) (c d : Cluster) (e : LinkEnd)
    → is_memory e ≡ false → KeepsAt plan old before after bytes answers e new marks hand c d
    → KeepsFrames plan (ledger_of old.spool) old.cluster answers bytes (ledger_of new.spool) marks hand c d
all-kept plan old before bytes answers after new marks hand c d end.Done is keeps = keeps.1
all-kept plan old before bytes answers after new marks hand c d end.Stopped is keeps = keeps.1
all-kept plan old before bytes answers after new marks hand c d end.Read is keeps = keeps.1
all-kept plan old before bytes answers after new marks hand c d end.Write is keeps = keeps.1
all-kept plan old before bytes answers after new marks hand c d (end.Frame place) is keeps = keeps.1
all-kept plan old before bytes answers after new marks hand c d end.Long is keeps = keeps.1
all-kept plan old before bytes answers after new marks hand c d end.Memory is keeps = absurd (never_both is)

-- coming_now and rest, written: what the door and the connection tell when it was accepted; coming_end and written_now: when the turn ends
module _ (plan : Cluster → Event → Planned) (old new : Parts) (before after : Areas) (coming coming_now coming_end : Option (List (List ℕ))) (closed closed_now : Option (List ClosedLink)) (clock : Option Answers)
    (rest written written_now : Option (List ℕ)) (later : Option Answers) (opens : Opens coming coming_now rest written) (still : coming_end ≡ coming_now) where
  -- the master stopped in the midst of a connection
  pub kept-stop : (s : Stop) → closed_now ≡ closed
      → OnTold rest clock (λ bytes answers. LeftInHand plan old.cluster answers bytes (LeavesAt plan old before after bytes answers s) written written_now later)
      → OnDoor coming closed clock (λ cs links answers. NoneAccepted old new before after cs links answers coming_end closed_now later (fault.Stopped s) ⊎ OneKept plan old before after cs links answers coming_end closed_now (fault.Stopped s))
  kept-stop s kept served =
      opened coming coming_now closed clock rest written (λ bytes answers. LeftInHand plan old.cluster answers bytes (LeavesAt plan old before after bytes answers s) written written_now later)
      (λ cs links answers. NoneAccepted old new before after cs links answers coming_end closed_now later (fault.Stopped s) ⊎ OneKept plan old before after cs links answers coming_end closed_now (fault.Stopped s))
      opens served (λ bytes others links answers closed_is clock_is comes fresh left.
      inr (record {
        bytes = bytes;
        others = others;
        coming_is = refl;
        still_coming = still ∙ comes;
        closed_is = kept ∙ closed_is;
        hand = map-hand plan old.cluster answers bytes (LeavesAt plan old before after bytes answers s) (LeavesHand plan old before after bytes answers) (λ marks hand c d few x. x.0) left.in_hand;
        full = λ is. full-at s (λ place. IsFull plan (ledger_of old.spool) old.cluster answers bytes left.in_hand.marks left.in_hand.hand place) is left.in_hand.areas.2;
      }))

  module _ (end : LinkEnd)
      (served : OnTold rest clock (λ bytes answers. EndsAs plan old.cluster answers bytes (KeepsAt plan old before after bytes answers end new) written written_now later end new.cluster new.stopping)) where
    -- the connection ended, and isn't given back
    pub kept-end : (f : ServeFault) → (status_of_fault f ≡ 5 → ⊥) → closed_now ≡ closed
        → OnDoor coming closed clock (λ cs links answers. NoneAccepted old new before after cs links answers coming_end closed_now later f ⊎ OneKept plan old before after cs links answers coming_end closed_now f)
    kept-end f other kept =
        opened coming coming_now closed clock rest written
        (λ bytes answers. EndsAs plan old.cluster answers bytes (KeepsAt plan old before after bytes answers end new) written written_now later end new.cluster new.stopping)
        (λ cs links answers. NoneAccepted old new before after cs links answers coming_end closed_now later f ⊎ OneKept plan old before after cs links answers coming_end closed_now f)
        opens served (λ bytes others links answers closed_is clock_is comes fresh ends.
        inr (record {
          bytes = bytes;
          others = others;
          coming_is = refl;
          still_coming = still ∙ comes;
          closed_is = kept ∙ closed_is;
          hand = map-hand plan old.cluster answers bytes (KeepsAt plan old before after bytes answers end new) (LeavesHand plan old before after bytes answers)
              (λ marks hand c d few x. at-leaves plan old before bytes answers after new marks hand c d end x)
              (hand-of plan old.cluster answers bytes (KeepsAt plan old before after bytes answers end new) written written_now later new.cluster new.stopping end ends);
          full = λ is. absurd (other is);
        }))

    -- it was given back
    pub given : (reads reads_now writes writes_now : ℕ) (disks gone : Type 0) → reads ≡ 0 → writes ≡ 0 → is_memory end ≡ false → LinkBlames (Ok end) (Rose reads reads_now) (Rose writes writes_now) disks gone
        → (rest_now : Option (List ℕ)) → Closes closed closed_now rest_now written_now (reads_now + writes_now) → (IsHome old before → IsHome new after)
        → OnDoor coming closed clock (λ cs links answers. OneServed plan old new before after cs links answers coming_end closed_now later)
    given reads reads_now writes writes_now disks gone no_reads no_writes is blames rest_now closes home =
        opened coming coming_now closed clock rest written
        (λ bytes answers. EndsAs plan old.cluster answers bytes (KeepsAt plan old before after bytes answers end new) written written_now later end new.cluster new.stopping)
        (λ cs links answers. OneServed plan old new before after cs links answers coming_end closed_now later)
        opens served (λ bytes others links answers closed_is clock_is comes fresh ends.
        let Kept : List FrameMarks → List FrameMarks → Cluster → Cluster → Type 0 = KeepsAt plan old before after bytes answers end new in
        let Said : List FrameMarks → List FrameMarks → Cluster → Cluster → Type 0 = KeepsFrames plan (ledger_of old.spool) old.cluster answers bytes (ledger_of new.spool) in
        let link = closed-told links closed_now rest_now written_now (reads_now + writes_now) (subst (λ (x : Option (List ClosedLink)). Closes x closed_now rest_now written_now (reads_now + writes_now)) closed_is closes) in
        let told = later-told plan old.cluster answers bytes Kept written written_now later new.cluster new.stopping end ends in
        let hand = hand-of plan old.cluster answers bytes Kept written written_now later new.cluster new.stopping end ends in
        let left = at-leaves plan old before bytes answers after new hand.marks hand.hand _ _ end hand.areas in
        let said = map-ends plan old.cluster answers bytes Kept Said (λ marks hand c d few x. all-kept plan old before bytes answers after new marks hand c d end is x) written written_now later new.cluster new.stopping end ends in
        record {
          bytes = bytes;
          others = others;
          link = record { unread = link.0; written = link.1; faults = reads_now + writes_now };
          answers = told.0;
          coming_is = refl;
          still_coming = still ∙ comes;
          closed_is = link.3;
          ticks = told.1;
          leaves = record {
            end = end;
            ends = subst (λ (x : Option Answers). EndsAs plan old.cluster answers bytes Said (Some []) (Some link.1) x end new.cluster new.stopping) told.1
                (subst (λ (x : Option (List ℕ)). EndsAs plan old.cluster answers bytes Said (Some []) x later end new.cluster new.stopping) link.2
                (subst (λ (x : Option (List ℕ)). EndsAs plan old.cluster answers bytes Said x written_now later end new.cluster new.stopping) fresh said));
            given = given-back end reads reads_now writes writes_now disks gone no_reads no_writes is blames;
          };
          areas = record {
            images = λ at_home c d of_c of_d. inl (home-stands new after (home at_home) c d of_c of_d);
            syncs = omega (arith, left.syncs, hand.few);
          };
        })
