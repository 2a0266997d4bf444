-- How many connections were served and given back, one more, and what each exit of serving tells.
use Rattle.std.proofs.Common.{◌≡◌, ◌⊎◌, ℕ, ◌+◌, ◌<◌, ◌≤◌, Bool, true, false, List, [], ◌∷◌, ◌++◌, length, Option, Some, None, refl, ap, ◌∙◌, sym, subst, inl, inr, ⊎_elim, append_assoc, arith}
use Rattle.std.specs.Prelude.{◌||◌, nat_le}
use Rattle.std.proofs.lemmas.Bool.Decides.{nat_tests}
use Rattle.std.proofs.lemmas.List.{append-nil, length-append}
use Rattle.std.proofs.lemmas.List.Sums.{sum_by-append}
use Rattle.ge_outside.specs.Clocks.{Answers}
use Rattle.ge_outside.specs.Doors.{ClosedLink}
use Rattle.ge_outside.specs.Faults.{Rose}
use Rattle.ge_model_rows.specs.ClusterRows.{Cluster}
use Rattle.ge_model_rows.specs.EventRows.{Event, Planned}
use Rattle.ge_model_core.specs.Plan.{plan_of}
use Rattle.ge_model_wire.specs.Frames.{frames_of}
use Rattle.ge_model_program.specs.Served.{frames_in, Served}
use Rattle.ge_model_program.specs.Keeping.{Ledger}
use Rattle.ge_model_program.specs.Doors.{OnDoor, AllGivenBack, OneInHand, IsFullInHand, ServedTo}
use Rattle.ge_model_program.proofs.Ending.{map-hand}
use Rattle.ge_model_program.proofs.LinksOn.{served-more}
use Rattle.ge_master.specs.Areas.{Areas, HasFailed}
use Rattle.ge_master.specs.Homes.{Parts, IsHome}
use Rattle.ge_master.specs.Ledgers.{ledger_of}
use Rattle.ge_serve.proofs.Kept.{rose-since, failed-since}
use Rattle.ge_master.specs.declared.faults.Stop.TheVariants as stop
use Rattle.ge_serve.specs.Leaving.{Leaves, LeavesHand}
use Rattle.ge_serve.specs.Serves.{status_of_fault, FaultBlames, IsServeStatus, OneServed, NoneAccepted, OneKept, Serves}
use Rattle.ge_serve.specs.declared.statuses.ServeFault.{ServeFault}
use Rattle.ge_serve.specs.declared.statuses.ServeFault.TheVariants as fault
use Rattle.ge_serve.proofs.Leavings.{leaves-start}

pub on-door : (coming : Option (List (List ℕ))) (closed : Option (List ClosedLink)) (clock : Option Answers) (P Q : List (List ℕ) → List ClosedLink → Answers → Type 0)
    → ((cs : List (List ℕ)) (links : List ClosedLink) (answers : Answers) → P cs links answers → Q cs links answers) → OnDoor coming closed clock P → OnDoor coming closed clock Q
on-door None closed clock P Q step p = tt
on-door (Some coming) None clock P Q step p = tt
on-door (Some coming) (Some closed) None P Q step p = tt
on-door (Some coming) (Some closed) (Some clock) P Q step p = step coming closed clock p

door-told : (coming : Option (List (List ℕ))) (closed : Option (List ClosedLink)) (clock : Option Answers) (P : List (List ℕ) → List ClosedLink → Answers → Type 0) (cs : List (List ℕ)) (links : List ClosedLink) (answers : Answers)
    → coming ≡ Some cs → closed ≡ Some links → clock ≡ Some answers → OnDoor coming closed clock P → P cs links answers
door-told coming closed clock P cs links answers first second third p =
    subst (λ (x : Option Answers). OnDoor (Some cs) (Some links) x P) third
    (subst (λ (x : Option (List ClosedLink)). OnDoor (Some cs) x clock P) second (subst (λ (x : Option (List (List ℕ))). OnDoor x closed clock P) first p))

not_done : (f : ServeFault) → status_of_fault f ≡ 0 → ⊥
not_done (fault.Stopped stop.Disk) is = omega (arith, is)
not_done (fault.Stopped (stop.Full place)) is = omega (arith, is)
not_done (fault.Stopped stop.Spent) is = omega (arith, is)
not_done (fault.Stopped stop.Dead) is = omega (arith, is)
not_done fault.Door is = omega (arith, is)
not_done fault.Memory is = omega (arith, is)

-- the status of a fault, and its reason
is-status : (f : ServeFault) → IsServeStatus (status_of_fault f)
is-status (fault.Stopped stop.Disk) = refl
is-status (fault.Stopped (stop.Full place)) = refl
is-status (fault.Stopped stop.Spent) = refl
is-status (fault.Stopped stop.Dead) = refl
is-status fault.Door = refl
is-status fault.Memory = refl

disk-fault : (f : ServeFault) (disks doors : Type 0) → status_of_fault f ≡ 8 → FaultBlames f disks doors → disks
disk-fault (fault.Stopped stop.Disk) disks doors is blames = blames
disk-fault (fault.Stopped (stop.Full place)) disks doors is blames = absurd (omega (arith, is))
disk-fault (fault.Stopped stop.Spent) disks doors is blames = absurd (omega (arith, is))
disk-fault (fault.Stopped stop.Dead) disks doors is blames = absurd blames
disk-fault fault.Door disks doors is blames = absurd (omega (arith, is))
disk-fault fault.Memory disks doors is blames = absurd (omega (arith, is))

door-fault : (f : ServeFault) (disks doors : Type 0) → status_of_fault f ≡ 9 → FaultBlames f disks doors → doors
door-fault (fault.Stopped stop.Disk) disks doors is blames = absurd (omega (arith, is))
door-fault (fault.Stopped (stop.Full place)) disks doors is blames = absurd (omega (arith, is))
door-fault (fault.Stopped stop.Spent) disks doors is blames = absurd (omega (arith, is))
door-fault (fault.Stopped stop.Dead) disks doors is blames = absurd blames
door-fault fault.Door disks doors is blames = blames
door-fault fault.Memory disks doors is blames = absurd (omega (arith, is))

module _ (plan : Cluster → Event → Planned) (start : Parts) (before : Areas) (cs : List (List ℕ)) (links : List ClosedLink) (answers : Answers) where
  module _ (mid new : Parts) (now after : Areas) (coming_mid coming_now : Option (List (List ℕ))) (closed_mid closed_now : Option (List ClosedLink)) (clock_mid later : Option Answers) (f : ServeFault)
      (all : AllGivenBack plan (ledger_of start.spool) start.cluster cs links answers coming_mid closed_mid (Leaves before now (IsHome start before)) clock_mid mid.cluster false)
      (kept : all.kept ≡ ledger_of mid.spool) where
    -- the door failed before another was accepted
    at-door : NoneAccepted mid new now after all.given.others (links ++ all.given.links) all.later coming_now closed_now later f
        → AllGivenBack plan (ledger_of start.spool) start.cluster cs links answers coming_now closed_now (Leaves before after (IsHome start before)) later new.cluster false
    at-door none = record {
      later = all.later;
      kept = all.kept;
      given = record {
        came = all.given.came;
        others = all.given.others;
        links = all.given.links;
        coming_is = all.given.coming_is;
        closed_is = none.closed_is;
        served = subst (λ (p : Parts). Served plan (ledger_of start.spool) start.cluster answers all.given.came all.given.links all.kept p.cluster all.later false) (sym none.same) all.given.served;
      };
      still_coming = none.still_coming;
      ticks = none.ticks;
      areas = subst (λ (x : Areas). Leaves before x (IsHome start before) (frames_in all.given.came) new.cluster new.cluster) (sym none.untouched)
          (subst (λ (p : Parts). Leaves before now (IsHome start before) (frames_in all.given.came) p.cluster p.cluster) (sym none.same) all.areas);
    }

    -- another was accepted, and isn't given back
    in-hand : (IsHome start before → IsHome mid now) → OneKept plan mid now after all.given.others (links ++ all.given.links) all.later coming_now closed_now f
        → (one : OneInHand plan (ledger_of start.spool) start.cluster cs links answers coming_now closed_now (Leaves before after (IsHome start before)))
        × (status_of_fault f ≡ 5 → IsFullInHand plan (ledger_of start.spool) start.cluster cs links answers coming_now closed_now (Leaves before after (IsHome start before)) one)
    in-hand go one = (
      record {
        kept = ledger_of mid.spool;
        left = mid.cluster;
        later = all.later;
        given = record {
          came = all.given.came;
          others = all.given.others;
          links = all.given.links;
          coming_is = all.given.coming_is;
          closed_is = one.closed_is;
          served = subst (λ (l : Ledger). Served plan (ledger_of start.spool) start.cluster answers all.given.came all.given.links l mid.cluster all.later false) kept all.given.served;
        };
        bytes = one.bytes;
        others = one.others;
        accepted = one.coming_is;
        still_coming = one.still_coming;
        hand = map-hand plan mid.cluster all.later one.bytes (LeavesHand plan mid now after one.bytes all.later)
            (λ marks hand c d. Leaves before after (IsHome start before) (frames_in all.given.came + length (marks ++ hand)) c d)
            (λ marks hand c d few x. record { images = λ home. x.images (go home); syncs = omega (arith, all.areas.syncs, x.syncs) }) one.hand;
      },
      one.full,
    )

-- So many connections were served and given back, where the door and the clock tell; the last of them may have stopped the master.
pub record HasGivenBack (plan : Cluster → Event → Planned) (start : Parts) (before : Areas) (coming : Option (List (List ℕ))) (closed : Option (List ClosedLink)) (clock : Option Answers)
    (mid : Parts) (now : Areas) (coming_mid : Option (List (List ℕ))) (closed_mid : Option (List ClosedLink)) (clock_mid : Option Answers) (count : ℕ) : Type 0 where
  pub told : OnDoor coming closed clock (λ cs links answers.
      (all : AllGivenBack plan (ledger_of start.spool) start.cluster cs links answers coming_mid closed_mid (Leaves before now (IsHome start before)) clock_mid mid.cluster mid.stopping)
      × (length all.given.links ≡ count) × (all.kept ≡ ledger_of mid.spool))

none-yet : (plan : Cluster → Event → Planned) (start : Parts) (before : Areas) (coming : Option (List (List ℕ))) (closed : Option (List ClosedLink)) (clock : Option Answers) → start.stopping ≡ false
    → OnDoor coming closed clock (λ cs links answers.
    (all : AllGivenBack plan (ledger_of start.spool) start.cluster cs links answers coming closed (Leaves before before (IsHome start before)) clock start.cluster start.stopping)
    × (length all.given.links ≡ 0) × (all.kept ≡ ledger_of start.spool))
none-yet plan start before None closed clock going = tt
none-yet plan start before (Some coming) None clock going = tt
none-yet plan start before (Some coming) (Some closed) None going = tt
none-yet plan start before (Some coming) (Some closed) (Some clock) going = (
  record {
    later = clock;
    kept = ledger_of start.spool;
    given = record { came = []; others = coming; links = []; coming_is = refl; closed_is = ap (λ x. Some x) (sym (append-nil closed)); served = (refl, refl, going, refl) };
    still_coming = refl;
    ticks = refl;
    areas = leaves-start start before;
  },
  refl,
  refl,
)

-- what it says that no further connection is accepted, and that one is
pub is-over : (stops : Bool) (count turns : ℕ) → (stops || nat_le count turns) ≡ true → turns ≤ count → (turns ≡ count) ⊎ (stops ≡ true)
is-over true count turns over few = inr refl
is-over false count turns over few = inl (omega (arith, le-by turns count over, few))
  where
    le-by : (turns count : ℕ) → nat_le count turns ≡ true → count ≤ turns
    le-by turns count over = grind (arith, nat_tests)

pub goes-on : (stops : Bool) (count turns : ℕ) → (stops || nat_le count turns) ≡ false → (stops ≡ false) × (turns < count)
goes-on true count turns over = absurd (never over)
  where
    never : ◌≡◌ {A = Bool} true false → ⊥
    never e = cc
goes-on false count turns over = (refl, lt-by turns count over)
  where
    lt-by : (turns count : ℕ) → nat_le count turns ≡ false → turns < count
    lt-by turns count over = grind (arith, nat_tests)

module _ (plan : Cluster → Event → Planned) (start : Parts) (before : Areas) (coming : Option (List (List ℕ))) (closed : Option (List ClosedLink)) (clock : Option Answers) where
  pub given-none : start.stopping ≡ false → HasGivenBack plan start before coming closed clock start before coming closed clock 0
  given-none going = record { told = none-yet plan start before coming closed clock going }

  module _ (mid : Parts) (now : Areas) (coming_mid : Option (List (List ℕ))) (closed_mid : Option (List ClosedLink)) (clock_mid : Option Answers) (turns : ℕ)
      (so_far : HasGivenBack plan start before coming closed clock mid now coming_mid closed_mid clock_mid turns) where
    -- as many were served as were to be, or the last of them stopped the master
    all-done : (count : ℕ) → turns ≤ count → (turns ≡ count) ⊎ (mid.stopping ≡ true)
        → OnDoor coming closed clock (λ cs links answers. ServedTo plan (ledger_of start.spool) start.cluster cs links answers coming_mid closed_mid (Leaves before now (IsHome start before)) 0 count clock_mid mid.cluster)
    all-done count few over = on-door coming closed clock _ _ (λ cs links answers s.
        inl (
          refl,
          record {
            stopped = mid.stopping;
            all = s.0;
            few = omega (arith, s.1, few);
            enough = ⊎_elim (λ full. inl (s.1 ∙ full)) (λ stops. inr stops) over;
          },
        )) so_far.told

    module _ (going : mid.stopping ≡ false) (go : IsHome start before → IsHome mid now) (new : Parts) (after : Areas) (coming_now : Option (List (List ℕ))) (closed_now : Option (List ClosedLink))
        (later : Option Answers) where
      so-going : OnDoor coming closed clock (λ cs links answers.
          (all : AllGivenBack plan (ledger_of start.spool) start.cluster cs links answers coming_mid closed_mid (Leaves before now (IsHome start before)) clock_mid mid.cluster false)
          × (length all.given.links ≡ turns) × (all.kept ≡ ledger_of mid.spool))
      so-going = subst (λ (k : Bool). OnDoor coming closed clock (λ cs links answers.
          (all : AllGivenBack plan (ledger_of start.spool) start.cluster cs links answers coming_mid closed_mid (Leaves before now (IsHome start before)) clock_mid mid.cluster k)
          × (length all.given.links ≡ turns) × (all.kept ≡ ledger_of mid.spool)))
          going so_far.told

      -- one more was served and given back
      pub given-more : OnDoor coming_mid closed_mid clock_mid (λ cs links answers. OneServed plan mid new now after cs links answers coming_now closed_now later)
          → HasGivenBack plan start before coming closed clock new after coming_now closed_now later (turns + 1)
      given-more step = record {
        told = on-door coming closed clock _ _ (λ cs links answers s.
            let all = s.0 in
            let one = door-told coming_mid closed_mid clock_mid (λ cs links answers. OneServed plan mid new now after cs links answers coming_now closed_now later) all.given.others (links ++ all.given.links) all.later all.still_coming all.given.closed_is all.ticks step in
            let count : frames_in (all.given.came ++ one.bytes ∷ []) ≡ frames_in all.given.came + length (frames_of one.bytes) =
            sum_by-append (λ (bytes : List ℕ). length (frames_of bytes)) all.given.came (one.bytes ∷ []) ∙ ap (λ n. frames_in all.given.came + n) (omega arith) in (
              record {
                later = one.answers;
                kept = ledger_of new.spool;
                given = record {
                  came = all.given.came ++ one.bytes ∷ [];
                  others = one.others;
                  links = all.given.links ++ one.link ∷ [];
                  coming_is = all.given.coming_is ∙ ap (λ xs. all.given.came ++ xs) one.coming_is ∙ sym (append_assoc all.given.came (one.bytes ∷ []) one.others);
                  closed_is = one.closed_is ∙ ap (λ xs. Some xs) (append_assoc links all.given.links (one.link ∷ []));
                  served = served-more plan all.given.came all.given.links (ledger_of start.spool) (ledger_of mid.spool) (ledger_of new.spool) start.cluster mid.cluster new.cluster answers all.later one.answers one.bytes one.link new.stopping
                      (subst (λ (l : Ledger). Served plan (ledger_of start.spool) start.cluster answers all.given.came all.given.links l mid.cluster all.later false) s.2 all.given.served) one.leaves;
                };
                still_coming = one.still_coming;
                ticks = one.ticks;
                areas = record { images = λ home. one.areas.images (go home); syncs = omega (arith, all.areas.syncs, one.areas.syncs, count) };
              },
              omega (arith, s.1, length-append all.given.links (one.link ∷ [])),
              refl,
            )) so-going;
      }

      -- a fault ended the turn
      failed : (f : ServeFault) (count : ℕ)
          → OnDoor coming_mid closed_mid clock_mid (λ cs links answers. NoneAccepted mid new now after cs links answers coming_now closed_now later f ⊎ OneKept plan mid now after cs links answers coming_now closed_now f)
          → OnDoor coming closed clock (λ cs links answers. ServedTo plan (ledger_of start.spool) start.cluster cs links answers coming_now closed_now (Leaves before after (IsHome start before)) (status_of_fault f) count later new.cluster)
      failed f count step = on-door coming closed clock _ _ (λ cs links answers s.
          let all = s.0 in
          ⊎_elim (λ none. inr (inl (ap status_of_fault none.door, at-door plan start before cs links answers mid new now after coming_mid coming_now closed_mid closed_now clock_mid later f all s.2 none)))
          (λ one.
          let hand = in-hand plan start before cs links answers mid new now after coming_mid coming_now closed_mid closed_now clock_mid later f all s.2 go one in inr (inr (not_done f, hand.0, hand.1)))
          (door-told coming_mid closed_mid clock_mid
          (λ cs links answers. NoneAccepted mid new now after cs links answers coming_now closed_now later f ⊎ OneKept plan mid now after cs links answers coming_now closed_now f) all.given.others (links ++ all.given.links) all.later all.still_coming all.given.closed_is all.ticks step)) so-going

module _ (start : Parts) (before : Areas) (coming : Option (List (List ℕ))) (closed : Option (List ClosedLink)) (clock : Option Answers) (mid : Parts) (now : Areas)
    (coming_mid : Option (List (List ℕ))) (closed_mid : Option (List ClosedLink)) (clock_mid : Option Answers) (turns : ℕ)
    (so_far : HasGivenBack plan_of start before coming closed clock mid now coming_mid closed_mid clock_mid turns) where
  -- serving is done
  pub serves-all : (count doors doors_now : ℕ) → turns ≤ count → (mid.stopping || nat_le count turns) ≡ true
      → Serves 0 count start mid before now coming coming_mid closed closed_mid clock clock_mid doors doors_now
  serves-all count doors doors_now few over = record {
    statuses = refl;
    served = all-done plan_of start before coming closed clock mid now coming_mid closed_mid clock_mid turns so_far count few (is-over mid.stopping count turns over few);
    disk = λ eight. absurd (omega (arith, eight));
    door = λ nine. absurd (omega (arith, nine));
  }

  -- a fault ended the last turn
  pub serves-fault : (going : mid.stopping ≡ false) (go : IsHome start before → IsHome mid now) (new : Parts) (after : Areas) (coming_now : Option (List (List ℕ))) (closed_now : Option (List ClosedLink))
      (later : Option Answers) (f : ServeFault) (status : ℕ) → status ≡ status_of_fault f → (count doors doors_mid doors_now : ℕ)
      → before.faults_a ≤ now.faults_a → before.faults_b ≤ now.faults_b → doors ≤ doors_mid → FaultBlames f (HasFailed now after) (Rose doors_mid doors_now)
      → OnDoor coming_mid closed_mid clock_mid (λ cs links answers. NoneAccepted mid new now after cs links answers coming_now closed_now later f ⊎ OneKept plan_of mid now after cs links answers coming_now closed_now f)
      → Serves status count start new before after coming coming_now closed closed_now clock later doors doors_now
  serves-fault going go new after coming_now closed_now later f status is count doors doors_mid doors_now later_a later_b later_doors blames step =
      let serves : Serves (status_of_fault f) count start new before after coming coming_now closed closed_now clock later doors doors_now = record {
        statuses = is-status f;
        served = failed plan_of start before coming closed clock mid now coming_mid closed_mid clock_mid turns so_far going go new after coming_now closed_now later f count step;
        disk = λ eight. failed-since before now after later_a later_b (disk-fault f (HasFailed now after) (Rose doors_mid doors_now) eight blames);
        door = λ nine. rose-since doors doors_mid doors_now later_doors (door-fault f (HasFailed now after) (Rose doors_mid doors_now) nine blames);
      } in
      subst (λ (s : ℕ). Serves s count start new before after coming coming_now closed closed_now clock later doors doors_now) (sym is) serves
