-- Serving that opens the areas, at each of its exits.
use Rattle.std.proofs.Common.{◌≡◌, ◌⊎◌, ℕ, ◌≤◌, List, [], ◌∷◌, Option, Some, None, Result, Ok, Err, IfSome, refl, ap, ◌∙◌, sym, subst, inl, inr, ⊎_elim, arith}
use Rattle.std.specs.Prelude.{IsErr}
use Rattle.std.proofs.lemmas.Bool.{false≢true}
use Rattle.ge_outside.specs.Clocks.{Answers}
use Rattle.ge_outside.specs.Doors.{ClosedLink}
use Rattle.ge_model_rows.specs.ClusterRows.{Cluster}
use Rattle.ge_model_journal.specs.Disk.{read_bytes}
use Rattle.ge_model_core.specs.Plan.{plan_of}
use Rattle.ge_model_journal.specs.Journal.{State, meaning}
use Rattle.ge_model_program.specs.StandsFor.{stands_for}
use Rattle.ge_model_program.specs.declared.Wrong.{Wrong}
use Rattle.ge_model_program.specs.View.{View, said_of, both_bytes, IsKept}
use Rattle.ge_model_program.specs.Statuses.{IsOneStatusOf}
use Rattle.ge_model_program.proofs.Answered.{first-or-other, no-status}
use Rattle.ge_model_program.specs.Doors.{OnDoor, ServedTo}
use Rattle.ge_model_program.specs.Keeping.{Ledger, ledger_in}
use Rattle.ge_model_program.proofs.Mapped.{map-served}
use Rattle.ge_spool.specs.Opening.{Tells}
use Rattle.ge_spool.specs.declared.faults.OpenFault.{OpenFault}
use Rattle.ge_spool.specs.declared.faults.OpenFault.TheVariants as fault
use Rattle.ge_serve.specs.Areas.{Areas, HasFailed}
use Rattle.ge_serve.specs.Homes.{Parts, IsHome}
use Rattle.ge_serve.specs.Masters.{cluster_of, spool_of, parts_of}
use Rattle.ge_serve.specs.OpeningMasters.{OpensMaster}
use Rattle.ge_serve.specs.Master.{Master}
use Rattle.ge_serve.proofs.Kept.{failed-since}
use Rattle.ge_serve.specs.Ledgers.{ledger_of}
use Rattle.ge_serve.specs.Leaving.{Leaves}
use Rattle.ge_serve.specs.Serves.{IsServeStatus, Serves}
use Rattle.ge_serve.proofs.SoFar.{on-door}
use Rattle.ge_top.specs.Ends.{OpensNoneAs}
use Rattle.ge_top.specs.ServingAreas.{LeavesOpened, NoneBegun, ServesAreas, AreServable}
use Rattle.ge_top.proofs.Fitting.{ledger-settled}
use Rattle.ge_top.proofs.Images.{ends-images}
use Rattle.ge_top.proofs.Opened.{said, if_said, still-quiet}
use Rattle.ge_top.proofs.Refused.{frame-kept, body-kept}
use Rattle.ge_top.proofs.ReplayedAreas.{stood-not-refused, refused-not-stood, same-ok, is-err}

-- the areas as a view of them alone
abbrev seen : Areas → View
seen x = record { output = None; writes = 0; a = x.a; b = x.b; faults_a = x.faults_a; faults_b = x.faults_b; syncs = x.syncs }

-- a fact that holds of whatever a door and a clock tell
door-given : (coming : Option (List (List ℕ))) (closed : Option (List ClosedLink)) (clock : Option Answers) (P : List (List ℕ) → List ClosedLink → Answers → Type 0)
    → ((cs : List (List ℕ)) (links : List ClosedLink) (answers : Answers) → coming ≡ Some cs → closed ≡ Some links → clock ≡ Some answers → P cs links answers) → OnDoor coming closed clock P
door-given None closed clock P holds = tt
door-given (Some coming) None clock P holds = tt
door-given (Some coming) (Some closed) None P holds = tt
door-given (Some coming) (Some closed) (Some clock) P holds = holds coming closed clock refl refl refl

no_four : IsServeStatus 4 → ⊥
no_four is = false≢true is

module _ (count status : ℕ) (x y : Areas) (coming coming_now : Option (List (List ℕ))) (closed closed_now : Option (List ClosedLink)) (clock later : Option Answers) (doors doors_now : ℕ) where
  -- a master was opened, and served connections
  pub serves-opened : (m : Master) (mid : Areas) (new : Parts) → x.faults_a ≤ mid.faults_a → x.faults_b ≤ mid.faults_b → OpensMaster (Ok m) x mid
      → Serves status count (parts_of m) new mid y coming coming_now closed closed_now clock later doors doors_now
      → ServesAreas count status x y coming coming_now closed closed_now clock later doors doors_now
  serves-opened m mid new later_a later_b opens ran =
      let not_four : status ≡ 4 → ⊥ = λ is. no_four (subst IsServeStatus is ran.statuses) in
      record {
        statuses = inr ran.statuses;
        served = λ start state stands means.
            let stood = said stands_for x.a x.b (Ok start) stands in
            let meant = said meaning x.a x.b (Ok state) means in
            let opened = opens.opened stood.0 stood.1 in
            let cluster : start ≡ cluster_of m = same-ok _ _ _ opened.stood stood.2 in
            let state_is : state ≡ opened.home.state = same-ok _ _ _ opened.journal meant.2 in
            let ledger : ledger_of (spool_of m) ≡ ledger_in state = ledger-settled (spool_of m) mid.a mid.b opened.home.state opened.home.settled ∙ ap ledger_in (sym state_is) in
            on-door coming closed clock _ _ (λ cs links answers served. (
              new.cluster,
              inl (subst (λ (c : Cluster). ServedTo plan_of (ledger_in state) c cs links answers coming_now closed_now (LeavesOpened x y) status count later new.cluster) (sym cluster)
                  (subst (λ (l : Ledger). ServedTo plan_of l (cluster_of m) cs links answers coming_now closed_now (LeavesOpened x y) status count later new.cluster) ledger
                  (map-served plan_of (ledger_of (spool_of m)) (cluster_of m) cs links answers coming_now closed_now (Leaves mid y (IsHome (parts_of m) mid)) (LeavesOpened x y)
                  (λ n c d left. record { images = λ still. left.images opened.home; syncs = omega (arith, opens.syncs, left.syncs) }) status count later new.cluster served))),
            )) ran.served;
        refused = λ is. absurd (not_four is);
        kept = λ is. absurd (not_four is);
        not_opened = if_said stands_for x.a x.b (λ stood. IsErr stood → IsOneStatusOf (4 ∷ 8 ∷ 10 ∷ []) status)
            (λ tells_a tells_b. λ refused. absurd (stood-not-refused _ _ (opens.opened tells_a tells_b).stood refused));
        untouched = if_said stands_for x.a x.b (λ stood. IsErr stood → (coming_now ≡ coming) × (closed_now ≡ closed) × (later ≡ clock))
            (λ tells_a tells_b. λ refused. absurd (stood-not-refused _ _ (opens.opened tells_a tells_b).stood refused));
        unaccepted = λ is. absurd (not_four is);
        disk = λ is. failed-since x mid y later_a later_b (ran.disk is);
        door = ran.door;
      }

-- no master was opened
module _ (count : ℕ) (x y : Areas) (coming : Option (List (List ℕ))) (closed : Option (List ClosedLink)) (clock : Option Answers) (doors : ℕ) where
  -- the areas were not refused, and hold what they held
  none-begun : (f : OpenFault) (status : ℕ) → OpensMaster (Err f) x y → IsOneStatusOf (8 ∷ 10 ∷ []) status
      → (start : Cluster) (state : State) → said_of stands_for x.a x.b ≡ Some (Ok start)
      → OnDoor coming closed clock (λ cs links answers. (reached : Cluster)
      × (ServedTo plan_of (ledger_in state) start cs links answers coming closed (LeavesOpened x y) status count clock reached
      ⊎ NoneBegun status x y start cs links answers coming closed clock))
  none-begun f status opens one start state stands =
      let stood = said stands_for x.a x.b (Ok start) stands in
      door-given coming closed clock _ (λ cs links answers comes are ticks. (
        start,
        inr (record {
          why = one;
          still_coming = comes;
          closed_is = are;
          ticks = ticks;
          areas = record {
            images = λ still c d of_c of_d. inl (ends-images x.a y.a x.b y.b (λ c d. stands_for c d ≡ Ok start) opens.grows.0 opens.grows.1
                (opens.any_moment (read_bytes x.a) (read_bytes x.b) (still-quiet x.a still.0) (still-quiet x.b still.1) start stood.2) c d of_c of_d);
            syncs = omega (arith, opens.syncs);
          };
        }),
      ))

  unmoved : IfSome (said_of stands_for x.a x.b) (λ stood. IsErr stood → (coming ≡ coming) × (closed ≡ closed) × (clock ≡ clock))
  unmoved = if_said stands_for x.a x.b (λ stood. IsErr stood → (coming ≡ coming) × (closed ≡ closed) × (clock ≡ clock)) (λ tells_a tells_b. λ refused. (refl, refl, refl))

  refused-areas : (r : Wrong) → IfSome (said_of both_bytes x.a x.b) (λ read. IsKept read.0 (read_bytes y.a) × IsKept read.1 (read_bytes y.b))
      → (Tells x.a → Tells x.b → stands_for (read_bytes x.a) (read_bytes x.b) ≡ Err r) → ServesAreas count 4 x y coming coming closed closed clock clock doors doors
  refused-areas r kept wrong = record {
    statuses = inl refl;
    served = λ start state stands means.
        let stood = said stands_for x.a x.b (Ok start) stands in absurd (refused-not-stood _ start r (wrong stood.0 stood.1) stood.2);
    refused = λ is. if_said stands_for x.a x.b IsErr (λ tells_a tells_b. is-err _ r (wrong tells_a tells_b));
    kept = λ is. kept;
    not_opened = if_said stands_for x.a x.b (λ stood. IsErr stood → IsOneStatusOf (4 ∷ 8 ∷ 10 ∷ []) 4) (λ tells_a tells_b. λ refused. refl);
    untouched = unmoved;
    unaccepted = λ is. (refl, refl, refl);
    disk = λ is. absurd (omega (arith, is));
    door = λ is. absurd (omega (arith, is));
  }

  unopened : (f : OpenFault) (status : ℕ) → OpensMaster (Err f) x y → IsServeStatus status → IsOneStatusOf (8 ∷ 10 ∷ []) status → IsOneStatusOf (4 ∷ 8 ∷ 10 ∷ []) status
      → (status ≡ 4 → ⊥) → (status ≡ 9 → ⊥) → (status ≡ 8 → HasFailed x y) → ServesAreas count status x y coming coming closed closed clock clock doors doors
  unopened f status opens is one among four nine disk = record {
    statuses = inr is;
    served = λ start state stands means. none-begun f status opens one start state stands;
    refused = λ is. absurd (four is);
    kept = λ is. absurd (four is);
    not_opened = if_said stands_for x.a x.b (λ stood. IsErr stood → IsOneStatusOf (4 ∷ 8 ∷ 10 ∷ []) status) (λ tells_a tells_b. λ refused. among);
    untouched = unmoved;
    unaccepted = λ is. absurd (four is);
    disk = disk;
    door = λ is. absurd (nine is);
  }

  pub serves-unopened : (f : OpenFault) (status : ℕ) → OpensNoneAs f status → OpensMaster (Err f) x y → ServesAreas count status x y coming coming closed closed clock clock doors doors
  serves-unopened fault.Disk status is opens =
      subst (λ (s : ℕ). ServesAreas count s x y coming coming closed closed clock clock doors doors) (sym is)
      (unopened fault.Disk 8 opens refl refl refl (λ is. omega (arith, is)) (λ is. omega (arith, is)) (λ is. opens.blames))
  serves-unopened (fault.Frame area place) status is opens =
      subst (λ (s : ℕ). ServesAreas count s x y coming coming closed closed clock clock doors doors) (sym is) (refused-areas _ (frame-kept (seen x) (seen y) area place opens) opens.opened)
  serves-unopened (fault.Bad area place) status is opens =
      subst (λ (s : ℕ). ServesAreas count s x y coming coming closed closed clock clock doors doors) (sym is)
      (refused-areas _ (body-kept (seen x) (seen y) area place opens) (λ tells_a tells_b. (opens.opened tells_a tells_b).0))
  serves-unopened fault.Memory status is opens =
      subst (λ (s : ℕ). ServesAreas count s x y coming coming closed closed clock clock doors doors) (sym is)
      (unopened fault.Memory 10 opens refl refl refl (λ is. omega (arith, is)) (λ is. omega (arith, is)) (λ is. absurd (omega (arith, is))))

-- a run with these words doesn't end as a faulty command line
pub serves-not-two : (count status : ℕ) (x y : Areas) (coming coming_now : Option (List (List ℕ))) (closed closed_now : Option (List ClosedLink)) (clock later : Option Answers) (doors doors_now : ℕ)
    → ServesAreas count status x y coming coming_now closed closed_now clock later doors doors_now → status ≡ 2 → ⊥
serves-not-two count status x y coming coming_now closed closed_now clock later doors doors_now serves is =
    ⊎_elim (λ four. omega (arith, four, is)) (λ one. false≢true (subst IsServeStatus is one)) serves.statuses

-- without faults all are served, or memory is wanted
module _ (count status : ℕ) (x y : Areas) (coming coming_now : Option (List (List ℕ))) (closed closed_now : Option (List ClosedLink)) (clock later : Option Answers) (doors doors_now : ℕ)
    (able : AreServable x y coming coming_now closed closed_now clock doors doors_now) (serves : ServesAreas count status x y coming coming_now closed closed_now clock later doors doors_now) where
  -- what is said of a door and a clock, where they tell
  as-told : (P : List (List ℕ) → List ClosedLink → Answers → Type 0) → OnDoor coming closed clock P → P able.connections able.back able.answers
  as-told P p =
      subst (λ (o : Option Answers). OnDoor (Some able.connections) (Some able.back) o P) able.ticks
      (subst (λ (o : Option (List ClosedLink)). OnDoor (Some able.connections) o clock P) able.closed_is (subst (λ (o : Option (List (List ℕ))). OnDoor o closed clock P) able.coming_is p))

  never_full : IsOneStatusOf (8 ∷ 10 ∷ []) 5 → ⊥
  never_full is = false≢true is

  not-full : status ≡ 5 → ⊥
  not-full five =
      let here = as-told
      (λ cs links answers. (reached : Cluster)
      × (ServedTo plan_of (ledger_in able.state) able.start cs links answers coming_now closed_now (LeavesOpened x y) status count later reached
      ⊎ NoneBegun status x y able.start cs links answers coming_now closed_now later))
      (serves.served able.start able.state able.stands able.means) in
      ⊎_elim
      (λ to. ⊎_elim (λ done. omega (arith, done.0, five)) (λ rest. ⊎_elim (λ door. omega (arith, door.0, five)) (λ hand. able.fits hand.1 (hand.2 five)) rest) to)
      (λ none. never_full (subst (IsOneStatusOf (8 ∷ 10 ∷ [])) five none.why)) here.1

  never_refused : IsErr {E = Wrong} (Ok able.start) → ⊥
  never_refused is = false≢true is

  pub serve-answered : (status ≡ 0) ⊎ (status ≡ 10)
  serve-answered =
      ⊎_elim (λ four. absurd (never_refused (subst (λ (o : Option (Result Cluster Wrong)). IfSome o IsErr) able.stands (serves.refused four))))
      (λ one. ⊎_elim inl
      (λ one. ⊎_elim (λ is. absurd (not-full is))
      (λ one. ⊎_elim (λ is. absurd (able.disks (serves.disk is)))
      (λ one. ⊎_elim (λ is. absurd (able.door (serves.door is)))
      (λ one. ⊎_elim inr (λ none. absurd (no-status status none)) (first-or-other 10 status [] one))
      (first-or-other 9 status (10 ∷ []) one))
      (first-or-other 8 status (9 ∷ 10 ∷ []) one))
      (first-or-other 5 status (8 ∷ 9 ∷ 10 ∷ []) one))
      (first-or-other 0 status (5 ∷ 8 ∷ 9 ∷ 10 ∷ []) one)) serves.statuses
