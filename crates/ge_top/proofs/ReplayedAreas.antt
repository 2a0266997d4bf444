-- A replay that opens the areas, at each of its exits.
use Rattle.std.proofs.Common.{◌≡◌, ◌⊎◌, ℕ, ◌<◌, ◌≤◌, List, [], ◌∷◌, Option, Some, Result, Ok, Err, IfSome, refl, ap, ◌∙◌, sym, subst, inl, inr, ⊎_elim, arith}
use Rattle.std.specs.Prelude.{IsErr}
use Rattle.std.proofs.lemmas.Bool.{false≢true}
use Rattle.ge_model_rows.specs.ClusterRows.{Cluster}
use Rattle.ge_model_journal.specs.Disk.{Content, read_bytes}
use Rattle.ge_model_journal.specs.Journal.{State, meaning}
use Rattle.ge_model_program.specs.StandsFor.{stands_for}
use Rattle.ge_model_program.specs.declared.Wrong.{Wrong}
use Rattle.ge_model_program.specs.Statuses.{IsOneStatusOf}
use Rattle.ge_model_program.specs.View.{View, DiskRose, said_of, AreStill, AreKept}
use Rattle.ge_model_program.specs.Keeping.{ledger_in}
use Rattle.ge_model_program.specs.Runs.{EachStandsFor}
use Rattle.ge_model_program.specs.Replaying.{IsReplayStatus, Replays, ReplaysAreas, WereStill, opened_view}
use Rattle.ge_spool.specs.Opening.{Tells}
use Rattle.ge_spool.specs.declared.faults.OpenFault.{OpenFault}
use Rattle.ge_spool.specs.declared.faults.OpenFault.TheVariants as fault
use Rattle.ge_serve.specs.Homes.{IsHome}
use Rattle.ge_serve.specs.Masters.{cluster_of, spool_of, parts_of}
use Rattle.ge_serve.specs.OpeningMasters.{OpensMaster}
use Rattle.ge_serve.specs.Master.{Master}
use Rattle.ge_top.specs.Ends.{OpensNoneAs}
use Rattle.ge_serve.specs.Ledgers.{ledger_of}
use Rattle.ge_top.proofs.Fitting.{ledger-settled}
use Rattle.ge_top.proofs.Images.{ends-images}
use Rattle.ge_top.proofs.Opened.{areas_in, said, if_said, still-quiet, causes-before, replays-before}
use Rattle.ge_top.proofs.Refused.{frame-kept, body-kept}
use Rattle.ge_top.proofs.Replayed.{unopened-disk, unopened-no-memory}

-- what stands for a cluster is not refused
pub stood-not-refused : {R E : Type 0} (r : Result R E) (c : R) → r ≡ Ok c → IsErr r → ⊥
stood-not-refused r c is refused = false≢true (subst IsErr is refused)

-- what is refused stands for no cluster
pub refused-not-stood : {R E : Type 0} (r : Result R E) (c : R) (e : E) → r ≡ Err e → r ≡ Ok c → ⊥
refused-not-stood r c e is stood = cc

pub same-ok : {R E : Type 0} (r : Result R E) (c d : R) → r ≡ Ok c → r ≡ Ok d → d ≡ c
same-ok r c d is also = cc

pub is-err : {R E : Type 0} (r : Result R E) (e : E) → r ≡ Err e → IsErr r
is-err r e is = subst IsErr (sym is) refl

-- where nothing was pending, opening the areas leaves images that stand for what they stood for
pub opened-images : (result : Result Master OpenFault) (x y : View) (start : Cluster) → OpensMaster result (areas_in x) (areas_in y)
    → said_of stands_for x.a x.b ≡ Some (Ok start) → AreStill x → EachStandsFor y.a y.b start
opened-images result x y start opens stands still =
    let stood = said stands_for x.a x.b (Ok start) stands in
    ends-images x.a y.a x.b y.b (λ c d. stands_for c d ≡ Ok start) opens.grows.0 opens.grows.1
    (opens.any_moment (read_bytes x.a) (read_bytes x.b) (still-quiet x.a still.0) (still-quiet x.b still.1) start stood.2)

module _ (batch status : ℕ) (script rest : Option (List ℕ)) (reads_before reads_after : ℕ) (x y : View) where
  -- a master was opened, and the script replayed over it
  pub replayed-opened : (m : Master) (a b : List Content) (syncs faults_a faults_b : ℕ) → x.faults_a ≤ faults_a → x.faults_b ≤ faults_b
      → OpensMaster (Ok m) (areas_in x) (record { a = a; b = b; syncs = syncs; faults_a = faults_a; faults_b = faults_b })
      → Replays status script rest reads_before reads_after (record { output = x.output; writes = x.writes; a = a; b = b; syncs = syncs; faults_a = faults_a; faults_b = faults_b }) y
      (cluster_of m) (IsHome (parts_of m) (record { a = a; b = b; syncs = syncs; faults_a = faults_a; faults_b = faults_b })) (ledger_of (spool_of m)) batch
      → ReplaysAreas batch status script rest reads_before reads_after x y
  replayed-opened m a b syncs faults_a faults_b later_a later_b opens ran =
      let not_four : status ≡ 4 → ⊥ = λ is. no_four (subst IsReplayStatus is ran.statuses) in
      record {
        statuses = inr ran.statuses;
        ran = λ start state stands means.
            let stood = said stands_for x.a x.b (Ok start) stands in
            let meant = said meaning x.a x.b (Ok state) means in
            let opened = opens.opened stood.0 stood.1 in
            let cluster : start ≡ cluster_of m = same-ok _ _ _ opened.stood stood.2 in
            let state_is : state ≡ opened.home.state = same-ok _ _ _ opened.journal meant.2 in
            let ledger : ledger_of (spool_of m) ≡ ledger_in state = ledger-settled (spool_of m) a b opened.home.state opened.home.settled ∙ ap ledger_in (sym state_is) in
            subst (λ c. Replays status script rest reads_before reads_after (opened_view x) y c (WereStill status x) (ledger_in state) batch) (sym cluster)
            (subst (λ l. Replays status script rest reads_before reads_after (opened_view x) y (cluster_of m) (WereStill status x) l batch) ledger
            (replays-before status script rest reads_before reads_after x y a b syncs faults_a faults_b opens.syncs later_a later_b (cluster_of m) _ (WereStill status x) (ledger_of (spool_of m)) batch (λ still. opened.home) ran));
        causes = causes-before status script rest reads_before reads_after x y a b syncs faults_a faults_b opens.syncs later_a later_b ran.causes;
        refused = λ is. absurd (not_four is);
        kept = λ is. absurd (not_four is);
        not_opened = if_said stands_for x.a x.b (λ stood. IsErr stood → IsOneStatusOf (4 ∷ 8 ∷ 10 ∷ []) status)
            (λ tells_a tells_b. λ refused. absurd (stood-not-refused _ _ (opens.opened tells_a tells_b).stood refused));
        untouched = if_said stands_for x.a x.b (λ stood. IsErr stood → (rest ≡ script) × (y.output ≡ x.output))
            (λ tells_a tells_b. λ refused. absurd (stood-not-refused _ _ (opens.opened tells_a tells_b).stood refused));
        unread = λ is. absurd (not_four is);
        unwritten = λ is. absurd (not_four is);
      }
    where
      no_four : IsReplayStatus 4 → ⊥
      no_four is = false≢true is

-- no master was opened
module _ (batch : ℕ) (some : 0 < batch) (script : Option (List ℕ)) (reads : ℕ) (x y : View) (output : y.output ≡ x.output) where
  unopened : (status : ℕ) → (status ≡ 4) ⊎ IsReplayStatus status → (status ≡ 0 → ⊥) → (status ≡ 3 → ⊥) → (status ≡ 5 → ⊥) → (status ≡ 6 → ⊥) → (status ≡ 7 → ⊥) → (status ≡ 8 → DiskRose x y)
      → ((start : Cluster) (state : State) → said_of stands_for x.a x.b ≡ Some (Ok start) → said_of meaning x.a x.b ≡ Some (Ok state)
      → Replays status script script reads reads (opened_view x) y start (WereStill status x) (ledger_in state) batch)
      → (status ≡ 4 → IfSome (said_of stands_for x.a x.b) IsErr) → (status ≡ 4 → AreKept x y) → IsOneStatusOf (4 ∷ 8 ∷ 10 ∷ []) status
      → ReplaysAreas batch status script script reads reads x y
  unopened status statuses done long full read write disk ran refused kept one = record {
    statuses = statuses;
    ran = ran;
    causes = record {
      ended = λ is. absurd (done is);
      long = λ is. absurd (long is);
      below = λ is. absurd (⊎_elim done (λ others. ⊎_elim full write others) is);
      read = λ is. absurd (read is);
      written = λ is. absurd (write is);
      disk = disk;
    };
    refused = refused;
    kept = kept;
    not_opened = if_said stands_for x.a x.b (λ stood. IsErr stood → IsOneStatusOf (4 ∷ 8 ∷ 10 ∷ []) status) (λ tells_a tells_b. λ refused. one);
    untouched = if_said stands_for x.a x.b (λ stood. IsErr stood → (script ≡ script) × (y.output ≡ x.output)) (λ tells_a tells_b. λ refused. (refl, output));
    unread = λ is. refl;
    unwritten = λ is. output;
  }

  refused-areas : (r : Wrong) → AreKept x y → (Tells x.a → Tells x.b → stands_for (read_bytes x.a) (read_bytes x.b) ≡ Err r) → ReplaysAreas batch 4 script script reads reads x y
  refused-areas r kept wrong =
      unopened 4 (inl refl) (λ is. omega (arith, is)) (λ is. omega (arith, is)) (λ is. omega (arith, is)) (λ is. omega (arith, is)) (λ is. omega (arith, is)) (λ is. absurd (omega (arith, is)))
      (λ start state stands means. let stood = said stands_for x.a x.b (Ok start) stands in absurd (refused-not-stood _ start r (wrong stood.0 stood.1) stood.2))
      (λ is. if_said stands_for x.a x.b IsErr (λ tells_a tells_b. is-err _ r (wrong tells_a tells_b))) (λ is. kept) refl

  pub replayed-unopened : (f : OpenFault) (status : ℕ) → OpensNoneAs f status → OpensMaster (Err f) (areas_in x) (areas_in y) → ReplaysAreas batch status script script reads reads x y
  replayed-unopened fault.Disk status is opens =
      subst (λ s. ReplaysAreas batch s script script reads reads x y) (sym is)
      (unopened 8 (inr refl) (λ is. omega (arith, is)) (λ is. omega (arith, is)) (λ is. omega (arith, is)) (λ is. omega (arith, is)) (λ is. omega (arith, is)) (λ is. opens.blames)
      (λ start state stands means. unopened-disk script script reads reads (opened_view x) y start (WereStill 8 x) (ledger_in state) batch some
      (λ still. opened-images (Err fault.Disk) x y start opens stands (still (inl refl))) output opens.syncs opens.blames)
      (λ is. absurd (omega (arith, is))) (λ is. absurd (omega (arith, is))) refl)
  replayed-unopened (fault.Frame area place) status is opens =
      subst (λ s. ReplaysAreas batch s script script reads reads x y) (sym is) (refused-areas _ (frame-kept x y area place opens) opens.opened)
  replayed-unopened (fault.Bad area place) status is opens =
      subst (λ s. ReplaysAreas batch s script script reads reads x y) (sym is) (refused-areas _ (body-kept x y area place opens) (λ tells_a tells_b. (opens.opened tells_a tells_b).0))
  replayed-unopened fault.Memory status is opens =
      subst (λ s. ReplaysAreas batch s script script reads reads x y) (sym is)
      (unopened 10 (inr refl) (λ is. omega (arith, is)) (λ is. omega (arith, is)) (λ is. omega (arith, is)) (λ is. omega (arith, is)) (λ is. omega (arith, is)) (λ is. absurd (omega (arith, is)))
      (λ start state stands means. unopened-no-memory script script reads reads (opened_view x) y start (WereStill 10 x) (ledger_in state) batch some
      (λ still. opened-images (Err fault.Memory) x y start opens stands (still (inr refl))) output opens.syncs)
      (λ is. absurd (omega (arith, is))) (λ is. absurd (omega (arith, is))) refl)
