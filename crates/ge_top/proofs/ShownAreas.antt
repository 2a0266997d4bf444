-- A look at the areas, at each of its exits.
use Rattle.std.proofs.Common.{◌≡◌, ◌⊎◌, ℕ, List, [], ◌∷◌, length, Some, Result, Ok, Err, IfSome, refl, ap, ◌∙◌, sym, subst, inl, inr, arith}
use Rattle.std.specs.Prelude.{IsErr}
use Rattle.std.proofs.lemmas.Bool.{false≢true}
use Rattle.ge_outside.specs.Streams.{Gains, GainsPrefix}
use Rattle.ge_model_rows.specs.ClusterRows.{Cluster}
use Rattle.ge_model_journal.specs.Disk.{read_bytes, IsImageSince}
use Rattle.ge_model_journal.specs.Journal.{State, meaning}
use Rattle.ge_model_program.specs.StandsFor.{stands_for}
use Rattle.ge_model_program.specs.declared.Wrong.{Wrong}
use Rattle.ge_model_program.specs.View.{View, DiskRose, said_of, AreStill, AreKept}
use Rattle.ge_model_program.specs.Statuses.{IsOneStatusOf}
use Rattle.ge_model_program.specs.Showing.{status_line, ShowsAreas}
use Rattle.ge_spool.specs.Opening.{Tells}
use Rattle.ge_spool.specs.Settled.{generation_of, record_count}
use Rattle.ge_spool.specs.declared.faults.OpenFault.{OpenFault}
use Rattle.ge_spool.specs.declared.faults.OpenFault.TheVariants as fault
use Rattle.ge_serve.specs.Masters.{cluster_of, spool_of}
use Rattle.ge_serve.specs.OpeningMasters.{OpensMaster}
use Rattle.ge_serve.specs.Master.{Master}
use Rattle.ge_top.specs.Ends.{OpensNoneAs}
use Rattle.ge_top.specs.Shows.{Shows}
use Rattle.ge_top.proofs.Opened.{areas_in, said, if_said, still-quiet}
use Rattle.ge_top.proofs.Refused.{frame-kept, body-kept}
use Rattle.ge_top.proofs.ReplayedAreas.{stood-not-refused, same-ok, is-err}

-- the line of an opened master
abbrev line_of_master : Master → List ℕ
line_of_master m = status_line (generation_of (spool_of m)) (record_count (spool_of m)) (length (cluster_of m).jobs)

images-since : (result : Result Master OpenFault) (x y : View) → OpensMaster result (areas_in x) (areas_in y)
    → (start : Cluster) → said_of stands_for x.a x.b ≡ Some (Ok start) → AreStill x
    → (c d : List ℕ) → IsImageSince (length x.a) y.a c → IsImageSince (length x.b) y.b d → stands_for c d ≡ Ok start
images-since result x y opens start stands still =
    opens.any_moment (read_bytes x.a) (read_bytes x.b) (still-quiet x.a still.0) (still-quiet x.b still.1) start (said stands_for x.a x.b (Ok start) stands).2

-- a master was opened
pub shown-opened : (status : ℕ) (x y : View) (m : Master) → OpensMaster (Ok m) (areas_in x) (areas_in y)
    → Shows status (line_of_master m) x.output y.output x.writes y.writes → ShowsAreas status x y
shown-opened status x y m opens shows = record {
  statuses = inr (inr shows.statuses);
  whole = λ start state stands means is. subst (λ line. Gains x.output y.output line) (line start state stands means) (shows.whole is);
  cut = λ start state stands means is. subst (λ line. GainsPrefix x.output y.output line) (line start state stands means) (shows.cut is);
  line = λ is. (generation_of (spool_of m), record_count (spool_of m), length (cluster_of m).jobs, shows.whole is);
  unwritten = shows.unwritten;
  images = images-since (Ok m) x y opens;
  refused = λ is. absurd (no_four (subst (IsOneStatusOf (0 ∷ 7 ∷ 10 ∷ [])) is shows.statuses));
  kept = λ is. absurd (no_four (subst (IsOneStatusOf (0 ∷ 7 ∷ 10 ∷ [])) is shows.statuses));
  not_opened = if_said stands_for x.a x.b (λ stood. IsErr stood → IsOneStatusOf (4 ∷ 8 ∷ 10 ∷ []) status)
      (λ tells_a tells_b. λ refused. absurd (stood-not-refused _ _ (opens.opened tells_a tells_b).stood refused));
  written = shows.written;
  disk = λ is. absurd (no_eight (subst (IsOneStatusOf (0 ∷ 7 ∷ 10 ∷ [])) is shows.statuses));
  syncs = opens.syncs;
}
  where
    no_four : IsOneStatusOf (0 ∷ 7 ∷ 10 ∷ []) 4 → ⊥
    no_four is = false≢true is

    no_eight : IsOneStatusOf (0 ∷ 7 ∷ 10 ∷ []) 8 → ⊥
    no_eight is = false≢true is

    line : (start : Cluster) (state : State) → said_of stands_for x.a x.b ≡ Some (Ok start) → said_of meaning x.a x.b ≡ Some (Ok state)
        → line_of_master m ≡ status_line state.generation (length state.records) (length start.jobs)
    line start state stands means =
        let stood = said stands_for x.a x.b (Ok start) stands in
        let meant = said meaning x.a x.b (Ok state) means in
        let opened = opens.opened stood.0 stood.1 in
        let cluster : cluster_of m ≡ start = same-ok _ start (cluster_of m) stood.2 opened.stood in
        let state_is : opened.home.state ≡ state = same-ok _ state opened.home.state meant.2 opened.journal in
        let generation : generation_of (spool_of m) ≡ state.generation = opened.home.settled.generation ∙ ap (λ s. s.generation) state_is in
        let records : record_count (spool_of m) ≡ length state.records = opened.home.settled.count ∙ ap (λ (s : State). length s.records) state_is in
        λ i. status_line (generation i) (records i) (length (cluster i).jobs)

-- no master was opened
module _ (x y : View) (output : y.output ≡ x.output) where
  unshown : (f : OpenFault) (status : ℕ) → OpensMaster (Err f) (areas_in x) (areas_in y) → (status ≡ 4) ⊎ (status ≡ 8) ⊎ IsOneStatusOf (0 ∷ 7 ∷ 10 ∷ []) status
      → (status ≡ 0 → ⊥) → (status ≡ 7 → ⊥) → (status ≡ 8 → DiskRose x y)
      → (status ≡ 4 → IfSome (said_of stands_for x.a x.b) IsErr) → (status ≡ 4 → AreKept x y) → IsOneStatusOf (4 ∷ 8 ∷ 10 ∷ []) status → ShowsAreas status x y
  unshown f status opens statuses done write disk refused kept one = record {
    statuses = statuses;
    whole = λ start state stands means is. absurd (done is);
    cut = λ start state stands means is. absurd (write is);
    line = λ is. absurd (done is);
    unwritten = λ not_done not_cut. output;
    images = images-since (Err f) x y opens;
    refused = refused;
    kept = kept;
    not_opened = if_said stands_for x.a x.b (λ stood. IsErr stood → IsOneStatusOf (4 ∷ 8 ∷ 10 ∷ []) status) (λ tells_a tells_b. λ refused. one);
    written = λ is. absurd (write is);
    disk = disk;
    syncs = opens.syncs;
  }

  refused-look : (f : OpenFault) (r : Wrong) → AreKept x y → OpensMaster (Err f) (areas_in x) (areas_in y)
      → (Tells x.a → Tells x.b → stands_for (read_bytes x.a) (read_bytes x.b) ≡ Err r) → ShowsAreas 4 x y
  refused-look f r kept opens wrong =
      unshown f 4 opens (inl refl) (λ is. omega (arith, is)) (λ is. omega (arith, is)) (λ is. absurd (omega (arith, is)))
      (λ is. if_said stands_for x.a x.b IsErr (λ tells_a tells_b. is-err _ r (wrong tells_a tells_b))) (λ is. kept) refl

  pub shown-unopened : (f : OpenFault) (status : ℕ) → OpensNoneAs f status → OpensMaster (Err f) (areas_in x) (areas_in y) → ShowsAreas status x y
  shown-unopened fault.Disk status is opens =
      subst (λ s. ShowsAreas s x y) (sym is)
      (unshown fault.Disk 8 opens (inr (inl refl)) (λ is. omega (arith, is)) (λ is. omega (arith, is)) (λ is. opens.blames) (λ is. absurd (omega (arith, is))) (λ is. absurd (omega (arith, is))) refl)
  shown-unopened (fault.Frame area place) status is opens =
      subst (λ s. ShowsAreas s x y) (sym is) (refused-look (fault.Frame area place) _ (frame-kept x y area place opens) opens opens.opened)
  shown-unopened (fault.Bad area place) status is opens =
      subst (λ s. ShowsAreas s x y) (sym is) (refused-look (fault.Bad area place) _ (body-kept x y area place opens) opens (λ tells_a tells_b. (opens.opened tells_a tells_b).0))
  shown-unopened fault.Memory status is opens =
      subst (λ s. ShowsAreas s x y) (sym is)
      (unshown fault.Memory 10 opens (inr (inr refl)) (λ is. omega (arith, is)) (λ is. omega (arith, is)) (λ is. absurd (omega (arith, is))) (λ is. absurd (omega (arith, is))) (λ is. absurd (omega (arith, is))) refl)
