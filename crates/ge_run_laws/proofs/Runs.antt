-- What each exit of a run leaves.
use Rattle.std.proofs.Common.{◌≡◌, ℕ, ◌==◌, Bool, true, false, List, ◌++◌, take, drop, Option, Some, Ok, refl, ap, ◌∙◌, sym, subst, append_assoc, ⊎_elim}
use Rattle.std.proofs.lemmas.List.{append_cancel_left, take-append-drop}
use Rattle.std.proofs.lemmas.Bool.{eqb-true, eqb-false}
use Rattle.ge_outside.specs.Streams.{Gains}
use Rattle.ge_model_rows.specs.ClusterRows.{Cluster}
use Rattle.ge_model_rows.specs.EventRows.{Event, Planned}
use Rattle.ge_model_journal.specs.Disk.{Content}
use Rattle.ge_model_program.specs.Traced.{traced}
use Rattle.ge_model_program.specs.Keeping.{Ledger}
use Rattle.ge_model_program.specs.Runs.{EachStandsFor, EachStandsForOneOf, RanTo}
use Rattle.ge_model_grammar.specs.Events.{events_of}
use Rattle.ge_model_core.specs.Plan.{plan_of}
use Rattle.ge_model_journal.specs.Journal.{State, meaning}
use Rattle.ge_model_program.specs.Keeping.{ledger_in}
use Rattle.ge_model_program.specs.Replaying.{Replays, ReplaysAreas, WereStill, opened_view}
use Rattle.ge_model_program.specs.StandsFor.{stands_for}
use Rattle.ge_model_program.specs.View.{View, said_of}
use Rattle.ge_run_laws.specs.Standing.{WroteWhole, EachStandsForSome, HasEvents, EachFrontStands, EachReadingStands, RunsStand}
use Rattle.ge_run_laws.proofs.Fronts.{written, goes-on, has-first, has-front, has-read}

-- what was gained begins with what stands whole
pub gained-front : (old new : Option (List ℕ)) (bytes gained : List ℕ) → Gains old new gained → (w : WroteWhole old new bytes) → gained ≡ bytes ++ w.later
gained-front old new bytes gained gains w =
    let told : Gains (Some w.before) (Some (w.before ++ (bytes ++ w.later))) gained =
    subst (λ (o : Option (List ℕ)). Gains o (Some (w.before ++ (bytes ++ w.later))) gained) w.old_is (subst (λ (o : Option (List ℕ)). Gains old o gained) w.new_is gains) in
    sym (append_cancel_left w.before (bytes ++ w.later) gained told)

-- a whole of which a front was gained
pub whole-front : (size : ℕ) (all bytes later : List ℕ) → take size all ≡ bytes ++ later → all ≡ bytes ++ (later ++ drop size all)
whole-front size all bytes later is = sym (take-append-drop size all) ∙ ap (λ front. front ++ drop size all) is ∙ append_assoc bytes later (drop size all)

pub for-one : (a b : List Content) (x : Cluster) (Has : Cluster → Type 0) → EachStandsFor a b x → Has x → EachStandsForSome a b Has
for-one a b x Has images has = λ c d i j. (x, images c d i j, has)

pub for-one-of : (a b : List Content) (x y : Cluster) (Has : Cluster → Type 0) → EachStandsForOneOf a b x y → Has x → Has y → EachStandsForSome a b Has
for-one-of a b x y Has images first second = λ c d i j. ⊎_elim (λ e. (x, e, first)) (λ e. (y, e, second)) (images c d i j)

module _ (plan : Cluster → Event → Planned) (start : Cluster) (events : List Event) (home : Type 0) (old new : Option (List ℕ)) (a b : List Content)
    (batch before later : ℕ) (ledger : Ledger) where
  to-stands : (run : RanTo plan start events home old new a b batch before later ledger) → EachFrontStands plan start events home old new a b run.marks
  to-stands run = λ k at w.
      let joined : take run.n run.marks ++ drop run.n run.marks ≡ run.marks = take-append-drop run.n run.marks in
      let wrote = gained-front old new _ _ run.wrote w in
      let has : HasEvents plan start events (take k run.marks) (traced plan start events (take run.n run.marks)).cluster =
      subst (λ (ms : List Bool). HasEvents plan start events (take k ms) (traced plan start events (take run.n run.marks)).cluster) joined
      (has-front plan start events k (take run.n run.marks) (drop run.n run.marks) w.later (wrote ∙ ap (λ (ms : List Bool). written plan start events (take k ms) ++ w.later) (sym joined))) in
      for-one-of a b _ _ (HasEvents plan start events (take k run.marks)) (run.images at) has (has-first plan start events k run.marks)

  module _ (ended : Type 0) where
    pub runs-stand : RunsStand plan start events home old new a b ended batch before later ledger (EachFrontStands plan start events home old new a b)
    runs-stand = record {
      to = to-stands;
      cut = λ run k at w. for-one a b _ (HasEvents plan start events (take k run.marks)) (run.images at) (has-first plan start events k run.marks);
      all = λ run k at w. for-one a b _ (HasEvents plan start events (take k run.marks)) (run.images at) (has-first plan start events k run.marks);
      full = λ run k at w. for-one a b _ (HasEvents plan start events (take k (run.next.marks ++ run.next.more))) (run.images at)
          (has-front plan start events k run.next.marks run.next.more w.later (gained-front old new _ _ run.next.wrote w));
    }

    -- where the plan never answers as want of memory is answered
    module _ (tells : (c : Cluster) (e : Event) → (plan c e).reply.code ≡ 99 → ⊥) where
      read-to : (run : RanTo plan start events home old new a b batch before later ledger) → EachReadingStands plan start events home old new a b
      read-to run = λ seen at w.
          let front = take run.n run.marks in
          let wrote = gained-front old new _ _ run.wrote w in
          let more = goes-on plan start events front (drop run.n run.marks) in
          let whole : written plan start events run.marks ≡ written plan start events seen ++ (w.later ++ more.0) =
          ap (written plan start events) (sym (take-append-drop run.n run.marks)) ∙ more.1 ∙ ap (λ bytes. bytes ++ more.0) wrote ∙ append_assoc (written plan start events seen) w.later more.0 in
          for-one-of a b _ _ (HasEvents plan start events seen) (run.images at) (has-read plan tells start events seen front w.later wrote) (has-read plan tells start events seen run.marks (w.later ++ more.0) whole)

      pub readings-stand : RunsStand plan start events home old new a b ended batch before later ledger (λ marks. EachReadingStands plan start events home old new a b)
      readings-stand = record {
        to = read-to;
        cut = λ run seen at w. for-one a b _ (HasEvents plan start events seen) (run.images at)
            (has-read plan tells start events seen run.marks (w.later ++ drop run.size (written plan start events run.marks))
            (whole-front run.size (written plan start events run.marks) _ w.later (gained-front old new _ _ run.wrote w)));
        all = λ run seen at w. for-one a b _ (HasEvents plan start events seen) (run.images at)
            (has-read plan tells start events seen run.marks w.later (gained-front old new _ _ run.wrote w));
        full = λ run seen at w. for-one a b _ (HasEvents plan start events seen) (run.images at)
            (has-read plan tells start events seen run.next.marks w.later (gained-front old new _ _ run.next.wrote w));
      }

-- A whole replay, whatever its status.
module _ (batch status : ℕ) (script : List ℕ) (rest : Option (List ℕ)) (reads reads_now : ℕ) (x y : View) (start : Cluster) (state : State)
    (tells : (c : Cluster) (e : Event) → (plan_of c e).reply.code ≡ 99 → ⊥) where
  pub replay-stands : ReplaysAreas batch status (Some script) rest reads reads_now x y → said_of stands_for x.a x.b ≡ Some (Ok start) → said_of meaning x.a x.b ≡ Some (Ok state)
      → EachReadingStands plan_of start (events_of script) (WereStill status x) x.output y.output y.a y.b
  replay-stands replay stands means = by (status == 7) refl
    where
      run : Replays status (Some script) rest reads reads_now (opened_view x) y start (WereStill status x) (ledger_in state) batch
      run = replay.ran start state stands means

      at : (ended : Type 0) → RunsStand plan_of start (events_of script) (WereStill status x) x.output y.output y.a y.b ended batch (opened_view x).syncs y.syncs (ledger_in state)
          (λ marks. EachReadingStands plan_of start (events_of script) (WereStill status x) x.output y.output y.a y.b)
      at ended = readings-stand plan_of start (events_of script) (WereStill status x) x.output y.output y.a y.b batch (opened_view x).syncs y.syncs (ledger_in state) ended tells

      by : (t : Bool) → (status == 7) ≡ t → EachReadingStands plan_of start (events_of script) (WereStill status x) x.output y.output y.a y.b
      by true is = (at (Unit {0})).cut (run.cut (eqb-true status 7 is))
      by false other = (at (Unit {0})).to (run.part (λ is. eqb-false status 7 other is))
