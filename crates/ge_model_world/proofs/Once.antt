-- Each step keeps what holds of a world, so each serial is started once and accounted once.
use Rattle.std.proofs.Common.{◌≡◌, ℕ, Bool, true, false, if◌then◌else◌, List, [], ◌∷◌, ◌++◌, map, fold, length, Option, Some, None, refl, ap, sym, ◌∙◌, subst, option_map}
use Rattle.std.specs.Prelude.{slice_get}
use Rattle.std.proofs.lemmas.Option.{slice_get-map}
use Rattle.ge_model_rows.specs.EventRows.{Reply, Event}
use Rattle.ge_model_rows.specs.ClusterRows.{Cluster}
use Rattle.ge_model_rows.specs.EntryRows.{Entry}
use Rattle.ge_model_jobs.specs.Orderly.{KeysFrom}
use Rattle.ge_execd.specs.declared.rows.Stage.{Stage}
use Rattle.ge_execd.specs.declared.daemon.Daemon.{Daemon}
use Rattle.ge_execd.specs.Daemons.{new_daemon}
use Rattle.ge_model_world.specs.declared.rows.Report.{Report}
use Rattle.ge_model_world.specs.declared.rows.Finished.{Finished}
use Rattle.ge_model_world.specs.declared.rows.Arrival.{Arrival}
use Rattle.ge_model_world.specs.declared.rows.Step.{Step}
use Rattle.ge_model_world.specs.Masters.{Master}
use Rattle.ge_model_world.specs.declared.rows.World.{World}
use Rattle.ge_model_world.specs.declared.rows.Arrival.TheVariants.{Command, Report as Reports}
use Rattle.ge_model_world.specs.declared.rows.Step.TheVariants.{Handle, Stop, Ask, Daemon as Acts, Send, Cut}
use Rattle.ge_model_world.specs.Worlds.{gone, finish_by, finished_by, with_entry, report_event, arrival_event, answer_list, sent_for, handling, stopped, step_of, new_world, world_of}
use Rattle.ge_model_world.specs.Laws.{Has, Post, Laws, AreApart, AreHosts, IsTold, IsEndOf, KeepsOnce}
use Rattle.ge_model_world.proofs.Lists.{has_at, has_map, get_last, distinct_none}
use Rattle.ge_model_world.proofs.Got.{Got, got_none, got_answer}
use Rattle.ge_model_world.proofs.Kept.{Holds}
use Rattle.ge_model_world.proofs.Entries.{entry_holds}
use Rattle.ge_model_world.proofs.Sent.{sent_holds, asked_holds, sending_holds}
use Rattle.ge_model_world.proofs.Acted.{acting_holds, cutting_holds}

module _ (m : Master) (IsSound : Cluster → Type 0) (next : Cluster → ℕ) (posts : Cluster → List Post) (IsHost : List ℕ → Type 0) (laws : Laws m IsSound next posts IsHost) (hosts : List (List ℕ)) (different : AreApart hosts) (are_hosts : AreHosts IsHost hosts) where
  -- ---- events

  -- what an entry finishes is told: one that is no end tells nothing, and that of a report has its line
  forced_told : (w : World) (entry : Entry) → m.is_end entry ≡ false → (f : Finished) → Has f (finished_by m w.cluster entry) → IsTold w.reports (m.lines (m.after w.cluster entry)) f
  forced_told w entry is f h =
      let found = has_map (finish_by (m.is_end entry) (length (m.lines w.cluster))) (gone (m.serials w.cluster) (m.serials (m.after w.cluster entry))) h in
      subst (λ x. IsTold w.reports (m.lines (m.after w.cluster entry)) x) found.2 (subst (λ b. IsTold w.reports (m.lines (m.after w.cluster entry)) (finish_by b (length (m.lines w.cluster)) found.0)) (sym is) tt)

  reported_told : (w : World) (r : Report) (entry : Entry) → Has r w.reports → IsEndOf m w.cluster r entry → (f : Finished) → Has f (finished_by m w.cluster entry) → IsTold w.reports (m.lines (m.after w.cluster entry)) f
  reported_told w r entry was end f h =
      let found = has_map (finish_by (m.is_end entry) (length (m.lines w.cluster))) (gone (m.serials w.cluster) (m.serials (m.after w.cluster entry))) h in
      subst (λ x. IsTold w.reports (m.lines (m.after w.cluster entry)) x) found.2 (by (m.is_end entry) found.0 (end.alone found.0 found.1))
    where
      by : (b : Bool) (s : ℕ) → s ≡ r.serial → IsTold w.reports (m.lines (m.after w.cluster entry)) (finish_by b (length (m.lines w.cluster)) s)
      by true s same = (r, was, sym same, (end.line, subst (λ ls. slice_get ls (length (m.lines w.cluster)) ≡ Some end.line) (sym end.written) (get_last (m.lines w.cluster) end.line), end.told))
      by false s same = tt

  -- what may be an entry
  may_hold : (w : World) (e : Event) (entry : Option Entry) → (m.plan w.cluster e).entry ≡ entry → Holds m IsSound next posts hosts w
      → ((one : Entry) → entry ≡ Some one → (f : Finished) → Has f (finished_by m w.cluster one) → IsTold w.reports (m.lines (m.after w.cluster one)) f)
      → Holds m IsSound next posts hosts (with_entry m w entry)
  may_hold w e None is holds told = holds
  may_hold w e (Some entry) is holds told = entry_holds m IsSound next posts IsHost laws hosts w e entry is holds (told entry refl)

  -- the entry of an arrival's event
  arrives : (w : World) (x : Arrival) (e : Event) → arrival_event m w.reports x ≡ Some e → Holds m IsSound next posts hosts w → Holds m IsSound next posts hosts (with_entry m w (m.plan w.cluster e).entry)
  arrives w (Command c) e is holds = by (m.is_end_text c.text) refl is
    where
      by : (b : Bool) → m.is_end_text c.text ≡ b → (if b then None else Some c) ≡ Some e → Holds m IsSound next posts hosts (with_entry m w (m.plan w.cluster e).entry)
      by true test is = cc
      by false test is =
          let same : c ≡ e = cc in
          may_hold w e (m.plan w.cluster e).entry refl holds
          (λ entry planned. forced_told w entry (laws.others w.cluster e entry (subst (λ x. m.is_end_text x.text ≡ false) same test) planned))
  arrives w (Reports k moment) e is holds = by (slice_get w.reports k) refl is
    where
      by : (found : Option Report) → slice_get w.reports k ≡ found → option_map (report_event moment) found ≡ Some e → Holds m IsSound next posts hosts (with_entry m w (m.plan w.cluster e).entry)
      by None at is = cc
      by (Some r) at is =
          let same : report_event moment r ≡ e = cc in
          let was : Has r w.reports = has_at w.reports k at in
          may_hold w e (m.plan w.cluster e).entry refl holds
          (λ entry planned. reported_told w r entry was
          (laws.ends w.cluster moment r entry holds.sound (holds.sent r was).fits (subst (λ x. (m.plan w.cluster x).entry ≡ Some entry) (sym same) planned)))

  -- an answer names no serial
  answers : (w : World) (x : Arrival) (reply : Reply) → (d s : ℕ) → Got (sent_for w.reports x reply) d s → ⊥
  answers w (Command c) reply d s got = got_none got
  answers w (Reports k moment) reply d s got = by (slice_get w.reports k) got
    where
      by : (found : Option Report) → Got (answer_list reply found) d s → ⊥
      by None got = got_none got
      by (Some r) got = got_answer got

  handling_holds : (w : World) (x : Arrival) (o : Option Event) → arrival_event m w.reports x ≡ o → Holds m IsSound next posts hosts w → Holds m IsSound next posts hosts (handling m w x o)
  handling_holds w x None is holds = holds
  handling_holds w x (Some e) is holds = by (m.plan w.cluster e).entry (arrives w x e is holds)
    where
      by : (entry : Option Entry) → Holds m IsSound next posts hosts (with_entry m w entry) → Holds m IsSound next posts hosts (record (with_entry m w entry) { sent = w.sent ++ sent_for w.reports x (m.plan w.cluster e).reply })
      by None after = sent_holds m IsSound next posts IsHost laws hosts different are_hosts w (sent_for w.reports x (m.plan w.cluster e).reply) after (λ d s got. absurd (answers w x (m.plan w.cluster e).reply d s got))
      by (Some entry) after = sent_holds m IsSound next posts IsHost laws hosts different are_hosts (with_entry m w (Some entry)) (sent_for w.reports x (m.plan w.cluster e).reply) after (λ d s got. absurd (answers w x (m.plan w.cluster e).reply d s got))

  stopped_holds : (w : World) (x : Arrival) (done : Bool) (o : Option Event) → arrival_event m w.reports x ≡ o → Holds m IsSound next posts hosts w → Holds m IsSound next posts hosts (stopped m w done o)
  stopped_holds w x true None is holds = holds
  stopped_holds w x true (Some e) is holds = arrives w x e is holds
  stopped_holds w x false o is holds = holds

  -- ---- steps

  pub step_holds : (w : World) (step : Step) → Holds m IsSound next posts hosts w → Holds m IsSound next posts hosts (step_of m w step)
  step_holds w (Handle x) holds = handling_holds w x (arrival_event m w.reports x) refl holds
  step_holds w (Stop x done) holds = stopped_holds w x done (arrival_event m w.reports x) refl holds
  step_holds w (Ask place moment) holds = asked_holds m IsSound next posts IsHost laws hosts different are_hosts w place moment (slice_get w.daemons place) refl holds
  step_holds w (Acts place act) holds = acting_holds m IsSound next posts hosts w place act None (slice_get w.daemons place) refl holds
  step_holds w (Send place serial) holds = sending_holds m IsSound next posts IsHost laws hosts different are_hosts w place serial (slice_get w.daemons place) refl holds
  step_holds w (Cut place act done starts) holds = cutting_holds m IsSound next posts hosts w place act done starts (slice_get w.daemons place) refl holds

  pub steps_hold : (w : World) (steps : List Step) → Holds m IsSound next posts hosts w → Holds m IsSound next posts hosts (fold (step_of m) w steps)
  steps_hold w [] holds = holds
  steps_hold w (step ∷ steps) holds = steps_hold (step_of m w step) steps (step_holds w step holds)

  new_is : (d : ℕ) (daemon : Daemon) → slice_get (map new_daemon hosts) d ≡ Some daemon → (slice_get hosts d ≡ Some daemon.host) × (daemon.tasks ≡ [])
  new_is d daemon is = by (slice_get hosts d) refl (sym (slice_get-map new_daemon hosts d) ∙ is)
    where
      by : (found : Option (List ℕ)) → slice_get hosts d ≡ found → option_map new_daemon found ≡ Some daemon → (slice_get hosts d ≡ Some daemon.host) × (daemon.tasks ≡ [])
      by None at is = cc
      by (Some h) at is =
          let same : new_daemon h ≡ daemon = cc in
          (subst (λ x. slice_get hosts d ≡ Some x.host) same at, ap (λ x. x.tasks) (sym same))

  pub new_holds : Holds m IsSound next posts hosts (new_world m hosts)
  new_holds = record {
    sound = laws.opening;
    daemons = λ d daemon is. (new_is d daemon is).0;
    below = λ d s got. absurd (got_none got);
    home = λ d s h got p. absurd (got_none got);
    alone = λ d e s got other. absurd (got_none got);
    keeps = λ d daemon s stage is h. absurd (none (subst (λ rows. Has {X = ℕ × Stage} (s, stage) rows) (new_is d daemon is).1 h));
    rows = λ d daemon is. subst (λ rows. KeysFrom 0 rows) (sym (new_is d daemon is).1) tt;
    begun = λ d s h. elim h [ ];
    begun_seen = λ d s daemon h is. elim h [ ];
    started = distinct_none;
    sent = λ r h. elim h [ ];
    told = λ r daemon h is. elim h [ ];
    agree = λ r s h g same. elim h [ ];
    over = λ f h. elim h [ ];
    finished = distinct_none;
    lines = λ f h. elim h [ ];
  }
    where
      none : {row : ℕ × Stage} → Has row [] → ⊥
      none h = elim h [ ]

  -- the theorem: over all steps
  pub keeps_once : (steps : List Step) → KeepsOnce m (world_of m hosts steps)
  unfolding world_of
  keeps_once steps =
      let holds = steps_hold (new_world m hosts) steps new_holds in
      record { started = holds.started; finished = holds.finished; told = holds.lines; agree = holds.agree }
