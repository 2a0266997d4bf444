-- Messages and reports that are sent keep what holds of a world.
use Rattle.std.proofs.Common.{◌≡◌, ◌⊎◌, inl, inr, ⊎_elim, ℕ, List, [], ◌∷◌, ◌++◌, Option, Some, None, refl, ap, sym, ◌∙◌, subst, append-nil}
use Rattle.std.specs.Prelude.{nat_eq, slice_get}
use Rattle.std.specs.List.{IsDistinct}
use Rattle.ge_collections.specs.Keyed.{at_number}
use Rattle.ge_model_rows.specs.AccountRows.{Line}
use Rattle.ge_model_rows.specs.ClusterRows.{Cluster}
use Rattle.ge_execd.specs.declared.rows.Stage.{Stage}
use Rattle.ge_execd.specs.declared.daemon.Daemon.{Daemon}
use Rattle.ge_execd.specs.declared.rows.Stage.TheVariants.{Claimed, Ended}
use Rattle.ge_model_world.specs.declared.rows.Message.{Message}
use Rattle.ge_model_world.specs.declared.rows.Report.{Report}
use Rattle.ge_model_world.specs.declared.rows.Finished.{Finished}
use Rattle.ge_model_world.specs.Masters.{Master}
use Rattle.ge_model_world.specs.declared.rows.World.{World}
use Rattle.ge_model_world.specs.declared.rows.Message.TheVariants.{Orders}
use Rattle.ge_model_world.specs.declared.rows.Finished.TheVariants.{Reported, Forced}
use Rattle.ge_model_world.specs.Worlds.{asked, asking, report_of, sending}
use Rattle.ge_model_world.specs.Laws.{Has, Post, Laws, AreApart, AreHosts, IsTold}
use Rattle.ge_model_world.proofs.Lists.{has_append, has_left, has_row, one_value, one_row, has_one}
use Rattle.ge_model_world.proofs.Got.{Got, got_more, got_where, got_one}
use Rattle.ge_model_world.proofs.Kept.{Holds, IsKept, IsSent, IsOfDaemon, told_end}

-- a report that was sent is one still where more were
pub told_later : (reports more : List Report) (lines : List Line) (f : Finished) → IsTold reports lines f → IsTold (reports ++ more) lines f
told_later reports more lines (Reported serial place) told = (told.0, has_left reports more told.1, told.2, told.3)
told_later reports more lines (Forced serial) told = tt

module _ (m : Master) (IsSound : Cluster → Type 0) (next : Cluster → ℕ) (posts : Cluster → List Post) (IsHost : List ℕ → Type 0) (laws : Laws m IsSound next posts IsHost) (hosts : List (List ℕ)) (different : AreApart hosts) (are_hosts : AreHosts IsHost hosts) where
  -- a host runs a serial alone
  one_host : (c : Cluster) (s : ℕ) (g h : List ℕ) → IsSound c → Has (s, g) (posts c) → Has (s, h) (posts c) → g ≡ h
  one_host c s g h sound p q = one_value (posts c) s g h (subst (λ ns. IsDistinct nat_eq ns) (laws.serials c) (laws.different c sound)) p q

  -- more messages, of which what they name runs at its daemon's host
  module _ (w : World) (more : List (ℕ × Message)) (holds : Holds m IsSound next posts hosts w)
      (named : (d s : ℕ) → Got more d s → (h : List ℕ) × (slice_get hosts d ≡ Some h) × Has (s, h) (posts w.cluster)) where
    where_got : (d s : ℕ) → Got (w.sent ++ more) d s → Got w.sent d s ⊎ Got more d s
    where_got d s got = got_where w.sent more got

    -- what was named before is named to the same daemon
    same_one : (d e s : ℕ) → Got w.sent d s → Got more e s → d ≡ e
    same_one d e s old new =
        let n = named e s new in
        different d e n.0 (holds.home d s n.0 old n.2) n.1

    pub sent_holds : Holds m IsSound next posts hosts (record w { sent = w.sent ++ more })
    sent_holds = record {
      sound = holds.sound;
      daemons = holds.daemons;
      below = λ d s got. ⊎_elim (λ old. holds.below d s old) (λ new. let n = named d s new in laws.below w.cluster s n.0 holds.sound n.2) (where_got d s got);
      home = λ d s h got p. ⊎_elim (λ old. holds.home d s h old p)
          (λ new. let n = named d s new in n.1 ∙ ap (λ g. Some g) (one_host w.cluster s n.0 h holds.sound n.2 p)) (where_got d s got);
      alone = λ d e s got other. by d e s (where_got d s got) (where_got e s other);
      keeps = λ d daemon s stage is h. let k = holds.keeps d daemon s stage is h in record { got = got_more more k.got; in_sight = k.in_sight; fits = k.fits };
      rows = holds.rows;
      begun = λ d s h. got_more more (holds.begun d s h);
      begun_seen = holds.begun_seen;
      started = holds.started;
      sent = λ r h. let s = holds.sent r h in record { got = got_more more s.got; fits = s.fits };
      told = holds.told;
      agree = holds.agree;
      over = holds.over;
      finished = holds.finished;
      lines = holds.lines;
    }
      where
        by : (d e s : ℕ) → Got w.sent d s ⊎ Got more d s → Got w.sent e s ⊎ Got more e s → d ≡ e
        by d e s (inl old) (inl other) = holds.alone d e s old other
        by d e s (inl old) (inr new) = same_one d e s old new
        by d e s (inr new) (inl old) = sym (same_one e d s old new)
        by d e s (inr new) (inr other) =
            let n = named d s new in
            let k = named e s other in
            different d e n.0 n.1 (k.1 ∙ ap (λ g. Some g) (one_host w.cluster s k.0 n.0 holds.sound k.2 n.2))

  -- the reply to the orders of a daemon's host
  pub asked_holds : (w : World) (place moment : ℕ) (found : Option Daemon) → slice_get w.daemons place ≡ found → Holds m IsSound next posts hosts w → Holds m IsSound next posts hosts (asking m w place moment found)
  asked_holds w place moment None is holds = holds
  asked_holds w place moment (Some daemon) is holds = sent_holds w ((place, Orders (asked m w.cluster moment daemon)) ∷ []) holds named
    where
      named : (d s : ℕ) → Got ((place, Orders (asked m w.cluster moment daemon)) ∷ []) d s → (h : List ℕ) × (slice_get hosts d ≡ Some h) × Has (s, h) (posts w.cluster)
      named d s got =
          let one = got_one got in
          let at : slice_get hosts d ≡ Some daemon.host = subst (λ k. slice_get hosts k ≡ Some daemon.host) (sym one.0) (holds.daemons place daemon is) in
          (daemon.host, at, subst (λ k. Has (k, daemon.host) (posts w.cluster)) one.1.4 (laws.orders w.cluster moment daemon.host one.1.0 one.1.1 holds.sound (are_hosts d daemon.host at) one.1.2 one.1.3))

  -- the report of a kept end
  module _ (w : World) (place serial : ℕ) (daemon : Daemon) (is : slice_get w.daemons place ≡ Some daemon) (holds : Holds m IsSound next posts hosts w) (exit cpu mem io : ℕ)
      (kept : Has (serial, Ended exit cpu mem io) daemon.tasks) where
    -- a report of the serial that was sent before is this one
    same_report : (r : Report) → Has r w.reports → r.serial ≡ serial → r ≡ record { daemon = place; serial = serial; exit = exit; cpu = cpu; mem = mem; io = io }
    same_report r h same =
        let from : r.daemon ≡ place = holds.alone r.daemon place serial (subst (λ n. Got w.sent r.daemon n) same (holds.sent r h).got) (holds.keeps place daemon serial (Ended exit cpu mem io) is kept).got in
        let at : slice_get w.daemons r.daemon ≡ Some daemon = subst (λ k. slice_get w.daemons k ≡ Some daemon) (sym from) is in
        let end : Ended exit cpu mem io ≡ told_end r = (holds.told r daemon h at).kept (Ended exit cpu mem io) (subst (λ n. Has (n, Ended exit cpu mem io) daemon.tasks) (sym same) kept) in
        let e : exit ≡ r.exit = cc in
        let c : cpu ≡ r.cpu = cc in
        let b : mem ≡ r.mem = cc in
        let o : io ≡ r.io = cc in
        λ j. record { daemon = from j; serial = same j; exit = sym e j; cpu = sym c j; mem = sym b j; io = sym o j }

    abbrev reported : Report
    reported = record { daemon = place; serial = serial; exit = exit; cpu = cpu; mem = mem; io = io }

    keeps : IsKept w.sent place daemon.seen serial (Ended exit cpu mem io)
    keeps = holds.keeps place daemon serial (Ended exit cpu mem io) is kept

    one_end : (stage : Stage) → Has (serial, stage) daemon.tasks → stage ≡ Ended exit cpu mem io
    one_end stage h = one_row 0 daemon.tasks serial stage (Ended exit cpu mem io) (holds.rows place daemon is) h kept

    pub one_sent : Holds m IsSound next posts hosts (record w { reports = w.reports ++ record { daemon = place; serial = serial; exit = exit; cpu = cpu; mem = mem; io = io } ∷ [] })
    one_sent = record {
      sound = holds.sound;
      daemons = holds.daemons;
      below = holds.below;
      home = holds.home;
      alone = holds.alone;
      keeps = holds.keeps;
      rows = holds.rows;
      begun = holds.begun;
      begun_seen = holds.begun_seen;
      started = holds.started;
      sent = λ r h. ⊎_elim (λ old. holds.sent r old) (λ new. subst (λ x. IsSent w.sent x) (sym (has_one new)) fresh) (has_append w.reports (reported ∷ []) h);
      told = λ r e h at. ⊎_elim (λ old. holds.told r e old at) (λ new. told_new r e (has_one new) at) (has_append w.reports (reported ∷ []) h);
      agree = λ r s h g same. by r s (has_append w.reports (reported ∷ []) h) (has_append w.reports (reported ∷ []) g) same;
      over = holds.over;
      finished = holds.finished;
      lines = λ f h. told_later w.reports (reported ∷ []) (m.lines w.cluster) f (holds.lines f h);
    }
      where
        fresh : IsSent w.sent reported
        fresh = record { got = keeps.got; fits = keeps.fits }

        told_new : (r : Report) (e : Daemon) → r ≡ reported → slice_get w.daemons r.daemon ≡ Some e → IsOfDaemon r e
        told_new r e new at =
            let here : slice_get w.daemons r.daemon ≡ Some daemon = subst (λ k. slice_get w.daemons k ≡ Some daemon) (sym (ap (λ x. x.daemon) new)) is in
            let same : daemon ≡ e = cc in
            subst (λ x. IsOfDaemon r x) same (subst (λ x. IsOfDaemon x daemon) (sym new) (record { in_sight = keeps.in_sight; kept = one_end }))

        by : (r s : Report) → Has r w.reports ⊎ Has r (reported ∷ []) → Has s w.reports ⊎ Has s (reported ∷ []) → r.serial ≡ s.serial → r ≡ s
        by r s (inl h) (inl g) same = holds.agree r s h g same
        by r s (inl h) (inr g) same = same_report r h (same ∙ ap (λ x. x.serial) (has_one g)) ∙ sym (has_one g)
        by r s (inr h) (inl g) same = has_one h ∙ sym (same_report s g (sym same ∙ ap (λ x. x.serial) (has_one h)))
        by r s (inr h) (inr g) same = has_one h ∙ sym (has_one g)

  -- the report of what a daemon keeps of a serial, if that is an end
  pub sending_holds : (w : World) (place serial : ℕ) (found : Option Daemon) → slice_get w.daemons place ≡ found → Holds m IsSound next posts hosts w → Holds m IsSound next posts hosts (sending w place serial found)
  sending_holds w place serial None is holds = holds
  sending_holds w place serial (Some daemon) is holds = by (at_number daemon.tasks serial) refl
    where
      none : Holds m IsSound next posts hosts (record w { reports = w.reports ++ [] })
      none = subst (λ rs. Holds m IsSound next posts hosts (record w { reports = rs })) (sym (append-nil w.reports)) holds

      by : (kept : Option Stage) → at_number daemon.tasks serial ≡ kept → Holds m IsSound next posts hosts (record w { reports = w.reports ++ report_of place serial kept })
      by None at = none
      by (Some Claimed) at = none
      by (Some (Ended exit cpu mem io)) at = one_sent w place serial daemon is holds exit cpu mem io (has_row daemon.tasks serial at)
