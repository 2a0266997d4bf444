-- The plans of what daemons send: orders name what runs at the host, and a report ends its serial alone and writes its line.
use Rattle.std.proofs.Common.{◌≡◌, ℕ, ◌^◌, ◌<◌, ◌≤◌, ◌==◌, ◌&&◌, ◌||◌, Bool, true, false, if◌then◌else◌, List, [], ◌∷◌, ◌++◌, Option, Some, None, Ok, is_none, refl, ap, sym, ◌∙◌, subst, arith, true≢false}
use Rattle.std.specs.Prelude.{nat_lt, nat_le, not}
use Rattle.std.proofs.lemmas.Bool.{and_parts, leb-true, ltb-true, eqb-true}
use Rattle.ge_limits.specs.Limits as limit
use Rattle.ge_base.specs.declared.refusal.Refusal.{Refusal}
use Rattle.ge_base.specs.declared.refusal.Refusal.TheVariants.{TooLong, TimeBack, NoSuchObject, StaleReport}
use Rattle.ge_collections.specs.Keyed.{at_text}
use Rattle.ge_model_rows.specs.ClusterRows.{Cluster}
use Rattle.ge_model_rows.specs.CommandRows.{Command}
use Rattle.ge_model_rows.specs.EntryRows.{Entry, Change}
use Rattle.ge_model_rows.specs.EventRows.{Planned, Form}
use Rattle.ge_model_rows.specs.Faults.{first_fault, when}
use Rattle.ge_model_grammar.specs.ScriptLines.{is_too_long}
use Rattle.ge_model_grammar.specs.Commands.{command_of}
use Rattle.ge_model_config.proofs.ReadBackNames.{both_empty}
use Rattle.ge_model_jobs.specs.Accounts.{line_of}
use Rattle.ge_model_jobs.specs.Applying.{after_change, after_entry}
use Rattle.ge_model_jobs.specs.Ending.{after_exit, end_task, with_end}
use Rattle.ge_model_jobs.specs.Orderly.{IsOrdered}
use Rattle.ge_model_jobs.specs.Serials.{running_with}
use Rattle.ge_model_jobs.specs.Soundness.{serials_of}
use Rattle.ge_model_report.specs.Orders.{orders_of}
use Rattle.ge_model_core.specs.Answers.{changed, shown, done_lines}
use Rattle.ge_model_core.specs.Configuring.{manager_faults}
use Rattle.ge_model_core.specs.Forms.{is_cut}
use Rattle.ge_model_core.specs.Plan.{command_plan, timely_plan, plan_of}
use Rattle.ge_model_core.specs.Refusals.{refused, unless_refused}
use Rattle.ge_model_core.specs.Reports.{serial_faults, end_faults, end_plan, orders_plan}
use Rattle.ge_model_core.proofs.NamedPlans.{none_holds}
use Rattle.ge_laws.proofs.PlannedEntries.{code_is}
use Rattle.ge_execd.specs.declared.rows.OrderLine.{OrderLine}
use Rattle.ge_execd.specs.Orders.{orders_in, line_serial}
use Rattle.ge_execd.specs.Daemons.{is_amount, end_text}
use Rattle.ge_model_world.specs.declared.rows.Report.{Report}
use Rattle.ge_model_world.specs.Worlds.{root_event, report_event, is_gone, gone}
use Rattle.ge_model_world.specs.Laws.{Has, Fits, IsEndOf}
use Rattle.ge_model_world.proofs.Lists.{has_filter, any_has}
use Rattle.ge_world_laws.specs.Product.{product, orders_text, posts, IsHost}
use Rattle.ge_world_laws.proofs.Ended.{Found, found_is, runs_on}
use Rattle.ge_world_laws.proofs.OrderLines.{reply_line_of}
use Rattle.ge_world_laws.proofs.OrderRows.{orders_run}
use Rattle.ge_world_laws.proofs.Texts.{orders_back, end_back}

-- what holds of each refusal, and of the plan of the command that a text is, holds of the plan of root's request with this text
plan_is : (P : Planned → Type 0) → ((r : Refusal) → P (refused r)) → (c : Cluster) (moment : ℕ) (text : List ℕ) (asked : Command) → command_of text ≡ Some asked
    → P (command_plan c (root_event moment text) asked) → P (plan_of c (root_event moment text))
unfolding plan_of
plan_is P refuses c moment text asked read accepted = first (is_cut Form.Good || is_too_long text)
  where
    second : (b : Bool) → P (if b then refused TimeBack else command_plan c (root_event moment text) asked)
    second true = refuses TimeBack
    second false = accepted

    first : (b : Bool) → P (if b then refused TooLong else timely_plan c (root_event moment text) (command_of text))
    first true = refuses TooLong
    first false = subst (λ o. P (timely_plan c (root_event moment text) o)) (sym read) (second (nat_lt moment c.last))

-- ---- orders

-- what a reply orders runs at the host
abbrev Names : Cluster → List ℕ → Planned → Type 0
Names c host p = (orders : List OrderLine) (o : OrderLine) → orders_in p.reply ≡ Ok orders → Has o orders → Has (line_serial o, host) (posts c)

pub orders_name : (c : Cluster) (moment : ℕ) (host : List ℕ) (orders : List OrderLine) (o : OrderLine) → ((s : ℕ) (h : List ℕ) → Has (s, h) (posts c) → s < 2 ^ 64) → IsHost host
    → orders_in (plan_of c (root_event moment (orders_text host))).reply ≡ Ok orders → Has o orders → Has (line_serial o, host) (posts c)
unfolding orders_plan
orders_name c moment host orders o small name read in_it =
    plan_is (Names c host) refuses c moment (orders_text host) (Command.Orders host) (orders_back host name) accepted orders o read in_it
  where
    refuses : (r : Refusal) → Names c host (refused r)
    refuses r orders o read in_it = absurd (true≢false (sym (reply_line_of (refused r).reply orders o read in_it).accepted ∙ code_is r))

    shows : Names c host (shown (orders_of c host))
    shows orders o read in_it = let line = reply_line_of (shown (orders_of c host)).reply orders o read in_it in orders_run c host small line.text o line.there line.is

    accepted : Names c host (orders_plan c (root_event moment (orders_text host)) host)
    accepted = by (first_fault (manager_faults c (root_event moment (orders_text host)) ++ when (is_none (at_text c.hosts host)) NoSuchObject))
      where
        by : (first : Option Refusal) → Names c host (unless_refused first (shown (orders_of c host)))
        by None = shows
        by (Some r) = refuses r

-- ---- the end of a serial

-- the cluster after an end whose serial runs
ends_as : (moment : ℕ) (c : Cluster) (serial exit cpu mem io : ℕ) (found : Found) → running_with c.jobs serial ≡ Some found
    → with_end moment c serial exit cpu mem io ≡ end_task moment c found.0 found.1 found.2 found.3 (record { failed = 0; exit = exit; cpu = cpu; mem = mem; io = io })
unfolding with_end
ends_as moment c serial exit cpu mem io found is =
    ap (λ (o : Option Found). elim o as (λ x. Cluster) [ None ↦ c | Some f ↦ end_task moment c f.0 f.1 f.2 f.3 (record { failed = 0; exit = exit; cpu = cpu; mem = mem; io = io }) ]) is

-- a report that nothing refuses is that of a serial which runs
runs_still : (outside stale : Bool) → (if outside then NoSuchObject ∷ [] else when stale StaleReport) ≡ [] → stale ≡ false
runs_still true stale none = cc
runs_still false true none = cc
runs_still false false none = refl

module _ (c : Cluster) (ordered : IsOrdered c) (moment : ℕ) (r : Report) where
  abbrev entry_is : Entry
  entry_is = record { moment = moment; change = Change.End r.serial r.exit r.cpu r.mem r.io }

  -- the entry of the report
  is_end_of : (found : Found) → running_with c.jobs r.serial ≡ Some found → IsEndOf product c r entry_is
  unfolding after_entry after_change
  is_end_of found is = record {
    line = line_of moment found.0 found.1 found.2 found.3 (record { failed = 0; exit = r.exit; cpu = r.cpu; mem = r.mem; io = r.io });
    written = ap (λ x. x.lines) after;
    told = record { exit = refl; cpu = refl; mem = refl; io = refl };
    alone = λ s h. by s h (s == r.serial) refl;
  }
    where
      after : with_end moment c r.serial r.exit r.cpu r.mem r.io ≡ end_task moment c found.0 found.1 found.2 found.3 (record { failed = 0; exit = r.exit; cpu = r.cpu; mem = r.mem; io = r.io })
      after = ends_as moment c r.serial r.exit r.cpu r.mem r.io found is

      left : List ℕ
      left = serials_of (with_end moment c r.serial r.exit r.cpu r.mem r.io).jobs

      again : (s : ℕ) → (s ≡ r.serial → ⊥) → Has s (serials_of c.jobs) → Has s (serials_of (with_end moment c r.serial r.exit r.cpu r.mem r.io).jobs)
      again s other h =
          subst (λ x. Has s (serials_of x.jobs)) (sym after)
          (runs_on (after_exit r.exit found.3) c.jobs ordered.numbers ordered.jobs r.serial found (found_is c.jobs r.serial found is) s other h)

      by : (s : ℕ) → Has s (gone (serials_of c.jobs) (serials_of (with_end moment c r.serial r.exit r.cpu r.mem r.io).jobs)) → (b : Bool) → (s == r.serial) ≡ b → s ≡ r.serial
      by s h true same = eqb-true s r.serial same
      by s h false other =
          let was = has_filter (is_gone (serials_of (with_end moment c r.serial r.exit r.cpu r.mem r.io).jobs)) (serials_of c.jobs) h in
          let still = again s (λ e. true≢false (sym (ap (λ n. n == r.serial) e ∙ equal r.serial) ∙ other)) was.0 in
          absurd (true≢false (sym was.1 ∙ ap not (any_has s (serials_of (with_end moment c r.serial r.exit r.cpu r.mem r.io).jobs) still)))
        where
          equal : (n : ℕ) → (n == n) ≡ true
          equal n = grind arith

  -- what an accepted report has as its entry
  abbrev Ends : Planned → Type 0
  Ends p = (entry : Entry) → p.entry ≡ Some entry → IsEndOf product c r entry

  accepted : Ends (end_plan c (report_event moment r) r.serial r.exit r.cpu r.mem r.io)
  unfolding end_plan
  accepted = by (first_fault faults) refl
    where
      faults : List Refusal
      faults = manager_faults c (report_event moment r) ++ serial_faults c r.serial ++ end_faults r.exit r.cpu r.mem r.io

      running : (found : Option Found) → running_with c.jobs r.serial ≡ found → is_none found ≡ false → IsEndOf product c r entry_is
      running None is some = absurd (true≢false some)
      running (Some found) is some = is_end_of found is

      by : (first : Option Refusal) → first_fault (manager_faults c (report_event moment r) ++ serial_faults c r.serial ++ end_faults r.exit r.cpu r.mem r.io) ≡ first
          → Ends (unless_refused first (changed (report_event moment r) (Change.End r.serial r.exit r.cpu r.mem r.io) done_lines))
      by (Some refusal) is = λ entry none. cc
      by None is = λ entry planned.
          let same : entry_is ≡ entry = cc in
          let all = none_holds (manager_faults c (report_event moment r) ++ serial_faults c r.serial ++ end_faults r.exit r.cpu r.mem r.io) is in
          let two = both_empty (manager_faults c (report_event moment r) ++ serial_faults c r.serial) (end_faults r.exit r.cpu r.mem r.io) all in
          let one = both_empty (manager_faults c (report_event moment r)) (serial_faults c r.serial) two.0 in
          subst (λ x. IsEndOf product c r x) same
          (running (running_with c.jobs r.serial) refl (runs_still (r.serial == 0 || nat_le c.next_serial r.serial) (is_none (running_with c.jobs r.serial)) one.1))

  pub report_ends : (entry : Entry) → Fits r.serial r.exit r.cpu r.mem r.io → (plan_of c (report_event moment r)).entry ≡ Some entry → IsEndOf product c r entry
  report_ends entry fits =
      plan_is Ends (λ refusal entry none. cc) c moment (end_text r.serial r.exit r.cpu r.mem r.io) (Command.End r.serial r.exit r.cpu r.mem r.io) read accepted entry
    where
      amount : (n : ℕ) → is_amount n ≡ true → n < 2 ^ 64
      amount n is = let below : n < limit.amounts = ltb-true n limit.amounts is in omega (arith, below)

      read : command_of (end_text r.serial r.exit r.cpu r.mem r.io) ≡ Some (Command.End r.serial r.exit r.cpu r.mem r.io)
      read =
          let first = and_parts (nat_le r.exit 255) (is_amount r.cpu && (is_amount r.mem && is_amount r.io)) fits.amounts in
          let second = and_parts (is_amount r.cpu) (is_amount r.mem && is_amount r.io) first.1 in
          let third = and_parts (is_amount r.mem) (is_amount r.io) second.1 in
          let serial : r.serial ≤ limit.last_serial = fits.in_range in
          let exit : r.exit ≤ 255 = leb-true r.exit 255 first.0 in
          end_back r.serial r.exit r.cpu r.mem r.io (omega (arith, serial)) (omega (arith, exit)) (amount r.cpu second.0) (amount r.mem third.0) (amount r.io third.1)
