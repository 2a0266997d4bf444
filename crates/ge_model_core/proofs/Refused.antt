-- A refused event changes nothing, and the master goes on.
use Rattle.std.proofs.Common.{◌≡◌, ℕ, ◌==◌, ◌&&◌, ◌||◌, not, ◌⊎◌, inl, inr, Bool, true, false, if◌then◌else◌, List, [], ◌∷◌, ◌++◌, flat_map, length, Option, Some, None, is_some, is_none, refl, sym, subst}
use Rattle.std.specs.Prelude.{nat_lt}
use Rattle.ge_base.specs.declared.refusal.Refusal.{Refusal}
use Rattle.ge_base.specs.declared.refusal.Refusal.TheVariants.{TooLong, Syntax, TimeBack, NoSuchObject, NotPermitted, Cycle, Limit}
use Rattle.ge_model_rows.specs.ClusterRows.{Cluster}
use Rattle.ge_model_rows.specs.CommandRows.{Command, Listing, Query}
use Rattle.ge_model_rows.specs.EntryRows.{Hold, Release, Delete, Clear, Put, Drop, Load, End, Item}
use Rattle.ge_model_rows.specs.EntryRows.{ObjectKind, Key}
use Rattle.ge_model_rows.specs.EventRows.{Event, Planned}
use Rattle.ge_model_rows.specs.JobRows.{Grant, Advance}
use Rattle.ge_collections.specs.Keyed.{at_number, at_text}
use Rattle.ge_model_grammar.specs.ScriptLines.{is_too_long}
use Rattle.ge_model_core.specs.Forms.{is_cut}
use Rattle.ge_model_core.specs.Refusals.{refused, unless_refused}
use Rattle.ge_model_rows.specs.Faults.{first_fault, when}
use Rattle.ge_model_rows.specs.Pieces.{each_number_once}
use Rattle.ge_model_rows.specs.Access.{is_operator}
use Rattle.ge_model_jobs.specs.Serials.{running_with}
use Rattle.ge_model_config.specs.Reading.{item_of}
use Rattle.ge_model_place.specs.Advances.{advance_grants}
use Rattle.ge_model_report.specs.Orders.{orders_of, task_lines}
use Rattle.ge_model_config.specs.Printing.{item_at}
use Rattle.ge_model_grammar.specs.declared.Body.{Body}
use Rattle.ge_model_grammar.specs.Bodies.{body_of}
use Rattle.ge_model_report.specs.Accounting.{account_of}
use Rattle.ge_model_core.specs.Answers.{unless_faulty, changed, shown, done_lines}
use Rattle.ge_model_core.specs.Submitting.{submit_plan, submitter, size_faults, submitted_tasks, submission_answer, submitted_job}
use Rattle.ge_model_core.specs.JobOptions.{option_faults}
use Rattle.ge_model_core.specs.JobAdvances.{join_faults}
use Rattle.ge_model_core.specs.Targets.{target_faults, named_jobs}
use Rattle.ge_model_core.specs.Altering.{alter_plan, patches_of, alter_faults, closes_a_cycle, altered}
use Rattle.ge_model_core.specs.Deleting.{delete_plan, clear_plan, removed_line, cleared_line}
use Rattle.ge_model_core.specs.Holding.{hold_plan, release_plan, hold_plan_faults, hold_answer}
use Rattle.ge_model_core.specs.Configuring.{put, add_plan, body_plan, body_plan_of, remove_plan, remove_faults, manager_faults, enlisted, enlist_faults, print_plan, print_plan_of}
use Rattle.ge_model_core.specs.Showing.{show_plan, account_plan}
use Rattle.ge_model_core.specs.Reports.{load_plan, host_faults, report_faults, report_of, end_plan, serial_faults, end_faults, orders_plan, task_plan, stop_plan}
use Rattle.ge_model_core.specs.Scheduling.{sched_plan, decided, decisions_at}
use Rattle.ge_model_core.specs.Booking.{advance_asked, book_faults, booked, book_plan, unbook_faults, unbooked, unbook_plan, show_booked_of, show_booked_plan}
use Rattle.ge_model_core.specs.Plan.{event_command, command_plan, timely_plan, plan_of}
use Rattle.ge_model_core.specs.Trace.{after_entries, cluster_after}

-- an event is accepted, with code 0, or refused: nothing changes, and the master goes on
unfoldable pub IsAnswer : Planned → Type 0
IsAnswer p = (p.reply.code ≡ 0) ⊎ ((r : Refusal) × (p ≡ refused r))

refusal : (r : Refusal) → IsAnswer (refused r)
unfolding IsAnswer
refusal r = inr (r, refl)

accepted : (p : Planned) → p.reply.code ≡ 0 → IsAnswer p
unfolding IsAnswer
accepted p is = inl is

-- a plan that answers where no refusal holds
answered : (faults : List Refusal) (p : Planned) → IsAnswer p → IsAnswer (unless_faulty faults p)
answered faults p answer = by (first_fault faults)
  where
    by : (first : Option Refusal) → IsAnswer (unless_refused first p)
    by None = answer
    by (Some r) = refusal r

-- a plan that is accepted where no refusal holds
checked : (faults : List Refusal) (p : Planned) → p.reply.code ≡ 0 → IsAnswer (unless_faulty faults p)
checked faults p is = answered faults p (accepted p is)

chosen : (b : Bool) (r : Refusal) (p : Planned) → IsAnswer p → IsAnswer (if b then refused r else p)
chosen true r p answer = refusal r
chosen false r p answer = answer

put_answers : (c : Cluster) (e : Event) (read : Item × List Refusal) → IsAnswer (put c e read)
put_answers c e read = checked (manager_faults c e ++ read.1) (changed e (Put read.0) done_lines) refl

read_body : (c : Cluster) (e : Event) (sort : ObjectKind) (adding : Bool) (body : Option Body) → IsAnswer (body_plan_of c e sort adding body)
read_body c e sort adding None = refusal Syntax
read_body c e sort adding (Some body) = put_answers c e (item_of c sort adding body)

with_body : (c : Cluster) (e : Event) (sort : ObjectKind) (adding : Bool) (text : List ℕ) → IsAnswer (body_plan c e sort adding text)
unfolding body_plan
with_body c e sort adding text = read_body c e sort adding (body_of sort text)

added : (c : Cluster) (e : Event) (sort : ObjectKind) (text : List ℕ) → IsAnswer (add_plan c e sort text)
added c e ObjectKind.Managers text = put_answers c e (Item.Managers (enlisted c.managers text), enlist_faults c.managers text)
added c e ObjectKind.Operators text = put_answers c e (Item.Operators (enlisted c.operators text), enlist_faults c.operators text)
added c e other text = with_body c e other true text

removed : (c : Cluster) (e : Event) (key : Key) → IsAnswer (remove_plan c e key)
unfolding remove_plan
removed c e key = checked (manager_faults c e ++ remove_faults c key.kind key.name) (changed e (Drop key) done_lines) refl

printed_item : (c : Cluster) (item : Option Item) → IsAnswer (print_plan_of c item)
printed_item c None = refusal NoSuchObject
printed_item c (Some item) = accepted _ refl

printed_one : (c : Cluster) (key : Key) → IsAnswer (print_plan c key)
unfolding print_plan
printed_one c key = printed_item c (item_at c key.kind key.name)

turned : (b : Bool) (r : Refusal) (p : Planned) → IsAnswer p → IsAnswer (if b then p else refused r)
turned true r p answer = answer
turned false r p answer = refusal r

listed : (c : Cluster) (e : Event) (what : Listing) → IsAnswer (show_plan c e what)
unfolding show_plan
listed c e (Listing.One number) = turned (is_some (at_number c.jobs number)) NoSuchObject _ (accepted _ refl)
listed c e Listing.Prios = accepted _ refl
listed c e Listing.Queues = accepted _ refl
listed c e (Listing.All pattern) = accepted _ refl

told : (c : Cluster) (what : Query) → IsAnswer (account_plan c what)
unfolding account_plan
told c (Query.Job number) = let lines = account_of c (Query.Job number) in chosen (length lines == 0) NoSuchObject (shown lines) (accepted _ refl)
told c Query.Total = accepted _ refl
told c (Query.Owner name) = accepted _ refl

-- a reservation is granted slots, or refused
granted : (c : Cluster) (e : Event) (faults : List Refusal) (asked : Advance) (grants : Option (List Grant)) → IsAnswer (unless_faulty faults (booked c e asked grants))
granted c e faults asked None = answered faults (booked c e asked None) (refusal Limit)
granted c e faults asked (Some grants) = checked faults (booked c e asked (Some grants)) refl

reserved_shown : (c : Cluster) (now : ℕ) (one : Option ℕ) → IsAnswer (show_booked_of c now one)
reserved_shown c now None = accepted _ refl
reserved_shown c now (Some number) = turned (is_some (at_number c.advances number)) NoSuchObject _ (accepted _ refl)

-- the plans of the other commands are accepted where no refusal holds
commanded : (c : Cluster) (e : Event) (command : Command) → IsAnswer (command_plan c e command)
unfolding submit_plan alter_plan delete_plan clear_plan hold_plan release_plan load_plan end_plan orders_plan task_plan stop_plan sched_plan book_plan unbook_plan show_booked_plan
commanded c e (Command.Submit options words script) =
    checked (option_faults c e options.items (submitter e options.items) ++ join_faults c e options.items ++ size_faults c (submitted_tasks options.items) words script) (submission_answer e (submitted_job c e options.items words script)) refl
commanded c e (Command.Alter options numbers) =
    let patches = patches_of c options.items numbers in checked (flat_map (alter_faults c e options.items) numbers ++ when (closes_a_cycle c options.items patches) Cycle) (altered e patches) refl
commanded c e (Command.Delete force picks) =
    checked (flat_map (target_faults c e) picks ++ when (force && not (is_operator c e.user)) NotPermitted) (changed e (Delete picks force) (removed_line force (named_jobs c picks) ∷ [])) refl
commanded c e (Command.Hold bits numbers) =
    let once = each_number_once numbers in checked (hold_plan_faults c e bits numbers) (hold_answer e (Hold once bits) once) refl
commanded c e (Command.Release bits numbers) =
    let once = each_number_once numbers in checked (hold_plan_faults c e bits numbers) (hold_answer e (Release once bits) once) refl
commanded c e (Command.Clear picks) =
    checked (flat_map (target_faults c e) picks) (changed e (Clear picks) (cleared_line (named_jobs c picks) ∷ [])) refl
commanded c e (Command.Show what) = listed c e what
commanded c e (Command.Account what) = told c what
commanded c e (Command.Add sort text) = added c e sort text
commanded c e (Command.Modify sort text) = with_body c e sort false text
commanded c e (Command.Remove key) = removed c e key
commanded c e (Command.Print key) = printed_one c key
commanded c e (Command.Load host pairs) =
    checked (manager_faults c e ++ host_faults c host ++ flat_map (report_faults c) pairs) (changed e (Load host (report_of c pairs)) done_lines) refl
commanded c e (Command.End serial exit cpu mem io) =
    checked (manager_faults c e ++ serial_faults c serial ++ end_faults exit cpu mem io) (changed e (End serial exit cpu mem io) done_lines) refl
commanded c e Command.Sched =
    checked (manager_faults c e) (decided e (decisions_at c e.moment)) refl
commanded c e (Command.Orders host) =
    checked (manager_faults c e ++ when (is_none (at_text c.hosts host)) NoSuchObject) (shown (orders_of c host)) refl
commanded c e (Command.JobOf serial) =
    checked (manager_faults c e ++ when (is_none (running_with c.jobs serial)) NoSuchObject) (shown (task_lines c serial)) refl
commanded c e Command.Stop =
    checked (manager_faults c e) (record (shown done_lines) { stop = true }) refl
commanded c e (Command.Book options) =
    let asked = advance_asked c e options.items in granted c e (book_faults c e options.items) asked (advance_grants c e.moment asked)
commanded c e (Command.Unbook numbers) =
    checked (flat_map (unbook_faults c e) numbers) (unbooked e (each_number_once numbers)) refl
commanded c e (Command.ShowBooked one) = reserved_shown c e.moment one

timed : (c : Cluster) (e : Event) (command : Option Command) → IsAnswer (timely_plan c e command)
timed c e None = refusal Syntax
timed c e (Some command) = chosen (nat_lt e.moment c.last) TimeBack (command_plan c e command) (commanded c e command)

-- every event is accepted or refused
pub plan_answers : (c : Cluster) (e : Event) → IsAnswer (plan_of c e)
unfolding plan_of
plan_answers c e = chosen (is_cut e.form || is_too_long e.text) TooLong _ (timed c e (event_command e.form e.text))

-- a trace goes on behind a refused event as if it hadn't been there
pub refused_leaves : (plan : Cluster → Event → Planned) → ((c : Cluster) (e : Event) → IsAnswer (plan c e))
    → (c : Cluster) (e : Event) (events : List Event) (mark : Bool) (marks : List Bool) → ((plan c e).reply.code ≡ 0 → ⊥)
    → cluster_after plan c (e ∷ events) (mark ∷ marks) ≡ cluster_after plan c events marks
unfolding IsAnswer
refused_leaves plan answers c e events false marks not_accepted = refl
refused_leaves plan answers c e events true marks not_accepted = by (plan c e) (answers c e) not_accepted
  where
    GoesOn : Planned → Type 0
    GoesOn p = elim p.stop as (λ x. Cluster) [ true ↦ after_entries c p.entry | false ↦ cluster_after plan (after_entries c p.entry) events marks ]
        ≡ cluster_after plan c events marks

    by : (p : Planned) → IsAnswer p → (p.reply.code ≡ 0 → ⊥) → GoesOn p
    by p (inl accepted) not_accepted = absurd (not_accepted accepted)
    by p (inr (r, is)) not_accepted = subst GoesOn (sym is) refl
