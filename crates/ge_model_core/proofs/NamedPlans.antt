-- What every plan puts in has a name of its kind, so the tables have names alone in every cluster that events lead to.
use Rattle.std.proofs.Common.{◌≡◌, ℕ, ◌&&◌, ◌||◌, not, Bool, true, false, if◌then◌else◌, List, [], ◌∷◌, ◌++◌, flat_map, fold, length, Option, Some, None, IfSome, is_some, is_none, nat_lt, ◌==◌, refl}
use Rattle.std.specs.Prelude.{nat_lt}
use Rattle.ge_base.specs.declared.refusal.Refusal.{Refusal}
use Rattle.ge_base.specs.declared.refusal.Refusal.TheVariants.{NoSuchObject, NotPermitted, Cycle, TimeBack, TooLong}
use Rattle.ge_collections.specs.Keyed.{at_number, at_text}
use Rattle.ge_model_rows.specs.ClusterRows.{Cluster, opening_cluster}
use Rattle.ge_model_rows.specs.CommandRows.{Command, Listing, Query}
use Rattle.ge_model_rows.specs.EntryRows.{Entry, Hold, Release, Delete, Clear, Drop, Load, End}
use Rattle.ge_model_rows.specs.EntryRows.{Item, ObjectKind}
use Rattle.ge_model_rows.specs.EventRows.{Event, Planned}
use Rattle.ge_model_rows.specs.JobRows.{Grant, Advance}
use Rattle.ge_model_grammar.specs.ScriptLines.{is_too_long}
use Rattle.ge_model_core.specs.Forms.{is_cut}
use Rattle.ge_model_core.specs.Refusals.{refused, unless_refused}
use Rattle.ge_model_rows.specs.Faults.{turn_of, earlier_fault, first_fault, when}
use Rattle.ge_model_rows.specs.Pieces.{each_number_once}
use Rattle.ge_model_rows.specs.Access.{is_operator}
use Rattle.ge_model_grammar.specs.declared.Body.{Body}
use Rattle.ge_model_grammar.specs.Bodies.{body_of}
use Rattle.ge_model_config.specs.Reading.{item_of}
use Rattle.ge_model_config.specs.Printing.{item_at}
use Rattle.ge_model_config.proofs.ReadBackNames.{both_empty}
use Rattle.ge_model_config.proofs.ReadBackNamed.{IsWellNamed, PutsName, item_named, opening_named}
use Rattle.ge_model_jobs.specs.Serials.{running_with}
use Rattle.ge_model_place.specs.Advances.{advance_grants}
use Rattle.ge_model_report.specs.Accounting.{account_of}
use Rattle.ge_model_report.specs.Orders.{orders_of, task_lines}
use Rattle.ge_model_core.specs.Answers.{unless_faulty, shown, changed, done_lines}
use Rattle.ge_model_core.specs.Altering.{alter_plan, patches_of, alter_faults, closes_a_cycle, altered}
use Rattle.ge_model_core.specs.Submitting.{submit_plan, submitter, size_faults, submitted_tasks, submission_answer, submitted_job}
use Rattle.ge_model_core.specs.Deleting.{delete_plan, clear_plan, removed_line, cleared_line}
use Rattle.ge_model_core.specs.Holding.{hold_plan, release_plan, hold_plan_faults, hold_answer}
use Rattle.ge_model_core.specs.Configuring.{put, add_plan, body_plan, body_plan_of, remove_plan, manager_faults, enlisted, enlist_faults, print_plan, print_plan_of, remove_faults}
use Rattle.ge_model_core.specs.Showing.{show_plan, account_plan}
use Rattle.ge_model_core.specs.Reports.{load_plan, end_plan, orders_plan, task_plan, stop_plan, host_faults, report_faults, report_of, serial_faults, end_faults}
use Rattle.ge_model_core.specs.Scheduling.{sched_plan, decided, decisions_at}
use Rattle.ge_model_core.specs.Booking.{advance_asked, book_faults, booked, book_plan, unbook_faults, unbooked, unbook_plan, show_booked_of, show_booked_plan}
use Rattle.ge_model_core.specs.Plan.{event_command, command_plan, timely_plan, plan_of}
use Rattle.ge_model_core.specs.Trace.{after_entries, cluster_after}
use Rattle.ge_model_core.specs.JobOptions.{option_faults}
use Rattle.ge_model_core.specs.JobAdvances.{join_faults}
use Rattle.ge_model_core.specs.Targets.{target_faults, named_jobs}
use Rattle.ge_model_core.proofs.NamedTables.{BringsName, entry_names}

-- what a plan puts in has a name of its kind
abbrev pub IsNaming : Planned → Type 0
IsNaming p = IfSome p.entry (λ entry. BringsName entry.change)

-- ---- plans that may be refused

some_stays : (first : Refusal) (faults : List Refusal) → fold earlier_fault (Some first) faults ≡ None → ⊥
some_stays first [] none = cc
some_stays first (fault ∷ faults) none = by (nat_lt (turn_of fault) (turn_of first)) (some_stays fault faults) (some_stays first faults) none
  where
    by : (earlier : Bool) → (fold earlier_fault (Some fault) faults ≡ None → ⊥) → (fold earlier_fault (Some first) faults ≡ None → ⊥)
        → fold earlier_fault (if earlier then Some fault else Some first) faults ≡ None → ⊥
    by true one other = one
    by false one other = other

-- no refusal is the first where none holds
pub none_holds : (faults : List Refusal) → first_fault faults ≡ None → faults ≡ []
none_holds [] none = refl
none_holds (fault ∷ faults) none = absurd (some_stays fault faults none)

checked : (faults : List Refusal) (p : Planned) → (faults ≡ [] → IsNaming p) → IsNaming (unless_faulty faults p)
checked faults p names = by (first_fault faults) refl
  where
    by : (first : Option Refusal) → first_fault faults ≡ first → IsNaming (unless_refused first p)
    by None is = names (none_holds faults is)
    by (Some r) is = tt

chosen : (b : Bool) (r : Refusal) (p : Planned) → IsNaming p → IsNaming (if b then refused r else p)
chosen true r p names = tt
chosen false r p names = names

turned : (b : Bool) (r : Refusal) (p : Planned) → IsNaming p → IsNaming (if b then p else refused r)
turned true r p names = names
turned false r p names = tt

-- ---- the plans of qconf

put_named : (c : Cluster) (e : Event) (read : Item × List Refusal) → (read.1 ≡ [] → PutsName read.0) → IsNaming (put c e read)
put_named c e read names = checked (manager_faults c e ++ read.1) _ (λ none. names (both_empty (manager_faults c e) read.1 none).1)

body_named : (c : Cluster) (e : Event) (sort : ObjectKind) (adding : Bool) (body : Option Body) → IsWellNamed c → IsNaming (body_plan_of c e sort adding body)
body_named c e sort adding None named = tt
body_named c e sort adding (Some body) named = put_named c e (item_of c sort adding body) (item_named c sort adding body named)

text_named : (c : Cluster) (e : Event) (sort : ObjectKind) (adding : Bool) (text : List ℕ) → IsWellNamed c → IsNaming (body_plan c e sort adding text)
unfolding body_plan
text_named c e sort adding text named = body_named c e sort adding (body_of sort text) named

add_named : (c : Cluster) (e : Event) (sort : ObjectKind) (text : List ℕ) → IsWellNamed c → IsNaming (add_plan c e sort text)
add_named c e ObjectKind.Managers text named = put_named c e (Item.Managers (enlisted c.managers text), enlist_faults c.managers text) (λ none. tt)
add_named c e ObjectKind.Operators text named = put_named c e (Item.Operators (enlisted c.operators text), enlist_faults c.operators text) (λ none. tt)
add_named c e other text named = text_named c e other true text named

print_named : (c : Cluster) (thing : Option Item) → IsNaming (print_plan_of c thing)
print_named c None = tt
print_named c (Some thing) = tt

show_named : (c : Cluster) (e : Event) (what : Listing) → IsNaming (show_plan c e what)
unfolding show_plan
show_named c e (Listing.One number) = turned (is_some (at_number c.jobs number)) NoSuchObject _ tt
show_named c e Listing.Prios = tt
show_named c e Listing.Queues = tt
show_named c e (Listing.All pattern) = tt

account_named : (c : Cluster) (what : Query) → IsNaming (account_plan c what)
unfolding account_plan
account_named c (Query.Job number) = let lines = account_of c (Query.Job number) in chosen (length lines == 0) NoSuchObject (shown lines) tt
account_named c Query.Total = tt
account_named c (Query.Owner name) = tt

-- ---- the plans of advance reservations

booked_named : (c : Cluster) (e : Event) (asked : Advance) (grants : Option (List Grant)) → IsNaming (booked c e asked grants)
booked_named c e asked None = tt
booked_named c e asked (Some grants) = tt

shown_named : (c : Cluster) (now : ℕ) (one : Option ℕ) → IsNaming (show_booked_of c now one)
shown_named c now None = tt
shown_named c now (Some number) = turned (is_some (at_number c.advances number)) NoSuchObject _ tt

-- ---- all plans

command_named : (c : Cluster) (e : Event) (command : Command) → IsWellNamed c → IsNaming (command_plan c e command)
unfolding submit_plan alter_plan delete_plan clear_plan hold_plan release_plan remove_plan print_plan load_plan end_plan orders_plan task_plan stop_plan sched_plan book_plan unbook_plan show_booked_plan
command_named c e (Command.Submit options words script) named =
    checked (option_faults c e options.items (submitter e options.items) ++ join_faults c e options.items ++ size_faults c (submitted_tasks options.items) words script) (submission_answer e (submitted_job c e options.items words script)) (λ none. tt)
command_named c e (Command.Alter options numbers) named =
    let patches = patches_of c options.items numbers in checked (flat_map (alter_faults c e options.items) numbers ++ when (closes_a_cycle c options.items patches) Cycle) (altered e patches) (λ none. tt)
command_named c e (Command.Delete force picks) named =
    checked (flat_map (target_faults c e) picks ++ when (force && not (is_operator c e.user)) NotPermitted) (changed e (Delete picks force) (removed_line force (named_jobs c picks) ∷ [])) (λ none. tt)
command_named c e (Command.Hold bits numbers) named =
    let once = each_number_once numbers in checked (hold_plan_faults c e bits numbers) (hold_answer e (Hold once bits) once) (λ none. tt)
command_named c e (Command.Release bits numbers) named =
    let once = each_number_once numbers in checked (hold_plan_faults c e bits numbers) (hold_answer e (Release once bits) once) (λ none. tt)
command_named c e (Command.Clear picks) named =
    checked (flat_map (target_faults c e) picks) (changed e (Clear picks) (cleared_line (named_jobs c picks) ∷ [])) (λ none. tt)
command_named c e (Command.Show what) named = show_named c e what
command_named c e (Command.Account what) named = account_named c what
command_named c e (Command.Add sort text) named = add_named c e sort text named
command_named c e (Command.Modify sort text) named = text_named c e sort false text named
command_named c e (Command.Remove key) named =
    checked (manager_faults c e ++ remove_faults c key.kind key.name) (changed e (Drop key) done_lines) (λ none. tt)
command_named c e (Command.Print key) named = print_named c (item_at c key.kind key.name)
command_named c e (Command.Load host pairs) named =
    checked (manager_faults c e ++ host_faults c host ++ flat_map (report_faults c) pairs) (changed e (Load host (report_of c pairs)) done_lines) (λ none. tt)
command_named c e (Command.End serial exit cpu mem io) named =
    checked (manager_faults c e ++ serial_faults c serial ++ end_faults exit cpu mem io) (changed e (End serial exit cpu mem io) done_lines) (λ none. tt)
command_named c e Command.Sched named =
    checked (manager_faults c e) (decided e (decisions_at c e.moment)) (λ none. tt)
command_named c e (Command.Orders host) named =
    checked (manager_faults c e ++ when (is_none (at_text c.hosts host)) NoSuchObject) (shown (orders_of c host)) (λ none. tt)
command_named c e (Command.JobOf serial) named =
    checked (manager_faults c e ++ when (is_none (running_with c.jobs serial)) NoSuchObject) (shown (task_lines c serial)) (λ none. tt)
command_named c e Command.Stop named =
    checked (manager_faults c e) (record (shown done_lines) { stop = true }) (λ none. tt)
command_named c e (Command.Book options) named =
    let asked = advance_asked c e options.items in checked (book_faults c e options.items) _ (λ none. booked_named c e asked (advance_grants c e.moment asked))
command_named c e (Command.Unbook numbers) named =
    checked (flat_map (unbook_faults c e) numbers) (unbooked e (each_number_once numbers)) (λ none. tt)
command_named c e (Command.ShowBooked one) named = shown_named c e.moment one

timely_named : (c : Cluster) (e : Event) (command : Option Command) → IsWellNamed c → IsNaming (timely_plan c e command)
timely_named c e None named = tt
timely_named c e (Some command) named = chosen (nat_lt e.moment c.last) TimeBack (command_plan c e command) (command_named c e command named)

-- what every plan puts in has a name of its kind
pub plan_named : (c : Cluster) (e : Event) → IsWellNamed c → IsNaming (plan_of c e)
unfolding plan_of
plan_named c e named = chosen (is_cut e.form || is_too_long e.text) TooLong _ (timely_named c e (event_command e.form e.text) named)

-- ---- traces

entries_named : (c : Cluster) (entry : Option Entry) → IfSome entry (λ entry. BringsName entry.change) → IsWellNamed c → IsWellNamed (after_entries c entry)
entries_named c None brings names = names
entries_named c (Some entry) brings names = entry_names c entry brings names

-- events lead from a cluster whose tables have names alone to such clusters
pub names_after : (plan : Cluster → Event → Planned) → ((c : Cluster) (e : Event) → IsWellNamed c → IsNaming (plan c e)) → (c : Cluster) (events : List Event) (marks : List Bool) → IsWellNamed c
    → IsWellNamed (cluster_after plan c events marks)
names_after plan named c events [] names = names
names_after plan named c [] (mark ∷ marks) names = names
names_after plan named c (e ∷ events) (false ∷ marks) names = names_after plan named c events marks names
names_after plan named c (e ∷ events) (true ∷ marks) names =
    by (plan c e).stop (names_after plan named (after_entries c (plan c e).entry) events marks after)
  where
    after : IsWellNamed (after_entries c (plan c e).entry)
    after = entries_named c (plan c e).entry (named c e names) names

    by : (stop : Bool) → IsWellNamed (cluster_after plan (after_entries c (plan c e).entry) events marks)
        → IsWellNamed (elim stop as (λ x. Cluster) [ true ↦ after_entries c (plan c e).entry | false ↦ cluster_after plan (after_entries c (plan c e).entry) events marks ])
    by true again = after
    by false again = again

-- so the tables have names alone wherever events lead from the opening cluster
pub always_named : (events : List Event) (marks : List Bool) → IsWellNamed (cluster_after plan_of opening_cluster events marks)
always_named events marks = names_after plan_of plan_named opening_cluster events marks opening_named
