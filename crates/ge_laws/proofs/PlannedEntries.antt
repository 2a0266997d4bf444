-- Which plans have an entry, of which moment, and which stop the master.
use Rattle.std.proofs.Common.{◌≡◌, ℕ, ◌==◌, ◌&&◌, ◌||◌, not, Bool, true, false, if◌then◌else◌, List, [], ◌∷◌, ◌++◌, flat_map, length, Option, Some, None, IfSome, is_some, is_none, refl, sym}
use Rattle.std.specs.Prelude.{nat_lt}
use Rattle.ge_base.specs.Refusal.{reply_code}
use Rattle.ge_base.specs.declared.refusal.Refusal.{Refusal}
use Rattle.ge_base.specs.declared.refusal.Refusal.TheVariants as refusal
use Rattle.ge_base.specs.declared.refusal.Refusal.TheVariants.{TooLong, Syntax, TimeBack, NoSuchObject, NotPermitted, Cycle, Limit}
use Rattle.ge_collections.specs.Keyed.{at_number, at_text}
use Rattle.ge_model_rows.specs.ClusterRows.{Cluster}
use Rattle.ge_model_rows.specs.CommandRows.{Command, Listing, Query}
use Rattle.ge_model_rows.specs.EntryRows.{Hold, Release, Delete, Clear, Put, Drop, Load, End, Item}
use Rattle.ge_model_rows.specs.EntryRows.{ObjectKind}
use Rattle.ge_model_rows.specs.EventRows.{Event, Planned}
use Rattle.ge_model_rows.specs.JobRows.{Grant, Advance}
use Rattle.ge_model_grammar.specs.ScriptLines.{is_too_long}
use Rattle.ge_model_core.specs.Forms.{is_cut}
use Rattle.ge_model_core.specs.Refusals.{refused, unless_refused}
use Rattle.ge_model_rows.specs.Faults.{first_fault, when}
use Rattle.ge_model_rows.specs.Pieces.{each_number_once}
use Rattle.ge_model_rows.specs.Access.{is_operator}
use Rattle.ge_model_jobs.specs.Serials.{running_with}
use Rattle.ge_model_config.specs.Reading.{item_of}
use Rattle.ge_model_config.specs.Printing.{item_at}
use Rattle.ge_model_place.specs.Advances.{advance_grants}
use Rattle.ge_model_report.specs.Accounting.{account_of}
use Rattle.ge_model_report.specs.Orders.{orders_of, task_lines}
use Rattle.ge_model_grammar.specs.declared.Body.{Body}
use Rattle.ge_model_grammar.specs.Bodies.{body_of}
use Rattle.ge_model_core.specs.Answers.{unless_faulty, changed, shown, done_lines}
use Rattle.ge_model_core.specs.Submitting.{submit_plan, submitter, size_faults, submitted_tasks, submission_answer, submitted_job}
use Rattle.ge_model_core.specs.JobOptions.{option_faults}
use Rattle.ge_model_core.specs.JobAdvances.{join_faults}
use Rattle.ge_model_core.specs.Targets.{target_faults, named_jobs}
use Rattle.ge_model_core.specs.Altering.{alter_plan, patches_of, alter_faults, closes_a_cycle, altered}
use Rattle.ge_model_core.specs.Deleting.{delete_plan, clear_plan, removed_line, cleared_line}
use Rattle.ge_model_core.specs.Holding.{hold_plan, release_plan, hold_plan_faults, hold_answer}
use Rattle.ge_model_core.specs.Configuring.{put, add_plan, body_plan, body_plan_of, remove_plan, remove_faults, manager_faults, enlisted, enlist_faults, print_plan, print_plan_of}
use Rattle.ge_model_core.specs.Showing.{show_plan, account_plan}
use Rattle.ge_model_core.specs.Reports.{load_plan, host_faults, report_faults, report_of, end_plan, serial_faults, end_faults, orders_plan, task_plan, stop_plan}
use Rattle.ge_model_core.specs.Scheduling.{sched_plan, decided, decisions_at}
use Rattle.ge_model_core.specs.Booking.{advance_asked, book_faults, booked, book_plan, unbook_faults, unbooked, unbook_plan, show_booked_of, show_booked_plan}
use Rattle.ge_model_core.specs.Plan.{event_command, command_plan, timely_plan, plan_of}
use Rattle.ge_laws.specs.PlannedEvents.{is_query, is_stop, asks_for_change, asks_for_stop, is_accepted}

-- a plan of a moment that has an entry where it is accepted and changes are asked for, and stops where it is accepted and a stop is
pub record Keeps (moment : ℕ) (changes stops : Bool) (p : Planned) : Type 0 where
  pub entry : is_some p.entry ≡ (is_accepted p && changes)
  pub at : IfSome p.entry (λ entry. entry.moment ≡ moment)
  pub stop : p.stop ≡ (is_accepted p && stops)

-- no refusal is answered 0
pub code_is : (r : Refusal) → (reply_code r == 0) ≡ false
code_is refusal.Syntax = refl
code_is refusal.TooLong = refl
code_is refusal.TimeBack = refl
code_is refusal.NoSuchObject = refl
code_is refusal.NotPermitted = refl
code_is refusal.Exists = refl
code_is refusal.InUse = refl
code_is refusal.BadValue = refl
code_is refusal.NotRequestable = refl
code_is refusal.Cycle = refl
code_is refusal.Limit = refl
code_is refusal.StaleReport = refl
code_is refusal.NoMemory = refl

module _ (m : ℕ) (changes stops : Bool) where
  refuses : (r : Refusal) → Keeps m changes stops (refused r)
  refuses r = record { entry = λ i. sym (code_is r) i && changes; at = tt; stop = λ i. sym (code_is r) i && stops }

  answered : (faults : List Refusal) (p : Planned) → Keeps m changes stops p → Keeps m changes stops (unless_faulty faults p)
  answered faults p keeps = by (first_fault faults)
    where
      by : (first : Option Refusal) → Keeps m changes stops (unless_refused first p)
      by None = keeps
      by (Some r) = refuses r

  chosen : (b : Bool) (r : Refusal) (p : Planned) → Keeps m changes stops p → Keeps m changes stops (if b then refused r else p)
  chosen true r p keeps = refuses r
  chosen false r p keeps = keeps

  turned : (b : Bool) (r : Refusal) (p : Planned) → Keeps m changes stops p → Keeps m changes stops (if b then p else refused r)
  turned true r p keeps = keeps
  turned false r p keeps = refuses r

-- a change, and a query
changing : (e : Event) (faults : List Refusal) (p : Planned) → Keeps e.moment true false p → Keeps e.moment true false (unless_faulty faults p)
changing e faults p keeps = answered e.moment true false faults p keeps

asking : (m : ℕ) (lines : List (List ℕ)) → Keeps m false false (shown lines)
asking m lines = record { entry = refl; at = tt; stop = refl }

put_keeps : (c : Cluster) (e : Event) (read : Item × List Refusal) → Keeps e.moment true false (put c e read)
put_keeps c e read = changing e (manager_faults c e ++ read.1) (changed e (Put read.0) done_lines) (record { entry = refl; at = refl; stop = refl })

body_keeps : (c : Cluster) (e : Event) (sort : ObjectKind) (adding : Bool) (body : Option Body) → Keeps e.moment true false (body_plan_of c e sort adding body)
body_keeps c e sort adding None = refuses e.moment true false Syntax
body_keeps c e sort adding (Some body) = put_keeps c e (item_of c sort adding body)

text_keeps : (c : Cluster) (e : Event) (sort : ObjectKind) (adding : Bool) (text : List ℕ) → Keeps e.moment true false (body_plan c e sort adding text)
unfolding body_plan
text_keeps c e sort adding text = body_keeps c e sort adding (body_of sort text)

add_keeps : (c : Cluster) (e : Event) (sort : ObjectKind) (text : List ℕ) → Keeps e.moment true false (add_plan c e sort text)
add_keeps c e ObjectKind.Managers text = put_keeps c e (Item.Managers (enlisted c.managers text), enlist_faults c.managers text)
add_keeps c e ObjectKind.Operators text = put_keeps c e (Item.Operators (enlisted c.operators text), enlist_faults c.operators text)
add_keeps c e other text = text_keeps c e other true text

print_keeps : (c : Cluster) (m : ℕ) (thing : Option Item) → Keeps m false false (print_plan_of c thing)
print_keeps c m None = refuses m false false NoSuchObject
print_keeps c m (Some thing) = asking m _

show_keeps : (c : Cluster) (e : Event) (what : Listing) → Keeps e.moment false false (show_plan c e what)
unfolding show_plan
show_keeps c e (Listing.One number) = turned e.moment false false (is_some (at_number c.jobs number)) NoSuchObject _ (asking e.moment _)
show_keeps c e Listing.Prios = asking e.moment _
show_keeps c e Listing.Queues = asking e.moment _
show_keeps c e (Listing.All pattern) = asking e.moment _

account_keeps : (c : Cluster) (m : ℕ) (what : Query) → Keeps m false false (account_plan c what)
unfolding account_plan
account_keeps c m (Query.Job number) = let lines = account_of c (Query.Job number) in chosen m false false (length lines == 0) NoSuchObject (shown lines) (asking m lines)
account_keeps c m Query.Total = asking m _
account_keeps c m (Query.Owner name) = asking m _

booked_keeps : (c : Cluster) (e : Event) (asked : Advance) (grants : Option (List Grant)) → Keeps e.moment true false (booked c e asked grants)
booked_keeps c e asked None = refuses e.moment true false Limit
booked_keeps c e asked (Some grants) = record { entry = refl; at = refl; stop = refl }

show_booked_keeps : (c : Cluster) (m : ℕ) (one : Option ℕ) → Keeps m false false (show_booked_of c m one)
show_booked_keeps c m None = asking m _
show_booked_keeps c m (Some number) = turned m false false (is_some (at_number c.advances number)) NoSuchObject _ (asking m _)

-- ---- all plans

command_keeps : (c : Cluster) (e : Event) (asked : Command) → Keeps e.moment (not (is_query asked) && not (is_stop asked)) (is_stop asked) (command_plan c e asked)
unfolding submit_plan alter_plan delete_plan clear_plan hold_plan release_plan remove_plan print_plan load_plan end_plan orders_plan task_plan stop_plan sched_plan book_plan unbook_plan show_booked_plan
command_keeps c e (Command.Submit options words script) =
    changing e (option_faults c e options.items (submitter e options.items) ++ join_faults c e options.items ++ size_faults c (submitted_tasks options.items) words script) (submission_answer e (submitted_job c e options.items words script))
    (record { entry = refl; at = refl; stop = refl })
command_keeps c e (Command.Alter options numbers) =
    let patches = patches_of c options.items numbers in changing e (flat_map (alter_faults c e options.items) numbers ++ when (closes_a_cycle c options.items patches) Cycle) (altered e patches) (record { entry = refl; at = refl; stop = refl })
command_keeps c e (Command.Delete force picks) =
    changing e (flat_map (target_faults c e) picks ++ when (force && not (is_operator c e.user)) NotPermitted) (changed e (Delete picks force) (removed_line force (named_jobs c picks) ∷ [])) (record { entry = refl; at = refl; stop = refl })
command_keeps c e (Command.Hold bits numbers) =
    let once = each_number_once numbers in changing e (hold_plan_faults c e bits numbers) (hold_answer e (Hold once bits) once) (record { entry = refl; at = refl; stop = refl })
command_keeps c e (Command.Release bits numbers) =
    let once = each_number_once numbers in changing e (hold_plan_faults c e bits numbers) (hold_answer e (Release once bits) once) (record { entry = refl; at = refl; stop = refl })
command_keeps c e (Command.Clear picks) =
    changing e (flat_map (target_faults c e) picks) (changed e (Clear picks) (cleared_line (named_jobs c picks) ∷ [])) (record { entry = refl; at = refl; stop = refl })
command_keeps c e (Command.Show what) = show_keeps c e what
command_keeps c e (Command.Account what) = account_keeps c e.moment what
command_keeps c e (Command.Add sort text) = add_keeps c e sort text
command_keeps c e (Command.Modify sort text) = text_keeps c e sort false text
command_keeps c e (Command.Remove key) =
    changing e (manager_faults c e ++ remove_faults c key.kind key.name) (changed e (Drop key) done_lines) (record { entry = refl; at = refl; stop = refl })
command_keeps c e (Command.Print key) = print_keeps c e.moment (item_at c key.kind key.name)
command_keeps c e (Command.Load host pairs) =
    changing e (manager_faults c e ++ host_faults c host ++ flat_map (report_faults c) pairs) (changed e (Load host (report_of c pairs)) done_lines) (record { entry = refl; at = refl; stop = refl })
command_keeps c e (Command.End serial exit cpu mem io) =
    changing e (manager_faults c e ++ serial_faults c serial ++ end_faults exit cpu mem io) (changed e (End serial exit cpu mem io) done_lines) (record { entry = refl; at = refl; stop = refl })
command_keeps c e Command.Sched =
    changing e (manager_faults c e) (decided e (decisions_at c e.moment)) (record { entry = refl; at = refl; stop = refl })
command_keeps c e (Command.Orders host) =
    answered e.moment false false (manager_faults c e ++ when (is_none (at_text c.hosts host)) NoSuchObject) (shown (orders_of c host)) (asking e.moment (orders_of c host))
command_keeps c e (Command.JobOf serial) =
    answered e.moment false false (manager_faults c e ++ when (is_none (running_with c.jobs serial)) NoSuchObject) (shown (task_lines c serial)) (asking e.moment (task_lines c serial))
command_keeps c e Command.Stop =
    answered e.moment false true (manager_faults c e) (record (shown done_lines) { stop = true }) (record { entry = refl; at = tt; stop = refl })
command_keeps c e (Command.Book options) =
    let asked = advance_asked c e options.items in changing e (book_faults c e options.items) (booked c e asked (advance_grants c e.moment asked)) (booked_keeps c e asked (advance_grants c e.moment asked))
command_keeps c e (Command.Unbook numbers) =
    changing e (flat_map (unbook_faults c e) numbers) (unbooked e (each_number_once numbers)) (record { entry = refl; at = refl; stop = refl })
command_keeps c e (Command.ShowBooked one) = show_booked_keeps c e.moment one

timely_keeps : (c : Cluster) (e : Event) (asked : Option Command) → Keeps e.moment (asks_for_change asked) (asks_for_stop asked) (timely_plan c e asked)
timely_keeps c e None = refuses e.moment false false Syntax
timely_keeps c e (Some asked) =
    chosen e.moment (not (is_query asked) && not (is_stop asked)) (is_stop asked) (nat_lt e.moment c.last) TimeBack (command_plan c e asked) (command_keeps c e asked)

pub plan_keeps : (c : Cluster) (e : Event) → Keeps e.moment (asks_for_change (event_command e.form e.text)) (asks_for_stop (event_command e.form e.text)) (plan_of c e)
unfolding plan_of
plan_keeps c e =
    chosen e.moment (asks_for_change (event_command e.form e.text)) (asks_for_stop (event_command e.form e.text)) (is_cut e.form || is_too_long e.text) TooLong _
    (timely_keeps c e (event_command e.form e.text))
