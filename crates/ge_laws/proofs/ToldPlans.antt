-- No plan answers that memory was wanting.
use Rattle.std.proofs.Common.{◌≡◌, ℕ, ◌==◌, ◌&&◌, ◌||◌, not, Bool, true, false, if◌then◌else◌, List, [], ◌∷◌, ◌++◌, flat_map, fold, length, Option, Some, None, is_some, is_none, refl, arith}
use Rattle.std.specs.Prelude.{nat_lt}
use Rattle.ge_base.specs.declared.refusal.Refusal.{Refusal}
use Rattle.ge_base.specs.declared.refusal.Refusal.TheVariants as refusal
use Rattle.ge_base.specs.declared.refusal.Refusal.TheVariants.{TooLong, Syntax, TimeBack, NoSuchObject, NotPermitted, Cycle, Limit}
use Rattle.ge_collections.specs.Keyed.{at_number, at_text}
use Rattle.ge_model_rows.specs.ClusterRows.{Cluster}
use Rattle.ge_model_rows.specs.CommandRows.{Command, Listing, Query}
use Rattle.ge_model_rows.specs.EntryRows.{Hold, Release, Delete, Clear, Put, Drop, Load, End, Item}
use Rattle.ge_model_rows.specs.EntryRows.{ObjectKind, Pick}
use Rattle.ge_model_rows.specs.EventRows.{Event, Planned}
use Rattle.ge_model_rows.specs.JobRows.{Grant, Advance}
use Rattle.ge_model_grammar.specs.ScriptLines.{is_too_long}
use Rattle.ge_model_core.specs.Forms.{is_cut}
use Rattle.ge_model_core.specs.Refusals.{refused, unless_refused}
use Rattle.ge_model_rows.specs.Faults.{first_fault, earlier_fault, turn_of, when}
use Rattle.ge_model_rows.specs.Pieces.{each_number_once}
use Rattle.ge_model_rows.specs.Access.{is_operator}
use Rattle.ge_model_jobs.specs.Serials.{running_with}
use Rattle.ge_model_config.specs.Reading.{item_of}
use Rattle.ge_model_config.specs.Printing.{item_at}
use Rattle.ge_model_place.specs.Advances.{advance_grants}
use Rattle.ge_model_report.specs.Accounting.{account_of}
use Rattle.ge_model_report.specs.Orders.{orders_of, task_lines}
use Rattle.ge_model_grammar.specs.declared.Body.{Body}
use Rattle.ge_model_grammar.specs.Bodies.{body_of}
use Rattle.ge_model_grammar.specs.Options.{Given}
use Rattle.ge_model_core.specs.Answers.{unless_faulty, changed, shown, done_lines}
use Rattle.ge_model_core.specs.Submitting.{submit_plan, submitter, size_faults, submitted_tasks, submission_answer, submitted_job}
use Rattle.ge_model_core.specs.JobOptions.{option_faults}
use Rattle.ge_model_core.specs.JobAdvances.{join_faults}
use Rattle.ge_model_core.specs.Targets.{target_faults, named_jobs}
use Rattle.ge_model_core.specs.Altering.{alter_plan, patches_of, alter_faults, closes_a_cycle, altered}
use Rattle.ge_model_core.specs.Deleting.{delete_plan, clear_plan, removed_line, cleared_line}
use Rattle.ge_model_core.specs.Holding.{hold_plan, release_plan, hold_plan_faults, hold_answer}
use Rattle.ge_model_core.specs.Configuring.{put, add_plan, body_plan, body_plan_of, remove_plan, remove_faults, manager_faults, enlisted, enlist_faults, print_plan, print_plan_of}
use Rattle.ge_model_core.specs.Showing.{show_plan, account_plan}
use Rattle.ge_model_core.specs.Reports.{load_plan, host_faults, report_faults, report_of, end_plan, serial_faults, end_faults, orders_plan, task_plan, stop_plan}
use Rattle.ge_model_core.specs.Scheduling.{sched_plan, decided, decisions_at}
use Rattle.ge_model_core.specs.Booking.{advance_asked, book_faults, booked, book_plan, unbook_faults, unbooked, unbook_plan, show_booked_of, show_booked_plan}
use Rattle.ge_model_core.specs.Plan.{event_command, command_plan, timely_plan, plan_of}
use Rattle.ge_laws.proofs.ToldFaults.{IsTold, AllTold, AreTold, both, bad, absent, over, forbidden, round, each, item_of_told}
use Rattle.ge_laws.proofs.ToldCommands.{option_told, join_told, alter_told, target_told, hold_told, report_told, serial_told, enlist_told, remove_told, book_told, unbook_told}

-- an event is accepted, or refused for what isn't want of memory
pub record Answers (p : Planned) : Type 0 where
  pub other : p.reply.code ≡ 99 → ⊥

accepted : (p : Planned) → p.reply.code ≡ 0 → Answers p
accepted p is = record { other = λ h. omega (arith, is, h) }

refuses : (r : Refusal) → IsTold r → Answers (refused r)
refuses refusal.Syntax told = record { other = λ h. omega (arith, h) }
refuses refusal.TooLong told = record { other = λ h. omega (arith, h) }
refuses refusal.TimeBack told = record { other = λ h. omega (arith, h) }
refuses refusal.NoSuchObject told = record { other = λ h. omega (arith, h) }
refuses refusal.NotPermitted told = record { other = λ h. omega (arith, h) }
refuses refusal.Exists told = record { other = λ h. omega (arith, h) }
refuses refusal.InUse told = record { other = λ h. omega (arith, h) }
refuses refusal.BadValue told = record { other = λ h. omega (arith, h) }
refuses refusal.NotRequestable told = record { other = λ h. omega (arith, h) }
refuses refusal.Cycle told = record { other = λ h. omega (arith, h) }
refuses refusal.Limit told = record { other = λ h. omega (arith, h) }
refuses refusal.StaleReport told = record { other = λ h. omega (arith, h) }
refuses refusal.NoMemory told = absurd told

-- the first of refusals that are told is told
abbrev IfTold : Option Refusal → Type 0
IfTold None = Unit {0}
IfTold (Some r) = IsTold r

first_told : (faults : List Refusal) (first : Option Refusal) → IfTold first → AllTold faults → IfTold (fold earlier_fault first faults)
first_told [] first here all = here
first_told (r ∷ faults) None here all = first_told faults (Some r) all.0 all.1
first_told (r ∷ faults) (Some first) here all = by (nat_lt (turn_of r) (turn_of first)) (first_told faults (Some r) all.0 all.1) (first_told faults (Some first) here all.1)
  where
    by : (earlier : Bool) → IfTold (fold earlier_fault (Some r) faults) → IfTold (fold earlier_fault (Some first) faults) → IfTold (fold earlier_fault (if earlier then Some r else Some first) faults)
    by true one other = one
    by false one other = other

answered : (faults : List Refusal) (p : Planned) → AreTold faults → Answers p → Answers (unless_faulty faults p)
answered faults p told answers = by (first_fault faults) (first_told faults None tt told.all)
  where
    by : (first : Option Refusal) → IfTold first → Answers (unless_refused first p)
    by None here = answers
    by (Some r) here = refuses r here

chosen : (b : Bool) (r : Refusal) (p : Planned) → IsTold r → Answers p → Answers (if b then refused r else p)
chosen true r p told answers = refuses r told
chosen false r p told answers = answers

turned : (b : Bool) (r : Refusal) (p : Planned) → IsTold r → Answers p → Answers (if b then p else refused r)
turned true r p told answers = answers
turned false r p told answers = refuses r told

checked : (faults : List Refusal) (p : Planned) → AreTold faults → p.reply.code ≡ 0 → Answers (unless_faulty faults p)
checked faults p told is = answered faults p told (accepted p is)

put_told : (c : Cluster) (e : Event) (read : Item × List Refusal) → AreTold read.1 → Answers (put c e read)
put_told c e read told = checked (manager_faults c e ++ read.1) (changed e (Put read.0) done_lines) (both (manager_faults c e) read.1 (forbidden _) told) refl

body_told : (c : Cluster) (e : Event) (sort : ObjectKind) (adding : Bool) (body : Option Body) → Answers (body_plan_of c e sort adding body)
body_told c e sort adding None = refuses Syntax tt
body_told c e sort adding (Some body) = put_told c e (item_of c sort adding body) (item_of_told c sort adding body)

text_told : (c : Cluster) (e : Event) (sort : ObjectKind) (adding : Bool) (text : List ℕ) → Answers (body_plan c e sort adding text)
unfolding body_plan
text_told c e sort adding text = body_told c e sort adding (body_of sort text)

add_told : (c : Cluster) (e : Event) (sort : ObjectKind) (text : List ℕ) → Answers (add_plan c e sort text)
add_told c e ObjectKind.Managers text = put_told c e (Item.Managers (enlisted c.managers text), enlist_faults c.managers text) (enlist_told c e c.managers text)
add_told c e ObjectKind.Operators text = put_told c e (Item.Operators (enlisted c.operators text), enlist_faults c.operators text) (enlist_told c e c.operators text)
add_told c e other text = text_told c e other true text

print_told : (c : Cluster) (thing : Option Item) → Answers (print_plan_of c thing)
print_told c None = refuses NoSuchObject tt
print_told c (Some thing) = accepted _ refl

show_told : (c : Cluster) (e : Event) (what : Listing) → Answers (show_plan c e what)
unfolding show_plan
show_told c e (Listing.One number) = turned (is_some (at_number c.jobs number)) NoSuchObject _ tt (accepted _ refl)
show_told c e Listing.Prios = accepted _ refl
show_told c e Listing.Queues = accepted _ refl
show_told c e (Listing.All pattern) = accepted _ refl

account_told : (c : Cluster) (what : Query) → Answers (account_plan c what)
unfolding account_plan
account_told c (Query.Job number) = let lines = account_of c (Query.Job number) in chosen (length lines == 0) NoSuchObject (shown lines) tt (accepted _ refl)
account_told c Query.Total = accepted _ refl
account_told c (Query.Owner name) = accepted _ refl

booked_told : (c : Cluster) (e : Event) (asked : Advance) (grants : Option (List Grant)) → Answers (booked c e asked grants)
booked_told c e asked None = refuses Limit tt
booked_told c e asked (Some grants) = accepted _ refl

show_booked_told : (c : Cluster) (m : ℕ) (one : Option ℕ) → Answers (show_booked_of c m one)
show_booked_told c m None = accepted _ refl
show_booked_told c m (Some number) = turned (is_some (at_number c.advances number)) NoSuchObject _ tt (accepted _ refl)

-- ---- all plans

submit_told : (c : Cluster) (e : Event) (options : Given) (words : List (List ℕ)) (script : List ℕ)
    → AreTold (option_faults c e options (submitter e options) ++ join_faults c e options ++ size_faults c (submitted_tasks options) words script)
submit_told c e options words script =
    both (option_faults c e options (submitter e options) ++ join_faults c e options) (size_faults c (submitted_tasks options) words script)
    (both (option_faults c e options (submitter e options)) (join_faults c e options) (option_told c e options (submitter e options)) (join_told c e options)) (over _)

targets_told : (c : Cluster) (e : Event) (picks : List Pick) → AreTold (flat_map (target_faults c e) picks)
targets_told c e picks = each (target_faults c e) (λ pick. target_told c e pick (at_number c.jobs pick.job)) picks

command_told : (c : Cluster) (e : Event) (asked : Command) → Answers (command_plan c e asked)
unfolding submit_plan alter_plan delete_plan clear_plan hold_plan release_plan remove_plan print_plan load_plan end_plan orders_plan task_plan stop_plan sched_plan book_plan unbook_plan show_booked_plan
command_told c e (Command.Submit options words script) =
    checked (option_faults c e options.items (submitter e options.items) ++ join_faults c e options.items ++ size_faults c (submitted_tasks options.items) words script) (submission_answer e (submitted_job c e options.items words script))
    (submit_told c e options.items words script) refl
command_told c e (Command.Alter options numbers) =
    let patches = patches_of c options.items numbers in
    let faults = flat_map (alter_faults c e options.items) numbers in
    checked (faults ++ when (closes_a_cycle c options.items patches) Cycle) (altered e patches)
    (both faults (when (closes_a_cycle c options.items patches) Cycle) (each (alter_faults c e options.items) (λ number. alter_told c e options.items (at_number c.jobs number)) numbers) (round _)) refl
command_told c e (Command.Delete force picks) =
    checked (flat_map (target_faults c e) picks ++ when (force && not (is_operator c e.user)) NotPermitted) (changed e (Delete picks force) (removed_line force (named_jobs c picks) ∷ []))
    (both (flat_map (target_faults c e) picks) (when (force && not (is_operator c e.user)) NotPermitted) (targets_told c e picks) (forbidden _)) refl
command_told c e (Command.Hold bits numbers) =
    let once = each_number_once numbers in checked (hold_plan_faults c e bits numbers) (hold_answer e (Hold once bits) once) (hold_told c e bits numbers) refl
command_told c e (Command.Release bits numbers) =
    let once = each_number_once numbers in checked (hold_plan_faults c e bits numbers) (hold_answer e (Release once bits) once) (hold_told c e bits numbers) refl
command_told c e (Command.Clear picks) =
    checked (flat_map (target_faults c e) picks) (changed e (Clear picks) (cleared_line (named_jobs c picks) ∷ [])) (targets_told c e picks) refl
command_told c e (Command.Show what) = show_told c e what
command_told c e (Command.Account what) = account_told c what
command_told c e (Command.Add sort text) = add_told c e sort text
command_told c e (Command.Modify sort text) = text_told c e sort false text
command_told c e (Command.Remove key) =
    checked (manager_faults c e ++ remove_faults c key.kind key.name) (changed e (Drop key) done_lines) (both (manager_faults c e) (remove_faults c key.kind key.name) (forbidden _) (remove_told c e key.kind key.name)) refl
command_told c e (Command.Print key) = print_told c (item_at c key.kind key.name)
command_told c e (Command.Load host pairs) =
    let faults = flat_map (report_faults c) pairs in
    checked (manager_faults c e ++ host_faults c host ++ faults) (changed e (Load host (report_of c pairs)) done_lines)
    (both (manager_faults c e ++ host_faults c host) faults (search (both, forbidden, absent, bad)) (each (report_faults c) (report_told c e) pairs)) refl
command_told c e (Command.End serial exit cpu mem io) =
    checked (manager_faults c e ++ serial_faults c serial ++ end_faults exit cpu mem io) (changed e (End serial exit cpu mem io) done_lines)
    (both (manager_faults c e ++ serial_faults c serial) (end_faults exit cpu mem io) (both (manager_faults c e) (serial_faults c serial) (forbidden _) (serial_told c e serial)) (bad _)) refl
command_told c e Command.Sched =
    checked (manager_faults c e) (decided e (decisions_at c e.moment)) (forbidden _) refl
command_told c e (Command.Orders host) =
    checked (manager_faults c e ++ when (is_none (at_text c.hosts host)) NoSuchObject) (shown (orders_of c host)) (search (both, forbidden, absent)) refl
command_told c e (Command.JobOf serial) =
    checked (manager_faults c e ++ when (is_none (running_with c.jobs serial)) NoSuchObject) (shown (task_lines c serial)) (search (both, forbidden, absent)) refl
command_told c e Command.Stop =
    checked (manager_faults c e) (record (shown done_lines) { stop = true }) (forbidden _) refl
command_told c e (Command.Book options) =
    let asked = advance_asked c e options.items in
    answered (book_faults c e options.items) (booked c e asked (advance_grants c e.moment asked)) (book_told c e options.items) (booked_told c e asked (advance_grants c e.moment asked))
command_told c e (Command.Unbook numbers) =
    checked (flat_map (unbook_faults c e) numbers) (unbooked e (each_number_once numbers)) (each (unbook_faults c e) (λ number. unbook_told c e number (at_number c.advances number)) numbers) refl
command_told c e (Command.ShowBooked one) = show_booked_told c e.moment one

timely_told : (c : Cluster) (e : Event) (asked : Option Command) → Answers (timely_plan c e asked)
timely_told c e None = refuses Syntax tt
timely_told c e (Some asked) = chosen (nat_lt e.moment c.last) TimeBack (command_plan c e asked) tt (command_told c e asked)

pub plan_told : (c : Cluster) (e : Event) → Answers (plan_of c e)
unfolding plan_of
plan_told c e = chosen (is_cut e.form || is_too_long e.text) TooLong _ tt (timely_told c e (event_command e.form e.text))
