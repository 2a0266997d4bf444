-- Only the request `end` has the entry of an end.
use Rattle.std.proofs.Common.{◌≡◌, ℕ, ◌==◌, ◌&&◌, ◌||◌, not, Bool, true, false, if◌then◌else◌, List, [], ◌∷◌, ◌++◌, flat_map, length, Option, Some, None, IfSome, is_some, is_none, Result, Err, refl, subst, true≢false}
use Rattle.std.specs.Prelude.{nat_lt}
use Rattle.ge_limits.specs.Limits as limit
use Rattle.ge_base.specs.declared.refusal.Refusal.{Refusal}
use Rattle.ge_base.specs.declared.refusal.Refusal.TheVariants.{TooLong, TimeBack, NoSuchObject, NotPermitted, Cycle}
use Rattle.ge_collections.specs.Keyed.{at_number, at_text}
use Rattle.ge_model_rows.specs.ClusterRows.{Cluster}
use Rattle.ge_model_rows.specs.CommandRows.{Command, Listing, Query}
use Rattle.ge_model_rows.specs.EntryRows.{Entry, Hold, Release, Delete, Clear, Put, Drop, Load, Item}
use Rattle.ge_model_rows.specs.EntryRows.{ObjectKind}
use Rattle.ge_model_rows.specs.EventRows.{Event, Form, Planned}
use Rattle.ge_model_rows.specs.JobRows.{Grant, Advance}
use Rattle.ge_model_rows.specs.Faults.{first_fault, when}
use Rattle.ge_model_rows.specs.Pieces.{each_number_once}
use Rattle.ge_model_rows.specs.Access.{is_operator}
use Rattle.ge_model_grammar.specs.ScriptLines.{lines_of, has_long_line}
use Rattle.ge_model_grammar.specs.Parsing.{in_grammar, parsed}
use Rattle.ge_model_grammar.specs.declared.Body.{Body}
use Rattle.ge_model_grammar.specs.Bodies.{body_of}
use Rattle.ge_model_grammar.specs.Commands.{command_of}
use Rattle.ge_model_jobs.specs.Serials.{running_with}
use Rattle.ge_model_config.specs.Reading.{item_of}
use Rattle.ge_model_config.specs.Printing.{item_at}
use Rattle.ge_model_place.specs.Advances.{advance_grants}
use Rattle.ge_model_report.specs.Accounting.{account_of}
use Rattle.ge_model_report.specs.Orders.{orders_of, task_lines}
use Rattle.ge_model_core.specs.Forms.{is_cut}
use Rattle.ge_model_core.specs.Refusals.{refused, unless_refused}
use Rattle.ge_model_core.specs.Answers.{unless_faulty, changed, shown, done_lines}
use Rattle.ge_model_core.specs.Submitting.{submit_plan, submitter, size_faults, submitted_tasks, submission_answer, submitted_job}
use Rattle.ge_model_core.specs.JobOptions.{option_faults}
use Rattle.ge_model_core.specs.JobAdvances.{join_faults}
use Rattle.ge_model_core.specs.Targets.{target_faults, named_jobs}
use Rattle.ge_model_core.specs.Altering.{alter_plan, patches_of, alter_faults, closes_a_cycle, altered}
use Rattle.ge_model_core.specs.Deleting.{delete_plan, clear_plan, removed_line, cleared_line}
use Rattle.ge_model_core.specs.Holding.{hold_plan, release_plan, hold_plan_faults, hold_answer}
use Rattle.ge_model_core.specs.Configuring.{put, add_plan, body_plan, body_plan_of, remove_plan, remove_faults, manager_faults, enlisted, enlist_faults, print_plan, print_plan_of}
use Rattle.ge_model_core.specs.Showing.{show_plan, account_plan}
use Rattle.ge_model_core.specs.Reports.{load_plan, host_faults, report_faults, report_of, orders_plan, task_plan, stop_plan}
use Rattle.ge_model_core.specs.Scheduling.{sched_plan, decided, decisions_at}
use Rattle.ge_model_core.specs.Booking.{advance_asked, book_faults, booked, book_plan, unbook_faults, unbooked, unbook_plan, show_booked_of, show_booked_plan}
use Rattle.ge_model_core.specs.Plan.{event_command, command_plan, timely_plan, plan_of}
use Rattle.ge_world_laws.specs.Product.{is_end, is_end_command, is_end_answer, is_end_text}

-- a plan's entry, if it has one, is that of no end
abbrev EndsNone : Planned → Type 0
EndsNone p = IfSome p.entry (λ entry. is_end entry.change ≡ false)

-- ---- plans that may be refused

unless : (faults : List Refusal) (p : Planned) → EndsNone p → EndsNone (unless_faulty faults p)
unless faults p none = by (first_fault faults)
  where
    by : (first : Option Refusal) → EndsNone (unless_refused first p)
    by None = none
    by (Some r) = tt

chosen : (b : Bool) (r : Refusal) (p : Planned) → EndsNone p → EndsNone (if b then refused r else p)
chosen true r p none = tt
chosen false r p none = none

turned : (b : Bool) (r : Refusal) (p : Planned) → EndsNone p → EndsNone (if b then p else refused r)
turned true r p none = none
turned false r p none = tt

put_none : (c : Cluster) (e : Event) (read : Item × List Refusal) → EndsNone (put c e read)
put_none c e read = unless (manager_faults c e ++ read.1) (changed e (Put read.0) done_lines) refl

body_none : (c : Cluster) (e : Event) (sort : ObjectKind) (adding : Bool) (text : List ℕ) → EndsNone (body_plan c e sort adding text)
unfolding body_plan
body_none c e sort adding text = by (body_of sort text)
  where
    by : (body : Option Body) → EndsNone (body_plan_of c e sort adding body)
    by None = tt
    by (Some body) = put_none c e (item_of c sort adding body)

add_none : (c : Cluster) (e : Event) (sort : ObjectKind) (text : List ℕ) → EndsNone (add_plan c e sort text)
add_none c e ObjectKind.Managers text = put_none c e (Item.Managers (enlisted c.managers text), enlist_faults c.managers text)
add_none c e ObjectKind.Operators text = put_none c e (Item.Operators (enlisted c.operators text), enlist_faults c.operators text)
add_none c e other text = body_none c e other true text

print_none : (c : Cluster) (thing : Option Item) → EndsNone (print_plan_of c thing)
print_none c None = tt
print_none c (Some thing) = tt

show_none : (c : Cluster) (e : Event) (what : Listing) → EndsNone (show_plan c e what)
unfolding show_plan
show_none c e (Listing.One number) = turned (is_some (at_number c.jobs number)) NoSuchObject _ tt
show_none c e Listing.Prios = tt
show_none c e Listing.Queues = tt
show_none c e (Listing.All pattern) = tt

account_none : (c : Cluster) (what : Query) → EndsNone (account_plan c what)
unfolding account_plan
account_none c (Query.Job number) = let lines = account_of c (Query.Job number) in chosen (length lines == 0) NoSuchObject (shown lines) tt
account_none c Query.Total = tt
account_none c (Query.Owner name) = tt

booked_none : (c : Cluster) (e : Event) (asked : Advance) (grants : Option (List Grant)) → EndsNone (booked c e asked grants)
booked_none c e asked None = tt
booked_none c e asked (Some grants) = refl

show_booked_none : (c : Cluster) (m : ℕ) (one : Option ℕ) → EndsNone (show_booked_of c m one)
show_booked_none c m None = tt
show_booked_none c m (Some number) = turned (is_some (at_number c.advances number)) NoSuchObject _ tt

-- ---- all plans

command_none : (c : Cluster) (e : Event) (asked : Command) → is_end_command asked ≡ false → EndsNone (command_plan c e asked)
unfolding submit_plan alter_plan delete_plan clear_plan hold_plan release_plan remove_plan print_plan load_plan orders_plan task_plan stop_plan sched_plan book_plan unbook_plan show_booked_plan
command_none c e (Command.Submit options words script) other =
    unless (option_faults c e options.items (submitter e options.items) ++ join_faults c e options.items ++ size_faults c (submitted_tasks options.items) words script) (submission_answer e (submitted_job c e options.items words script)) refl
command_none c e (Command.Alter options numbers) other =
    let patches = patches_of c options.items numbers in unless (flat_map (alter_faults c e options.items) numbers ++ when (closes_a_cycle c options.items patches) Cycle) (altered e patches) refl
command_none c e (Command.Delete force picks) other =
    unless (flat_map (target_faults c e) picks ++ when (force && not (is_operator c e.user)) NotPermitted) (changed e (Delete picks force) (removed_line force (named_jobs c picks) ∷ [])) refl
command_none c e (Command.Hold bits numbers) other = let once = each_number_once numbers in unless (hold_plan_faults c e bits numbers) (hold_answer e (Hold once bits) once) refl
command_none c e (Command.Release bits numbers) other = let once = each_number_once numbers in unless (hold_plan_faults c e bits numbers) (hold_answer e (Release once bits) once) refl
command_none c e (Command.Clear picks) other = unless (flat_map (target_faults c e) picks) (changed e (Clear picks) (cleared_line (named_jobs c picks) ∷ [])) refl
command_none c e (Command.Show what) other = show_none c e what
command_none c e (Command.Account what) other = account_none c what
command_none c e (Command.Add sort text) other = add_none c e sort text
command_none c e (Command.Modify sort text) other = body_none c e sort false text
command_none c e (Command.Remove key) other = unless (manager_faults c e ++ remove_faults c key.kind key.name) (changed e (Drop key) done_lines) refl
command_none c e (Command.Print key) other = print_none c (item_at c key.kind key.name)
command_none c e (Command.Load host pairs) other = unless (manager_faults c e ++ host_faults c host ++ flat_map (report_faults c) pairs) (changed e (Load host (report_of c pairs)) done_lines) refl
command_none c e (Command.End serial exit cpu mem io) other = absurd (true≢false other)
command_none c e Command.Sched other = unless (manager_faults c e) (decided e (decisions_at c e.moment)) refl
command_none c e (Command.Orders host) other = unless (manager_faults c e ++ when (is_none (at_text c.hosts host)) NoSuchObject) (shown (orders_of c host)) tt
command_none c e (Command.JobOf serial) other = unless (manager_faults c e ++ when (is_none (running_with c.jobs serial)) NoSuchObject) (shown (task_lines c serial)) tt
command_none c e Command.Stop other = unless (manager_faults c e) (record (shown done_lines) { stop = true }) tt
command_none c e (Command.Book options) other =
    let asked = advance_asked c e options.items in unless (book_faults c e options.items) (booked c e asked (advance_grants c e.moment asked)) (booked_none c e asked (advance_grants c e.moment asked))
command_none c e (Command.Unbook numbers) other = unless (flat_map (unbook_faults c e) numbers) (unbooked e (each_number_once numbers)) refl
command_none c e (Command.ShowBooked one) other = show_booked_none c e.moment one

-- the command that a text is isn't `end`
abbrev IsOther : Option Command → Type 0
IsOther asked = IfSome asked (λ command. is_end_command command ≡ false)

timely_none : (c : Cluster) (e : Event) (asked : Option Command) → IsOther asked → EndsNone (timely_plan c e asked)
timely_none c e None other = tt
timely_none c e (Some asked) other = chosen (nat_lt e.moment c.last) TimeBack (command_plan c e asked) (command_none c e asked other)

event_other : (form : Form) (text : List ℕ) → IsOther (command_of text) → IsOther (event_command form text)
event_other Form.Good text other = other
event_other Form.BadHeader text other = tt
event_other Form.TooLong text other = tt

read_other : (asked : Option Command) → is_end_answer (in_grammar asked) ≡ false → IsOther asked
read_other None other = tt
read_other (Some asked) other = other

-- a text with a long line is refused
plan_none : (c : Cluster) (e : Event) → is_end_text e.text ≡ false → EndsNone (plan_of c e)
unfolding plan_of parsed
plan_none c e other = by (is_cut e.form) (nat_lt limit.text_bytes (length e.text)) (has_long_line (lines_of e.text)) other
  where
    by : (cut long line : Bool) → is_end_answer (elim line as (λ b. Result Command Refusal) [ true ↦ Err TooLong | false ↦ in_grammar (command_of e.text) ]) ≡ false
        → EndsNone (if cut || (long || line) then refused TooLong else timely_plan c e (event_command e.form e.text))
    by true long line other = tt
    by false true line other = tt
    by false false true other = tt
    by false false false other = timely_none c e (event_command e.form e.text) (event_other e.form e.text (read_other (command_of e.text) other))

-- a text that isn't read as the request `end` has no entry of an end
pub other_entry : (c : Cluster) (e : Event) (entry : Entry) → is_end_text e.text ≡ false → (plan_of c e).entry ≡ Some entry → is_end entry.change ≡ false
other_entry c e entry other is = subst (λ o. IfSome o (λ one. is_end one.change ≡ false)) is (plan_none c e other)
