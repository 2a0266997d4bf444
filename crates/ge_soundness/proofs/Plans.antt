-- What the plan of an event brings: its entry isn't before the last one, and its change fits.
use Rattle.std.proofs.Common.{◌≡◌, subst, ℕ, ◌≤◌, ◌||◌, Bool, true, false, List, Option, Some, None}
use Rattle.std.specs.Prelude.{IfSome, nat_lt}
use Rattle.std.proofs.lemmas.Bool.{ltb-false}
use Rattle.ge_base.specs.declared.refusal.Refusal.TheVariants.{TooLong, TimeBack, Syntax}
use Rattle.ge_model_rows.specs.ClusterRows.{Cluster}
use Rattle.ge_model_rows.specs.CommandRows.{Command}
use Rattle.ge_model_rows.specs.EntryRows.{Change}
use Rattle.ge_model_rows.specs.EventRows.{Event, Form}
use Rattle.ge_model_rows.specs.JobRows.{Advance}
use Rattle.ge_model_grammar.specs.ScriptLines.{is_too_long}
use Rattle.ge_model_core.specs.Forms.{is_cut}
use Rattle.ge_model_core.specs.Plan.{event_command, command_plan, timely_plan, plan_of}
use Rattle.ge_model_jobs.specs.Soundness.{IsSound}
use Rattle.ge_model_place.specs.Advances.{KeepsBeside}
use Rattle.ge_soundness.proofs.Brought.{Fits}
use Rattle.ge_soundness.proofs.PlansAnswers.{EntryFits, entry_refused, entry_if}
use Rattle.ge_soundness.proofs.PlansSubmissions.{submit_entry}
use Rattle.ge_soundness.proofs.PlansCommands.{FitsCommand, FitsRead, command_fits}
use Rattle.ge_soundness.proofs.PlansJobs.{alter_entry, hold_entry, release_entry, delete_entry, clear_entry, sched_entry}
use Rattle.ge_soundness.proofs.PlansBookings.{book_entry, unbook_entry, show_booked_entry}
use Rattle.ge_soundness.proofs.PlansSite.{body_entry, add_entry, remove_entry, print_entry, stop_entry, show_entry, account_entry, load_entry, end_entry, orders_entry, task_entry}

-- the plan of a command whose targets are in the form
command_entry : (c : Cluster) (e : Event) (asked : Command) → c.last ≤ e.moment → FitsCommand asked → EntryFits c (command_plan c e asked)
command_entry c e (Command.Submit options words script) later fits = submit_entry c e options.items words script later
command_entry c e (Command.Alter options numbers) later fits = alter_entry c e options.items numbers later
command_entry c e (Command.Delete force picks) later fits = delete_entry c e force picks later fits
command_entry c e (Command.Hold bits numbers) later fits = hold_entry c e bits numbers later
command_entry c e (Command.Release bits numbers) later fits = release_entry c e bits numbers later
command_entry c e (Command.Clear picks) later fits = clear_entry c e picks later fits
command_entry c e (Command.Show what) later fits = show_entry c e what
command_entry c e (Command.Account what) later fits = account_entry c what
command_entry c e (Command.Add sort text) later fits = add_entry c e sort text later
command_entry c e (Command.Modify sort text) later fits = body_entry c e sort false text later
command_entry c e (Command.Remove key) later fits = remove_entry c e key later
command_entry c e (Command.Print key) later fits = print_entry c key
command_entry c e (Command.Load host pairs) later fits = load_entry c e host pairs later
command_entry c e (Command.End serial exit cpu mem io) later fits = end_entry c e serial exit cpu mem io later
command_entry c e Command.Sched later fits = sched_entry c e later
command_entry c e (Command.Orders host) later fits = orders_entry c e host
command_entry c e (Command.JobOf serial) later fits = task_entry c e serial
command_entry c e Command.Stop later fits = stop_entry c e
command_entry c e (Command.Book options) later fits = book_entry c e options.items later
command_entry c e (Command.Unbook numbers) later fits = unbook_entry c e numbers later
command_entry c e (Command.ShowBooked one) later fits = show_booked_entry c e one

-- ---- events

-- a command is planned where its moment isn't before that of the last entry
timely_entry : (c : Cluster) (e : Event) (asked : Option Command) → FitsRead asked → EntryFits c (timely_plan c e asked)
timely_entry c e None fits = entry_refused c Syntax
timely_entry c e (Some asked) fits = entry_if c (nat_lt e.moment c.last) TimeBack (command_plan c e asked) (λ test. command_entry c e asked (ltb-false e.moment c.last test) fits)

event_fits : (form : Form) (text : List ℕ) → FitsRead (event_command form text)
event_fits Form.Good text = command_fits text
event_fits Form.BadHeader text = tt
event_fits Form.TooLong text = tt

-- the entry of a plan, if it has one, isn't before the last entry, and its change fits
pub planned : (c : Cluster) (e : Event) → IfSome (plan_of c e).entry (λ entry. (c.last ≤ entry.moment) × Fits c entry.moment entry.change)
unfolding plan_of EntryFits
planned c e = entry_if c (is_cut e.form || is_too_long e.text) TooLong _ (λ test. timely_entry c e (event_command e.form e.text) (event_fits e.form e.text))

-- an advance reservation that is booked in a sound cluster takes no limit over what there is, unless more was booked before
pub booked_keeps : (c : Cluster) (e : Event) (advance : Advance) → IsSound c → (plan_of c e).entry ≡ Some (record { moment = e.moment; change = Change.Book advance }) → KeepsBeside c e.moment c.next_advance advance
booked_keeps c e advance sound is = (subst (λ entry. IfSome entry (λ one. (c.last ≤ one.moment) × Fits c one.moment one.change)) is (planned c e)).1.1 sound
