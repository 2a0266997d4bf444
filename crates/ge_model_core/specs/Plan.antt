-- The plan of an event: its reply, perhaps an entry, and whether it stops the master.
use Rattle.std.specs.Prelude.{ℕ, nat_lt, ◌||◌, if◌then◌else◌, List, Option, Some, None}
use Rattle.ge_base.specs.declared.refusal.Refusal.TheVariants.{Syntax, TooLong, TimeBack}
use Rattle.ge_model_rows.specs.ClusterRows.{Cluster}
use Rattle.ge_model_rows.specs.CommandRows.{Command}
use Rattle.ge_model_rows.specs.EventRows.{Event, Form, Planned}
use Rattle.ge_model_grammar.specs.ScriptLines.{is_too_long}
use Rattle.ge_model_core.specs.Refusals.{refused}
use Rattle.ge_model_core.specs.Forms.{is_cut}
use Rattle.ge_model_grammar.specs.Commands.{command_of}
use Rattle.ge_model_core.specs.Submitting.{submit_plan}
use Rattle.ge_model_core.specs.Altering.{alter_plan}
use Rattle.ge_model_core.specs.Deleting.{delete_plan, clear_plan}
use Rattle.ge_model_core.specs.Holding.{hold_plan, release_plan}
use Rattle.ge_model_core.specs.Configuring.{add_plan, modify_plan, remove_plan, print_plan}
use Rattle.ge_model_core.specs.Showing.{show_plan, account_plan}
use Rattle.ge_model_core.specs.Reports.{load_plan, end_plan, orders_plan, task_plan, stop_plan}
use Rattle.ge_model_core.specs.Scheduling.{sched_plan}
use Rattle.ge_model_core.specs.Booking.{book_plan, unbook_plan, show_booked_plan}

-- the command that an event is
abbrev pub event_command : Form → List ℕ → Option Command
event_command Form.Good text = command_of text
event_command Form.BadHeader text = None
event_command Form.TooLong text = None

abbrev pub command_plan : Cluster → Event → Command → Planned
command_plan c e (Command.Submit options words script) = submit_plan c e options.items words script
command_plan c e (Command.Alter options numbers) = alter_plan c e options.items numbers
command_plan c e (Command.Delete force picks) = delete_plan c e force picks
command_plan c e (Command.Hold bits numbers) = hold_plan c e bits numbers
command_plan c e (Command.Release bits numbers) = release_plan c e bits numbers
command_plan c e (Command.Clear picks) = clear_plan c e picks
command_plan c e (Command.Show what) = show_plan c e what
command_plan c e (Command.Account what) = account_plan c what
command_plan c e (Command.Add kind text) = add_plan c e kind text
command_plan c e (Command.Modify kind text) = modify_plan c e kind text
command_plan c e (Command.Remove key) = remove_plan c e key
command_plan c e (Command.Print key) = print_plan c key
command_plan c e (Command.Load host pairs) = load_plan c e host pairs
command_plan c e (Command.End serial exit cpu mem io) = end_plan c e serial exit cpu mem io
command_plan c e Command.Sched = sched_plan c e
command_plan c e (Command.Orders host) = orders_plan c e host
command_plan c e (Command.JobOf serial) = task_plan c e serial
command_plan c e Command.Stop = stop_plan c e
command_plan c e (Command.Book options) = book_plan c e options.items
command_plan c e (Command.Unbook numbers) = unbook_plan c e numbers
command_plan c e (Command.ShowBooked one) = show_booked_plan c e one

-- a command is planned where its moment isn't before that of the last entry
abbrev pub timely_plan : Cluster → Event → Option Command → Planned
timely_plan c e None = refused Syntax
timely_plan c e (Some command) = if nat_lt e.moment c.last then refused TimeBack else command_plan c e command

-- what an event is answered with, and what it changes
unfoldable pub plan_of : Cluster → Event → Planned
plan_of c e = if is_cut e.form || is_too_long e.text then refused TooLong else timely_plan c e (event_command e.form e.text)
