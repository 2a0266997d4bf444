-- The steps of a world: one master, its daemons, and all that was ever sent between them.
use Rattle.std.specs.Prelude.{ℕ, ◌==◌, not, Bool, true, false, if◌then◌else◌, List, [], ◌∷◌, ◌++◌, map, filter, fold, length, take, Option, Some, None, option_map, Result, Ok, Err, codes}
use Rattle.std.specs.List.{list_any, slice_get, slice_set}
use Rattle.ge_collections.specs.Keyed.{at_number}
use Rattle.ge_model_rows.specs.ClusterRows.{Cluster}
use Rattle.ge_model_rows.specs.EntryRows.{Entry}
use Rattle.ge_model_rows.specs.EventRows.{Event, Good, Planned, Reply}
use Rattle.ge_execd.specs.declared.daemon.Daemon.{Daemon}
use Rattle.ge_execd.specs.declared.rows.Order.{Order}
use Rattle.ge_execd.specs.declared.rows.OrderLine.{OrderLine}
use Rattle.ge_execd.specs.declared.rows.Stage.{Stage}
use Rattle.ge_execd.specs.declared.rows.Stage.TheVariants.{Claimed, Ended}
use Rattle.ge_execd.specs.declared.rows.WorkFault.{WorkFault}
use Rattle.ge_execd.specs.Orders.{orders_in}
use Rattle.ge_execd.specs.Daemons.{new_daemon, after_orders, starts_of, may_end, after_end, end_text, after_answer}
use Rattle.ge_model_world.specs.declared.rows.Message.{Message}
use Rattle.ge_model_world.specs.declared.rows.Message.TheVariants.{Orders, Answer}
use Rattle.ge_model_world.specs.declared.rows.Report.{Report}
use Rattle.ge_model_world.specs.declared.rows.Finished.{Finished}
use Rattle.ge_model_world.specs.declared.rows.Finished.TheVariants.{Reported, Forced}
use Rattle.ge_model_world.specs.declared.rows.World.{World}
use Rattle.ge_model_world.specs.declared.rows.Arrival.{Arrival}
use Rattle.ge_model_world.specs.declared.rows.Arrival.TheVariants.{Command, Report as Reports}
use Rattle.ge_model_world.specs.declared.rows.Act.{Act}
use Rattle.ge_model_world.specs.declared.rows.Act.TheVariants.{Deliver, Finish}
use Rattle.ge_model_world.specs.declared.rows.Step.{Step}
use Rattle.ge_model_world.specs.declared.rows.Step.TheVariants.{Handle, Stop, Ask, Daemon as Acts, Send, Cut}
use Rattle.ge_model_world.specs.Masters.{Master}

-- root's request at a moment: daemons ask and report as root
abbrev pub root_event : ℕ → List ℕ → Event
root_event moment text = record { moment = moment; user = codes "root"; group = codes "root"; text = text; form = Good }

-- ---- what an entry finishes

-- the serials that run before and not after
abbrev pub is_gone : List ℕ → ℕ → Bool
is_gone after serial = not (list_any (λ n. n == serial) after)

abbrev pub gone : List ℕ → List ℕ → List ℕ
gone before after = filter (is_gone after) before

-- how a serial is accounted that an entry takes from those that run: by an end, with the place of its line, or by force
abbrev pub finish_by : Bool → ℕ → ℕ → Finished
finish_by true place serial = Reported serial place
finish_by false place serial = Forced serial

-- ---- what a daemon does

-- a daemon after an act, and the serials that it starts
abbrev pub Acted : Type 0
Acted = Daemon × List ℕ

abbrev pub order_serial : Order → ℕ
order_serial order = order.serial

abbrev pub obeying : Daemon → Result (List OrderLine) WorkFault → Acted
obeying d (Err fault) = (d, [])
obeying d (Ok lines) = (after_orders d lines, map order_serial (starts_of d lines))

abbrev pub taking : Daemon → Message → Acted
taking d (Orders reply) = obeying d (orders_in reply)
taking d (Answer serial reply) = (after_answer d serial reply, [])

-- a message is taken by the one to whom it was sent
abbrev pub delivered : ℕ → Daemon → Option (ℕ × Message) → Acted
delivered place d None = (d, [])
delivered place d (Some sent) = if sent.0 == place then taking d sent.1 else (d, [])

-- an end whose numbers no request can name doesn't happen
abbrev pub acted : List (ℕ × Message) → ℕ → Daemon → Act → Acted
acted sent place d (Deliver k) = delivered place d (slice_get sent k)
acted sent place d (Finish serial exit cpu mem io) = (if may_end exit cpu mem io then after_end d serial (Ended exit cpu mem io) else d, [])

-- a daemon after an act that it stopped in when its new state was kept: of the starts the first were made. It stops in none.
abbrev pub cut_short : Option ℕ → Acted → Acted
cut_short None a = a
cut_short (Some starts) a = (a.0, take starts a.1)

-- the report of a kept end
abbrev pub report_of : ℕ → ℕ → Option Stage → List Report
report_of daemon serial None = []
report_of daemon serial (Some Claimed) = []
report_of daemon serial (Some (Ended exit cpu mem io)) = record { daemon = daemon; serial = serial; exit = exit; cpu = cpu; mem = mem; io = io } ∷ []

-- the serials that a daemon starts, with its place
abbrev pub starts_at : ℕ → List ℕ → List (ℕ × ℕ)
starts_at place serials = map (λ serial. (place, serial)) serials

abbrev pub with_acted : World → ℕ → Acted → World
with_acted w place a = record w { daemons = slice_set w.daemons place a.0; started = w.started ++ starts_at place a.1 }

abbrev pub acting : World → ℕ → Act → Option ℕ → Option Daemon → World
acting w place act starts None = w
acting w place act starts (Some d) = with_acted w place (cut_short starts (acted w.sent place d act))

-- the world where a daemon stops inside an act, with its new state or without, and opens again
abbrev pub cutting : World → ℕ → Act → Bool → ℕ → Option Daemon → World
cutting w place act true starts o = acting w place act (Some starts) o
cutting w place act false starts o = w

abbrev pub sending : World → ℕ → ℕ → Option Daemon → World
sending w place serial None = w
sending w place serial (Some d) = record w { reports = w.reports ++ report_of place serial (at_number d.tasks serial) }

-- ---- what comes to the master

-- the event of a report at a moment
abbrev pub report_event : ℕ → Report → Event
report_event moment r = root_event moment (end_text r.serial r.exit r.cpu r.mem r.io)

-- the answer to a report goes to its daemon
abbrev pub answer_list : Reply → Option Report → List (ℕ × Message)
answer_list reply None = []
answer_list reply (Some r) = (r.daemon, Answer r.serial reply) ∷ []

abbrev pub sent_for : List Report → Arrival → Reply → List (ℕ × Message)
sent_for reports (Command e) reply = []
sent_for reports (Reports k moment) reply = answer_list reply (slice_get reports k)

module _ (m : Master) where
  -- a command that is an `end` does nothing: reports come from daemons alone
  abbrev pub arrival_event : List Report → Arrival → Option Event
  arrival_event reports (Command e) = if m.is_end_text e.text then None else Some e
  arrival_event reports (Reports k moment) = option_map (report_event moment) (slice_get reports k)

  -- what an entry finishes
  abbrev pub finished_by : Cluster → Entry → List Finished
  finished_by c entry = map (finish_by (m.is_end entry) (length (m.lines c))) (gone (m.serials c) (m.serials (m.after c entry)))

  -- the world after what may be an entry
  abbrev pub with_entry : World → Option Entry → World
  with_entry w None = w
  with_entry w (Some entry) = record w { cluster = m.after w.cluster entry; finished = w.finished ++ finished_by w.cluster entry }

  -- the world after an event was handled, and the messages for it
  abbrev pub handled : World → Arrival → Planned → World
  handled w x p = record (with_entry w p.entry) { sent = w.sent ++ sent_for w.reports x p.reply }

  abbrev pub handling : World → Arrival → Option Event → World
  handling w x None = w
  handling w x (Some e) = handled w x (m.plan w.cluster e)

  -- the world where the master stops inside an event, with its entry or without, and opens again
  abbrev pub stopping : World → Option Event → World
  stopping w None = w
  stopping w (Some e) = with_entry w (m.plan w.cluster e).entry

  abbrev pub stopped : World → Bool → Option Event → World
  stopped w true o = stopping w o
  stopped w false o = w

  -- the reply to the orders of a daemon's host
  abbrev pub asked : Cluster → ℕ → Daemon → Reply
  asked c moment d = (m.plan c (root_event moment (m.orders_text d.host))).reply

  abbrev pub asking : World → ℕ → ℕ → Option Daemon → World
  asking w place moment None = w
  asking w place moment (Some d) = record w { sent = w.sent ++ (place, Orders (asked w.cluster moment d)) ∷ [] }

  -- one step
  abbrev pub step_of : World → Step → World
  step_of w (Handle x) = handling w x (arrival_event w.reports x)
  step_of w (Stop x done) = stopped w done (arrival_event w.reports x)
  step_of w (Ask place moment) = asking w place moment (slice_get w.daemons place)
  step_of w (Acts place act) = acting w place act None (slice_get w.daemons place)
  step_of w (Send place serial) = sending w place serial (slice_get w.daemons place)
  step_of w (Cut place act done starts) = cutting w place act done starts (slice_get w.daemons place)

  -- a world before its first step, with a new daemon for each host
  abbrev pub new_world : List (List ℕ) → World
  new_world hosts = record { cluster = m.opening; daemons = map new_daemon hosts; sent = []; reports = []; started = []; finished = [] }

  -- the world after steps
  unfoldable pub world_of : List (List ℕ) → List Step → World
  world_of hosts steps = fold step_of (new_world hosts) steps
