-- What an event asks for, and what its plan has.
use Rattle.std.specs.Prelude.{◌≡◌, ◌==◌, ◌&&◌, ◌++◌, Bool, true, false, not, List, [], ◌∷◌, Option, Some, None}
use Rattle.std.specs.Bool.{beq}
use Rattle.ge_model_rows.specs.AccountRows.{Line}
use Rattle.ge_model_rows.specs.CommandRows.{Command}
use Rattle.ge_model_rows.specs.ClusterRows.{Cluster}
use Rattle.ge_model_rows.specs.EventRows.{Event, Planned, Reply}
use Rattle.ge_model_core.specs.Plan.{plan_of}
use Rattle.ge_model_core.specs.Trace.{answer_of, after_entries}

-- a query shows something and changes nothing: qstat, qacct, qconf -s, the orders of a host, the job of a running task, qrstat
abbrev pub is_query : Command → Bool
is_query (Command.Show what) = true
is_query (Command.Account what) = true
is_query (Command.Print key) = true
is_query (Command.Orders host) = true
is_query (Command.JobOf serial) = true
is_query (Command.ShowBooked one) = true
is_query _ = false

-- qconf -km
abbrev pub is_stop : Command → Bool
is_stop Command.Stop = true
is_stop _ = false

-- whether a text is a command that changes the cluster: neither a query nor -km
abbrev pub asks_for_change : Option Command → Bool
asks_for_change None = false
asks_for_change (Some asked) = not (is_query asked) && not (is_stop asked)

-- whether a text is the command -km
abbrev pub asks_for_stop : Option Command → Bool
asks_for_stop None = false
asks_for_stop (Some asked) = is_stop asked

-- an accepted event has the code 0
abbrev pub is_accepted : Planned → Bool
is_accepted p = p.reply.code == 0

-- accounting lines are written behind those that there are
abbrev pub IsFrontOf : List Line → List Line → Type 0
IsFrontOf lines more = (written : List Line) × (more ≡ lines ++ written)

-- the replies to events with these marks, each beside its mark, up to the event that stops the master
abbrev pub replies_of : Cluster → List Event → List Bool → List (Bool × Reply)
replies_of c events [] = []
replies_of c [] (mark ∷ marks) = []
replies_of c (e ∷ events) (mark ∷ marks) =
    let p = answer_of plan_of c e mark in
    (mark, p.reply) ∷ elim p.stop [ true ↦ [] | false ↦ replies_of (after_entries c p.entry) events marks ]

-- a reply says that memory was wanted, by its code, exactly where its mark says so
abbrev pub tells_memory : Bool × Reply → Bool
tells_memory reply = beq (reply.1.code == 99) (not reply.0)
