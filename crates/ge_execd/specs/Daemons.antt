-- What a daemon does: by what it has seen and keeps, and by what comes to it.
use Rattle.std.specs.Prelude.{ℕ, ◌==◌, ◌&&◌, ◌||◌, nat_lt, nat_le, max, Bool, true, false, if◌then◌else◌, List, [], ◌∷◌, map, fold, Option, Some, None, codes, decimal}
use Rattle.std.specs.List.{filter_map}
use Rattle.std.specs.BTreeMap.{is_at}
use Rattle.std.specs.Ordering.{nat_cmp}
use Rattle.ge_limits.specs.Limits as limit
use Rattle.ge_collections.specs.Keyed.{at_number, put_number, drop_number}
use Rattle.ge_collections.specs.Changed.{change_value}
use Rattle.ge_model_rows.specs.Pieces.{joined_by}
use Rattle.ge_model_rows.specs.EventRows.{Reply}
use Rattle.ge_execd.specs.declared.daemon.Daemon.{Daemon}
use Rattle.ge_execd.specs.declared.rows.Order.{Order}
use Rattle.ge_execd.specs.declared.rows.OrderLine.{OrderLine}
use Rattle.ge_execd.specs.declared.rows.OrderLine.TheVariants.{Run, Kill}
use Rattle.ge_execd.specs.declared.rows.Stage.{Stage}
use Rattle.ge_execd.specs.declared.rows.Stage.TheVariants.{Claimed, Ended}
use Rattle.ge_execd.specs.Orders.{line_serial}

-- a daemon before its first message
abbrev pub new_daemon : List ℕ → Daemon
new_daemon host = record { host = host; seen = 0; tasks = [] }

-- ---- orders

-- the exit of a task that is killed before it begins: 128 and the number of the signal, as a shell tells such an end
abbrev pub killed_exit : ℕ
killed_exit = 137

-- an order above what was seen claims its serial, or ends it before it begins; one up to there changes nothing
abbrev pub obeyed : ℕ → List (ℕ × Stage) → OrderLine → List (ℕ × Stage)
obeyed seen tasks (Run order) = if nat_lt seen order.serial then put_number tasks order.serial Claimed else tasks
obeyed seen tasks (Kill serial) = if nat_lt seen serial then put_number tasks serial (Ended killed_exit 0 0 0) else tasks

-- the greatest serial that was named, which no late reply lowers
abbrev pub seen_with : ℕ → OrderLine → ℕ
seen_with seen line = max seen (line_serial line)

-- a daemon after orders
abbrev pub after_orders : Daemon → List OrderLine → Daemon
after_orders d lines = record { host = d.host; seen = fold seen_with d.seen lines; tasks = fold (obeyed d.seen) d.tasks lines }

-- the task that an order starts: one that is to run, with a serial above what was seen
abbrev pub started : ℕ → OrderLine → Option Order
started seen (Run order) = if nat_lt seen order.serial then Some order else None
started seen (Kill serial) = None

abbrev pub is_claimed : Option Stage → Bool
is_claimed None = false
is_claimed (Some Claimed) = true
is_claimed (Some (Ended exit cpu mem io)) = false

-- the serial that an order kills: one that was claimed before this reply
abbrev pub killed : ℕ → List (ℕ × Stage) → OrderLine → Option ℕ
killed seen tasks (Run order) = None
killed seen tasks (Kill serial) = if nat_le serial seen && is_claimed (at_number tasks serial) then Some serial else None

abbrev pub starts_of : Daemon → List OrderLine → List Order
starts_of d lines = filter_map (started d.seen) lines

abbrev pub kills_of : Daemon → List OrderLine → List ℕ
kills_of d lines = filter_map (killed d.seen d.tasks) lines

-- ---- ends

-- the amounts that a request can name
abbrev pub is_amount : ℕ → Bool
is_amount n = nat_lt n limit.amounts

-- the exit and the amounts that the request `end` can name
abbrev pub may_end : ℕ → ℕ → ℕ → ℕ → Bool
may_end exit cpu mem io = nat_le exit 255 && (is_amount cpu && (is_amount mem && is_amount io))

-- a claimed serial ends; one that ended stays so
abbrev pub end_with : Stage → Stage → Stage
end_with end Claimed = end
end_with end (Ended exit cpu mem io) = Ended exit cpu mem io

-- a daemon after the task of a serial ended
abbrev pub after_end : Daemon → ℕ → Stage → Daemon
after_end d serial end = record d { tasks = change_value (is_at (nat_cmp serial)) (end_with end) d.tasks }

-- ---- reports and answers

-- the request `end SERIAL EXIT CPU MEM IO`
abbrev pub end_text : ℕ → ℕ → ℕ → ℕ → ℕ → List ℕ
end_text serial exit cpu mem io = joined_by (codes " ") (codes "end" ∷ map decimal (serial ∷ exit ∷ cpu ∷ mem ∷ io ∷ []))

-- the report of a kept end
abbrev pub report_text : ℕ → Option Stage → Option (List ℕ)
report_text serial None = None
report_text serial (Some Claimed) = None
report_text serial (Some (Ended exit cpu mem io)) = Some (end_text serial exit cpu mem io)

abbrev pub is_ended : Option Stage → Bool
is_ended None = false
is_ended (Some Claimed) = false
is_ended (Some (Ended exit cpu mem io)) = true

-- codes that settle a report: the end was taken, or no task has this serial any longer
abbrev pub settles : ℕ → Bool
settles code = code == 0 || code == 22

-- a daemon after the answer to a report: a kept end is forgotten where it is settled
abbrev pub after_answer : Daemon → ℕ → Reply → Daemon
after_answer d serial reply = if settles reply.code && is_ended (at_number d.tasks serial) then record d { tasks = drop_number d.tasks serial } else d
