-- What is ordered of a daemon: the lines of the master's reply to `orders`, as its list of orders is printed.
use Rattle.std.specs.Prelude.{ℕ, ◌+◌, ◌-◌, ◌^◌, ◌==◌, ◌&&◌, nat_lt, nat_le, if◌then◌else◌, List, [], ◌∷◌, Option, Some, None, option_map, Result, Ok, Err, codes}
use Rattle.ge_limits.specs.Limits as limit
use Rattle.ge_collections.specs.Keyed.{text_eq}
use Rattle.ge_model_text.specs.Value.{number}
use Rattle.ge_model_rows.specs.Pieces.{before_byte, behind_byte}
use Rattle.ge_model_rows.specs.EventRows.{Reply}
use Rattle.ge_model_grammar.specs.Header.{is_decimal}
use Rattle.ge_execd.specs.declared.rows.Order.{Order}
use Rattle.ge_execd.specs.declared.rows.OrderLine.{OrderLine}
use Rattle.ge_execd.specs.declared.rows.OrderLine.TheVariants.{Run, Kill}
use Rattle.ge_execd.specs.declared.rows.WorkFault.{WorkFault}
use Rattle.ge_execd.specs.declared.rows.WorkFault.TheVariants.{Refused, Bad}

-- a number as the master prints it, up to a greatest one: no zero in front
abbrev pub number_to : ℕ → List ℕ → Option ℕ
number_to greatest text = if is_decimal text && nat_le (number text) greatest then Some (number text) else None

-- numbers of jobs and tasks, and of slots, have 32 bits
abbrev pub short_number : List ℕ → Option ℕ
short_number text = number_to (2 ^ 32 - 1) text

-- serials are those that the master gives
abbrev pub serial_number : List ℕ → Option ℕ
serial_number text = number_to limit.last_serial text

-- a task that is to run, where each of its four numbers is one
abbrev pub run_with : Option ℕ → Option ℕ → Option ℕ → Option ℕ → Option Order
run_with (Some serial) (Some job) (Some task) (Some slots) = Some (record { serial = serial; job = job; task = task; slots = slots })
run_with _ _ _ _ = None

-- what stands before the first blank of a text, and behind it: one blank parts the words of a line
abbrev pub word_of : List ℕ → List ℕ
word_of text = before_byte 32 text

abbrev pub behind_of : List ℕ → List ℕ
behind_of text = behind_byte 32 text

-- SERIAL JOB TASK SLOTS
abbrev pub run_in : List ℕ → Option Order
run_in text =
    let jobs = behind_of text in
    let tasks = behind_of jobs in
    run_with (serial_number (word_of text)) (short_number (word_of jobs)) (short_number (word_of tasks)) (short_number (behind_of tasks))

-- `run SERIAL JOB TASK SLOTS` or `kill SERIAL`
abbrev pub line_in : List ℕ → Option OrderLine
line_in line =
    if text_eq (word_of line) (codes "run") then option_map Run (run_in (behind_of line))
    else (if text_eq (word_of line) (codes "kill") then option_map Kill (serial_number (behind_of line)) else None)

abbrev pub line_serial : OrderLine → ℕ
line_serial (Run order) = order.serial
line_serial (Kill serial) = serial

-- the list of orders goes by serial, each above the one before it, and the least serial is 1
abbrev pub line_above : ℕ → Option OrderLine → Option OrderLine
line_above last None = None
line_above last (Some line) = if nat_lt last (line_serial line) then Some line else None

-- one order before those of the lines behind it
abbrev pub onto_orders : OrderLine → Result (List OrderLine) ℕ → Result (List OrderLine) ℕ
onto_orders line (Ok lines) = Ok (line ∷ lines)
onto_orders line (Err place) = Err place

-- the orders of lines from a place on, behind a serial; or the place of the first line that is off
abbrev pub orders_from : ℕ → ℕ → List (List ℕ) → Result (List OrderLine) ℕ
orders_from last place [] = Ok []
orders_from last place (text ∷ texts) = elim (line_above last (line_in text)) [
  | None ↦ Err place
  | Some line ↦ onto_orders line (orders_from (line_serial line) (place + 1) texts)
]

abbrev pub or_bad : Result (List OrderLine) ℕ → Result (List OrderLine) WorkFault
or_bad (Ok lines) = Ok lines
or_bad (Err place) = Err (Bad place)

-- the orders of a reply, all read before any is obeyed; or why there are none
unfoldable pub orders_in : Reply → Result (List OrderLine) WorkFault
orders_in reply = if reply.code == 0 then or_bad (orders_from 0 0 reply.lines) else Err (Refused reply.code)
