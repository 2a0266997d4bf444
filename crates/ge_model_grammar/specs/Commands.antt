-- The grammar of commands.
use Rattle.std.specs.Prelude.{ℕ, Bool, true, false, not, ◌&&◌, if◌then◌else◌, List, [], ◌∷◌, ◌++◌, drop, Option, Some, None, option_map, codes}
use Rattle.std.specs.Bool.{beq}
use Rattle.ge_rows.specs.Keyed.{text_eq}
use Rattle.ge_model_rows.specs.CommandRows.{Command, Listing, Query}
use Rattle.ge_model_grammar.specs.Names.{is_name}
use Rattle.ge_model_text.specs.Words.{texts_of}
use Rattle.ge_model_rows.specs.Pieces.{is_empty, before_byte, behind_byte, has_byte}
use Rattle.ge_model_grammar.specs.Lines.{is_plain_line, text_lines, begins_with, read_each}
use Rattle.ge_model_grammar.specs.Bodies.{grammar_of_bodies}
use Rattle.ge_model_grammar.specs.Options.{Given, has_option}
use Rattle.ge_model_grammar.specs.Shapes.{qsub_shapes, qalter_shapes, qrsub_shapes, read_options, merged_options, merged_by}
use Rattle.ge_model_grammar.specs.Targets.{job_number_of, wide_number, job_numbers_of, targets_of, holds_of_letters}
use Rattle.ge_model_grammar.specs.Configuring.{config_command}

-- the words of a line of bytes that print, blanks and tabs
abbrev pub line_words : List ℕ → Option (List (List ℕ))
line_words line = if is_plain_line line then texts_of line else None

-- qsub

-- options that no words follow
abbrev pub options_alone : Given × List (List ℕ) → Option Given
options_alone read = if is_empty read.1 then Some read.0 else None

-- the options that words are
abbrev pub only_options : List (List ℕ) → Option Given
only_options words = elim (read_options qsub_shapes words) [ None ↦ None | Some read ↦ options_alone read ]

-- the options behind #$ on a line
abbrev pub line_options : List ℕ → Option Given
line_options line = elim (line_words line) [ None ↦ None | Some words ↦ only_options words ]

-- the options of a line of a script: a line that begins with #$ holds options alone
abbrev pub options_in : List ℕ → Option Given
options_in line = if begins_with (codes "#$") line then line_options (drop 2 line) else Some []

-- the options read so far, and those of more lines of a script
abbrev pub options_after : Given → List (List ℕ) → Option Given
options_after so_far [] = Some so_far
options_after so_far (line ∷ lines) = elim (options_in line) [ None ↦ None | Some given ↦ options_after (so_far ++ given) lines ]

-- the options of a script, in the order of its lines
unfoldable pub script_options : List ℕ → Option Given
script_options script = options_after [] (text_lines script)

-- qsub with the options of its script and of its line
abbrev pub submission : List ℕ → Given → Given × List (List ℕ) → Command
submission script in_script read = Command.Submit (record { items = merged_options (in_script ++ read.0) }) read.1 script

-- qsub: options, the command and its arguments; the lines behind are the script
unfoldable pub submit_command : List (List ℕ) → List ℕ → Option Command
submit_command words script =
    elim (script_options script) [
      | None ↦ None
      | Some in_script ↦ option_map (submission script in_script) (read_options qsub_shapes words)
    ]

-- qalter

-- qalter of these jobs with the options that count
abbrev pub alteration : Given → List ℕ → Command
alteration given jobs = Command.Alter (record { items = merged_options given }) jobs

-- qalter: options, and jobs
unfoldable pub alter_command : List (List ℕ) → Option Command
alter_command words =
    elim (read_options qalter_shapes words) [
      | None ↦ None
      | Some read ↦ option_map (alteration read.0) (job_numbers_of read.1)
    ]

-- qdel, qmod -cj

-- qdel, with -f by force
unfoldable pub delete_command : List (List ℕ) → Option Command
delete_command [] = None
delete_command (word ∷ words) =
    if text_eq word (codes "-f") then option_map (Command.Delete true) (targets_of words)
    else option_map (Command.Delete false) (targets_of (word ∷ words))

-- qmod, with -cj alone
unfoldable pub clear_command : List (List ℕ) → Option Command
clear_command [] = None
clear_command (word ∷ words) = if text_eq word (codes "-cj") then option_map Command.Clear (targets_of words) else None

-- qhold, qrls

-- letters behind -h, and jobs
abbrev pub with_letters : (ℕ → List ℕ → Command) → List (List ℕ) → Option Command
with_letters make [] = None
with_letters make (letters ∷ words) = elim (holds_of_letters letters) [ None ↦ None | Some bits ↦ option_map (make bits) (job_numbers_of words) ]

-- without letters it is the hold of users
unfoldable pub hold_command : (ℕ → List ℕ → Command) → List (List ℕ) → Option Command
hold_command make [] = None
hold_command make (word ∷ words) = if text_eq word (codes "-h") then with_letters make words else option_map (make 1) (job_numbers_of (word ∷ words))

-- qstat

-- qstat: jobs of all owners or of those that -u names, -j one job, -f instances, -pri priorities
unfoldable pub show_command : List (List ℕ) → Option Command
show_command [] = Some (Command.Show (Listing.All (codes "*")))
show_command (word ∷ []) =
    if text_eq word (codes "-f") then Some (Command.Show Listing.Queues)
    else (if text_eq word (codes "-pri") then Some (Command.Show Listing.Prios) else None)
show_command (word ∷ of ∷ []) =
    if text_eq word (codes "-u") then Some (Command.Show (Listing.All of))
    else (if text_eq word (codes "-j") then option_map (λ job. Command.Show (Listing.One job)) (job_number_of of) else None)
show_command (word ∷ of ∷ other ∷ words) = None

-- qacct

-- qacct: sums, -o of an owner, -j the lines of a job
unfoldable pub account_command : List (List ℕ) → Option Command
account_command [] = Some (Command.Account Query.Total)
account_command (word ∷ []) = None
account_command (word ∷ of ∷ []) =
    if text_eq word (codes "-o") then (if is_name of then Some (Command.Account (Query.Owner of)) else None)
    else (if text_eq word (codes "-j") then option_map (λ job. Command.Account (Query.Job job)) (job_number_of of) else None)
account_command (word ∷ of ∷ other ∷ words) = None

-- load, end, orders, job

-- name=value
abbrev pub reported_pair : List ℕ → Option (List ℕ × List ℕ)
reported_pair word = if has_byte 61 word && is_name (before_byte 61 word) then Some (before_byte 61 word, behind_byte 61 word) else None

-- load: a host and its report
unfoldable pub load_command : List (List ℕ) → Option Command
load_command [] = None
load_command (host ∷ []) = None
load_command (host ∷ word ∷ words) = if is_name host then option_map (Command.Load host) (read_each reported_pair (word ∷ words)) else None

-- the end of a dispatch, by its five numbers
abbrev pub end_with : List ℕ → Option Command
end_with (serial ∷ exit ∷ cpu ∷ mem ∷ io ∷ []) = Some (Command.End serial exit cpu mem io)
end_with _ = None

-- end: serial, exit status, cpu, mem and io
unfoldable pub end_command : List (List ℕ) → Option Command
end_command words = elim (read_each wide_number words) [ None ↦ None | Some numbers ↦ end_with numbers ]

-- orders: a host
unfoldable pub orders_command : List (List ℕ) → Option Command
orders_command (host ∷ []) = if is_name host then Some (Command.Orders host) else None
orders_command _ = None

-- job: a serial
unfoldable pub dispatch_command : List (List ℕ) → Option Command
dispatch_command (serial ∷ []) = option_map Command.JobOf (wide_number serial)
dispatch_command _ = None

-- qrsub, qrdel, qrstat

-- whether just one of two options is given
abbrev pub has_one_of : Given → List ℕ → List ℕ → Bool
has_one_of given first second = not (beq (has_option given first) (has_option given second))

-- an advance reservation ends at a moment (-e) or lasts so long (-d): just one of them is given
abbrev pub booking_by : Given → Option Command
booking_by given = if has_one_of given (codes "-e") (codes "-d") then Some (Command.Book (record { items = given })) else None

abbrev pub booking : Given × List (List ℕ) → Option Command
booking read = if is_empty read.1 then booking_by (merged_by qrsub_shapes read.0) else None

-- qrsub: options alone
unfoldable pub book_command : List (List ℕ) → Option Command
book_command words = elim (read_options qrsub_shapes words) [ None ↦ None | Some read ↦ booking read ]

-- qrdel: numbers of reservations, written as those of jobs
unfoldable pub unbook_command : List (List ℕ) → Option Command
unbook_command words = option_map Command.Unbook (job_numbers_of words)

-- the reservation that a number names
abbrev pub shown_booked : ℕ → Command
shown_booked number = Command.ShowBooked (Some number)

-- qrstat: all reservations, or the one that -ar names
unfoldable pub show_booked_command : List (List ℕ) → Option Command
show_booked_command [] = Some (Command.ShowBooked None)
show_booked_command (word ∷ []) = None
show_booked_command (word ∷ of ∷ []) = if text_eq word (codes "-ar") then option_map shown_booked (job_number_of of) else None
show_booked_command (word ∷ of ∷ other ∷ words) = None

-- sched
abbrev pub sched_command : List (List ℕ) → Option Command
sched_command words = if is_empty words then Some Command.Sched else None

-- all of them

-- the commands that are one line
abbrev pub line_command : List ℕ → List (List ℕ) → Option Command
line_command verb words =
    if text_eq verb (codes "qalter") then alter_command words
    else (if text_eq verb (codes "qdel") then delete_command words
    else (if text_eq verb (codes "qhold") then hold_command Command.Hold words
    else (if text_eq verb (codes "qrls") then hold_command Command.Release words
    else (if text_eq verb (codes "qmod") then clear_command words
    else (if text_eq verb (codes "qstat") then show_command words
    else (if text_eq verb (codes "qacct") then account_command words
    else (if text_eq verb (codes "load") then load_command words
    else (if text_eq verb (codes "end") then end_command words
    else (if text_eq verb (codes "orders") then orders_command words
    else (if text_eq verb (codes "job") then dispatch_command words
    else (if text_eq verb (codes "qrsub") then book_command words
    else (if text_eq verb (codes "qrdel") then unbook_command words
    else (if text_eq verb (codes "qrstat") then show_booked_command words
    else (if text_eq verb (codes "sched") then sched_command words else None))))))))))))))

-- the command of the words of a command line and of the text behind it
abbrev pub command_in : List (List ℕ) → List ℕ → Option Command
command_in [] text = None
command_in (verb ∷ words) text =
    if text_eq verb (codes "qsub") then submit_command words text
    else (if text_eq verb (codes "qconf") then config_command words text
    else (if is_empty text then line_command verb words else None))

-- the command that a text is, if it is in the grammar
unfoldable pub command_of : List ℕ → Option Command
command_of text = elim (line_words (before_byte 10 text)) [ None ↦ None | Some words ↦ command_in words (behind_byte 10 text) ]

-- all that a row of commands computes through
unfoldable pub grammar_of_commands : Unit {0}
unfolding grammar_of_bodies read_options merged_options config_command script_options submit_command alter_command delete_command clear_command hold_command show_command account_command load_command end_command orders_command dispatch_command book_command unbook_command show_booked_command command_of
grammar_of_commands = tt
