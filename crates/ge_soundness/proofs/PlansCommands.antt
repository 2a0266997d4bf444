-- The commands that are read: the targets of those that delete and clear are in the form.
use Rattle.std.proofs.Common.{ℕ, Bool, true, false, if◌then◌else◌, List, [], ◌∷◌, drop, Option, Some, None, option_map, codes}
use Rattle.std.specs.Prelude.{IfSome, ◌&&◌, nat_le, length, is_some}
use Rattle.ge_rows.specs.Keyed.{text_eq, at_text}
use Rattle.ge_model_rows.specs.CommandRows.{Command, Listing, Query}
use Rattle.ge_model_rows.specs.EntryRows.{ObjectKind, Key}
use Rattle.ge_model_grammar.specs.Names.{is_name}
use Rattle.ge_model_rows.specs.Pieces.{is_empty, before_byte, behind_byte}
use Rattle.ge_model_jobs.proofs.Orderly.{ArePicks}
use Rattle.ge_model_grammar.specs.Bodies.{body_of}
use Rattle.ge_model_grammar.specs.Lines.{begins_with, read_each}
use Rattle.ge_model_grammar.specs.Options.{Given}
use Rattle.ge_model_grammar.specs.Shapes.{qsub_shapes, qalter_shapes, qrsub_shapes, read_options, merged_by}
use Rattle.ge_model_grammar.specs.Targets.{job_number_of, wide_number, job_numbers_of, targets_of, holds_of_letters}
use Rattle.ge_model_grammar.specs.Configuring.{added_kinds, modified_kinds, list_kinds, removed_kinds, printed_kinds, single_kinds, is_name_of, with_body, with_name, nameless_command, add_name, removal, printing, stopping, bare_form, config_command}
use Rattle.ge_model_grammar.specs.Commands.{line_words, script_options, submission, submit_command, alteration, alter_command, delete_command, clear_command, with_letters, hold_command, show_command, account_command, reported_pair, load_command, end_with, end_command, orders_command, dispatch_command, has_one_of, booking_by, booking, book_command, unbook_command, shown_booked, show_booked_command, sched_command, line_command, command_in, command_of}
use Rattle.ge_soundness.proofs.PlansTargets.{targets_are}

-- the targets of a command that deletes or clears are in the form; no other command has any
abbrev pub FitsCommand : Command → Type 0
FitsCommand (Command.Delete force picks) = ArePicks picks
FitsCommand (Command.Clear picks) = ArePicks picks
FitsCommand other = Unit {0}

-- a command that is read, if one is
abbrev pub FitsRead : Option Command → Type 0
FitsRead read = IfSome read FitsCommand

-- ---- ways to read

-- a command read in one of two ways, or in one way or none
either : (test : Bool) (first second : Option Command) → FitsRead first → FitsRead second → FitsRead (if test then first else second)
either true first second one other = one
either false first second one other = other

where_so : (test : Bool) (first : Option Command) → FitsRead first → FitsRead (if test then first else None)
where_so test first one = either test first None one tt

-- a command made of what is read, and of which something is known
made : {X : Type 0} (P : X → Type 0) (make : X → Command) → ((x : X) → P x → FitsCommand (make x)) → (read : Option X) → IfSome read P → FitsRead (option_map make read)
made P make fits None is = tt
made P make fits (Some x) is = fits x is

-- a command that has no targets
plain : {X : Type 0} (make : X → Command) → ((x : X) → FitsCommand (make x)) → (read : Option X) → FitsRead (option_map make read)
plain make fits None = tt
plain make fits (Some x) = fits x

-- ---- qsub, qalter

submit_fits : (words : List (List ℕ)) (script : List ℕ) → FitsRead (submit_command words script)
unfolding submit_command
submit_fits words script = by (script_options script)
  where
    by : (given : Option Given) → FitsRead (elim given as (λ x. Option Command) [ None ↦ None | Some in_script ↦ option_map (submission script in_script) (read_options qsub_shapes words) ])
    by None = tt
    by (Some in_script) = plain (submission script in_script) (λ read. tt) (read_options qsub_shapes words)

alter_fits : (words : List (List ℕ)) → FitsRead (alter_command words)
unfolding alter_command
alter_fits words = by (read_options qalter_shapes words)
  where
    by : (given : Option (Given × List (List ℕ))) → FitsRead (elim given as (λ x. Option Command) [ None ↦ None | Some read ↦ option_map (alteration read.0) (job_numbers_of read.1) ])
    by None = tt
    by (Some read) = plain (alteration read.0) (λ jobs. tt) (job_numbers_of read.1)

-- ---- qdel, qmod, qhold, qrls

delete_fits : (words : List (List ℕ)) → FitsRead (delete_command words)
unfolding delete_command
delete_fits [] = tt
delete_fits (word ∷ words) =
    either (text_eq word (codes "-f")) (option_map (Command.Delete true) (targets_of words)) (option_map (Command.Delete false) (targets_of (word ∷ words)))
    (made ArePicks (Command.Delete true) (λ picks are. are) (targets_of words) (targets_are words))
    (made ArePicks (Command.Delete false) (λ picks are. are) (targets_of (word ∷ words)) (targets_are (word ∷ words)))

clear_fits : (words : List (List ℕ)) → FitsRead (clear_command words)
unfolding clear_command
clear_fits [] = tt
clear_fits (word ∷ words) = where_so (text_eq word (codes "-cj")) (option_map Command.Clear (targets_of words)) (made ArePicks Command.Clear (λ picks are. are) (targets_of words) (targets_are words))

hold_fits : (make : ℕ → List ℕ → Command) (words : List (List ℕ)) → ((bits : ℕ) (jobs : List ℕ) → FitsCommand (make bits jobs)) → FitsRead (hold_command make words)
unfolding hold_command
hold_fits make [] fits = tt
hold_fits make (word ∷ words) fits =
    either (text_eq word (codes "-h")) (with_letters make words) (option_map (make 1) (job_numbers_of (word ∷ words))) (lettered words) (plain (make 1) (fits 1) (job_numbers_of (word ∷ words)))
  where
    lettered : (words : List (List ℕ)) → FitsRead (with_letters make words)
    lettered [] = tt
    lettered (letters ∷ words) = by (holds_of_letters letters)
      where
        by : (holds : Option ℕ) → FitsRead (elim holds as (λ x. Option Command) [ None ↦ None | Some bits ↦ option_map (make bits) (job_numbers_of words) ])
        by None = tt
        by (Some bits) = plain (make bits) (fits bits) (job_numbers_of words)

-- ---- qstat, qacct

show_fits : (words : List (List ℕ)) → FitsRead (show_command words)
unfolding show_command
show_fits [] = tt
show_fits (word ∷ []) = either (text_eq word (codes "-f")) (Some (Command.Show Listing.Queues)) _ tt (where_so (text_eq word (codes "-pri")) (Some (Command.Show Listing.Prios)) tt)
show_fits (word ∷ of ∷ []) =
    either (text_eq word (codes "-u")) (Some (Command.Show (Listing.All of))) _ tt
    (where_so (text_eq word (codes "-j")) _ (plain (λ job. Command.Show (Listing.One job)) (λ job. tt) (job_number_of of)))
show_fits (word ∷ of ∷ other ∷ words) = tt

account_fits : (words : List (List ℕ)) → FitsRead (account_command words)
unfolding account_command
account_fits [] = tt
account_fits (word ∷ []) = tt
account_fits (word ∷ of ∷ []) =
    either (text_eq word (codes "-o")) _ _ (where_so (is_name of) (Some (Command.Account (Query.Owner of))) tt)
    (where_so (text_eq word (codes "-j")) _ (plain (λ job. Command.Account (Query.Job job)) (λ job. tt) (job_number_of of)))
account_fits (word ∷ of ∷ other ∷ words) = tt

-- ---- load, end, orders, job, sched

load_fits : (words : List (List ℕ)) → FitsRead (load_command words)
unfolding load_command
load_fits [] = tt
load_fits (host ∷ []) = tt
load_fits (host ∷ word ∷ words) = where_so (is_name host) (option_map (Command.Load host) (read_each reported_pair (word ∷ words))) (plain (Command.Load host) (λ pairs. tt) (read_each reported_pair (word ∷ words)))

end_fits : (words : List (List ℕ)) → FitsRead (end_command words)
unfolding end_command
end_fits words = by (read_each wide_number words)
  where
    five : (numbers : List ℕ) → FitsRead (end_with numbers)
    five (serial ∷ exit ∷ cpu ∷ mem ∷ io ∷ []) = tt
    five _ = tt

    by : (numbers : Option (List ℕ)) → FitsRead (elim numbers as (λ x. Option Command) [ None ↦ None | Some numbers ↦ end_with numbers ])
    by None = tt
    by (Some numbers) = five numbers

orders_fits : (words : List (List ℕ)) → FitsRead (orders_command words)
unfolding orders_command
orders_fits [] = tt
orders_fits (host ∷ []) = where_so (is_name host) (Some (Command.Orders host)) tt
orders_fits (host ∷ other ∷ words) = tt

dispatch_fits : (words : List (List ℕ)) → FitsRead (dispatch_command words)
unfolding dispatch_command
dispatch_fits [] = tt
dispatch_fits (serial ∷ []) = plain Command.JobOf (λ number. tt) (wide_number serial)
dispatch_fits (serial ∷ other ∷ words) = tt

-- ---- qrsub, qrdel, qrstat

book_fits : (words : List (List ℕ)) → FitsRead (book_command words)
unfolding book_command
book_fits words = by (read_options qrsub_shapes words)
  where
    by : (given : Option (Given × List (List ℕ))) → FitsRead (elim given as (λ x. Option Command) [ None ↦ None | Some read ↦ booking read ])
    by None = tt
    by (Some read) =
        let given = merged_by qrsub_shapes read.0 in
        where_so (is_empty read.1) (booking_by given) (where_so (has_one_of given (codes "-e") (codes "-d")) (Some (Command.Book (record { items = given }))) tt)

unbook_fits : (words : List (List ℕ)) → FitsRead (unbook_command words)
unfolding unbook_command
unbook_fits words = plain Command.Unbook (λ numbers. tt) (job_numbers_of words)

booked_fits : (words : List (List ℕ)) → FitsRead (show_booked_command words)
unfolding show_booked_command
booked_fits [] = tt
booked_fits (word ∷ []) = tt
booked_fits (word ∷ of ∷ []) = where_so (text_eq word (codes "-ar")) (option_map shown_booked (job_number_of of)) (plain shown_booked (λ number. tt) (job_number_of of))
booked_fits (word ∷ of ∷ other ∷ words) = tt

run_fits : (words : List (List ℕ)) → FitsRead (sched_command words)
run_fits words = where_so (is_empty words) (Some Command.Sched) tt

-- ---- qconf

body_fits : (make : ObjectKind → List ℕ → Command) (sort : Option ObjectKind) (words : List (List ℕ)) (body : List ℕ) → ((sort : ObjectKind) (body : List ℕ) → FitsCommand (make sort body))
    → FitsRead (with_body make sort words body)
body_fits make None words body fits = tt
body_fits make (Some sort) words body fits = where_so (nat_le (length words) 1 && is_some (body_of sort body)) (Some (make sort body)) (fits sort body)

name_fits : (make : Key → Command) (sort : Option ObjectKind) (words : List (List ℕ)) → ((key : Key) → FitsCommand (make key)) → FitsRead (with_name make sort words)
name_fits make None words fits = tt
name_fits make (Some sort) [] fits = tt
name_fits make (Some sort) (word ∷ []) fits = where_so (is_name_of sort word) (Some (make (record { kind = sort; name = word }))) (fits (record { kind = sort; name = word }))
name_fits make (Some sort) (word ∷ other ∷ words) fits = tt

nameless_fits : (make : Key → Command) (sort : Option ObjectKind) → ((key : Key) → FitsCommand (make key)) → FitsRead (nameless_command make sort)
nameless_fits make None fits = tt
nameless_fits make (Some sort) fits = fits (record { kind = sort; name = [] })

removal_fits : (word : List ℕ) (words : List (List ℕ)) → FitsRead (removal word words)
removal_fits word [] = where_so (text_eq word (codes "stree")) (nameless_command Command.Remove (Some ObjectKind.Shares)) tt
removal_fits word (name ∷ words) = name_fits Command.Remove (at_text removed_kinds word) (name ∷ words) (λ key. tt)

printing_fits : (word : List ℕ) (words : List (List ℕ)) → FitsRead (printing word words)
printing_fits word [] = nameless_fits Command.Print (at_text single_kinds word) (λ key. tt)
printing_fits word (name ∷ words) = name_fits Command.Print (at_text printed_kinds word) (name ∷ words) (λ key. tt)

bare_fits : (option : List ℕ) (words : List (List ℕ)) → FitsRead (bare_form option words)
bare_fits option words =
    either (text_eq option (codes "-km")) (stopping words) _ (where_so (is_empty words) (Some Command.Stop) tt)
    (either (begins_with (codes "-d") option) (removal (drop 2 option) words) _ (removal_fits (drop 2 option) words)
    (either (begins_with (codes "-s") option) (printing (drop 2 option) words) _ (printing_fits (drop 2 option) words)
    (where_so (begins_with (codes "-a") option) (with_name add_name (at_text list_kinds (drop 2 option)) words) (name_fits add_name (at_text list_kinds (drop 2 option)) words (λ key. tt)))))

config_fits : (words : List (List ℕ)) (body : List ℕ) → FitsRead (config_command words body)
unfolding config_command
config_fits [] body = tt
config_fits (option ∷ words) body =
    either (begins_with (codes "-A") option) (with_body Command.Add (at_text added_kinds (drop 2 option)) words body) _ (body_fits Command.Add (at_text added_kinds (drop 2 option)) words body (λ sort text. tt))
    (either (begins_with (codes "-M") option) (with_body Command.Modify (at_text modified_kinds (drop 2 option)) words body) _
    (body_fits Command.Modify (at_text modified_kinds (drop 2 option)) words body (λ sort text. tt))
    (where_so (is_empty body) (bare_form option words) (bare_fits option words)))

-- ---- all of them

line_fits : (verb : List ℕ) (words : List (List ℕ)) → FitsRead (line_command verb words)
line_fits verb words =
    either (text_eq verb (codes "qalter")) (alter_command words) _ (alter_fits words)
    (either (text_eq verb (codes "qdel")) (delete_command words) _ (delete_fits words)
    (either (text_eq verb (codes "qhold")) (hold_command Command.Hold words) _ (hold_fits Command.Hold words (λ bits jobs. tt))
    (either (text_eq verb (codes "qrls")) (hold_command Command.Release words) _ (hold_fits Command.Release words (λ bits jobs. tt))
    (either (text_eq verb (codes "qmod")) (clear_command words) _ (clear_fits words)
    (either (text_eq verb (codes "qstat")) (show_command words) _ (show_fits words)
    (either (text_eq verb (codes "qacct")) (account_command words) _ (account_fits words)
    (either (text_eq verb (codes "load")) (load_command words) _ (load_fits words)
    (either (text_eq verb (codes "end")) (end_command words) _ (end_fits words)
    (either (text_eq verb (codes "orders")) (orders_command words) _ (orders_fits words)
    (either (text_eq verb (codes "job")) (dispatch_command words) _ (dispatch_fits words)
    (either (text_eq verb (codes "qrsub")) (book_command words) _ (book_fits words)
    (either (text_eq verb (codes "qrdel")) (unbook_command words) _ (unbook_fits words)
    (either (text_eq verb (codes "qrstat")) (show_booked_command words) _ (booked_fits words)
    (where_so (text_eq verb (codes "sched")) (sched_command words) (run_fits words)))))))))))))))

words_fit : (words : List (List ℕ)) (text : List ℕ) → FitsRead (command_in words text)
words_fit [] text = tt
words_fit (verb ∷ words) text =
    either (text_eq verb (codes "qsub")) (submit_command words text) _ (submit_fits words text)
    (either (text_eq verb (codes "qconf")) (config_command words text) _ (config_fits words text)
    (where_so (is_empty text) (line_command verb words) (line_fits verb words)))

-- the command that a text is fits
pub command_fits : (text : List ℕ) → FitsRead (command_of text)
unfolding command_of
command_fits text = by (line_words (before_byte 10 text))
  where
    by : (words : Option (List (List ℕ))) → FitsRead (elim words as (λ x. Option Command) [ None ↦ None | Some words ↦ command_in words (behind_byte 10 text) ])
    by None = tt
    by (Some words) = words_fit words (behind_byte 10 text)
