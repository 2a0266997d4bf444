-- Worked rows of the commands of one line, each by computation.
use Rattle.std.specs.Prelude.{◌≡◌, refl, true, false, [], ◌∷◌, Some, None, codes}
use Rattle.ge_model_rows.specs.CommandRows.{Command, Listing, Query}
use Rattle.ge_model_grammar.specs.Commands.{command_of, grammar_of_commands}

-- qalter

altered : command_of (codes "qalter -ot 3 -l a=1 -l b=2 00007,99999999999 8")
    ≡ Some (Command.Alter (record { items = (codes "-l", codes "a=1" ∷ codes "b=2" ∷ []) ∷ (codes "-ot", codes "3" ∷ []) ∷ [] }) (7 ∷ 4294967295 ∷ 8
    ∷ []))
unfolding grammar_of_commands
altered = refl

nothing_altered : command_of (codes "qalter 1") ≡ Some (Command.Alter (record { items = [] }) (1 ∷ []))
unfolding grammar_of_commands
nothing_altered = refl

no_job : command_of (codes "qalter -N a") ≡ None
unfolding grammar_of_commands
no_job = refl

empty_job : command_of (codes "qalter 1,") ≡ None
unfolding grammar_of_commands
empty_job = refl

task_range_on_qalter : command_of (codes "qalter -t 1-2 1") ≡ None
unfolding grammar_of_commands
task_range_on_qalter = refl

hold_on_qalter : command_of (codes "qalter -h 1") ≡ None
unfolding grammar_of_commands
hold_on_qalter = refl

-- qdel, qmod

targets : command_of (codes "qdel 1 2.3,4.5-9:2 6.5-6:3")
    ≡ Some (Command.Delete false (record { job = 1; tasks = None } ∷ record { job = 2; tasks = Some (record { first = 3; last = 3; step = 1 } ∷ []) }
    ∷ record { job = 4; tasks = Some (record { first = 5; last = 9; step = 2 } ∷ []) } ∷ record {
      job = 6;
      tasks = Some (record {
        first = 5;
        last = 5;
        step = 1;
      } ∷ []);
    } ∷ []))
unfolding grammar_of_commands
targets = refl

by_force : command_of (codes "qdel -f 1.1-80000")
    ≡ Some (Command.Delete true (record { job = 1; tasks = Some (record { first = 1; last = 80000; step = 1 } ∷ []) } ∷ []))
unfolding grammar_of_commands
by_force = refl

force_alone : command_of (codes "qdel -f") ≡ None
unfolding grammar_of_commands
force_alone = refl

force_behind : command_of (codes "qdel 1 -f") ≡ None
unfolding grammar_of_commands
force_behind = refl

no_range : command_of (codes "qdel 1.") ≡ None
unfolding grammar_of_commands
no_range = refl

no_such_range : command_of (codes "qdel 1.5-3") ≡ None
unfolding grammar_of_commands
no_such_range = refl

cleared : command_of (codes "qmod -cj 1,2.1")
    ≡ Some (Command.Clear (record { job = 1; tasks = None } ∷ record { job = 2; tasks = Some (record { first = 1; last = 1; step = 1 } ∷ []) } ∷ []))
unfolding grammar_of_commands
cleared = refl

other_qmod : command_of (codes "qmod -d 1") ≡ None
unfolding grammar_of_commands
other_qmod = refl

nothing_to_clear : command_of (codes "qmod -cj") ≡ None
unfolding grammar_of_commands
nothing_to_clear = refl

-- qhold, qrls

users_hold : command_of (codes "qhold 1,2 3") ≡ Some (Command.Hold 1 (1 ∷ 2 ∷ 3 ∷ []))
unfolding grammar_of_commands
users_hold = refl

all_holds : command_of (codes "qhold -h osu 3") ≡ Some (Command.Hold 7 (3 ∷ []))
unfolding grammar_of_commands
all_holds = refl

letter_twice : command_of (codes "qhold -h uu 3") ≡ Some (Command.Hold 1 (3 ∷ []))
unfolding grammar_of_commands
letter_twice = refl

released : command_of (codes "qrls -h s 5") ≡ Some (Command.Release 4 (5 ∷ []))
unfolding grammar_of_commands
released = refl

no_such_letter : command_of (codes "qrls -h x 3") ≡ None
unfolding grammar_of_commands
no_such_letter = refl

no_letters : command_of (codes "qrls -h '' 3") ≡ None
unfolding grammar_of_commands
no_letters = refl

letters_without_job : command_of (codes "qhold -h u") ≡ None
unfolding grammar_of_commands
letters_without_job = refl

-- qstat, qacct

all_jobs : command_of (codes "qstat") ≡ Some (Command.Show (Listing.All (codes "*")))
unfolding grammar_of_commands
all_jobs = refl

jobs_of_owners : command_of (codes "qstat -u [a-c]*") ≡ Some (Command.Show (Listing.All (codes "[a-c]*")))
unfolding grammar_of_commands
jobs_of_owners = refl

one_job : command_of (codes "qstat -j 4294967296") ≡ Some (Command.Show (Listing.One 4294967295))
unfolding grammar_of_commands
one_job = refl

instances : command_of (codes "qstat -f") ≡ Some (Command.Show Listing.Queues)
unfolding grammar_of_commands
instances = refl

priorities : command_of (codes "qstat -pri") ≡ Some (Command.Show Listing.Prios)
unfolding grammar_of_commands
priorities = refl

pattern_missing : command_of (codes "qstat -u") ≡ None
unfolding grammar_of_commands
pattern_missing = refl

job_by_name : command_of (codes "qstat -j x") ≡ None
unfolding grammar_of_commands
job_by_name = refl

both_listings : command_of (codes "qstat -f -pri") ≡ None
unfolding grammar_of_commands
both_listings = refl

sums : command_of (codes "qacct") ≡ Some (Command.Account Query.Total)
unfolding grammar_of_commands
sums = refl

sums_of_an_owner : command_of (codes "qacct -o ann") ≡ Some (Command.Account (Query.Owner (codes "ann")))
unfolding grammar_of_commands
sums_of_an_owner = refl

lines_of_a_job : command_of (codes "qacct -j 5") ≡ Some (Command.Account (Query.Job 5))
unfolding grammar_of_commands
lines_of_a_job = refl

owner_with_slash : command_of (codes "qacct -o a/b") ≡ None
unfolding grammar_of_commands
owner_with_slash = refl

other_query : command_of (codes "qacct -x 5") ≡ None
unfolding grammar_of_commands
other_query = refl

-- sched, load, end, orders, job

run : command_of (codes "sched") ≡ Some (Command.Sched)
unfolding grammar_of_commands
run = refl

run_of_something : command_of (codes "sched x") ≡ None
unfolding grammar_of_commands
run_of_something = refl

one_empty_line : command_of (codes "sched\n") ≡ Some (Command.Sched)
unfolding grammar_of_commands
one_empty_line = refl

blank_line : command_of (codes "sched\n ") ≡ None
unfolding grammar_of_commands
blank_line = refl

load_report : command_of (codes "load h a=1 b= c==")
    ≡ Some (Command.Load (codes "h") ((codes "a", codes "1") ∷ (codes "b", []) ∷ (codes "c", codes "=") ∷ []))
unfolding grammar_of_commands
load_report = refl

nothing_reported : command_of (codes "load h") ≡ None
unfolding grammar_of_commands
nothing_reported = refl

resource_without_value : command_of (codes "load h a") ≡ None
unfolding grammar_of_commands
resource_without_value = refl

ended : command_of (codes "end 1 0 012 0 18446744073709551616") ≡ Some (Command.End 1 0 12 0 18446744073709551615)
unfolding grammar_of_commands
ended = refl

four_numbers : command_of (codes "end 1 0 12 0") ≡ None
unfolding grammar_of_commands
four_numbers = refl

six_numbers : command_of (codes "end 1 0 12 0 0 0") ≡ None
unfolding grammar_of_commands
six_numbers = refl

hosts_orders : command_of (codes "orders h") ≡ Some (Command.Orders (codes "h"))
unfolding grammar_of_commands
hosts_orders = refl

no_host_named : command_of (codes "orders") ≡ None
unfolding grammar_of_commands
no_host_named = refl

dispatch : command_of (codes "job 5") ≡ Some (Command.JobOf 5)
unfolding grammar_of_commands
dispatch = refl

no_number : command_of (codes "job x") ≡ None
unfolding grammar_of_commands
no_number = refl

no_text : command_of ([]) ≡ None
unfolding grammar_of_commands
no_text = refl

other_verb : command_of (codes "qrsub 1") ≡ None
unfolding grammar_of_commands
other_verb = refl
