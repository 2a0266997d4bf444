-- The lines of qstat, qstat -j and qstat -pri, by computation.
use Rattle.std.specs.Prelude.{◌≡◌, ℕ, true, List, [], ◌∷◌, codes, negsuc, refl}
use Rattle.std.specs.Fmt.{digits}
use Rattle.ge_model_rows.specs.CommandRows.{All, One, Prios}
use Rattle.ge_model_rows.specs.JobRows.{Job}
use Rattle.ge_model_rows.specs.ValueRows.{Amount, Flag, Word}
use Rattle.ge_model_rows.specs.Complexes.{opening}
use Rattle.ge_model_jobs.proofs.Samples.{span, asking, in_queues, with_pe, prio, slots_of, running, on_local, with_jobs}
use Rattle.ge_model_report.specs.Listing.{listing_of, listings_in_full, grants_text}
use Rattle.ge_model_report.proofs.Samples.{one_task, named, running_job}

-- an array whose task 4 was deleted: 7 runs, 10 waits and 1 is in error; another one waits for it task by task
abbrev two_arrays : List (ℕ × Job)
two_arrays =
    (1, record (named (codes "a")) { submitted = 0; array = true; span = span 1 10 3; queued = one_task 10; broken = one_task 1; running = (7, on_local 2 0) ∷ [] })
    ∷ (2, record (named (codes "b")) { number = 2; submitted = 0; array = true; span = span 1 10 3; queued = span 1 10 3 ∷ []; after_each = 1 ∷ [] })
    ∷ []

held_and_not_held : listing_of (with_jobs two_arrays) (All (codes "*")) 6 []
    ≡ codes "1 a ann r 0 all.q@local 1 7"
    ∷ codes "1 a ann qw 0 - 1 10"
    ∷ codes "1 a ann Eqw 0 - 1 1"
    ∷ codes "2 b ann qw 0 - 1 4"
    ∷ codes "2 b ann hqw 0 - 1 1-7:6,10"
    ∷ []
unfolding listings_in_full with_jobs opening
held_and_not_held = refl

-- a job of bob that waits for 16 slots under a hold, one of ann marked for deletion on two hosts, one that waits for a job that is gone
abbrev other_jobs : List (ℕ × Job)
other_jobs =
    (3, with_pe (codes "smp") 16 32 (record (named (codes "p")) { owner = codes "bob"; hold = 2 }))
    ∷ (4, running_job (codes "q") (record (running 7 30 (slots_of (codes "b.q") (codes "h2") 2 ∷ slots_of (codes "a.q") (codes "h1") 3 ∷ [])) { deleting = true }))
    ∷ (5, record (named (codes "r")) { after = 3 ∷ [] })
    ∷ (6, record (named (codes "s")) { after = 1 ∷ []; after_each = 2 ∷ [] })
    ∷ (7, running_job (codes "t") (running 9 40 []))
    ∷ []

all_owners : listing_of (with_jobs other_jobs) (All (codes "*")) 50 []
    ≡ codes "3 p bob hqw 10 - 16 -" ∷ codes "4 q ann dr 30 b.q@h2 5 -" ∷ codes "5 r ann hqw 10 - 1 -" ∷ codes "6 s ann qw 10 - 1 -" ∷ codes "7 t ann r 40 - 0 -" ∷ []
unfolding listings_in_full with_jobs opening
all_owners = refl

owners_of_a_pattern : listing_of (with_jobs other_jobs) (All (codes "[a-c]o?")) 50 [] ≡ codes "3 p bob hqw 10 - 16 -" ∷ []
unfolding listings_in_full with_jobs opening
owners_of_a_pattern = refl

-- 75000 tasks are listed without a look at each
a_wide_array : listing_of (with_jobs ((1, record (named (codes "w")) { array = true; queued = span 1 75000 1 ∷ []; hold = 4 }) ∷ [])) (All (codes "ann")) 50 []
    ≡ codes "1 w ann hqw 10 - 1 1-75000:1" ∷ []
unfolding listings_in_full with_jobs opening
a_wide_array = refl

one_that_is_bare : listing_of (with_jobs two_arrays) (One 2) 6 []
    ≡ codes "job_number 2"
    ∷ codes "job_name b"
    ∷ codes "owner ann"
    ∷ codes "group staff"
    ∷ codes "account sge"
    ∷ codes "submission_time 0"
    ∷ codes "priority 0"
    ∷ codes "project NONE"
    ∷ codes "hold -"
    ∷ codes "hard_resource_list NONE"
    ∷ codes "parallel_environment NONE"
    ∷ codes "predecessors NONE"
    ∷ codes "array_predecessors 1"
    ∷ codes "tasks 1-10:3"
    ∷ []
unfolding listings_in_full with_jobs opening
one_that_is_bare = refl

-- a name that is no complex is printed by the form of its value
abbrev full_job : Job
full_job = asking (
    (codes "arch", Word [])
    ∷ (codes "h_rt", Amount 3661)
    ∷ (codes "h_vmem", Amount 281474976710655)
    ∷ (codes "load_avg", Amount 1500000)
    ∷ (codes "nosuch", Amount 12)
    ∷ (codes "num_proc", Flag true)
    ∷ []) (in_queues (codes "all.q" ∷ []) (with_pe (codes "smp") 3 8 (record (named (codes "full")) {
      priority = negsuc 4;
      project = codes "eng";
      hold = 7;
      after = 3 ∷ 1 ∷ [];
    })))

one_that_is_full : listing_of (with_jobs ((8, full_job) ∷ [])) (One 8) 6 []
    ≡ codes "job_number 8"
    ∷ codes "job_name full"
    ∷ codes "owner ann"
    ∷ codes "group staff"
    ∷ codes "account sge"
    ∷ codes "submission_time 10"
    ∷ codes "priority -5"
    ∷ codes "project eng"
    ∷ codes "hold uos"
    ∷ codes "hard_resource_list arch=NONE,h_rt=1:1:1,h_vmem=INFINITY,load_avg=1.500000,nosuch=12,num_proc=TRUE"
    ∷ codes "parallel_environment smp 3-8"
    ∷ codes "predecessors 3,1"
    ∷ codes "array_predecessors NONE"
    ∷ codes "tasks 1"
    ∷ []
unfolding listings_in_full with_jobs opening
one_that_is_full = refl

-- a job that is not there has no lines
one_that_is_not_there : listing_of (with_jobs two_arrays) (One 3) 6 [] ≡ []
unfolding listings_in_full with_jobs opening
one_that_is_not_there = refl

priorities : listing_of (with_jobs []) Prios 6 (prio 1 499755 500000 0 549755000000 ∷ prio 2 500244 500000 1000000 560244999999 ∷ [])
    ≡ codes "2 0.500244 0.500000 1.000000 0.560244" ∷ codes "1 0.499755 0.500000 0.000000 0.549755" ∷ []
unfolding listings_in_full with_jobs opening
priorities = refl

equal_priorities : listing_of (with_jobs []) Prios 6 (prio 3 0 0 0 5000000000000 ∷ prio 1 0 0 0 5000000000000 ∷ prio 2 0 0 0 5000000000000 ∷ [])
    ≡ codes "1 0.000000 0.000000 0.000000 5.000000" ∷ codes "2 0.000000 0.000000 0.000000 5.000000" ∷ codes "3 0.000000 0.000000 0.000000 5.000000" ∷ []
unfolding listings_in_full with_jobs opening
equal_priorities = refl

grants_with_commas : grants_text (slots_of (codes "b.q") (codes "h2") 2 ∷ slots_of (codes "a.q") (codes "h1") 3 ∷ []) ≡ codes "b.q@h2=2,a.q@h1=3"
unfolding digits
grants_with_commas = refl
