-- Accounting lines and their sums, by computation.
use Rattle.std.specs.Prelude.{◌≡◌, ℕ, ◌-◌, ◌^◌, List, [], ◌∷◌, codes, negsuc, refl}
use Rattle.std.specs.Fmt.{digits}
use Rattle.ge_model_rows.specs.AccountRows.{Line}
use Rattle.ge_model_rows.specs.ClusterRows.{Cluster, opening_cluster, default_queue, default_sched}
use Rattle.ge_model_rows.specs.CommandRows.{Total, Owner, Job}
use Rattle.ge_model_jobs.proofs.Samples.{line}
use Rattle.ge_model_report.specs.Accounting.{line_text, account_of}

-- one of a job that was submitted at 10 and is no array
abbrev ended : ℕ → ℕ → ℕ → Line
ended from until cpu = record (line 1 0 from until 0) { name = codes "one"; submitted = 10; cpu = cpu }

one_line : line_text (ended 20 50 12) ≡ codes "all.q:local:staff:ann:one:1:sge:0:10:20:50:0:0:30:NONE:NONE:1:0:12:0:0"
unfolding line_text digits
one_line = refl

-- a task of an array of a PE that was deleted by force, without a grant and with a clock that was set back
full_line : line_text (record (ended 60 50 12) { queue = []; host = []; priority = negsuc 1022; failed = 1; exit = 137; project = codes "eng"; pe = codes "smp"; slots = 0; task = 7; mem = 5; io = 18446744073709551615 })
    ≡ codes "NONE:NONE:staff:ann:one:1:sge:-1023:10:60:50:1:137:0:eng:smp:0:7:12:5:18446744073709551615"
unfolding line_text digits
full_line = refl

abbrev with_lines : List Line → Cluster
with_lines lines = record opening_cluster { lines = lines }

abbrev three_lines : List Line
three_lines = record (ended 20 700 580) { mem = 3 } ∷ record (ended 20 50 12) { owner = codes "bob"; job = 2; io = 4 } ∷ record (ended 30 31 0) { exit = 99 } ∷ []

all_lines : account_of (with_lines three_lines) Total ≡ codes "total 3 711 592 3 4" ∷ []
unfolding account_of opening_cluster default_queue default_sched digits
all_lines = refl

lines_of_an_owner : account_of (with_lines (ended 20 700 580 ∷ record (ended 20 50 12) { owner = codes "bob" } ∷ [])) (Owner (codes "ann")) ≡ codes "ann 1 680 580 0 0" ∷ []
unfolding account_of opening_cluster default_queue default_sched digits
lines_of_an_owner = refl

an_owner_without_lines : account_of (with_lines three_lines) (Owner (codes "cy")) ≡ codes "cy 0 0 0 0 0" ∷ []
unfolding account_of opening_cluster default_queue default_sched digits
an_owner_without_lines = refl

lines_of_a_job : account_of (with_lines three_lines) (Job 1)
    ≡ codes "all.q:local:staff:ann:one:1:sge:0:10:20:700:0:0:680:NONE:NONE:1:0:580:3:0"
    ∷ codes "all.q:local:staff:ann:one:1:sge:0:10:30:31:0:99:1:NONE:NONE:1:0:0:0:0"
    ∷ []
unfolding account_of line_text opening_cluster default_queue default_sched digits
lines_of_a_job = refl

a_job_without_lines : account_of (with_lines three_lines) (Job 9) ≡ []
unfolding account_of line_text opening_cluster default_queue default_sched digits
a_job_without_lines = refl

-- sums of 64-bit numbers go beyond 64 bits
wide_sum : account_of (with_lines (ended 0 (2 ^ 64 - 1) (2 ^ 64 - 1) ∷ ended 0 (2 ^ 64 - 1) 1 ∷ [])) Total ≡ codes "total 2 36893488147419103230 18446744073709551616 0 0" ∷ []
unfolding account_of opening_cluster default_queue default_sched digits
wide_sum = refl
