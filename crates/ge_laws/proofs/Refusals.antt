-- Each refusal, by one command that meets it; and that each leaves the cluster as it was.
use Rattle.std.specs.Prelude.{◌≡◌, ◌++◌, replicate, codes, refl}
use Rattle.ge_model_rows.specs.Complexes.{opening}
use Rattle.ge_model_core.specs.Scripts.{written_for, left_by}

-- -N has a word
an_option_without_its_word : written_for (
    codes "@0 ann staff\nqsub -N\n")
    ≡ codes "11 1\nsyntax error\n"
unfolding written_for
an_option_without_its_word = refl

-- qwhat is no command
an_unknown_command : written_for (
    codes "@0 ann staff\nqwhat\n")
    ≡ codes "11 1\nsyntax error\n"
unfolding written_for
an_unknown_command = refl

-- no job 5 lives
a_job_that_is_not_there : written_for (
    codes "@0 ann staff\nqdel 5\n")
    ≡ codes "14 1\nno such object\n"
unfolding written_for
a_job_that_is_not_there = refl

-- only managers make runs
a_run_by_no_manager : written_for (
    codes "@0 ann staff\nsched\n")
    ≡ codes "15 1\nnot permitted\n"
unfolding written_for
a_run_by_no_manager = refl

-- local is there
a_host_twice : written_for (
    codes "@0 root root\nqconf -Ae\nhostname local\n")
    ≡ codes "16 1\nexists already\n"
unfolding written_for
a_host_twice = refl

-- all.q has local
a_host_in_use : written_for (
    codes "@0 root root\nqconf -de local\n")
    ≡ codes "17 1\nin use\n"
unfolding written_for
a_host_in_use = refl

-- a priority ends at 1024
a_priority_too_high : written_for (
    codes "@0 root root\nqsub -p 2000 x\n")
    ≡ codes "18 1\nbad value\n"
unfolding written_for
a_priority_too_high = refl

-- load_avg is not requestable
a_load_asked_for : written_for (
    codes "@0 ann staff\nqsub -l load_avg=1 x\n")
    ≡ codes "19 1\nnot requestable\n"
unfolding written_for
a_load_asked_for = refl

-- an array ends at 75,000 tasks
too_many_tasks : written_for (
    codes "@0 ann staff\nqsub -t 1-75001 x\n")
    ≡ codes "21 1\nlimit reached\n"
unfolding written_for
too_many_tasks = refl

-- job 2 waits for job 1, so job 1 can not wait for job 2
jobs_that_wait_for_each_other : written_for (
    codes "@0 ann staff\nqsub x\n"
    ++ codes "@0 ann staff\nqsub -hold_jid 1 x\n"
    ++ codes "@0 ann staff\nqalter -hold_jid 2 1\n")
    ≡ codes "0 1\nYour job 1 (\"x\") has been submitted\n"
    ++ codes "0 1\nYour job 2 (\"x\") has been submitted\n"
    ++ codes "20 1\ncycle\n"
unfolding written_for
jobs_that_wait_for_each_other = refl

-- bob may not alter the job of ann, also where nothing would change; ann may
a_foreign_job : written_for (
    codes "@0 ann staff\nqsub x\n"
    ++ codes "@0 bob staff\nqalter 1\n"
    ++ codes "@0 ann staff\nqalter 1\n")
    ≡ codes "0 1\nYour job 1 (\"x\") has been submitted\n"
    ++ codes "15 1\nnot permitted\n"
    ++ codes "0 1\nmodified 1\n"
unfolding written_for
a_foreign_job = refl

-- a query at the last moment is answered, one before it is not
a_moment_before_the_last_one : written_for (
    codes "@10 ann staff\nqsub -N one x\n"
    ++ codes "@9 ann staff\nqstat\n"
    ++ codes "@10 ann staff\nqstat\n")
    ≡ codes "0 1\nYour job 1 (\"one\") has been submitted\n"
    ++ codes "13 1\nmoment before the last one\n"
    ++ codes "0 1\n1 one ann qw 10 - 1 -\n"
unfolding written_for
a_moment_before_the_last_one = refl

-- a line has at most 65,536 bytes
a_line_too_long : written_for (codes "@0 ann staff\n" ++ replicate 65537 120 ++ codes "\n") ≡ codes "12 1\ntext too long\n"
unfolding written_for
a_line_too_long = refl

-- commands that are refused on the opening cluster leave it
the_opening_cluster_is_left : left_by (
    codes "@0 ann staff\nqsub -N\n"
    ++ codes "@0 ann staff\nqwhat\n"
    ++ codes "@0 ann staff\n" ++ replicate 65537 120 ++ codes "\n"
    ++ codes "@0 ann staff\nqdel 5\n"
    ++ codes "@0 ann staff\nsched\n"
    ++ codes "@0 root root\nqconf -Ae\nhostname local\n"
    ++ codes "@0 root root\nqconf -de local\n"
    ++ codes "@0 root root\nqsub -p 2000 x\n"
    ++ codes "@0 ann staff\nqsub -l load_avg=1 x\n"
    ++ codes "@0 ann staff\nqsub -t 1-75001 x\n")
    ≡ opening
unfolding left_by opening
the_opening_cluster_is_left = refl

-- those that are refused beside jobs leave these
the_jobs_are_left : left_by (
    codes "@10 ann staff\nqsub x\n"
    ++ codes "@10 ann staff\nqsub -hold_jid 1 x\n"
    ++ codes "@10 ann staff\nqalter -hold_jid 2 1\n"
    ++ codes "@10 bob staff\nqalter 1\n"
    ++ codes "@9 ann staff\nqstat\n"
    ++ codes "@10 root root\nend 1 0 0 0 0\n")
    ≡ left_by (codes "@10 ann staff\nqsub x\n" ++ codes "@10 ann staff\nqsub -hold_jid 1 x\n")
unfolding left_by
the_jobs_are_left = refl

-- so does a second report of an end
a_stale_report_leaves_the_rest : left_by (
    codes "@10 ann staff\nqsub x\n"
    ++ codes "@20 root root\nsched\n"
    ++ codes "@50 root root\nend 1 0 12 0 0\n"
    ++ codes "@51 root root\nend 1 0 12 0 0\n")
    ≡ left_by (codes "@10 ann staff\nqsub x\n" ++ codes "@20 root root\nsched\n" ++ codes "@50 root root\nend 1 0 12 0 0\n")
unfolding left_by
a_stale_report_leaves_the_rest = refl
