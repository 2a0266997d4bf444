-- What a daemon asks for, by computation.
use Rattle.std.specs.Prelude.{◌≡◌, ℕ, true, List, [], ◌∷◌, codes, refl}
use Rattle.std.specs.Fmt.{digits}
use Rattle.ge_model_rows.specs.JobRows.{Job}
use Rattle.ge_model_rows.specs.ValueRows.{Amount}
use Rattle.ge_model_rows.specs.Complexes.{opening}
use Rattle.ge_model_jobs.proofs.Samples.{asking, slots_of, running, on_local, with_jobs}
use Rattle.ge_model_report.specs.Orders.{orders_of, task_lines}
use Rattle.ge_model_report.proofs.Samples.{named, running_job}

one_to_run : orders_of (with_jobs ((1, running_job (codes "one") (on_local 1 20)) ∷ [])) (codes "local") ≡ codes "run 1 1 1 1" ∷ []
unfolding orders_of with_jobs opening digits
one_to_run = refl

one_to_kill : orders_of (with_jobs ((1, running_job (codes "one") (record (on_local 1 20) { deleting = true })) ∷ [])) (codes "local") ≡ codes "kill 1" ∷ []
unfolding orders_of with_jobs opening digits
one_to_kill = refl

-- by serial, not by job; a task whose first grant is elsewhere, and one without a grant, aren't this host's; serials that stand
-- several times stand by job, then task
abbrev some_jobs : List (ℕ × Job)
some_jobs =
    (1, record (named (codes "a")) { queued = []; array = true; running = (2, on_local 9 20) ∷ (5, on_local 4 20) ∷ (6, running 5 20 []) ∷ [] })
    ∷ (2, running_job (codes "b") (running 3 20 (slots_of (codes "a.q") (codes "local") 2 ∷ slots_of (codes "a.q") (codes "h2") 5 ∷ [])))
    ∷ (3, running_job (codes "c") (running 2 20 (slots_of (codes "a.q") (codes "h2") 2 ∷ slots_of (codes "a.q") (codes "local") 5 ∷ [])))
    ∷ (4, record (named (codes "d")) { queued = []; array = true; running = (1, on_local 9 20) ∷ (7, on_local 9 20) ∷ [] })
    ∷ []

by_serial : orders_of (with_jobs some_jobs) (codes "local")
    ≡ codes "run 3 2 1 7" ∷ codes "run 4 1 5 1" ∷ codes "run 9 1 2 1" ∷ codes "run 9 4 1 1" ∷ codes "run 9 4 7 1" ∷ []
unfolding orders_of with_jobs opening digits
by_serial = refl

no_orders : orders_of (with_jobs some_jobs) (codes "loc") ≡ []
unfolding orders_of with_jobs opening digits
no_orders = refl

without_a_limit : task_lines (with_jobs ((1, running_job (codes "one") (on_local 1 20)) ∷ [])) 1 ≡ codes "limit -" ∷ codes "words 1" ∷ codes "x" ∷ []
unfolding task_lines with_jobs opening digits
without_a_limit = refl

-- a script is cut at each line feed, and what follows the last one counts, also where it is empty
abbrev with_script : Job
with_script = asking ((codes "h_rt", Amount 60) ∷ (codes "s_rt", Amount 50) ∷ []) (record (running_job (codes "one") (on_local 3 20)) {
  words = codes "run.sh" ∷ codes "a b" ∷ [] ∷ [];
  script = codes "#!/bin/sh\n\ndate\n";
})

a_limit_and_a_script : task_lines (with_jobs ((1, running_job (codes "one") (on_local 1 20)) ∷ (2, with_script) ∷ [])) 3
    ≡ codes "limit 50" ∷ codes "words 3" ∷ codes "run.sh" ∷ codes "a b" ∷ [] ∷ codes "#!/bin/sh" ∷ [] ∷ codes "date" ∷ [] ∷ []
unfolding task_lines with_jobs opening digits
a_limit_and_a_script = refl

no_such_serial : task_lines (with_jobs some_jobs) 1 ≡ []
unfolding task_lines with_jobs opening digits
no_such_serial = refl
