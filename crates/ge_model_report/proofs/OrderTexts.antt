-- The orders of a host are the texts that a table by serial, job and task gathers one by one.
use Rattle.std.proofs.Common.{◌≡◌, ℕ, Bool, true, false, if◌then◌else◌, List, [], ◌∷◌, map, fold, refl, sym, ap, ◌∙◌, arith, nat_cmp, Ordering, Less, Equal, Greater}
use Rattle.std.specs.BTreeMap.{insert_entry}
use Rattle.std.specs.Map.{values_of}
use Rattle.std.specs.Ordering.{match_ordering, ordering_then}
use Rattle.ge_model_rows.specs.ClusterRows.{Cluster}
use Rattle.ge_model_rows.specs.JobRows.{Job, Running}
use Rattle.ge_model_report.specs.Orders.{order_cmp, is_run_at, order_text, with_task, with_runs_of, tasks_at, orders_of, OrderKey, OrderTexts, with_text_of, with_texts_of}

-- ---- the texts of rows

abbrev worded_row : OrderKey × Running → OrderKey × List ℕ
worded_row row = (row.0, order_text row)

same_key : (x y : OrderKey) → order_cmp x y ≡ Equal → x ≡ y
same_key (a, b, c) (d, e, f) is = by (nat_cmp a d) (nat_cmp b e) (nat_cmp c f) refl refl refl is
  where
    same : (n m : ℕ) → nat_cmp n m ≡ Equal → n ≡ m
    same n m h = grind arith

    by : (p q r : Ordering) → nat_cmp a d ≡ p → nat_cmp b e ≡ q → nat_cmp c f ≡ r → ordering_then (ordering_then p q) r ≡ Equal → ◌≡◌ {A = OrderKey} (a, b, c) (d, e, f)
    by Equal Equal Equal x y z h = λ i. (same a d x i, same b e y i, same c f z i)
    by Less q r x y z h = absurd (grind arith)
    by Greater q r x y z h = absurd (grind arith)
    by Equal Less r x y z h = absurd (grind arith)
    by Equal Greater r x y z h = absurd (grind arith)
    by Equal Equal Less x y z h = absurd (grind arith)
    by Equal Equal Greater x y z h = absurd (grind arith)

put_texts : (rows : List (OrderKey × Running)) (key : OrderKey) (running : Running) → map worded_row (insert_entry order_cmp rows key running) ≡ insert_entry order_cmp (map worded_row rows) key (order_text (key, running))
put_texts [] key running = refl
put_texts (row ∷ rows) key running = by (order_cmp key row.0) refl (put_texts rows key running)
  where
    by : (order : Ordering) → order_cmp key row.0 ≡ order
        → map worded_row (insert_entry order_cmp rows key running) ≡ insert_entry order_cmp (map worded_row rows) key (order_text (key, running))
        → map worded_row (match_ordering order ((key, running) ∷ row ∷ rows) ((row.0, running) ∷ rows) (row ∷ insert_entry order_cmp rows key running))
        ≡ match_ordering order ((key, order_text (key, running)) ∷ worded_row row ∷ map worded_row rows) ((row.0, order_text (key, running)) ∷ map worded_row rows)
        (worded_row row ∷ insert_entry order_cmp (map worded_row rows) key (order_text (key, running)))
    by Less is again = refl
    by Equal is again = ap (λ k. (row.0, order_text (k, running)) ∷ map worded_row rows) (sym (same_key key row.0 is))
    by Greater is again = ap (λ z. worded_row row ∷ z) again

task_texts : (host : List ℕ) (job : ℕ) (tasks : List (ℕ × Running)) (rows : List (OrderKey × Running)) → map worded_row (fold (with_task host job) rows tasks) ≡ fold (with_text_of host job) (map worded_row rows) tasks
task_texts host job [] rows = refl
task_texts host job (task ∷ tasks) rows = task_texts host job tasks (with_task host job rows task) ∙ ap (λ texts. fold (with_text_of host job) texts tasks) (by (is_run_at host task.1.grants))
  where
    by : (here : Bool)
        → map worded_row (if here then insert_entry order_cmp rows (task.1.serial, job, task.0) task.1 else rows)
        ≡ (if here then insert_entry order_cmp (map worded_row rows) (task.1.serial, job, task.0) (order_text ((task.1.serial, job, task.0), task.1)) else map worded_row rows)
    by true = put_texts rows (task.1.serial, job, task.0) task.1
    by false = refl

job_texts : (host : List ℕ) (jobs : List (ℕ × Job)) (rows : List (OrderKey × Running)) → map worded_row (fold (with_runs_of host) rows jobs) ≡ fold (with_texts_of host) (map worded_row rows) jobs
job_texts host [] rows = refl
job_texts host (job ∷ jobs) rows = job_texts host jobs (with_runs_of host rows job) ∙ ap (λ texts. fold (with_texts_of host) texts jobs) (task_texts host job.0 job.1.running rows)

values_are : (rows : List (OrderKey × Running)) → map order_text rows ≡ values_of (map worded_row rows)
values_are [] = refl
values_are (row ∷ rows) = ap (λ z. order_text row ∷ z) (values_are rows)

-- the law
pub orders_gathered : (c : Cluster) (host : List ℕ) → orders_of c host ≡ values_of (fold (with_texts_of host) [] c.jobs)
unfolding orders_of
orders_gathered c host = values_are (tasks_at c host) ∙ ap values_of (job_texts host c.jobs [])
