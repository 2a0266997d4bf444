-- The orders of a host name serials alone that run there.
use Rattle.std.proofs.Common.{◌≡◌, ◌⊎◌, inl, inr, ⊎_elim, Less, Equal, Greater, Ordering, ℕ, ◌^◌, ◌<◌, Bool, true, false, if◌then◌else◌, List, [], ◌∷◌, fold, Some, refl, sym, ◌∙◌, subst, arith, true≢false}
use Rattle.std.specs.Prelude.{IfSome}
use Rattle.std.specs.BTreeMap.{insert_entry}
use Rattle.std.specs.Ordering.{nat_cmp, match_ordering, ordering_then}
use Rattle.std.specs.Cmp.Lexicographic.{same_text}
use Rattle.ge_model_rows.specs.ClusterRows.{Cluster}
use Rattle.ge_model_rows.specs.JobRows.{Job, Running, Grant}
use Rattle.ge_model_jobs.specs.Accounts.{first_instance}
use Rattle.ge_model_report.specs.Grants.{granted_slots}
use Rattle.ge_model_report.specs.Orders.{OrderKey, order_cmp, is_run_at, with_task, with_runs_of, tasks_at, order_text, orders_of}
use Rattle.ge_execd.specs.declared.rows.OrderLine.{OrderLine}
use Rattle.ge_execd.specs.Orders.{line_in, line_serial}
use Rattle.ge_model_world.specs.Laws.{Has}
use Rattle.ge_model_world.specs.Laws.Has.{here, there}
use Rattle.ge_model_world.proofs.Lists.{first_or, has_same, has_map, map_has, has_none, has_one}
use Rattle.ge_world_laws.specs.Product.{post_of, job_posts, posts_of, posts}
use Rattle.ge_world_laws.proofs.Elements.{flat_has}
use Rattle.ge_world_laws.proofs.OrderLines.{run_line, kill_line, run_line_back, kill_line_back}

-- ---- keys of orders

number_same : (x y : ℕ) → nat_cmp x y ≡ Equal → x ≡ y
number_same x y h = grind arith

both_equal : (p q : Ordering) → ordering_then p q ≡ Equal → (p ≡ Equal) × (q ≡ Equal)
both_equal Less q is = cc
both_equal Equal q is = (refl, is)
both_equal Greater q is = cc

key_same : (x y : OrderKey) → order_cmp x y ≡ Equal → x ≡ y
key_same x y is =
    let outer = both_equal (ordering_then (nat_cmp x.0 y.0) (nat_cmp x.1 y.1)) (nat_cmp x.2 y.2) is in
    let inner = both_equal (nat_cmp x.0 y.0) (nat_cmp x.1 y.1) outer.0 in
    let serial = number_same x.0 y.0 inner.0 in
    let job = number_same x.1 y.1 inner.1 in
    let task = number_same x.2 y.2 outer.1 in
    λ i. (serial i, job i, task i)

-- a row of a table with one more is one of its rows, or the new one
has_put : {X : Type 0} {row : OrderKey × X} (rows : List (OrderKey × X)) (k : OrderKey) (v : X) → Has row (insert_entry order_cmp rows k v) → Has row rows ⊎ (row ≡ (k, v))
has_put [] k v h = inr (has_one h)
has_put {X = X} {row = row} (first ∷ rows) k v h = by (order_cmp k first.0) refl (λ h. has_put rows k v h) h
  where
    later : Has row rows ⊎ (◌≡◌ {A = OrderKey × X} row (k, v)) → Has row (first ∷ rows) ⊎ (◌≡◌ {A = OrderKey × X} row (k, v))
    later (inl h) = inl (there h)
    later (inr is) = inr is

    by : (o : Ordering) → order_cmp k first.0 ≡ o → (Has row (insert_entry order_cmp rows k v) → Has row rows ⊎ (◌≡◌ {A = OrderKey × X} row (k, v)))
        → Has row (match_ordering o ((k, v) ∷ first ∷ rows) ((first.0, v) ∷ rows) (first ∷ insert_entry order_cmp rows k v)) → Has row (first ∷ rows) ⊎ (◌≡◌ {A = OrderKey × X} row (k, v))
    by Less is rest h = ⊎_elim (λ same. inr same) (λ old. inl old) (first_or h)
    by Equal is rest h = ⊎_elim (λ same. inr (same ∙ (λ i. (sym (key_same k first.0 is) i, v)))) (λ old. inl (there old)) (first_or h)
    by Greater is rest h = ⊎_elim (λ same. inl (has_same same)) (λ old. later (rest old)) (first_or h)

-- ---- running tasks of a host

-- a row of orders is that of a task which runs at the host
record IsOrder (jobs : List (ℕ × Job)) (host : List ℕ) (row : OrderKey × Running) : Type 0 where
  job : Job
  known : Has (row.0.1, job) jobs
  task : Has (row.0.2, row.1) job.running
  same : row.1.serial ≡ row.0.0
  at : is_run_at host row.1.grants ≡ true

abbrev AllOrders : List (ℕ × Job) → List ℕ → List (OrderKey × Running) → Type 0
AllOrders jobs host rows = (row : OrderKey × Running) → Has row rows → IsOrder jobs host row

module _ (jobs : List (ℕ × Job)) (host : List ℕ) where
  one_task : (job : ℕ × Job) (task : ℕ × Running) (rows : List (OrderKey × Running)) → Has job jobs → Has task job.1.running → AllOrders jobs host rows → AllOrders jobs host (with_task host job.0 rows task)
  one_task job task rows known h all = by (is_run_at host task.1.grants) refl
    where
      new : is_run_at host task.1.grants ≡ true → (row : OrderKey × Running) → Has row rows ⊎ (◌≡◌ {A = OrderKey × Running} row ((task.1.serial, job.0, task.0), task.1)) → IsOrder jobs host row
      new at row (inl old) = all row old
      new at row (inr is) = subst (λ r. IsOrder jobs host r) (sym is) (record { job = job.1; known = known; task = h; same = refl; at = at })

      by : (b : Bool) → is_run_at host task.1.grants ≡ b → AllOrders jobs host (if b then insert_entry order_cmp rows (task.1.serial, job.0, task.0) task.1 else rows)
      by true at = λ row g. new at row (has_put rows (task.1.serial, job.0, task.0) task.1 g)
      by false at = all

  all_tasks : (job : ℕ × Job) (tasks : List (ℕ × Running)) (rows : List (OrderKey × Running)) → Has job jobs → ((task : ℕ × Running) → Has task tasks → Has task job.1.running) → AllOrders jobs host rows
      → AllOrders jobs host (fold (with_task host job.0) rows tasks)
  all_tasks job [] rows known among all = all
  all_tasks job (task ∷ tasks) rows known among all = all_tasks job tasks (with_task host job.0 rows task) known (λ t h. among t (there h)) (one_task job task rows known (among task here) all)

  all_jobs : (some : List (ℕ × Job)) (rows : List (OrderKey × Running)) → ((job : ℕ × Job) → Has job some → Has job jobs) → AllOrders jobs host rows → AllOrders jobs host (fold (with_runs_of host) rows some)
  all_jobs [] rows among all = all
  all_jobs (job ∷ some) rows among all = all_jobs some (with_runs_of host rows job) (λ j h. among j (there h)) (all_tasks job job.1.running rows (among job here) (λ t h. h) all)

  tasks_run : AllOrders jobs host (fold (with_runs_of host) [] jobs)
  tasks_run = all_jobs jobs [] (λ job h. h) (λ row h. absurd (has_none h))

-- the first grant of a task that runs at the host is there
first_is : (host : List ℕ) (grants : List Grant) → is_run_at host grants ≡ true → (first_instance grants).host ≡ host
first_is host [] at = absurd (true≢false (sym at))
first_is host (grant ∷ grants) at = same_text grant.at.host host (sym at)

text_back : (row : OrderKey × Running) → row.0.0 < 2 ^ 64 → IfSome (line_in (order_text row)) (λ o. line_serial o ≡ row.0.0)
text_back ((serial, job, task), running) small = by running.deleting
  where
    by : (b : Bool) → IfSome (line_in (if b then kill_line serial else run_line serial job task (granted_slots running.grants))) (λ o. line_serial o ≡ serial)
    by true = kill_line_back serial small
    by false = run_line_back serial job task (granted_slots running.grants) small

-- an order that is read of the reply names a serial that runs at the host
pub orders_run : (c : Cluster) (host : List ℕ) → ((s : ℕ) (h : List ℕ) → Has (s, h) (posts c) → s < 2 ^ 64) → (text : List ℕ) (o : OrderLine) → Has text (orders_of c host) → line_in text ≡ Some o
    → Has (line_serial o, host) (posts c)
unfolding orders_of
orders_run c host small text o there_is read =
    let row = has_map order_text (tasks_at c host) there_is in
    let is = tasks_run c.jobs host row.0 row.1 in
    let post : Has (post_of (row.0.0.2, row.0.1)) (posts_of c.jobs) = flat_has job_posts (row.0.0.1, is.job) c.jobs is.known (map_has post_of is.job.running is.task) in
    let here_is : Has (row.0.0.0, host) (posts_of c.jobs) = subst (λ p. Has p (posts_of c.jobs)) (λ i. (is.same i, first_is host row.0.1.grants is.at i)) post in
    let named : line_in (order_text row.0) ≡ Some o = subst (λ one. line_in one ≡ Some o) (sym row.2) read in
    let serial : line_serial o ≡ row.0.0.0 = subst (λ x. IfSome x (λ y. line_serial y ≡ row.0.0.0)) named (text_back row.0 (small row.0.0.0 host here_is)) in
    subst (λ n. Has (n, host) (posts_of c.jobs)) (sym serial) here_is
