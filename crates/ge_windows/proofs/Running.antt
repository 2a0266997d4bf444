-- Jobs of which no task runs book nothing.
use Rattle.std.proofs.Common.{◌≡◌, ℕ, Bool, false, inl, inr, List, [], ◌∷◌, ◌++◌, flat_map, map, Some, refl, sym, ap, ◌∙◌}
use Rattle.std.specs.BTreeMap.{is_at}
use Rattle.std.specs.List.{AllByRecursion, list_any}
use Rattle.std.specs.List.Sorted.{IsStrictlySortedBy}
use Rattle.std.specs.Map.{keys_of, values_of}
use Rattle.std.specs.Ordering.{nat_cmp}
use Rattle.std.proofs.lemmas.Bool.{cases_Bool, cond-true, cond-false, or_right, true≢false}
use Rattle.std.proofs.lemmas.List.Folds.{list_any-append}
use Rattle.ge_collections.proofs.Walked.{found_each}
use Rattle.ge_collections.specs.Keyed.{at_number}
use Rattle.ge_job_index.specs.Marked.{is_among}
use Rattle.ge_model_rows.specs.ClusterRows.{Cluster}
use Rattle.ge_model_rows.specs.HostRows.{Groups}
use Rattle.ge_model_rows.specs.JobRows.{Job, Running}
use Rattle.ge_model_place.specs.Windows.{job_bookings, running_booking}
use Rattle.ge_rows.specs.Marks.{mark_of, own_marks, task_marks, job_marks}
use Rattle.ge_rows.specs.declared.marks.JobMark.{JobMark}
use Rattle.ge_rows.specs.declared.marks.MarkSort.TheVariants as sort
use Rattle.ge_rows.specs.contracts.marks.JobMarkOrd.TheImpl as order
use Rattle.ge_windows.specs.Running.{running_in, bookings_of, bookings_at}

abbrev runs : Job → Bool
runs job = is_among order.ghosts.cmp (mark_of sort.Runs [] [] 0) (job_marks job)

-- a job bears the mark where a task of it runs
none_runs : (job : Job) (rows : List (ℕ × Running)) → job.running ≡ rows → runs job ≡ false → rows ≡ []
none_runs job [] is unmarked = refl
none_runs job (row ∷ rows) is unmarked =
    absurd (true≢false (sym (list_any-append is_it (own_marks job) (flat_map task_marks (values_of job.running))
    ∙ or_right (list_any is_it (own_marks job)) (list_any is_it (flat_map task_marks (values_of job.running))) (ap (λ rs. list_any is_it (flat_map task_marks (values_of rs))) is)) ∙ unmarked))
  where
    is_it : JobMark → Bool
    is_it mark = is_at (order.ghosts.cmp (mark_of sort.Runs [] [] 0)) mark

module _ (c : Cluster) (groups : Groups) (now : ℕ) where
  books_nothing : (number : ℕ) (job : Job) → runs job ≡ false → [] ≡ job_bookings c groups now (number, job)
  books_nothing number job unmarked = sym (ap (λ rows. map (running_booking c groups now (number, job)) rows) (none_runs job job.running refl unmarked))

  each_booked : (rows : List (ℕ × Job)) → AllByRecursion (λ e. at_number c.jobs e.0 ≡ Some e.1) rows → flat_map (bookings_at c groups now) (running_in rows) ≡ flat_map (job_bookings c groups now) rows
  each_booked [] found = refl
  each_booked (row ∷ rows) found =
      elim (cases_Bool (runs row.1)) [
        | inl marked ↦
            ap (λ es. flat_map (bookings_at c groups now) (keys_of es)) (cond-true _ _ _ marked)
            ∙ (λ i. bookings_of c groups now row.0 (found.0 i) ++ each_booked rows found.1 i)
        | inr unmarked ↦
            ap (λ es. flat_map (bookings_at c groups now) (keys_of es)) (cond-false _ _ _ unmarked)
            ∙ (λ i. books_nothing row.0 row.1 unmarked i ++ each_booked rows found.1 i)
      ]

  -- the jobs that bear the mark book all that running tasks book
  pub all_booked : IsStrictlySortedBy nat_cmp (keys_of c.jobs) → flat_map (bookings_at c groups now) (running_in c.jobs) ≡ flat_map (job_bookings c groups now) c.jobs
  all_booked rising = each_booked c.jobs (found_each c.jobs rising)
