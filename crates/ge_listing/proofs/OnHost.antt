-- Jobs that have no slots of a host have no orders there.
use Rattle.std.proofs.Common.{◌≡◌, ℕ, Bool, true, false, inl, inr, List, [], ◌∷◌, flat_map, Some, refl, sym, ap, ◌∙◌, fold}
use Rattle.std.specs.Prelude.{◌||◌}
use Rattle.std.specs.BTreeMap.{is_at}
use Rattle.std.specs.Cmp.Lexicographic.{texts_ties}
use Rattle.std.specs.List.{AllByRecursion, list_any}
use Rattle.std.specs.List.Sorted.{IsStrictlySortedBy}
use Rattle.std.specs.Map.{keys_of, values_of}
use Rattle.std.specs.Ordering.{nat_cmp, ordering_then, is_eq}
use Rattle.std.specs.declared.cmp.Ordering.{Ordering}
use Rattle.std.specs.declared.cmp.Ordering.TheVariants.{Less, Equal, Greater}
use Rattle.std.proofs.lemmas.Bool.{cases_Bool, cond-true, cond-false, true≢false}
use Rattle.std.proofs.lemmas.List.Folds.{list_any-append}
use Rattle.ge_collections.proofs.Walked.{found_each}
use Rattle.ge_collections.specs.Keyed.{at_number, text_cmp, text_eq}
use Rattle.ge_job_index.specs.Marked.{is_among}
use Rattle.ge_model_place.proofs.Same.{texts_equal, text_same}
use Rattle.ge_model_report.specs.Orders.{is_run_at}
use Rattle.ge_model_rows.specs.JobRows.{Job, Running, Grant}
use Rattle.ge_rows.specs.Marks.{mark_of, own_marks, grant_marks, task_marks, job_marks}
use Rattle.ge_rows.specs.declared.marks.JobMark.{JobMark}
use Rattle.ge_rows.specs.declared.marks.MarkSort.TheVariants as sort
use Rattle.ge_rows.specs.contracts.marks.JobMarkOrd.TheImpl as order
use Rattle.ge_listing.specs.Gathered.{with_order, with_orders, with_orders_of, with_orders_at, on_host}

-- of two that aren't, neither is
neither : (a b : Bool) → (a || b) ≡ false → (a ≡ false) × (b ≡ false)
neither false b none = (refl, none)
neither true b none = absurd (true≢false none)

module _ (host : List ℕ) where
  abbrev is_it : JobMark → Bool
  is_it mark = is_at (order.ghosts.cmp (mark_of sort.Host host [] 0)) mark

  -- the mark of a host's own name is it
  by_name : (name : List ℕ) → is_it (mark_of sort.Host name [] 0) ≡ text_eq host name
  by_name name = kept (text_cmp host name) ∙ sym (texts_ties host name)
    where
      kept : (o : Ordering) → is_eq (ordering_then o Equal) ≡ is_eq o
      kept Less = refl
      kept Equal = refl
      kept Greater = refl

  -- where no mark of a task is that of the host, the host doesn't run it
  not_run : (grants : List Grant) → list_any is_it (flat_map grant_marks grants) ≡ false → is_run_at host grants ≡ false
  not_run [] none = refl
  not_run (grant ∷ grants) none =
      elim (cases_Bool (text_eq grant.at.host host)) [
        | inl same ↦ absurd (true≢false (sym (by_name grant.at.host ∙ ap (text_eq host) (texts_equal grant.at.host host same) ∙ text_same host) ∙ first))
        | inr other ↦ other
      ]
    where
      first : is_it (mark_of sort.Host grant.at.host [] 0) ≡ false
      first = (neither (is_it (mark_of sort.Host grant.at.host [] 0)) (list_any is_it (flat_map grant_marks grants)) none).0

  no_order : (job : ℕ) (rows : List (ℕ × Running)) (texts : List ((ℕ × ℕ × ℕ) × List ℕ)) → list_any is_it (flat_map task_marks (values_of rows)) ≡ false → fold (with_order host job) texts rows ≡ texts
  no_order job [] texts none = refl
  no_order job (row ∷ rows) texts none =
      let parts = neither (list_any is_it (task_marks row.1)) (list_any is_it (flat_map task_marks (values_of rows)))
      (sym (list_any-append is_it (task_marks row.1) (flat_map task_marks (values_of rows))) ∙ none) in
      ap (λ next. fold (with_order host job) next rows) (cond-false _ _ _ (not_run row.1.grants parts.0)) ∙ no_order job rows texts parts.1

  abbrev bears : Job → Bool
  bears job = is_among order.ghosts.cmp (mark_of sort.Host host [] 0) (job_marks job)

  no_orders : (number : ℕ) (job : Job) (texts : List ((ℕ × ℕ × ℕ) × List ℕ)) → bears job ≡ false → texts ≡ with_orders host texts (number, job)
  no_orders number job texts unmarked =
      sym (no_order number job.running texts (neither (list_any is_it (own_marks job)) (list_any is_it (flat_map task_marks (values_of job.running)))
      (sym (list_any-append is_it (own_marks job) (flat_map task_marks (values_of job.running))) ∙ unmarked)).1)

  module _ (jobs : List (ℕ × Job)) where
    each_ordered : (rows : List (ℕ × Job)) (texts : List ((ℕ × ℕ × ℕ) × List ℕ)) → AllByRecursion (λ e. at_number jobs e.0 ≡ Some e.1) rows
        → fold (with_orders_at host jobs) texts (on_host host rows) ≡ fold (with_orders host) texts rows
    each_ordered [] texts found = refl
    each_ordered (row ∷ rows) texts found =
        elim (cases_Bool (bears row.1)) [
          | inl marked ↦
              ap (λ es. fold (with_orders_at host jobs) texts (keys_of es)) (cond-true _ _ _ marked)
              ∙ ap (λ job. fold (with_orders_at host jobs) (with_orders_of host texts row.0 job) (on_host host rows)) found.0
              ∙ each_ordered rows (with_orders host texts row) found.1
          | inr unmarked ↦
              ap (λ es. fold (with_orders_at host jobs) texts (keys_of es)) (cond-false _ _ _ unmarked)
              ∙ each_ordered rows texts found.1
              ∙ ap (λ next. fold (with_orders host) next rows) (no_orders row.0 row.1 texts unmarked)
        ]

    -- the jobs that bear the mark give all orders
    pub all_ordered : IsStrictlySortedBy nat_cmp (keys_of jobs) → fold (with_orders_at host jobs) [] (on_host host jobs) ≡ fold (with_orders host) [] jobs
    all_ordered rising = each_ordered jobs [] (found_each jobs rising)
