-- A change of one job's row is that of another change that does the same to this job.
use Rattle.std.proofs.Common.{◌≡◌, ℕ, Bool, true, false, cond, if◌then◌else◌, List, [], ◌∷◌, refl, sym, ap, ◌∙◌}
use Rattle.std.specs.Prelude.{Option, Some, None}
use Rattle.std.specs.BTreeMap.{is_at}
use Rattle.std.specs.Ordering.{nat_cmp}
use Rattle.ge_collections.specs.Changed.{change_value}
use Rattle.ge_collections.specs.Keyed.{at_number, drop_number}
use Rattle.ge_collections.proofs.Changed.{change_value-absent}
use Rattle.ge_model_rows.specs.JobRows.{Job}
use Rattle.ge_model_rows.specs.TaskRows.{TaskSpan}
use Rattle.ge_model_jobs.specs.Ending.{has_no_task, lose_tasks, without_picked, cleared, clear_from}

value : {T : Type 0} (x y : T) → Some x ≡ Some y → x ≡ y
value x y h = cc

module _ (change other : Job → Job) (number : ℕ) (job : Job) (same : change job ≡ other job) where
  same_change : (jobs : List (ℕ × Job)) → at_number jobs number ≡ Some job
      → change_value (is_at (nat_cmp number)) change jobs ≡ change_value (is_at (nat_cmp number)) other jobs
  same_change [] there = refl
  same_change (row ∷ rows) there = by (is_at (nat_cmp number) row.0) (same_change rows) there
    where
      changed : List (ℕ × Job)
      changed = change_value (is_at (nat_cmp number)) change rows

      others : List (ℕ × Job)
      others = change_value (is_at (nat_cmp number)) other rows

      by : (here : Bool) → (at_number rows number ≡ Some job → changed ≡ others) → cond here (Some row.1) (at_number rows number) ≡ Some job
          → cond here ((row.0, change row.1) ∷ rows) (row ∷ changed) ≡ cond here ((row.0, other row.1) ∷ rows) (row ∷ others)
      by true again is =
          let e : row.1 ≡ job = value row.1 job is in
          let after : change row.1 ≡ other row.1 = ap change e ∙ same ∙ sym (ap other e) in
          λ i. (row.0, after i) ∷ rows
      by false again is = ap (λ (rs : List (ℕ × Job)). row ∷ rs) (again is)

  abbrev loss : (Job → Job) → List (ℕ × Job) → Option Job → List (ℕ × Job)
  loss f jobs found = elim found as (λ x. List (ℕ × Job)) [
    | None ↦ jobs
    | Some j ↦ if has_no_task (f j) then drop_number jobs number else change_value (is_at (nat_cmp number)) f jobs
  ]

  same_loss : (jobs : List (ℕ × Job)) → at_number jobs number ≡ Some job → lose_tasks change jobs number ≡ lose_tasks other jobs number
  same_loss jobs there =
      let after = same_change jobs there in
      ap (loss change jobs) there
      ∙ (λ i. if has_no_task (same i) then drop_number jobs number else after i)
      ∙ sym (ap (loss other jobs) there)

pub delete_narrowed : (force : Bool) (job : Job) (part tasks : Option (List TaskSpan)) (jobs new : List (ℕ × Job)) (number : ℕ) → Some job ≡ at_number jobs number
    → ((b : Bool) → without_picked b part job ≡ without_picked b tasks job) → new ≡ lose_tasks (without_picked force part) jobs number
    → new ≡ lose_tasks (without_picked force tasks) jobs number
delete_narrowed force job part tasks jobs new number there same is =
    is ∙ same_loss (without_picked force part) (without_picked force tasks) number job (same force) jobs (sym there)

pub clear_narrowed : (job : Job) (part tasks : Option (List TaskSpan)) (jobs new : List (ℕ × Job)) (number : ℕ) → Some job ≡ at_number jobs number
    → cleared part job ≡ cleared tasks job → new ≡ clear_from jobs (number, part) → new ≡ clear_from jobs (number, tasks)
clear_narrowed job part tasks jobs new number there same is = is ∙ same_change (cleared part) (cleared tasks) number job same jobs (sym there)

pub none_cleared : (tasks : Option (List TaskSpan)) (jobs new : List (ℕ × Job)) (number : ℕ) → None ≡ at_number jobs number → new ≡ jobs → new ≡ clear_from jobs (number, tasks)
none_cleared tasks jobs new number none stays = change_value-absent (is_at (nat_cmp number)) (cleared tasks) jobs jobs new refl (sym none) stays
