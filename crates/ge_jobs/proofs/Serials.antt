-- A job bears the mark of a serial exactly where it runs a task that has it.
use Rattle.std.proofs.Common.{◌≡◌, ℕ, List, [], ◌∷◌, find, Bool, cond, Option, Some, None, is_some, option_map, refl, ◌∙◌}
use Rattle.std.specs.List.{list_any}
use Rattle.std.specs.BTreeMap.{is_at}
use Rattle.ge_model_jobs.proofs.BorneMarks.{of_serial, at_serial}
use Rattle.ge_rows.specs.declared.jobs.Job.{Job}
use Rattle.ge_rows.specs.declared.marks.JobMark.{JobMark}
use Rattle.ge_rows.specs.declared.marks.MarkSort.TheVariants as sort
use Rattle.ge_rows.specs.Marks.{mark_of, job_marks}
use Rattle.ge_rows.specs.contracts.marks.JobMarkOrd.TheImpl as order
use Rattle.ge_model_jobs.specs.Serials.{runs_serial}

-- two tests that are the same find the same
pub same_find : {A : Type 0} (f g : A → Bool) (xs : List A) → ((x : A) → f x ≡ g x) → find f xs ≡ find g xs
same_find f g [] same = refl
same_find f g (x ∷ xs) same = (λ i. cond (same x i) (Some x) (same_find f g xs same i))

-- what is made of a value is there where the value is
pub some_made : {A B : Type 0} (f : A → B) (o : Option A) → is_some (option_map f o) ≡ is_some o
some_made f None = refl
some_made f (Some x) = refl

module _ (serial : ℕ) where
  -- whether a mark is that of the serial
  abbrev is_it : JobMark → Bool
  is_it mark = is_at (order.ghosts.cmp (mark_of sort.Serial [] [] serial)) mark

  -- a job bears the mark of a serial
  pub bears_serial : (row : ℕ × Job) → list_any is_it (job_marks row.1) ≡ runs_serial serial row
  bears_serial row =
      of_serial is_it (record {
        runs = λ name other n. refl;
        queue = λ name other n. refl;
        host = λ name other n. refl;
        project = λ name other n. refl;
        pe = λ name other n. refl;
        attribute = λ name other n. refl;
      }) (λ name other n. refl) (λ name other n. refl) row.1
      ∙ (λ i. list_any (λ task. at_serial serial task.1.serial i) row.1.running)
