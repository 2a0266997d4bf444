-- A job bears the mark of an attribute exactly where it asks for it, so all ask for it of which as many bear the mark.
use Rattle.std.proofs.Common.{◌≡◌, ℕ, zero, suc, ◌≤◌, ◌==◌, ◌&&◌, ◌||◌, Bool, true, false, cond, List, [], ◌∷◌, ◌++◌, filter, flat_map, map, length, refl, ap, ◌∙◌, arith}
use Rattle.std.specs.Prelude.{Option, Some, None, is_some}
use Rattle.std.specs.BTreeMap.{is_at}
use Rattle.std.specs.List.{list_any, list_all}
use Rattle.std.specs.Map.{keys_of, values_of, lookup}
use Rattle.std.specs.Ordering.{ordering_then, is_eq}
use Rattle.std.specs.declared.cmp.Ordering.{Ordering}
use Rattle.std.specs.declared.cmp.Ordering.TheVariants.{Less, Equal, Greater}
use Rattle.std.proofs.lemmas.List.Folds.{list_any-append}
use Rattle.ge_job_index.specs.Asked.{bearers_of}
use Rattle.ge_collections.specs.Keyed.{text_cmp}
use Rattle.ge_rows.specs.declared.jobs.Running.{Running}
use Rattle.ge_rows.specs.declared.jobs.Grant.{Grant}
use Rattle.ge_rows.specs.declared.jobs.Job.{Job}
use Rattle.ge_rows.specs.declared.jobs.PeRequest.{PeRequest}
use Rattle.ge_rows.specs.declared.marks.JobMark.{JobMark}
use Rattle.ge_rows.specs.declared.marks.MarkSort.TheVariants as sort
use Rattle.ge_rows.specs.Marks.{mark_of, project_marks, advance_marks, pe_marks, attribute_mark, grant_marks, task_marks, own_marks, job_marks}
use Rattle.ge_rows.specs.contracts.marks.JobMarkOrd.TheImpl as order
use Rattle.ge_model_place.specs.Opening.{has_value}
use Rattle.ge_model_rows.specs.ValueRows.{Value}
use Rattle.ge_attempts.specs.Amounts.{asks_itself}

alone : (b : Bool) → (b || false) ≡ b
alone true = refl
alone false = refl

-- ---- as many of a list as the list has

passing : {X : Type 0} (test : X → Bool) (xs : List X) → length (filter test xs) ≤ length xs
passing test [] = omega arith
passing test (x ∷ xs) = by (test x) (passing test xs)
  where
    by : (b : Bool) → length (filter test xs) ≤ length xs → length (cond b (x ∷ filter test xs) (filter test xs)) ≤ length (x ∷ xs)
    by true rest = omega (arith, rest)
    by false rest = omega (arith, rest)

one_less : (n m : ℕ) → n ≤ m → (n == suc m) ≡ false
one_less n m below = grind (arith, below)

same_suc : (n m : ℕ) → (suc n == suc m) ≡ (n == m)
same_suc n m = grind arith

all_pass : {X : Type 0} (test : X → Bool) (xs : List X) → (length (filter test xs) == length xs) ≡ list_all test xs
all_pass test [] = refl
all_pass test (x ∷ xs) = by (test x) (all_pass test xs)
  where
    by : (b : Bool) → (length (filter test xs) == length xs) ≡ list_all test xs → (length (cond b (x ∷ filter test xs) (filter test xs)) == length (x ∷ xs)) ≡ (b && list_all test xs)
    by true rest = same_suc (length (filter test xs)) (length xs) ∙ rest
    by false rest = one_less (length (filter test xs)) (length xs) (passing test xs)

keys_all : {X Y : Type 0} (rows : List (X × Y)) → length (keys_of rows) ≡ length rows
keys_all [] = refl
keys_all (row ∷ rows) = ap suc (keys_all rows)

same_all : {X : Type 0} (f g : X → Bool) (xs : List X) → ((x : X) → f x ≡ g x) → list_all f xs ≡ list_all g xs
same_all f g [] alike = refl
same_all f g (x ∷ xs) alike = (λ i. alike x i && same_all f g xs alike i)

-- ---- the mark of an attribute

module _ (name : List ℕ) where
  abbrev is_it : JobMark → Bool
  is_it mark = is_at (order.ghosts.cmp (mark_of sort.Attribute name [] 0)) mark

  on_project : (project : List ℕ) → list_any is_it (project_marks project) ≡ false
  on_project [] = refl
  on_project (byte ∷ project) = refl

  on_advance : (n : ℕ) → list_any is_it (advance_marks n) ≡ false
  on_advance zero = refl
  on_advance (suc n) = refl

  on_pe : (pe : Option PeRequest) → list_any is_it (pe_marks pe) ≡ false
  on_pe None = refl
  on_pe (Some pe) = refl

  on_grants : (grants : List Grant) → list_any is_it (flat_map grant_marks grants) ≡ false
  on_grants [] = refl
  on_grants (grant ∷ grants) = on_grants grants

  on_task : (task : Running) → list_any is_it (task_marks task) ≡ false
  on_task task =
      list_any-append is_it (mark_of sort.Runs [] [] 0 ∷ mark_of sort.Serial [] [] task.serial ∷ []) (flat_map grant_marks task.grants)
      ∙ on_grants task.grants

  on_tasks : (rows : List (ℕ × Running)) → list_any is_it (flat_map task_marks (values_of rows)) ≡ false
  on_tasks [] = refl
  on_tasks (row ∷ rows) =
      list_any-append is_it (task_marks row.1) (flat_map task_marks (values_of rows)) ∙ (λ i. on_task row.1 i || on_tasks rows i)

  on_asked : (names : List (List ℕ)) → list_any is_it (map attribute_mark names) ≡ list_any (λ key. is_at (text_cmp name) key) names
  on_asked [] = refl
  on_asked (key ∷ keys) = (λ i. kept (text_cmp name key) i || on_asked keys i)
    where
      kept : (o : Ordering) → is_eq (ordering_then o Equal) ≡ is_eq o
      kept Less = refl
      kept Equal = refl
      kept Greater = refl

  has_key : (rows : List (List ℕ × Value)) → list_any (λ key. is_at (text_cmp name) key) (keys_of rows) ≡ has_value rows name
  has_key [] = refl
  has_key (row ∷ rows) = by (is_at (text_cmp name) row.0) (has_key rows)
    where
      by : (b : Bool) → list_any (λ key. is_at (text_cmp name) key) (keys_of rows) ≡ has_value rows name
          → (b || list_any (λ key. is_at (text_cmp name) key) (keys_of rows)) ≡ is_some (cond b (Some row.1) (lookup (is_at (text_cmp name)) rows))
      by true rest = refl
      by false rest = rest

  on_own : (job : Job) → list_any is_it (own_marks job) ≡ has_value job.request.asked name
  on_own job =
      list_any-append is_it (((one ++ project_marks job.project) ++ advance_marks job.advance) ++ pe_marks job.request.pe) (map attribute_mark (keys_of job.request.asked))
      ∙ (λ i. list_any-append is_it ((one ++ project_marks job.project) ++ advance_marks job.advance) (pe_marks job.request.pe) i || on_asked (keys_of job.request.asked) i)
      ∙ (λ i. (list_any-append is_it (one ++ project_marks job.project) (advance_marks job.advance) i || on_pe job.request.pe i) || asked)
      ∙ (λ i. ((list_any-append is_it one (project_marks job.project) i || on_advance job.advance i) || false) || asked)
      ∙ (λ i. ((on_project job.project i || false) || false) || asked)
      ∙ has_key job.request.asked
    where
      one : List JobMark
      one = mark_of sort.Owner job.owner job.name 0 ∷ []

      asked : Bool
      asked = list_any (λ key. is_at (text_cmp name) key) (keys_of job.request.asked)

  -- a job bears the mark where it asks for the attribute
  bears_it : (row : ℕ × Job) → list_any is_it (job_marks row.1) ≡ asks_itself name row
  bears_it row =
      list_any-append is_it (own_marks row.1) (flat_map task_marks (values_of row.1.running))
      ∙ (λ i. on_own row.1 i || on_tasks row.1.running i)
      ∙ alone (has_value row.1.request.asked name)

  -- as many bear it as there are jobs where all ask for it
  pub as_many : (jobs : List (ℕ × Job)) → (length (bearers_of order.ghosts.cmp job_marks (mark_of sort.Attribute name [] 0) jobs) == length jobs) ≡ list_all (asks_itself name) jobs
  as_many jobs =
      ap (λ n. n == length jobs) (keys_all (filter (λ row. list_any is_it (job_marks row.1)) jobs))
      ∙ all_pass (λ row. list_any is_it (job_marks row.1)) jobs
      ∙ same_all (λ row. list_any is_it (job_marks row.1)) (asks_itself name) jobs bears_it
