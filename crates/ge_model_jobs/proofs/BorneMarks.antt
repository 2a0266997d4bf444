-- Whether a job bears a mark that passes a test, where the test passes marks of one sort alone.
use Rattle.std.proofs.Common.{◌≡◌, ℕ, zero, suc, ◌≤◌, ◌==◌, ◌||◌, List, [], ◌∷◌, ◌++◌, flat_map, map, Bool, true, false, refl, ap, ◌∙◌, arith}
use Rattle.std.specs.List.{list_any}
use Rattle.std.specs.Map.{keys_of, values_of}
use Rattle.std.specs.Prelude.{Option, Some, None}
use Rattle.std.specs.BTreeMap.{is_at}
use Rattle.std.specs.Ordering.{ordering_then, is_eq, nat_cmp}
use Rattle.std.specs.declared.cmp.Ordering.{Ordering}
use Rattle.std.specs.declared.cmp.Ordering.TheVariants.{Less, Equal, Greater}
use Rattle.std.proofs.lemmas.List.Folds.{list_any-append}
use Rattle.ge_model_jobs.specs.Starting.{is_joined}
use Rattle.ge_model_jobs.proofs.Keys.{same_key}
use Rattle.ge_rows.specs.declared.jobs.Running.{Running}
use Rattle.ge_rows.specs.declared.jobs.Grant.{Grant}
use Rattle.ge_rows.specs.declared.jobs.Job.{Job}
use Rattle.ge_rows.specs.declared.jobs.PeRequest.{PeRequest}
use Rattle.ge_rows.specs.declared.marks.JobMark.{JobMark}
use Rattle.ge_rows.specs.declared.marks.MarkSort.{MarkSort}
use Rattle.ge_rows.specs.declared.marks.MarkSort.TheVariants as sort
use Rattle.ge_rows.specs.Marks.{mark_of, project_marks, advance_marks, pe_marks, attribute_mark, grant_marks, task_marks, own_marks, job_marks}
use Rattle.ge_rows.specs.contracts.marks.JobMarkOrd.TheImpl as order

alone : (b : Bool) → (b || false) ≡ b
alone true = refl
alone false = refl

-- no mark of a sort passes the test
abbrev pub Lacks : (JobMark → Bool) → MarkSort → Type 0
Lacks test kind = (name other : List ℕ) (n : ℕ) → test (mark_of kind name other n) ≡ false

-- none of a sort but an owner's, a reservation's and a serial's does
pub record LacksMost (test : JobMark → Bool) : Type 0 where
  pub runs : Lacks test sort.Runs
  pub queue : Lacks test sort.Queue
  pub host : Lacks test sort.Host
  pub project : Lacks test sort.Project
  pub pe : Lacks test sort.Pe
  pub attribute : Lacks test sort.Attribute

module _ (test : JobMark → Bool) (most : LacksMost test) where
  with_none : (xs ys : List JobMark) → list_any test ys ≡ false → list_any test (xs ++ ys) ≡ list_any test xs
  with_none xs ys none = list_any-append test xs ys ∙ ap (λ t. list_any test xs || t) none ∙ alone (list_any test xs)

  unmet : (mark : JobMark) → test mark ≡ false → list_any test (mark ∷ []) ≡ false
  unmet mark none = alone (test mark) ∙ none

  no_project : (name : List ℕ) → list_any test (project_marks name) ≡ false
  no_project [] = refl
  no_project (byte ∷ name) = unmet (mark_of sort.Project (byte ∷ name) [] 0) (most.project (byte ∷ name) [] 0)

  no_advance : Lacks test sort.Advance → (n : ℕ) → list_any test (advance_marks n) ≡ false
  no_advance advance zero = refl
  no_advance advance (suc n) = unmet (mark_of sort.Advance [] [] (suc n)) (advance [] [] (suc n))

  no_pe : (pe : Option PeRequest) → list_any test (pe_marks pe) ≡ false
  no_pe None = refl
  no_pe (Some pe) = unmet (mark_of sort.Pe pe.name [] 0) (most.pe pe.name [] 0)

  no_attribute : (names : List (List ℕ)) → list_any test (map attribute_mark names) ≡ false
  no_attribute [] = refl
  no_attribute (name ∷ names) = (λ i. most.attribute name [] 0 i || no_attribute names i)

  no_grants : (grants : List Grant) → list_any test (flat_map grant_marks grants) ≡ false
  no_grants [] = refl
  no_grants (grant ∷ grants) =
      (λ i. most.queue grant.at.queue [] 0 i || (most.host grant.at.host [] 0 i || no_grants grants i))

  -- of a running task its serial is left
  of_task : (task : Running) → list_any test (task_marks task) ≡ test (mark_of sort.Serial [] [] task.serial)
  of_task task =
      with_none (mark_of sort.Runs [] [] 0 ∷ mark_of sort.Serial [] [] task.serial ∷ []) (flat_map grant_marks task.grants) (no_grants task.grants)
      ∙ (λ i. most.runs [] [] 0 i || alone (test (mark_of sort.Serial [] [] task.serial)) i)

  of_tasks : (rows : List (ℕ × Running)) → list_any test (flat_map task_marks (values_of rows)) ≡ list_any (λ row. test (mark_of sort.Serial [] [] row.1.serial)) rows
  of_tasks [] = refl
  of_tasks (row ∷ rows) =
      list_any-append test (task_marks row.1) (flat_map task_marks (values_of rows)) ∙ (λ i. of_task row.1 i || of_tasks rows i)

  no_tasks : Lacks test sort.Serial → (rows : List (ℕ × Running)) → list_any test (flat_map task_marks (values_of rows)) ≡ false
  no_tasks serial rows = of_tasks rows ∙ none rows
    where
      none : (rows : List (ℕ × Running)) → list_any (λ row. test (mark_of sort.Serial [] [] row.1.serial)) rows ≡ false
      none [] = refl
      none (row ∷ rows) = (λ i. serial [] [] row.1.serial i || none rows i)

  -- of what a job names its owner and its reservation are left
  of_own : (job : Job) → list_any test (own_marks job) ≡ (test (mark_of sort.Owner job.owner job.name 0) || list_any test (advance_marks job.advance))
  of_own job =
      with_none (((one ++ project_marks job.project) ++ advance_marks job.advance) ++ pe_marks job.request.pe) (map attribute_mark (keys_of job.request.asked)) (no_attribute (keys_of job.request.asked))
      ∙ with_none ((one ++ project_marks job.project) ++ advance_marks job.advance) (pe_marks job.request.pe) (no_pe job.request.pe)
      ∙ list_any-append test (one ++ project_marks job.project) (advance_marks job.advance)
      ∙ ap (λ t. t || list_any test (advance_marks job.advance)) (with_none one (project_marks job.project) (no_project job.project) ∙ alone (test (mark_of sort.Owner job.owner job.name 0)))
    where
      one : List JobMark
      one = mark_of sort.Owner job.owner job.name 0 ∷ []

  parts : (job : Job) → list_any test (job_marks job) ≡ (list_any test (own_marks job) || list_any test (flat_map task_marks (values_of job.running)))
  parts job = list_any-append test (own_marks job) (flat_map task_marks (values_of job.running))

  -- a test of owners
  pub of_owner : Lacks test sort.Advance → Lacks test sort.Serial → (job : Job) → list_any test (job_marks job) ≡ test (mark_of sort.Owner job.owner job.name 0)
  of_owner advance serial job =
      parts job ∙ (λ i. of_own job i || no_tasks serial job.running i)
      ∙ alone (test (mark_of sort.Owner job.owner job.name 0) || list_any test (advance_marks job.advance))
      ∙ ap (λ t. test (mark_of sort.Owner job.owner job.name 0) || t) (no_advance advance job.advance)
      ∙ alone (test (mark_of sort.Owner job.owner job.name 0))

  -- of reservations
  of_advance : Lacks test sort.Owner → Lacks test sort.Serial → (job : Job) → list_any test (job_marks job) ≡ list_any test (advance_marks job.advance)
  of_advance owner serial job =
      parts job ∙ (λ i. of_own job i || no_tasks serial job.running i)
      ∙ alone (test (mark_of sort.Owner job.owner job.name 0) || list_any test (advance_marks job.advance))
      ∙ ap (λ t. t || list_any test (advance_marks job.advance)) (owner job.owner job.name 0)

  -- of serials
  pub of_serial : Lacks test sort.Owner → Lacks test sort.Advance → (job : Job)
      → list_any test (job_marks job) ≡ list_any (λ row. test (mark_of sort.Serial [] [] row.1.serial)) job.running
  of_serial owner advance job =
      parts job
      ∙ (λ i. (of_own job ∙ (λ j. owner job.owner job.name 0 j || no_advance advance job.advance j)) i || of_tasks job.running i)

-- whether two numbers are one, asked either way
turned : (a b : ℕ) → (a == b) ≡ (b == a)
turned a b = grind arith

-- behind numbers there are no names
number_alone : (o : Ordering) → is_eq (ordering_then o Equal) ≡ is_eq o
number_alone Less = refl
number_alone Equal = refl
number_alone Greater = refl

pub is_serial : (serial n : ℕ) → is_at (nat_cmp serial) n ≡ (n == serial)
is_serial serial n = same_key serial n ∙ turned serial n

-- a mark is at another of its sort with no names where their numbers are one
pub at_serial : (serial n : ℕ) → is_at (order.ghosts.cmp (mark_of sort.Serial [] [] serial)) (mark_of sort.Serial [] [] n) ≡ (n == serial)
at_serial serial n = number_alone (nat_cmp serial n) ∙ is_serial serial n

module _ (number : ℕ) (some : 1 ≤ number) where
  abbrev is_it : JobMark → Bool
  is_it mark = is_at (order.ghosts.cmp (mark_of sort.Advance [] [] number)) mark

  none_there : (m : ℕ) → 1 ≤ m → false ≡ (0 == m)
  none_there m p = grind arith

  on_advance : (n : ℕ) → list_any is_it (advance_marks n) ≡ (n == number)
  on_advance zero = none_there number some
  on_advance (suc n) = alone (is_it (mark_of sort.Advance [] [] (suc n))) ∙ number_alone (nat_cmp number (suc n)) ∙ is_serial number (suc n)

  -- a job bears the mark of a reservation exactly where it names it
  bears_advance : (job : Job) → list_any is_it (job_marks job) ≡ (job.advance == number)
  bears_advance job =
      of_advance is_it (record {
        runs = λ name other n. refl;
        queue = λ name other n. refl;
        host = λ name other n. refl;
        project = λ name other n. refl;
        pe = λ name other n. refl;
        attribute = λ name other n. refl;
      }) (λ name other n. refl) (λ name other n. refl) job
      ∙ on_advance job.advance

  pub borne_is_joined : (jobs : List (ℕ × Job)) → list_any (λ row. list_any is_it (job_marks row.1)) jobs ≡ is_joined jobs number
  borne_is_joined jobs = (λ i. list_any (λ row. bears_advance row.1 i) jobs)
