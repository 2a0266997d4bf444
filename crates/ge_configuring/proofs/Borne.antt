-- Which live jobs bear the mark of a queue, a host, a project, a parallel environment or an attribute: those that have it, or ask for it.
use Rattle.std.proofs.Common.{◌≡◌, ℕ, zero, suc, ◌||◌, Bool, true, false, IsTrue, ◌↔◌, List, [], ◌∷◌, ◌++◌, flat_map, map, refl, sym, ◌∙◌}
use Rattle.std.specs.Prelude.{Option, Some, None}
use Rattle.std.specs.BTreeMap.{is_at}
use Rattle.std.specs.List.{list_any}
use Rattle.std.specs.Map.{keys_of, values_of}
use Rattle.std.specs.Ordering.{ordering_then, is_eq}
use Rattle.std.specs.declared.cmp.Ordering.{Ordering}
use Rattle.std.specs.declared.cmp.Ordering.TheVariants.{Less, Equal, Greater}
use Rattle.std.proofs.lemmas.List.Folds.{list_any-append}
use Rattle.ge_job_index.specs.Asked.{is_borne}
use Rattle.ge_collections.specs.Keyed.{text_cmp, text_eq}
use Rattle.ge_rows.specs.declared.jobs.Running.{Running}
use Rattle.ge_rows.specs.declared.jobs.Grant.{Grant}
use Rattle.ge_rows.specs.declared.jobs.Job.{Job}
use Rattle.ge_rows.specs.declared.jobs.PeRequest.{PeRequest}
use Rattle.ge_rows.specs.declared.marks.JobMark.{JobMark}
use Rattle.ge_rows.specs.declared.marks.MarkSort.{MarkSort}
use Rattle.ge_rows.specs.declared.marks.MarkSort.TheVariants as sort
use Rattle.ge_rows.specs.Marks.{mark_of, project_marks, advance_marks, pe_marks, attribute_mark, grant_marks, task_marks, own_marks, job_marks}
use Rattle.ge_rows.specs.contracts.marks.JobMarkOrd.TheImpl as order
use Rattle.ge_model_config.specs.Cited.{has_name}
use Rattle.ge_model_config.specs.Used.{asks_pe}
use Rattle.ge_configuring.proofs.OpeningNames.{at_same, has_key}

-- two tests that are the same find some alike
same_any : {A : Type 0} (f g : A → Bool) (xs : List A) → ((x : A) → f x ≡ g x) → list_any f xs ≡ list_any g xs
same_any f g [] same = refl
same_any f g (x ∷ xs) same = (λ i. same x i || same_any f g xs same i)

none_of : {A : Type 0} (xs : List A) → list_any (λ x. false) xs ≡ false
none_of [] = refl
none_of (x ∷ xs) = none_of xs

alone : (b : Bool) → (b || false) ≡ b
alone true = refl
alone false = refl

-- whether a job's project passes a test, if it has one
abbrev of_project : (List ℕ → Bool) → List ℕ → Bool
of_project test [] = false
of_project test (byte ∷ name) = test (byte ∷ name)

no_project : (name : List ℕ) → of_project (λ n. false) name ≡ false
no_project [] = refl
no_project (byte ∷ name) = refl

-- whether the parallel environment that is asked for does, if one is
abbrev of_pe : (List ℕ → Bool) → Option PeRequest → Bool
of_pe test None = false
of_pe test (Some pe) = test pe.name

no_pe : (pe : Option PeRequest) → of_pe (λ n. false) pe ≡ false
no_pe None = refl
no_pe (Some pe) = refl

-- a test that only marks of projects, parallel environments, attributes, queues and hosts may pass
module _ (test : JobMark → Bool)
    (owner : (o n : List ℕ) → test (mark_of sort.Owner o n 0) ≡ false)
    (advance : (n : ℕ) → test (mark_of sort.Advance [] [] n) ≡ false)
    (runs : test (mark_of sort.Runs [] [] 0) ≡ false)
    (serial : (n : ℕ) → test (mark_of sort.Serial [] [] n) ≡ false) where
  abbrev passes : MarkSort → List ℕ → Bool
  passes s name = test (mark_of s name [] 0)

  -- whether the queue or the host of a grant passes
  abbrev on_grant : Grant → Bool
  on_grant grant = passes sort.Queue grant.at.queue || passes sort.Host grant.at.host

  on_project : (name : List ℕ) → list_any test (project_marks name) ≡ of_project (passes sort.Project) name
  on_project [] = refl
  on_project (byte ∷ name) = alone (passes sort.Project (byte ∷ name))

  on_advance : (n : ℕ) → list_any test (advance_marks n) ≡ false
  on_advance zero = refl
  on_advance (suc n) = alone (test (mark_of sort.Advance [] [] (suc n))) ∙ advance (suc n)

  on_pe : (pe : Option PeRequest) → list_any test (pe_marks pe) ≡ of_pe (passes sort.Pe) pe
  on_pe None = refl
  on_pe (Some pe) = alone (passes sort.Pe pe.name)

  on_attributes : (names : List (List ℕ)) → list_any test (map attribute_mark names) ≡ list_any (passes sort.Attribute) names
  on_attributes [] = refl
  on_attributes (name ∷ names) = (λ i. passes sort.Attribute name || on_attributes names i)

  on_grants : (grants : List Grant) → list_any test (flat_map grant_marks grants) ≡ list_any on_grant grants
  on_grants [] = refl
  on_grants (grant ∷ grants) = joined (passes sort.Queue grant.at.queue) (passes sort.Host grant.at.host) (on_grants grants)
    where
      joined : (q h : Bool) {a b : Bool} → a ≡ b → (q || (h || a)) ≡ ((q || h) || b)
      joined true h same = refl
      joined false h same = (λ i. h || same i)

  on_task : (task : Running) → list_any test (task_marks task) ≡ list_any on_grant task.grants
  on_task task =
      list_any-append test (mark_of sort.Runs [] [] 0 ∷ mark_of sort.Serial [] [] task.serial ∷ []) (flat_map grant_marks task.grants)
      ∙ (λ i. (runs i || (serial task.serial i || false)) || on_grants task.grants i)

  on_tasks : (rows : List (ℕ × Running)) → list_any test (flat_map task_marks (values_of rows)) ≡ list_any (λ task. list_any on_grant task.1.grants) rows
  on_tasks [] = refl
  on_tasks (row ∷ rows) =
      list_any-append test (task_marks row.1) (flat_map task_marks (values_of rows)) ∙ (λ i. on_task row.1 i || on_tasks rows i)

  -- what a job names
  abbrev names_it : Job → Bool
  names_it job =
      (of_project (passes sort.Project) job.project || of_pe (passes sort.Pe) job.request.pe) || list_any (passes sort.Attribute) (keys_of job.request.asked)

  on_own : (job : Job) → list_any test (own_marks job) ≡ names_it job
  on_own job =
      list_any-append test (((one ++ project_marks job.project) ++ advance_marks job.advance) ++ pe_marks job.request.pe) (map attribute_mark (keys_of job.request.asked))
      ∙ (λ i. list_any-append test ((one ++ project_marks job.project) ++ advance_marks job.advance) (pe_marks job.request.pe) i || on_attributes (keys_of job.request.asked) i)
      ∙ (λ i. (list_any-append test (one ++ project_marks job.project) (advance_marks job.advance) i || on_pe job.request.pe i) || asked)
      ∙ (λ i. ((list_any-append test one (project_marks job.project) i || on_advance job.advance i) || pe) || asked)
      ∙ (λ i. ((((owner job.owner job.name i || false) || on_project job.project i) || false) || pe) || asked)
      ∙ (λ i. (alone (of_project (passes sort.Project) job.project) i || pe) || asked)
    where
      one : List JobMark
      one = mark_of sort.Owner job.owner job.name 0 ∷ []

      asked : Bool
      asked = list_any (passes sort.Attribute) (keys_of job.request.asked)

      pe : Bool
      pe = of_pe (passes sort.Pe) job.request.pe

  -- some job bears a mark that passes
  borne : (holds : Job → Bool) (jobs : List (ℕ × Job))
      → ((job : Job) → (names_it job || list_any (λ task. list_any on_grant task.1.grants) job.running) ≡ holds job)
      → list_any (λ row. list_any test (job_marks row.1)) jobs ≡ list_any (λ row. holds row.1) jobs
  borne holds jobs same = same_any _ _ jobs (λ row.
      list_any-append test (own_marks row.1) (flat_map task_marks (values_of row.1.running))
      ∙ (λ i. on_own row.1 i || on_tasks row.1.running i) ∙ same row.1)

-- nothing of the tasks of a job
no_tasks : (rows : List (ℕ × Running)) → list_any (λ task. list_any (λ (grant : Grant). false) task.1.grants) rows ≡ false
no_tasks rows = same_any _ _ rows (λ task. none_of task.1.grants) ∙ none_of rows

-- where names alone decide
by_name : (a b : List ℕ) → is_eq (ordering_then (text_cmp a b) Equal) ≡ text_eq a b
by_name a b = kept (text_cmp a b) ∙ at_same a b
  where
    kept : (o : Ordering) → is_eq (ordering_then o Equal) ≡ is_eq o
    kept Less = refl
    kept Equal = refl
    kept Greater = refl

module _ (name : List ℕ) (jobs : List (ℕ × Job)) where
  -- whether a mark is that of a sort with the name
  abbrev is_it : MarkSort → JobMark → Bool
  is_it s mark = is_at (order.ghosts.cmp (mark_of s name [] 0)) mark

  pub on_queue : is_borne order.ghosts.cmp job_marks (mark_of sort.Queue name [] 0) jobs
      ≡ list_any (λ job. list_any (λ task. list_any (λ grant. text_eq name grant.at.queue) task.1.grants) job.1.running) jobs
  on_queue =
      borne (is_it sort.Queue) (λ o n. refl) (λ n. refl) refl (λ n. refl)
      (λ job. list_any (λ task. list_any (λ grant. text_eq name grant.at.queue) task.1.grants) job.running) jobs (λ job.
      (λ i. ((no_project job.project i || no_pe job.request.pe i) || none_of (keys_of job.request.asked) i)
      || same_any _ _ job.running (λ task. same_any _ _ task.1.grants (λ grant. alone _ ∙ by_name name grant.at.queue)) i))

  pub on_host : is_borne order.ghosts.cmp job_marks (mark_of sort.Host name [] 0) jobs
      ≡ list_any (λ job. list_any (λ task. list_any (λ grant. text_eq name grant.at.host) task.1.grants) job.1.running) jobs
  on_host =
      borne (is_it sort.Host) (λ o n. refl) (λ n. refl) refl (λ n. refl)
      (λ job. list_any (λ task. list_any (λ grant. text_eq name grant.at.host) task.1.grants) job.running) jobs (λ job.
      (λ i. ((no_project job.project i || no_pe job.request.pe i) || none_of (keys_of job.request.asked) i)
      || same_any _ _ job.running (λ task. same_any _ _ task.1.grants (λ grant. by_name name grant.at.host)) i))

  pub on_pe_asked : is_borne order.ghosts.cmp job_marks (mark_of sort.Pe name [] 0) jobs ≡ list_any (λ job. asks_pe name job.1.request.pe) jobs
  on_pe_asked =
      borne (is_it sort.Pe) (λ o n. refl) (λ n. refl) refl (λ n. refl) (λ job. asks_pe name job.request.pe) jobs (λ job.
      (λ i. ((no_project job.project i || asked job.request.pe i) || none_of (keys_of job.request.asked) i) || no_tasks job.running i)
      ∙ alone _ ∙ alone _)
    where
      asked : (pe : Option PeRequest) → of_pe (λ n. is_it sort.Pe (mark_of sort.Pe n [] 0)) pe ≡ asks_pe name pe
      asked None = refl
      asked (Some pe) = by_name name pe.name

  pub on_attribute : is_borne order.ghosts.cmp job_marks (mark_of sort.Attribute name [] 0) jobs ≡ list_any (λ job. has_name job.1.request.asked name) jobs
  on_attribute =
      borne (is_it sort.Attribute) (λ o n. refl) (λ n. refl) refl (λ n. refl) (λ job. has_name job.request.asked name) jobs (λ job.
      (λ i. ((no_project job.project i || no_pe job.request.pe i) || same_any _ _ (keys_of job.request.asked) (λ n. by_name name n) i) || no_tasks job.running i)
      ∙ alone _ ∙ sym (has_key job.request.asked name))

-- a project with a name; a job without one has the empty name and no mark
pub on_project_named : (name : List ℕ) (jobs : List (ℕ × Job)) (empty : Bool) → (IsTrue empty ↔ (name ≡ [])) → empty ≡ false
    → is_borne order.ghosts.cmp job_marks (mark_of sort.Project name [] 0) jobs ≡ list_any (λ job. text_eq name job.1.project) jobs
on_project_named name jobs empty is some =
    borne (is_it name jobs sort.Project) (λ o n. refl) (λ n. refl) refl (λ n. refl) (λ job. text_eq name job.project) jobs (λ job.
    (λ i. ((named job.project i || no_pe job.request.pe i) || none_of (keys_of job.request.asked) i) || no_tasks job.running i)
    ∙ alone _ ∙ alone _ ∙ alone _)
  where
    never : (b : Bool) → b ≡ true → b ≡ false → ⊥
    never b holds lacks = cc

    not_empty : (n : List ℕ) → (IsTrue empty ↔ (n ≡ [])) → false ≡ text_eq n []
    not_empty [] full = absurd (never empty (full.1 refl) some)
    not_empty (byte ∷ n) full = refl

    named : (project : List ℕ) → of_project (λ n. is_it name jobs sort.Project (mark_of sort.Project n [] 0)) project ≡ text_eq name project
    named [] = not_empty name is
    named (byte ∷ project) = by_name name (byte ∷ project)
