-- What is told of a job is what its tasks say.
use Rattle.std.proofs.Common.{◌≡◌, ℕ, zero, suc, ◌+◌, ◌-◌, ◌/◌, ◌==◌, Bool, true, false, not, ◌||◌, ◌&&◌, cond, List, [], ◌∷◌, ◌++◌, Option, Some, None, refl, sym, ap, ◌∙◌, arith, map, filter, fold, take, length, nat_lt}
use Rattle.std.specs.Prelude.{All, IfSome, if◌then◌else◌, refl as same}
use mathlib.Core.Bool.{true≢false}
use native.Mathlib.Nat.{zero-div}
use Rattle.std.proofs.lemmas.Bool.{eqb-true}
use Rattle.std.specs.List.{AllByRecursion, list_any}
use Rattle.std.specs.List.Sorted.{IsStrictlySortedBy}
use Rattle.std.specs.Map.{keys_of, values_of}
use Rattle.std.specs.Ordering.{nat_cmp}
use Rattle.std.proofs.lemmas.List.Elements.{recursion_from_All}
use Rattle.std.proofs.lemmas.Map.Lookups.{exact_unsigned}
use Rattle.ge_collections.proofs.Walked.{found_each}
use Rattle.ge_collections.specs.Keyed.{at_number}
use Rattle.ge_job_index.specs.Short.{AreShort, short_of}
use Rattle.ge_job_index.specs.declared.short_row.ShortRow.{ShortRow}
use Rattle.ge_rows.specs.JobShort.{has_some, job_facts, job_labels}
use Rattle.ge_rows.specs.Orderly.{IsOrderlyJob}
use Rattle.ge_rows.specs.declared.labels.JobFacts.{JobFacts}
use Rattle.ge_rows.specs.contracts.labels.JobLabelOrd.TheImpl.{cmp-value as by_label}
use Rattle.ge_model_rows.specs.ClusterRows.{Cluster}
use Rattle.ge_model_rows.specs.JobRows.{Job}
use Rattle.ge_model_rows.specs.TaskRows.{TaskSpan, is_form}
use Rattle.ge_model_rows.specs.Pieces.{is_empty}
use Rattle.ge_model_rows.specs.Spans.{steps_of, stepping, in_form}
use Rattle.ge_model_rows.specs.Sets.{count_of, numbers_of, merged, difference}
use Rattle.ge_model_rows.proofs.Unique.{in_form_stays}
use Rattle.ge_model_jobs.specs.Holds.{is_live_job, with_holding, first_tasks, eligible_of, eligible_tasks}
use Rattle.ge_model_order.specs.Candidates.{is_candidate, candidates}
use Rattle.ge_order.specs.Ranked.{task_at, tasks_of_job}
use Rattle.ge_order.specs.Told.{told_by, has_task, is_free, only_number, only_task}

-- lists with something and with nothing
filled : (n : ℕ) → (suc n == 0) ≡ false
filled n = by (suc n == 0) same
  where
    by : (b : Bool) → (suc n == 0) ≡ b → b ≡ false
    by true is = let e : suc n ≡ 0 = eqb-true (suc n) 0 is in absurd (omega arith)
    by false is = refl

none_in : {X : Type 0} (xs : List X) → is_empty xs ≡ true → xs ≡ []
none_in [] e = refl
none_in (x ∷ xs) e = absurd (true≢false (sym e ∙ filled (length xs)))

nothing_in : {X : Type 0} (xs : List X) → has_some xs ≡ false → xs ≡ []
nothing_in [] e = refl
nothing_in (x ∷ xs) e = absurd (true≢false (sym (ap not (filled (length xs))) ∙ e))

neither : (a b : Bool) → (a || b) ≡ false → (a ≡ false) × (b ≡ false)
neither true b e = absurd (true≢false e)
neither false b e = (refl, e)

both : (a b : Bool) → (a && b) ≡ true → (a ≡ true) × (b ≡ true)
both true b e = (refl, e)
both false b e = absurd (true≢false (sym e))

turns : (a b : ℕ) → a + b + 1 ≡ suc (a + b)
turns a b = omega arith

-- of no numbers none are left
none_left : (others : List TaskSpan) → difference [] others ≡ []
none_left others = ap (λ n. in_form (merged true false false n [] others)) (turns (count_of []) (count_of others))

-- where none are taken away, the numbers of spans are put into the form
all_left : (s : TaskSpan) (rest : List TaskSpan) → difference (s ∷ rest) [] ≡ in_form (s ∷ rest)
all_left s rest = ap (λ n. in_form (merged true false false n (s ∷ rest) [])) (turns (count_of (s ∷ rest)) (count_of []))

none_waits : (queued others : List TaskSpan) → has_some queued ≡ false → is_empty (first_tasks 1 (difference queued others)) ≡ true
none_waits queued others e = ap (λ q. is_empty (first_tasks 1 (difference q others))) (nothing_in queued e) ∙ ap (λ q. is_empty (first_tasks 1 q)) (none_left others)

some_waits : (queued : List TaskSpan) → is_form queued ≡ true → has_some queued ≡ true → is_empty (first_tasks 1 (difference queued [])) ≡ false
some_waits [] form e = absurd (true≢false (sym e))
some_waits (s ∷ rest) form e =
    let one : steps_of s + 1 ≡ suc (steps_of s) = omega arith in
    ap (λ q. is_empty (first_tasks 1 q)) (all_left s rest ∙ in_form_stays (s ∷ rest) form)
    ∙ ap (λ n. is_empty (take 1 (stepping n s.first s.step ++ numbers_of rest))) one
    ∙ filled (length (take 0 (stepping (steps_of s) (s.first + s.step) s.step ++ numbers_of rest)))

-- what the facts tell, by cases
out : (b : Bool) (tasks : List ℕ) → is_empty tasks ≡ true → false ≡ not (is_empty (if b then [] else tasks))
out true tasks none = refl
out false tasks none = sym (ap not none)

told_right : (waits held late follows live : Bool) (tasks : List ℕ) → (waits ≡ false → is_empty tasks ≡ true) → (waits ≡ true → follows ≡ false → (live ≡ false) × (is_empty tasks ≡ false))
    → elim (if not waits || held || late then Some false else if follows then None else Some true) as (λ told. Bool) [ None ↦ not (is_empty (if (held || live) || late then [] else tasks)) | Some told ↦ told ]
    ≡ not (is_empty (if (held || live) || late then [] else tasks))
told_right false held late follows live tasks none some = out ((held || live) || late) tasks (none refl)
told_right true true late follows live tasks none some = refl
told_right true false true follows true tasks none some = refl
told_right true false true follows false tasks none some = refl
told_right true false false true live tasks none some = refl
told_right true false false false true tasks none some = absurd (true≢false (some refl refl).0)
told_right true false false false false tasks none some = sym (ap not (some refl refl).1)

module _ (c : Cluster) (now number : ℕ) where
  -- of a job that is there
  told_same : (job : Job) (row : ShortRow JobFacts) → at_number c.jobs number ≡ Some job → is_form job.queued ≡ true → row.facts ≡ job_facts job → has_task c now (number, row) ≡ is_candidate c now number
  unfolding is_candidate eligible_tasks
  told_same job row there form facts =
      ap (λ f. elim (told_by f now) as (λ told. Bool) [ None ↦ is_candidate c now number | Some told ↦ told ]) facts
      ∙ ap (λ o. elim (told_by (job_facts job) now) as (λ told. Bool) [ None ↦ not (is_empty (eligible_of c.jobs now 1 o)) | Some told ↦ told ]) there
      ∙ told_right (has_some job.queued) (not (job.hold == 0)) (nat_lt now job.not_before) (has_some job.after || has_some job.after_each) (list_any (is_live_job c.jobs) job.after)
      (first_tasks 1 (difference job.queued (fold (with_holding c.jobs) [] job.after_each)))
      (none_waits job.queued (fold (with_holding c.jobs) [] job.after_each))
      (λ waits follows.
      let follow = neither (has_some job.after) (has_some job.after_each) follows in (
        ap (list_any (is_live_job c.jobs)) (nothing_in job.after follow.0),
        ap (λ each. is_empty (first_tasks 1 (difference job.queued (fold (with_holding c.jobs) [] each)))) (nothing_in job.after_each follow.1) ∙ some_waits job.queued form waits,
      ))
      ∙ ap (λ o. not (is_empty (eligible_of c.jobs now 1 o))) (sym there)

module _ (c : Cluster) (now bound : ℕ) (shorts : List (ℕ × ShortRow JobFacts)) (are : AreShort nat_cmp by_label.it job_labels job_facts shorts bound c.jobs) where
  chosen : (rows : List (ℕ × Job)) → AllByRecursion (λ e. at_number c.jobs e.0 ≡ Some e.1) rows → AllByRecursion IsOrderlyJob (values_of rows)
      → keys_of (filter (has_task c now) (map (λ e. (e.0, short_of job_labels job_facts are.0 e.1)) rows)) ≡ filter (is_candidate c now) (keys_of rows)
  chosen [] there orderly = refl
  chosen (row ∷ rows) there orderly =
      by (has_task c now (row.0, short_of job_labels job_facts are.0 row.1)) (is_candidate c now row.0)
      (told_same c now row.0 row.1 (short_of job_labels job_facts are.0 row.1) there.0 orderly.0.0 refl) (chosen rows there.1 orderly.1)
    where
      by : (a b : Bool) → a ≡ b → keys_of (filter (has_task c now) (map (λ e. (e.0, short_of job_labels job_facts are.0 e.1)) rows)) ≡ filter (is_candidate c now) (keys_of rows)
          → keys_of (cond a ((row.0, short_of job_labels job_facts are.0 row.1) ∷ filter (has_task c now) (map (λ e. (e.0, short_of job_labels job_facts are.0 e.1)) rows))
          (filter (has_task c now) (map (λ e. (e.0, short_of job_labels job_facts are.0 e.1)) rows)))
          ≡ cond b (row.0 ∷ filter (is_candidate c now) (keys_of rows)) (filter (is_candidate c now) (keys_of rows))
      by true true alike rest = ap (λ numbers. row.0 ∷ numbers) rest
      by true false alike rest = absurd (true≢false alike)
      by false true alike rest = absurd (true≢false (sym alike))
      by false false alike rest = rest

  -- the jobs of which the short rows tell it are the candidates
  pub chosen_same : IsStrictlySortedBy nat_cmp (keys_of c.jobs) → All IsOrderlyJob (values_of c.jobs) → keys_of (filter (has_task c now) shorts) ≡ candidates c now
  chosen_same rising orderly =
      ap (λ rows. keys_of (filter (has_task c now) rows)) (are.1.listed exact_unsigned)
      ∙ chosen c.jobs (found_each c.jobs rising) (recursion_from_All IsOrderlyJob (values_of c.jobs) orderly)

take_none : {A : Type 0} (n : ℕ) → ◌≡◌ {A = List A} (take n []) []
take_none zero = refl
take_none (suc n) = refl

bounded : (n bound : ℕ) → (if bound == 0 then n ∷ [] else take bound (n ∷ [])) ≡ n ∷ []
bounded n zero = refl
bounded n (suc bound) = by (suc bound == 0)
  where
    by : (b : Bool) → (if b then n ∷ [] else take (suc bound) (n ∷ [])) ≡ n ∷ []
    by true = refl
    by false = ap (λ rest. n ∷ rest) (take_none bound)

-- the one number of a set
one_number : (queued : List TaskSpan) (task bound : ℕ) → only_number queued ≡ Some task → first_tasks bound (difference queued []) ≡ task ∷ []
one_number [] task bound e = absurd cc
one_number (s ∷ t ∷ rest) task bound e = absurd cc
one_number (s ∷ []) task bound e = by (s.first == s.last) same e
  where
    by : (one : Bool) → (s.first == s.last) ≡ one → (if one then Some s.first else None) ≡ Some task → first_tasks bound (difference (s ∷ []) []) ≡ task ∷ []
    by false is found = absurd cc
    by true is found =
        let ends : s.first ≡ s.last = eqb-true s.first s.last is in
        let none : s.last - s.first ≡ 0 = omega arith in
        let steps : steps_of s ≡ 0 = ap (λ n. n / s.step) none ∙ zero-div s.step in
        let numbers : numbers_of (s ∷ []) ≡ s.first ∷ [] = ap (λ n. stepping (n + 1) s.first s.step ++ []) steps in
        let first : s.first ≡ task = cc in
        ap (first_tasks bound) (all_left s []) ∙ ap (λ ns. if bound == 0 then ns else take bound ns) numbers ∙ bounded s.first bound ∙ ap (λ n. n ∷ []) first

all_four : (a b c d : Bool) → (a && b && c && d) ≡ true → (a ≡ true) × (b ≡ true) × (c ≡ true) × (d ≡ true)
all_four true true true true e = (refl, refl, refl, refl)
all_four true true true false e = absurd (true≢false (sym e))
all_four true true false d e = absurd (true≢false (sym e))
all_four true false c d e = absurd (true≢false (sym e))
all_four false b c d e = absurd (true≢false (sym e))

turned : (b : Bool) → not b ≡ true → b ≡ false
turned true e = absurd (true≢false (sym e))
turned false e = refl

module _ (c : Cluster) (now number : ℕ) where
  only_tasks : (job : Job) (task : ℕ) → at_number c.jobs number ≡ Some job → only_task job now ≡ Some task → tasks_of_job c now number ≡ task_at number task ∷ []
  unfolding eligible_tasks
  only_tasks job task there only = by (is_free job now) same only
    where
      by : (free : Bool) → is_free job now ≡ free → (if free then only_number job.queued else None) ≡ Some task → map (task_at number) (eligible_of c.jobs now c.sched.max_pending (at_number c.jobs number)) ≡ task_at number task ∷ []
      by false is one = absurd cc
      by true is one =
          let (hold, after, each, time) = all_four (job.hold == 0) (is_empty job.after) (is_empty job.after_each) (not (nat_lt now job.not_before)) is in
          let late = turned (nat_lt now job.not_before) time in
          let none = none_in job.after after in
          let alone = none_in job.after_each each in
          ap (map (task_at number))
          (ap (eligible_of c.jobs now c.sched.max_pending) there
          ∙ (λ i. if (not (hold i) || list_any (is_live_job c.jobs) (none i)) || late i then [] else first_tasks c.sched.max_pending (difference job.queued (fold (with_holding c.jobs) [] (alone i))))
          ∙ one_number job.queued task c.sched.max_pending one)

  -- the one task of a job that is told by the job alone is all that it has
  pub only_found : (job : Job) (found : Option ℕ) → at_number c.jobs number ≡ Some job → found ≡ only_task job now → IfSome found (λ task. tasks_of_job c now number ≡ task_at number task ∷ [])
  only_found job None there is = tt
  only_found job (Some task) there is = only_tasks job task there (sym is)
