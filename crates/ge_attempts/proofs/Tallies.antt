-- What is counted, after one more decision.
use Rattle.std.proofs.Common.{◌≡◌, ℕ, ◌+◌, Bool, true, false, ◌&&◌, cond, List, [], ◌∷◌, ◌++◌, length, Option, Some, unwrap_or, refl, sym, subst, ap, ◌∙◌, arith}
use Rattle.std.specs.Prelude.{sum_by}
use Rattle.std.specs.BTreeMap.{is_at}
use Rattle.std.proofs.lemmas.Bool.{true≢false, eq-eqb}
use Rattle.std.proofs.lemmas.List.Sums.{sum_by-cons, sum_by_push}
use Rattle.std.proofs.lemmas.Map.Text.{is_eq-slice_cmp}
use Rattle.std.proofs.lemmas.Slice.Eq.{bytes_eq-Decides}
use Rattle.ge_collections.specs.Changed.{ChangesAt}
use Rattle.ge_collections.specs.Keyed.{text_eq, text_cmp, at_text, at_number}
use Rattle.ge_model_rows.specs.ClusterRows.{Cluster}
use Rattle.ge_model_rows.specs.DecisionRows.{Decision, Start, Reserve, Skip}
use Rattle.ge_model_rows.specs.JobRows.{Job}
use Rattle.ge_model_rows.specs.ScheduleRows.{Start as Starting, Reservation}
use Rattle.ge_model_rows.specs.TaskRows.{TaskId}
use Rattle.ge_model_place.specs.Running.{task_of, is_start, is_reserve, belongs_to, running_in, starts_for, running_of}
use Rattle.ge_attempts.specs.declared.counting.Tally.{Tally}
use Rattle.ge_attempts.specs.Counts.{count_at, IsCounted, IsTallied, StartsOf}

-- a count is raised at a name
pub raised : (old new : List (List ℕ × ℕ)) (owner key : List ℕ) (n by next : ℕ) → key ≡ owner → n ≡ count_at old owner → next ≡ n + by → ChangesAt text_cmp key (λ _. Some next) old new
    → (q : List ℕ) → count_at new q ≡ count_at old q + cond (text_eq owner q) by 0
raised old new owner key n by next same had is changes q =
    ap (λ (v : Option ℕ). unwrap_or v 0) (changes q)
    ∙ ap (λ (k : List ℕ). unwrap_or (cond (is_at (text_cmp k) q) (Some next) (at_text old q)) 0) same
    ∙ ap (λ (b : Bool). unwrap_or (cond b (Some next) (at_text old q)) 0) (is_eq-slice_cmp owner q)
    ∙ here (text_eq owner q) refl
  where
    here : (alike : Bool) → text_eq owner q ≡ alike → unwrap_or (cond alike (Some next) (at_text old q)) 0 ≡ count_at old q + cond alike by 0
    here true e =
        let name : owner ≡ q = (bytes_eq-Decides owner q).0 e in
        let there : n ≡ count_at old q = had ∙ ap (λ (k : List ℕ). count_at old k) name in
        omega (arith, is, there)
    here false e = omega arith

-- no task of a job runs: nothing more is counted
pub none_raised : {X : Type 0} (tasks : List X) (b : Bool) (n : ℕ) → length tasks ≡ 0 → n ≡ n + cond b (length tasks) 0
none_raised tasks true n none = omega (arith, none)
none_raised tasks false n none = omega arith

-- one more job is counted
pub one_counted : (f : ℕ × Job → ℕ) (e : ℕ × Job) (rest : List (ℕ × Job)) (old new all : ℕ) → old + sum_by f (e ∷ rest) ≡ all → new ≡ old + f e → new + sum_by f rest ≡ all
one_counted f e rest old new all before more =
    let s = sum_by-cons f e rest in omega (arith, before, more, s)

pub one_more_job : (f : ℕ × Job → ℕ) (number : ℕ) (job : Job) (before rest : List (ℕ × Job)) (old new all : ℕ) → before ≡ (number, job) ∷ rest → old + sum_by f before ≡ all → new ≡ old + f (number, job)
    → new + sum_by f rest ≡ all
one_more_job f number job before rest old new all is so_far more =
    one_counted f (number, job) rest old new all (subst (λ (rows : List (ℕ × Job)). old + sum_by f rows ≡ all) is so_far) more

-- before the first job, and behind the last
pub none_yet : (f : ℕ × Job → ℕ) (running : List (List ℕ × ℕ)) (owner : List ℕ) (rest jobs : List (ℕ × Job)) → running ≡ [] → rest ≡ jobs → count_at running owner + sum_by f rest ≡ sum_by f jobs
none_yet f running owner rest jobs none all =
    let n : count_at running owner ≡ 0 = ap (λ (r : List (List ℕ × ℕ)). count_at r owner) none in
    let s : sum_by f rest ≡ sum_by f jobs = ap (λ (rows : List (ℕ × Job)). sum_by f rows) all in
    omega (arith, n, s)

pub all_counted : (f : ℕ × Job → ℕ) (rest : List (ℕ × Job)) (n all : ℕ) → rest ≡ [] → n + sum_by f rest ≡ all → n ≡ all
all_counted f rest n all none so_far =
    let s : sum_by f rest ≡ 0 = ap (λ (rows : List (ℕ × Job)). sum_by f rows) none in omega (arith, s, so_far)

-- where users aren't bounded, nothing need be counted
pub uncounted : (c : Cluster) (decisions : List Decision) (running : List (List ℕ × ℕ)) → c.sched.maxujobs ≡ 0 → IsCounted c decisions running
uncounted c decisions running none = record { each = λ bounded owner. absurd (true≢false (sym (eq-eqb c.sched.maxujobs 0 none) ∙ bounded)) }

-- before any decision
pub counted_first : (c : Cluster) (running : List (List ℕ × ℕ)) → ((q : List ℕ) → count_at running q ≡ sum_by (running_in q) c.jobs) → IsCounted c [] running
counted_first c running all =
    record {
      each = λ bounded owner.
          let a = all owner in
          let s : running_of c [] owner ≡ sum_by (running_in owner) c.jobs = omega arith in
          a ∙ sym s;
    }

pub tallied_first : (c : Cluster) (tally : Tally) → tally.serial ≡ c.next_serial → tally.reserved ≡ 0 → IsCounted c [] tally.running → IsTallied c [] tally
tallied_first c tally next kept counted = record { next = omega (arith, next); kept = kept; counted = counted }

module _ (c : Cluster) (decisions : List Decision) where
  -- a start of a task of a job
  pub counted_start : (d : Decision) (number : ℕ) (old new : List (List ℕ × ℕ)) → StartsOf number d → IsCounted c decisions old
      → ((q : List ℕ) → count_at new q ≡ count_at old q + cond (belongs_to q (at_number c.jobs number)) 1 0) → IsCounted c (decisions ++ d ∷ []) new
  counted_start d number old new starts before more =
      record {
        each = λ bounded owner.
            let pushed = sum_by_push (λ x. cond (starts_for c owner x) 1 0) decisions d in
            let is : starts_for c owner d ≡ belongs_to owner (at_number c.jobs number) =
            ap (λ b. b && belongs_to owner (at_number c.jobs (task_of d).job)) starts.starts ∙ ap (λ n. belongs_to owner (at_number c.jobs n)) starts.of_it in
            let one : ◌≡◌ {A = ℕ} (cond (starts_for c owner d) 1 0) (cond (belongs_to owner (at_number c.jobs number)) 1 0) = ap (λ b. cond b 1 0) is in
            let was = before.each bounded owner in
            let here = more owner in
            omega (arith, pushed, one, was, here);
      }

  -- any other decision
  pub counted_other : (d : Decision) (running : List (List ℕ × ℕ)) → is_start d ≡ false → IsCounted c decisions running → IsCounted c (decisions ++ d ∷ []) running
  counted_other d running other before =
      record {
        each = λ bounded owner.
            let pushed = sum_by_push (λ x. cond (starts_for c owner x) 1 0) decisions d in
            let none : ◌≡◌ {A = ℕ} (cond (starts_for c owner d) 1 0) 0 = ap (λ b. cond (b && belongs_to owner (at_number c.jobs (task_of d).job)) 1 0) other in
            let was = before.each bounded owner in
            omega (arith, pushed, none, was);
      }

  pub tallied_start : (start : Starting) (old new : Tally) → new.serial ≡ old.serial + 1 → new.reserved ≡ old.reserved
      → ((before : List Decision) (d : Decision) → StartsOf start.task.job d → IsCounted c before old.running → IsCounted c (before ++ d ∷ []) new.running) → IsTallied c decisions old
      → IsTallied c (decisions ++ Start start ∷ []) new
  tallied_start start old new more same counted before =
      record {
        next = let was = before.next in
            let pushed = sum_by_push (λ x. cond (is_start x) 1 0) decisions (Start start) in
            omega (arith, more, was, pushed);
        kept = let was = before.kept in
            let pushed = sum_by_push (λ x. cond (is_reserve x) 1 0) decisions (Start start) in
            omega (arith, same, was, pushed);
        counted = counted decisions (Start start) (record { starts = refl; of_it = refl }) before.counted;
      }

  pub tallied_reserve : (kept : Reservation) (old new : Tally) → new.serial ≡ old.serial → new.reserved ≡ old.reserved + 1 → new.running ≡ old.running → IsTallied c decisions old
      → IsTallied c (decisions ++ Reserve kept ∷ []) new
  tallied_reserve kept old new same more running before =
      record {
        next = let was = before.next in
            let pushed = sum_by_push (λ x. cond (is_start x) 1 0) decisions (Reserve kept) in
            omega (arith, same, was, pushed);
        kept = let was = before.kept in
            let pushed = sum_by_push (λ x. cond (is_reserve x) 1 0) decisions (Reserve kept) in
            omega (arith, more, was, pushed);
        counted = subst (λ r. IsCounted c (decisions ++ Reserve kept ∷ []) r) (sym running) (counted_other (Reserve kept) old.running refl before.counted);
      }

  pub tallied_skip : (task : TaskId) (tally : Tally) → IsTallied c decisions tally → IsTallied c (decisions ++ Skip task ∷ []) tally
  tallied_skip task tally before =
      record {
        next = let was = before.next in
            let pushed = sum_by_push (λ x. cond (is_start x) 1 0) decisions (Skip task) in
            omega (arith, was, pushed);
        kept = let was = before.kept in
            let pushed = sum_by_push (λ x. cond (is_reserve x) 1 0) decisions (Skip task) in
            omega (arith, was, pushed);
        counted = counted_other (Skip task) tally.running refl before.counted;
      }
