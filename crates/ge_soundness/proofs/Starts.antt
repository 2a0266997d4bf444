-- The starts of a run, one after the other, and the serials that they give.
use Rattle.std.proofs.Common.{◌≡◌, Less, Equal, Greater, ℕ, ◌+◌, ◌^◌, ◌<◌, ◌≤◌, Bool, true, false, cond, List, [], ◌∷◌, length, refl, ap, ◌∙◌, arith, true≢false}
use Rattle.std.specs.Prelude.{◌==◌, ◌||◌, nat_eq, nat_lt, map, max, fold}
use Rattle.std.specs.List.{AllByRecursion, IsDistinct, list_any}
use Rattle.std.specs.Ordering.{match_ordering}
use Rattle.std.proofs.lemmas.Bool.{false≢true}
use Rattle.ge_collections.specs.Keyed.{put_number}
use Rattle.ge_model_rows.specs.JobRows.{Job, Running}
use Rattle.ge_model_rows.specs.ScheduleRows.{Start}
use Rattle.ge_model_jobs.specs.Starting.{greater_serial, serial_past}
use Rattle.ge_model_jobs.specs.Soundness.{is_under, at_most_one, HasTask, IsSpanned, IsParted, HasStarted, serial_of, serials_of}
use Rattle.ge_soundness.proofs.Lists.{IsJoined}
use Rattle.ge_soundness.proofs.Lists.IsJoined.{same, here, behind}

-- jobs of a sound cluster: numbers below one, serials below another, and nothing after a moment
pub record AreSound (number moment serial : ℕ) (jobs : List (ℕ × Job)) : Type 0 where
  pub numbers : AllByRecursion (λ job. job.0 < number) jobs
  pub tasks : AllByRecursion HasTask jobs
  pub spans : AllByRecursion IsSpanned jobs
  pub places : AllByRecursion IsParted jobs
  pub serials : AllByRecursion (λ s. (1 ≤ s) × (s < serial)) (serials_of jobs)
  pub different : IsDistinct nat_eq (serials_of jobs)
  pub submissions : AllByRecursion (λ job. job.1.submitted ≤ moment) jobs
  pub starts : AllByRecursion (HasStarted moment) jobs

-- starts whose serials follow one on the other
abbrev pub FollowOn : ℕ → List Start → Type 0
FollowOn serial [] = Unit {0}
FollowOn serial (start ∷ starts) = (start.serial ≡ serial) × FollowOn (serial + 1) starts

-- starts that follow on a serial, in the range of serials
pub record AreNumbered (serial : ℕ) (starts : List Start) : Type 0 where
  pub follow : FollowOn serial starts
  pub in_range : 1 ≤ length starts → serial + length starts ≤ 2 ^ 48

-- the greatest of serials that follow on one
greatest : (starts : List Start) (serial : ℕ) → FollowOn (serial + 1) starts → fold greater_serial serial starts ≡ serial + length starts
greatest [] serial follow = omega arith
greatest (start ∷ starts) serial follow =
    let next : max serial start.serial ≡ serial + 1 = omega (arith, follow.0) in
    let rest : fold greater_serial (serial + 1) starts ≡ serial + 1 + length starts = greatest starts (serial + 1) follow.1 in
    ap (λ most. fold greater_serial most starts) next ∙ rest ∙ omega arith

-- the serial after all of them
pub serial_past_all : (starts : List Start) (serial : ℕ) → FollowOn serial starts → (1 ≤ length starts → serial + length starts ≤ 2 ^ 48) → serial_past serial starts ≡ serial + length starts
serial_past_all [] serial follow in_range = omega arith
serial_past_all (start ∷ starts) serial follow in_range =
    let first : fold greater_serial start.serial starts ≡ start.serial + length starts = greatest starts start.serial (rw follow.0 follow.1) in
    let fits : serial + length (start ∷ starts) ≤ 2 ^ 48 = in_range (omega arith) in
    omega (arith, follow.0)

-- a task under a new key adds its serial
pub serials_put : (k : ℕ) (r : Running) (tasks : List (ℕ × Running)) → list_any (is_under k) tasks ≡ false → IsJoined r.serial (map serial_of tasks) (map serial_of (put_number tasks k r))
serials_put k r [] absent = here
serials_put k r (e ∷ es) absent = by (nat_lt k e.0) (k == e.0) absent (serials_put k r es)
  where
    by : (lt eq : Bool) → (eq || list_any (is_under k) es) ≡ false → (list_any (is_under k) es ≡ false → IsJoined r.serial (map serial_of es) (map serial_of (put_number es k r)))
        → IsJoined r.serial (map serial_of (e ∷ es)) (map serial_of (match_ordering (cond lt Less (cond eq Equal Greater)) ((k, r) ∷ e ∷ es) ((e.0, r) ∷ es) (e ∷ put_number es k r)))
    by true eq absent rest = here
    by false true absent rest = absurd (true≢false absent)
    by false false absent rest = behind (rest absent)

-- what waits doesn't run
pub waits_alone : (a b r : Bool) → at_most_one a b r ≡ true → a ≡ true → r ≡ false
waits_alone a b false once waiting = refl
waits_alone true true true once waiting = absurd (false≢true once)
waits_alone true false true once waiting = absurd (false≢true once)
waits_alone false b true once waiting = absurd (false≢true waiting)
