-- Advance reservations before and after a change, and the jobs that joined them.
use Rattle.std.proofs.Common.{◌≡◌, ℕ, ◌+◌, ◌≤◌, ◌<◌, ◌==◌, ◌&&◌, ◌||◌, not, Bool, true, false, cond, List, [], ◌∷◌, fold, refl, sym, ap, subst, ◌∙◌, arith, Ordering, Less, Equal, Greater}
use Rattle.std.specs.Prelude.{IsTrue, nat_lt, min, ◌^◌, ◌-◌}
use Rattle.std.specs.BTreeMap.{is_at}
use Rattle.std.specs.List.{AllByRecursion}
use Rattle.std.specs.Ordering.{nat_cmp, match_ordering}
use Rattle.std.proofs.lemmas.Bool.{eqb-true, true≢false}
use Rattle.ge_collections.specs.Keyed.{put_number, drop_number}
use Rattle.ge_model_rows.specs.ClusterRows.{Cluster}
use Rattle.ge_model_rows.specs.JobRows.{Job, Advance}
use Rattle.ge_model_rows.specs.ScheduleRows.{Start}
use Rattle.ge_model_jobs.specs.Soundness.{IsAdvance, IsBooked, has_advance}
use Rattle.ge_soundness.proofs.Lists.{all_weaker, all_changed}
use Rattle.ge_model_jobs.specs.Orderly.{has_key, KeysFrom}
use Rattle.ge_model_jobs.specs.Starting.{with_start, start_task, is_joined, is_left, left_booked, started as started_jobs}
use Rattle.ge_model_jobs.proofs.Keys.{put_keys, put_rises, drop_keys, drop_rises, filter_rises}
use Rattle.ge_soundness.proofs.ChangesParts.{part_facts, part_filter, part_removed}
use Rattle.ge_soundness.proofs.ChangesTables.{Stems, stems_facts}
use Rattle.ge_soundness.proofs.ChangesStarts.{after_start}

-- jobs whose advance reservations, if they joined one, are there
abbrev pub AreIn : List (ℕ × Advance) → List (ℕ × Job) → Type 0
AreIn advances jobs = AllByRecursion (λ job. IsTrue (has_advance advances job)) jobs

-- a job with the same advance reservation
same_advance : (advances : List (ℕ × Advance)) (number : ℕ) (old new : Job) → new.advance ≡ old.advance → IsTrue (has_advance advances (number, old)) → IsTrue (has_advance advances (number, new))
same_advance advances number old new same has = ap (λ n. n == 0 || has_key n advances) same ∙ has

-- jobs that stem from such jobs are such
pub stems_in : (advances : List (ℕ × Advance)) {rows more : List (ℕ × Job)} → Stems rows more → AreIn advances rows → AreIn advances more
stems_in advances stems all =
    stems_facts (λ job. IsTrue (has_advance advances job)) (λ row new follows has before. same_advance advances row.0 row.1 new follows.advance before) stems all

-- ---- a run

-- starts leave jobs in their advance reservations
start_advance : (moment : ℕ) (start : Start) (job : Job) → (with_start moment start job).advance ≡ job.advance
start_advance moment start job = after_start (λ new. new.advance ≡ job.advance) moment start job refl (λ waits. refl)

starts_in : (advances : List (ℕ × Advance)) (moment : ℕ) (starts : List Start) (jobs : List (ℕ × Job)) → AreIn advances jobs → AreIn advances (fold (start_task moment) jobs starts)
starts_in advances moment [] jobs all = all
starts_in advances moment (start ∷ starts) jobs all =
    starts_in advances moment starts (start_task moment jobs start)
    (all_changed (λ job. IsTrue (has_advance advances job)) (is_at (nat_cmp start.task.job)) (with_start moment start)
    (λ row has. same_advance advances row.0 row.1 (with_start moment start row.1) (start_advance moment start row.1) has) jobs all)

-- an advance reservation that a live job joined is left by a run
joined_left : (moment number : ℕ) (jobs : List (ℕ × Job)) (advances : List (ℕ × Advance)) → is_joined jobs number ≡ true → has_key number advances ≡ true → has_key number (left_booked moment jobs advances) ≡ true
joined_left moment number jobs [] joined there = there
joined_left moment number jobs (row ∷ advances) joined there = by (number == row.0) refl (is_left moment jobs row) refl there (joined_left moment number jobs advances joined)
  where
    left : number ≡ row.0 → is_left moment jobs row ≡ true
    left same = let here : is_joined jobs row.0 ≡ true = subst (λ n. is_joined jobs n ≡ true) same joined in or_second (nat_lt moment row.1.until) (is_joined jobs row.0) here
      where
        or_second : (a b : Bool) → b ≡ true → (a || b) ≡ true
        or_second a b h = grind arith

    by : (here : Bool) → (number == row.0) ≡ here → (stays : Bool) → is_left moment jobs row ≡ stays → (here || has_key number advances) ≡ true
        → (has_key number advances ≡ true → has_key number (left_booked moment jobs advances) ≡ true)
        → has_key number (cond stays (row ∷ left_booked moment jobs advances) (left_booked moment jobs advances)) ≡ true
    by true is true stays there again = rw is refl
    by true is false stays there again = absurd (true≢false (sym (left (eqb-true number row.0 is)) ∙ stays))
    by false is true stays there again = rw is (again there)
    by false is false stays there again = again there

-- every live job joined the advance reservation that it names
each_joins : (all rows : List (ℕ × Job)) → ((n : ℕ) → is_joined rows n ≡ true → is_joined all n ≡ true) → AllByRecursion (λ job. IsTrue (is_joined all job.1.advance)) rows
each_joins all [] more = tt
each_joins all (row ∷ rows) more = (more row.1.advance (first (row.1.advance == row.1.advance) _ (same row.1.advance)), each_joins all rows (λ n joined. more n (second (row.1.advance == n) _ joined)))
  where
    same : (n : ℕ) → (n == n) ≡ true
    same n = grind arith

    first : (a b : Bool) → a ≡ true → (a || b) ≡ true
    first a b h = grind arith

    second : (a b : Bool) → b ≡ true → (a || b) ≡ true
    second a b h = grind arith

left_in : (moment : ℕ) (advances : List (ℕ × Advance)) (jobs rows : List (ℕ × Job)) → AllByRecursion (λ job. IsTrue (is_joined jobs job.1.advance)) rows → AreIn advances rows → AreIn (left_booked moment jobs advances) rows
left_in moment advances jobs [] joined all = tt
left_in moment advances jobs (row ∷ rows) joined all =
    (either (row.1.advance == 0) (has_key row.1.advance advances) _ all.0 (joined_left moment row.1.advance jobs advances joined.0), left_in moment advances jobs rows joined.1 all.1)
  where
    either : (none before after : Bool) → (none || before) ≡ true → (before ≡ true → after ≡ true) → (none || after) ≡ true
    either true before after h step = refl
    either false before after h step = step h

-- ---- changes

-- a fact of all rows and of the one that is put in
all_rows : (P : ℕ × Advance → Type 0) (number : ℕ) (advance : Advance) → P (number, advance) → (rows : List (ℕ × Advance)) → AllByRecursion P rows → AllByRecursion P (put_number rows number advance)
all_rows P number advance fact [] all = (fact, tt)
all_rows P number advance fact (row ∷ rows) all = by (nat_cmp number row.0) refl (all_rows P number advance fact rows all.1)
  where
    by : (order : Ordering) → nat_cmp number row.0 ≡ order → AllByRecursion P (put_number rows number advance)
        → AllByRecursion P (match_ordering order ((number, advance) ∷ row ∷ rows) ((row.0, advance) ∷ rows) (row ∷ put_number rows number advance))
    by Less is again = (fact, all)
    by Equal is again = (let same : number ≡ row.0 = grind arith in subst (λ n. P (n, advance)) same fact, all.1)
    by Greater is again = (all.0, again)

-- an advance reservation that is new to a cluster
pub record IsNewAdvance (c : Cluster) (advance : Advance) : Type 0 where
  pub in_range : c.next_advance ≤ 4294967294
  pub ordered : advance.from < advance.until

-- advance reservations that no live job joined
abbrev pub AreUnjoined : List (ℕ × Job) → List ℕ → Type 0
AreUnjoined jobs numbers = AllByRecursion (λ n. is_joined jobs n ≡ false) numbers

module _ (c : Cluster) (booked : IsBooked c) where
  -- after a run
  pub run_booked : (moment : ℕ) (starts : List Start) (after : Cluster) → after.next_advance ≡ c.next_advance → after.jobs ≡ started_jobs moment c starts
      → after.advances ≡ left_booked moment (started_jobs moment c starts) c.advances → IsBooked after
  run_booked moment starts after next jobs advances = record {
    next = rw next booked.next;
    advances = rw (next, advances) (part_facts (IsAdvance c.next_advance) (part_filter (is_left moment (started_jobs moment c starts)) c.advances) booked.advances);
    jobs = rw (jobs, advances) (left_in moment c.advances (started_jobs moment c starts) (started_jobs moment c starts) (each_joins _ _ (λ n joined. joined)) (starts_in c.advances moment starts c.jobs booked.jobs));
  }

  -- after one more
  pub more_booked : (advance : Advance) (after : Cluster) → IsNewAdvance c advance → after.next_advance ≡ min (c.next_advance + 1) (2 ^ 32 - 1) → after.jobs ≡ c.jobs
      → after.advances ≡ put_number c.advances c.next_advance advance → IsBooked after
  more_booked advance after new next jobs advances =
      let number : min (c.next_advance + 1) (2 ^ 32 - 1) ≡ c.next_advance + 1 = omega (arith, new.in_range) in
      record {
        next = rw next (omega (arith, number));
        advances = rw (next ∙ number, advances) (put_advances new);
        jobs = rw (jobs, advances) (put_in c.jobs booked.jobs);
      }
    where
      put_advances : IsNewAdvance c advance → AllByRecursion (IsAdvance (c.next_advance + 1)) (put_number c.advances c.next_advance advance)
      put_advances new = all_rows (IsAdvance (c.next_advance + 1)) c.next_advance advance (booked.next, omega arith, new.ordered) c.advances
          (all_weaker (IsAdvance c.next_advance) (IsAdvance (c.next_advance + 1)) (λ row is. (is.0, omega (arith, is.1), is.2)) c.advances booked.advances)

      put_in : (rows : List (ℕ × Job)) → AreIn c.advances rows → AreIn (put_number c.advances c.next_advance advance) rows
      put_in [] all = tt
      put_in (row ∷ rows) all =
          (either (row.1.advance == 0) (has_key row.1.advance c.advances) (row.1.advance == c.next_advance) _ (put_keys row.1.advance c.next_advance c.advances advance) all.0, put_in rows all.1)
        where
          either : (none before here after : Bool) → after ≡ (here || before) → (none || before) ≡ true → (none || after) ≡ true
          either none before here after is has = grind arith

  -- after some were given up that no live job joined
  pub fewer_booked : (numbers : List ℕ) (after : Cluster) → KeysFrom 0 c.advances → AreUnjoined c.jobs numbers → after.next_advance ≡ c.next_advance → after.jobs ≡ c.jobs
      → after.advances ≡ fold drop_number c.advances numbers → IsBooked after
  fewer_booked numbers after keys unjoined next jobs advances = record {
    next = rw next booked.next;
    advances = rw (next, advances) (dropped (IsAdvance c.next_advance) numbers c.advances booked.advances);
    jobs = rw (jobs, advances) (dropped_in numbers c.advances keys unjoined booked.jobs);
  }
    where
      dropped : (P : ℕ × Advance → Type 0) (numbers : List ℕ) (rows : List (ℕ × Advance)) → AllByRecursion P rows → AllByRecursion P (fold drop_number rows numbers)
      dropped P [] rows all = all
      dropped P (n ∷ numbers) rows all = dropped P numbers (drop_number rows n) (part_facts P (part_removed (is_at (nat_cmp n)) rows) all)

      stays : (n : ℕ) (rows : List (ℕ × Advance)) (jobs : List (ℕ × Job)) → KeysFrom 0 rows → is_joined jobs n ≡ false → AreIn rows jobs → AreIn (drop_number rows n) jobs
      stays n rows [] keys none all = tt
      stays n rows (job ∷ jobs) keys none all =
          (either (job.1.advance == 0) (has_key job.1.advance rows) (job.1.advance == n) _ (drop_keys job.1.advance n 0 rows keys) (first (job.1.advance == n) _ none) all.0, stays n rows jobs keys (second (job.1.advance == n) _ none) all.1)
        where
          either : (none before here after : Bool) → after ≡ (before && not here) → here ≡ false → (none || before) ≡ true → (none || after) ≡ true
          either none before here after is not_here has = grind arith

          first : (a b : Bool) → (a || b) ≡ false → a ≡ false
          first a b h = grind arith

          second : (a b : Bool) → (a || b) ≡ false → b ≡ false
          second a b h = grind arith

      dropped_in : (numbers : List ℕ) (rows : List (ℕ × Advance)) → KeysFrom 0 rows → AreUnjoined c.jobs numbers → AreIn rows c.jobs → AreIn (fold drop_number rows numbers) c.jobs
      dropped_in [] rows keys unjoined all = all
      dropped_in (n ∷ numbers) rows keys unjoined all = dropped_in numbers (drop_number rows n) (drop_rises n 0 rows keys) unjoined.1 (stays n rows c.jobs keys unjoined.0 all)

-- ---- the order of the table

pub dropped_rise : (numbers : List ℕ) (rows : List (ℕ × Advance)) → KeysFrom 0 rows → KeysFrom 0 (fold drop_number rows numbers)
dropped_rise [] rows keys = keys
dropped_rise (n ∷ numbers) rows keys = dropped_rise numbers (drop_number rows n) (drop_rises n 0 rows keys)

pub left_rise : (moment : ℕ) (jobs : List (ℕ × Job)) (rows : List (ℕ × Advance)) → KeysFrom 0 rows → KeysFrom 0 (left_booked moment jobs rows)
left_rise moment jobs rows keys = filter_rises 0 (is_left moment jobs) rows keys

pub put_rise : (number : ℕ) (advance : Advance) (rows : List (ℕ × Advance)) → KeysFrom 0 rows → KeysFrom 0 (put_number rows number advance)
put_rise number advance rows keys = put_rises 0 number rows advance (omega arith) keys
