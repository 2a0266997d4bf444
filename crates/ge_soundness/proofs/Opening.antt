-- The opening cluster is sound; a cluster and its jobs; a job that is added.
use Rattle.std.proofs.Common.{◌≡◌, ℕ, ◌+◌, ◌<◌, ◌≤◌, List, [], ◌∷◌, ◌++◌, refl, ap, sym, subst, ◌∙◌, arith}
use Rattle.std.specs.Prelude.{nat_eq, map}
use Rattle.std.specs.List.{AllByRecursion, IsDistinct}
use Rattle.std.proofs.lemmas.Grind.{flat_map-append}
use Rattle.std.proofs.lemmas.List.{append-nil}
use Rattle.ge_collections.specs.Keyed.{put_number}
use Rattle.ge_model_rows.specs.ClusterRows.{Cluster, opening_cluster}
use Rattle.ge_model_rows.specs.JobRows.{Job}
use Rattle.ge_model_jobs.specs.Soundness.{IsSound, IsBooked, HasTask, IsSpanned, IsParted, HasStarted, serial_of, job_serials, serials_of}
use Rattle.ge_soundness.proofs.Lists.{all_append, all_weaker, put_last}
use Rattle.ge_soundness.proofs.Starts.{AreSound}

-- before the first command
pub opening_is_sound : IsSound opening_cluster
unfolding opening_cluster IsDistinct
opening_is_sound = record { numbers = tt; tasks = tt; spans = tt; places = tt; next = omega arith; serials = tt; different = tt; submissions = tt; starts = tt; booked = record { next = omega arith; advances = tt; jobs = tt } }

-- a sound cluster's jobs, at a later moment
pub jobs_are_sound : (c : Cluster) (moment : ℕ) → IsSound c → c.last ≤ moment → AreSound c.next_job moment c.next_serial c.jobs
jobs_are_sound c moment sound later = record {
  numbers = sound.numbers;
  tasks = sound.tasks;
  spans = sound.spans;
  places = sound.places;
  serials = sound.serials;
  different = sound.different;
  submissions = all_weaker (λ job. job.1.submitted ≤ c.last) (λ job. job.1.submitted ≤ moment) (λ job h. omega (arith, h)) c.jobs sound.submissions;
  starts = all_weaker (HasStarted c.last) (HasStarted moment) (λ job h. all_weaker (λ task. task.1.start ≤ c.last) (λ task. task.1.start ≤ moment) (λ task before. omega (arith, before)) job.1.running h) c.jobs sound.starts;
}

-- a cluster whose jobs are sound
pub sound_from_jobs : (c : Cluster) → 1 ≤ c.next_serial → AreSound c.next_job c.last c.next_serial c.jobs → IsBooked c → IsSound c
sound_from_jobs c next sound booked = record {
  numbers = sound.numbers;
  tasks = sound.tasks;
  spans = sound.spans;
  places = sound.places;
  next = next;
  serials = sound.serials;
  different = sound.different;
  submissions = sound.submissions;
  starts = sound.starts;
  booked = booked;
}

-- a job that doesn't run adds no serial
same_serials : (jobs : List (ℕ × Job)) (number : ℕ) (job : Job) → job.running ≡ [] → serials_of jobs ≡ serials_of (jobs ++ (number, job) ∷ [])
same_serials jobs number job idle =
    let none : serials_of ((number, job) ∷ []) ≡ [] = ap (λ tasks. map serial_of tasks ++ []) idle in
    sym (flat_map-append job_serials jobs ((number, job) ∷ []) ∙ ap (λ s. serials_of jobs ++ s) none ∙ append-nil (serials_of jobs))

-- one more job, under the next number
pub job_added : (number moment serial : ℕ) (job : Job) (jobs : List (ℕ × Job)) → AreSound number moment serial jobs → HasTask (number, job) → IsSpanned (number, job) → IsParted (number, job)
    → job.running ≡ [] → job.submitted ≤ moment → AreSound (number + 1) moment serial (put_number jobs number job)
job_added number moment serial job jobs sound has spanned parted idle submitted = rw (put_last number job jobs sound.numbers) (record {
  numbers = all_append (λ j. j.0 < number + 1) jobs more (all_weaker (λ j. j.0 < number) (λ j. j.0 < number + 1) (λ j h. omega (arith, h)) jobs sound.numbers) (omega arith, tt);
  tasks = all_append HasTask jobs more sound.tasks (has, tt);
  spans = all_append IsSpanned jobs more sound.spans (spanned, tt);
  places = all_append IsParted jobs more sound.places (parted, tt);
  serials = subst (AllByRecursion (λ s. (1 ≤ s) × (s < serial))) (same_serials jobs number job idle) sound.serials;
  different = subst (IsDistinct nat_eq) (same_serials jobs number job idle) sound.different;
  submissions = all_append (λ j. j.1.submitted ≤ moment) jobs more sound.submissions (submitted, tt);
  starts = all_append (HasStarted moment) jobs more sound.starts (rw idle tt, tt);
})
  where
    more : List (ℕ × Job)
    more = (number, job) ∷ []
