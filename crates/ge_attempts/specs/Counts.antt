-- What is counted of the decisions of a run so far.
use Rattle.std.specs.Prelude.{◌≡◌, ℕ, ◌==◌, Bool, true, false, not, ◌&&◌, nat_lt, nat_le, List, count_by, unwrap_or}
use Rattle.ge_collections.specs.Keyed.{at_text}
use Rattle.ge_model_rows.specs.ClusterRows.{Cluster}
use Rattle.ge_model_rows.specs.DecisionRows.{Decision}
use Rattle.ge_model_rows.specs.JobRows.{Job}
use Rattle.ge_model_rows.specs.SettingRows.{Sched}
use Rattle.ge_model_place.specs.Running.{task_of, is_start, is_reserve, serial_after, running_of}
use Rattle.ge_attempts.specs.declared.counting.Tally.{Tally}

-- how many tasks are counted of a user
abbrev pub count_at : List (List ℕ × ℕ) → List ℕ → ℕ
count_at running owner = unwrap_or (at_text running owner) 0

-- whether a user has as many as there may be, by what is counted: sched_conf, maxujobs; 0 is no bound
abbrev pub is_over : Sched → Tally → List ℕ → Bool
is_over sched tally owner = not (sched.maxujobs == 0) && nat_le sched.maxujobs (count_at tally.running owner)

-- whether a task of a job may be reserved, by what is counted: qsub, -R; sched_conf, max_reservation
abbrev pub may_be_reserved : Sched → Tally → Job → Bool
may_be_reserved sched tally job = job.reserve && job.advance == 0 && nat_lt tally.reserved sched.max_reservation

-- where users are bounded, what is counted of each is how many of its tasks run, those that these decisions start among them
pub record IsCounted (c : Cluster) (decisions : List Decision) (running : List (List ℕ × ℕ)) : Type 0 where
  pub each : (c.sched.maxujobs == 0) ≡ false → (owner : List ℕ) → count_at running owner ≡ running_of c decisions owner

-- what is counted is that of these decisions
pub record IsTallied (c : Cluster) (decisions : List Decision) (tally : Tally) : Type 0 where
  pub next : tally.serial ≡ serial_after c decisions
  pub kept : tally.reserved ≡ count_by is_reserve decisions
  pub counted : IsCounted c decisions tally.running

-- a decision that starts a task of a job
pub record StartsOf (number : ℕ) (d : Decision) : Type 0 where
  pub starts : is_start d ≡ true
  pub of_it : (task_of d).job ≡ number
