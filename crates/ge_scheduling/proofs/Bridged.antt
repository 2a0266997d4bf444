-- The decision by what is counted is that of the model.
use Rattle.std.proofs.Common.{◌≡◌, ℕ, Bool, true, false, not, ◌&&◌, List, Option, Some, None, refl, sym, ap, ◌∙◌}
use Rattle.std.specs.Prelude.{◌==◌, nat_lt, nat_le}
use Rattle.ge_collections.specs.Keyed.{at_number}
use Rattle.ge_model_rows.specs.ClusterRows.{Cluster}
use Rattle.ge_model_rows.specs.DecisionRows.{Decision}
use Rattle.ge_model_rows.specs.HostRows.{Groups, InstanceId}
use Rattle.ge_model_rows.specs.JobRows.{Job}
use Rattle.ge_model_rows.specs.ScheduleRows.{Booking}
use Rattle.ge_model_rows.specs.TaskRows.{TaskId}
use Rattle.ge_model_place.specs.Placement.{placement}
use Rattle.ge_model_place.specs.Running.{serial_after, running_of, owner_is_full, is_held_back, may_reserve, decision_of}
use Rattle.ge_attempts.specs.declared.counting.Tally.{Tally}
use Rattle.ge_attempts.specs.Counts.{count_at, is_over, may_be_reserved, IsTallied}
use Rattle.ge_attempts.specs.Verdicts.{decision_by, decision_at}

full_same : (c : Cluster) (decisions : List Decision) (tally : Tally) → IsTallied c decisions tally → (owner : List ℕ) → is_over c.sched tally owner ≡ owner_is_full c decisions owner
full_same c decisions tally is owner = here (c.sched.maxujobs == 0) refl
  where
    here : (none : Bool) → (c.sched.maxujobs == 0) ≡ none → (not none && nat_le c.sched.maxujobs (count_at tally.running owner)) ≡ (not none && nat_le c.sched.maxujobs (running_of c decisions owner))
    here true e = refl
    here false e = ap (λ n. nat_le c.sched.maxujobs n) (is.counted.each e owner)

pub may_same : (c : Cluster) (decisions : List Decision) (tally : Tally) → IsTallied c decisions tally → (job : Job) → may_be_reserved c.sched tally job ≡ may_reserve c decisions (Some job)
may_same c decisions tally is job = ap (λ n. job.reserve && job.advance == 0 && nat_lt n c.sched.max_reservation) is.kept

module _ (c : Cluster) (groups : Groups) (order : List InstanceId) (now : ℕ) (booked : List Booking) (decisions : List Decision) where
  -- the decision of the model, by its parts
  abbrev pub by_parts : Option Job → TaskId → Decision
  by_parts job task = decision_by c groups order now booked (is_held_back c decisions job) (may_reserve c decisions job) (serial_after c decisions) job task

  pub model_by_parts : (task : TaskId) → decision_of c groups order now booked decisions task ≡ by_parts (at_number c.jobs task.job) task
  unfolding placement
  model_by_parts task = refl

  tally_by_parts : (tally : Tally) → IsTallied c decisions tally → (job : Option Job) (task : TaskId) → decision_at c groups order now booked tally job task ≡ by_parts job task
  tally_by_parts tally is None task = refl
  tally_by_parts tally is (Some job) task = λ i. decision_by c groups order now booked (full_same c decisions tally is job.owner i) (may_same c decisions tally is job i) (is.next i) (Some job) task

  -- by what is counted
  pub decision_tallied : (tally : Tally) → IsTallied c decisions tally → (task : TaskId)
      → decision_at c groups order now booked tally (at_number c.jobs task.job) task ≡ decision_of c groups order now booked decisions task
  decision_tallied tally is task = tally_by_parts tally is (at_number c.jobs task.job) task ∙ sym (model_by_parts task)
