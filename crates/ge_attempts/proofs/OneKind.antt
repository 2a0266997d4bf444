-- Jobs of one kind are placed alike.
use Rattle.std.proofs.Common.{◌≡◌, ℕ, List, [], refl, sym, subst, ap, ◌∙◌}
use Rattle.std.specs.Ordering.{nat_cmp}
use Rattle.ge_job_index.specs.Short.{AreShort}
use Rattle.ge_job_index.specs.declared.short_row.ShortRow.{ShortRow}
use Rattle.ge_model_rows.specs.ClusterRows.{Cluster}
use Rattle.ge_model_rows.specs.HostRows.{Groups, InstanceId}
use Rattle.ge_model_rows.specs.JobRows.{Job}
use Rattle.ge_model_rows.specs.ScheduleRows.{Booking}
use Rattle.ge_model_jobs.proofs.SameKind.{one_kind}
use Rattle.ge_model_place.specs.Limits.{counted_at}
use Rattle.ge_model_place.specs.Opening.{is_open}
use Rattle.ge_model_place.specs.Placement.{placement_of}
use Rattle.ge_rows.specs.JobShort.{job_facts, job_kind, job_labels}
use Rattle.ge_rows.specs.declared.labels.JobFacts.{JobFacts}
use Rattle.ge_rows.specs.declared.labels.JobKind.{JobKind}
use Rattle.ge_rows.specs.contracts.labels.JobLabelOrd.TheImpl.{cmp-value as by_label}
use Rattle.ge_attempts.specs.KindNotes.{TellKinds}

-- a job of a kind, with all that the kind leaves open from another
of_kind : JobKind → Job → Job
of_kind kind rest = record rest { owner = kind.owner; group = kind.group; project = kind.project; request = kind.request; advance = kind.advance }

module _ (c : Cluster) (groups : Groups) (order : List InstanceId) (booked : List Booking) (moment : ℕ) where
  placed_by_kind : (job rest : Job) → placement_of c groups order booked job moment ≡ placement_of c groups order booked (of_kind (job_kind job) rest) moment
  unfolding placement_of is_open counted_at of_kind
  placed_by_kind job rest = refl

  -- jobs of one kind have the same grants
  pub placed_alike : (a b : Job) → job_kind a ≡ job_kind b → placement_of c groups order booked a moment ≡ placement_of c groups order booked b moment
  placed_alike a b same =
      placed_by_kind a a ∙ ap (λ kind. placement_of c groups order booked (of_kind kind a) moment) same ∙ sym (placed_by_kind b a)

module _ (jobs : List (ℕ × Job)) (rows : List (ℕ × ShortRow JobFacts)) (bound : ℕ) (are : AreShort nat_cmp by_label.it job_labels job_facts rows bound jobs) where
  -- short rows of jobs tell their kinds
  pub told : TellKinds jobs rows
  told = record { alike = one_kind jobs rows bound are }

-- no rows tell no kinds
pub none_told : (jobs : List (ℕ × Job)) (rows : List (ℕ × ShortRow JobFacts)) → rows ≡ [] → TellKinds jobs rows
none_told jobs rows none =
    subst (λ rs. TellKinds jobs rs) (sym none) (record { alike = λ first second kind a b is_a is_b one two. absurd cc })
