-- The placement of a task is that of its rule in its own words.
use Rattle.std.proofs.Common.{ℕ, List, Option, Some, None, refl}
use Rattle.ge_collections.specs.Keyed.{at_text, at_number}
use Rattle.ge_model_rows.specs.ClusterRows.{Cluster}
use Rattle.ge_model_rows.specs.HostRows.{Groups, InstanceId}
use Rattle.ge_model_rows.specs.JobRows.{Job, PeRequest}
use Rattle.ge_model_rows.specs.PeRows.{PeRow, Allocation, Fixed, PeSlots, FillUp, RoundRobin}
use Rattle.ge_model_rows.specs.ScheduleRows.{Booking}
use Rattle.ge_model_rows.specs.TaskRows.{TaskId}
use Rattle.ge_model_place.specs.Placement.{spread, granted, placed_with, placed_by, placement_of, job_placement, placement}
use Rattle.ge_model_place.specs.Choosing.{IsPlacedBy, PlacesRow, PlacesRequest, PlacesJob, PlacesTask}
use Rattle.ge_model_place.proofs.Blocks.{fixed_is_greatest}
use Rattle.ge_model_place.proofs.Greatest.{start, fill_up_is_greatest, pe_slots_is_greatest}
use Rattle.ge_model_place.proofs.Rounds.{round_robin_is_greatest}

module _ (c : Cluster) (groups : Groups) (order : List InstanceId) (bookings : List Booking) (from : ℕ) where
  rule_is_greatest : (job : Job) (rule : Allocation) (low high : ℕ) → IsPlacedBy c groups job bookings from order rule low high (granted low (spread rule high (start c groups job bookings from order)))
  rule_is_greatest job FillUp low high = fill_up_is_greatest c groups job bookings from order low high
  rule_is_greatest job PeSlots low high = pe_slots_is_greatest c groups job bookings from order low high
  rule_is_greatest job (Fixed size) low high = fixed_is_greatest c groups job bookings from order size low high
  rule_is_greatest job RoundRobin low high = round_robin_is_greatest c groups job bookings from order low high

  by_row : (job : Job) (request : PeRequest) (row : Option PeRow) → PlacesRow c groups order bookings from job request row (placed_with (start c groups job bookings from order) request row)
  by_row job request None = refl
  by_row job request (Some pe) = rule_is_greatest job pe.rule request.low request.high

  places_request : (job : Job) (request : Option PeRequest) → PlacesRequest c groups order bookings from job request (placed_by c (start c groups job bookings from order) request)
  places_request job None = rule_is_greatest job FillUp 1 1
  places_request job (Some request) = by_row job request (at_text c.pes request.name)

  -- the placement of a job
  pub places_of : (job : Job) → PlacesRequest c groups order bookings from job job.request.pe (placement_of c groups order bookings job from)
  unfolding placement_of
  places_of job = places_request job job.request.pe

  places_job : (job : Option Job) → PlacesJob c groups order bookings from job (job_placement c groups order bookings from job)
  places_job None = refl
  places_job (Some job) = places_of job

  -- the placement of a task
  pub places_task : (task : TaskId) → PlacesTask c groups order bookings task from
  unfolding placement
  places_task task = places_job (at_number c.jobs task.job)
