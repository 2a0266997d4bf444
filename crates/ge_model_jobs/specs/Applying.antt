-- The cluster after an entry.
use Rattle.std.specs.Prelude.{ℕ, ◌+◌, ◌-◌, ◌^◌, min, List, fold}
use Rattle.ge_collections.specs.Keyed.{put_number, drop_number}
use Rattle.ge_model_rows.specs.ClusterRows.{Cluster}
use Rattle.ge_model_rows.specs.EntryRows.{Entry, Change}
use Rattle.ge_model_rows.specs.JobRows.{Advance}
use Rattle.ge_model_jobs.specs.Altering.{with_job, with_altered, with_held, with_freed}
use Rattle.ge_model_jobs.specs.Configuring.{with_item, without_item, with_load}
use Rattle.ge_model_jobs.specs.Ending.{with_end, with_deleted, with_cleared}
use Rattle.ge_model_jobs.specs.Starting.{with_run}

-- a reservation stands under the next number
abbrev pub with_booked : Cluster → Advance → Cluster
with_booked c advance = record c { advances = put_number c.advances c.next_advance advance; next_advance = min (c.next_advance + 1) (2 ^ 32 - 1) }

-- reservations are given up
abbrev pub without_booked : Cluster → List ℕ → Cluster
without_booked c numbers = record c { advances = fold drop_number c.advances numbers }

-- what a change at a moment makes of the cluster
unfoldable pub after_change : ℕ → Cluster → Change → Cluster
after_change moment c (Change.Submit job) = with_job c job
after_change moment c (Change.Alter altered) = with_altered c altered
after_change moment c (Change.Hold numbers bits) = with_held c numbers bits
after_change moment c (Change.Release numbers bits) = with_freed c numbers bits
after_change moment c (Change.Delete picks force) = with_deleted moment c picks force
after_change moment c (Change.Clear picks) = with_cleared c picks
after_change moment c (Change.Put object) = with_item moment c object
after_change moment c (Change.Drop key) = without_item c key.kind key.name
after_change moment c (Change.Load host report) = with_load c host report
after_change moment c (Change.End serial exit cpu mem io) = with_end moment c serial exit cpu mem io
after_change moment c (Change.Run starts) = with_run moment c starts
after_change moment c (Change.Book advance) = with_booked c advance
after_change moment c (Change.Unbook numbers) = without_booked c numbers

-- an entry makes its change, and its moment is the last one
unfoldable pub after_entry : Cluster → Entry → Cluster
after_entry c entry = record (after_change entry.moment c entry.change) { last = entry.moment }

-- all that a row of entries computes through
unfoldable pub changes_in_full : Unit {0}
unfolding after_entry after_change with_job with_altered with_held with_freed with_end with_deleted with_cleared with_item without_item with_load with_run
changes_in_full = tt
