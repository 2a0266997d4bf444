-- The lines of qstat in each of its forms.
pub use Rattle.ge_model_report.specs.Grants.{instance_text, grants_text}
use Rattle.std.specs.Prelude.{ℕ, ◌/◌, List, [], ◌∷◌, map, decimal}
use Rattle.ge_model_rows.specs.ClusterRows.{Cluster}
use Rattle.ge_model_rows.specs.CommandRows.{Listing}
use Rattle.ge_model_rows.specs.ScheduleRows.{Prio}
use Rattle.ge_model_rows.specs.ValueRows.{million}
use Rattle.std.specs.Fmt.{digits}
use Rattle.ge_model_rows.specs.Values.{fixed_text}
use Rattle.ge_model_rows.specs.Groups.{members_of, expanded}
use Rattle.ge_model_rows.specs.Queues.{instances_of}
use Rattle.ge_model_place.specs.Limits.{counted_at, demands_of}
use Rattle.ge_model_place.specs.Opening.{reaches_threshold}
use Rattle.ge_model_place.specs.Windows.{base_bookings}
use Rattle.ge_model_order.specs.Priority.{sorted_prios}
use Rattle.ge_model_report.specs.Grants.{worded}
use Rattle.ge_model_report.specs.JobFields.{one_listing}
use Rattle.ge_model_report.specs.JobLines.{jobs_listing}
use Rattle.ge_model_report.specs.QueueLines.{queues_listing}

-- a job with the three parts of its priority and their weighted sum, rounded down to millionths
abbrev pub prio_line : Prio → List ℕ
prio_line prio = worded (decimal prio.job ∷ fixed_text prio.np ∷ fixed_text prio.nu ∷ fixed_text prio.nt ∷ fixed_text (prio.total / million) ∷ [])

-- -pri: the jobs in the order of a run
abbrev pub prios_listing : List Prio → List (List ℕ)
prios_listing prios = map prio_line (sorted_prios prios)

-- the lines of qstat in each of its forms, at a moment and with these priorities
unfoldable pub listing_of : Cluster → Listing → ℕ → List Prio → List (List ℕ)
listing_of c (Listing.All pattern) now prios = jobs_listing c pattern
listing_of c (Listing.One number) now prios = one_listing c number
listing_of c Listing.Queues now prios = queues_listing c now
listing_of c Listing.Prios now prios = prios_listing prios

-- all that a row of listings computes through
unfoldable pub listings_in_full : Unit {0}
unfolding listing_of members_of expanded instances_of counted_at demands_of reaches_threshold base_bookings digits
listings_in_full = tt
