-- The plans of qstat and qacct.
use Rattle.std.specs.Prelude.{ℕ, ◌==◌, if◌then◌else◌, List, [], length, is_some}
use Rattle.ge_base.specs.declared.refusal.Refusal.TheVariants.{NoSuchObject}
use Rattle.ge_collections.specs.Keyed.{at_number}
use Rattle.ge_model_rows.specs.ClusterRows.{Cluster}
use Rattle.ge_model_rows.specs.CommandRows.{Listing, Query}
use Rattle.ge_model_rows.specs.EventRows.{Event, Planned}
use Rattle.ge_model_core.specs.Refusals.{refused}
use Rattle.ge_model_order.specs.Priority.{prios_at}
use Rattle.ge_model_report.specs.Listing.{listing_of}
use Rattle.ge_model_report.specs.Accounting.{account_of}
use Rattle.ge_model_core.specs.Answers.{shown}

-- qstat -j asks for a job that lives; -pri shows the priorities of now
abbrev pub show_plan_of : Cluster → ℕ → Listing → Planned
show_plan_of c now (Listing.One number) = if is_some (at_number c.jobs number) then shown (listing_of c (Listing.One number) now []) else refused NoSuchObject
show_plan_of c now Listing.Prios = shown (listing_of c Listing.Prios now (prios_at c now))
show_plan_of c now Listing.Queues = shown (listing_of c Listing.Queues now [])
show_plan_of c now (Listing.All pattern) = shown (listing_of c (Listing.All pattern) now [])

unfoldable pub show_plan : Cluster → Event → Listing → Planned
show_plan c e what = show_plan_of c e.moment what

abbrev pub job_account_plan : List (List ℕ) → Planned
job_account_plan lines = if length lines == 0 then refused NoSuchObject else shown lines

-- qacct -j asks for a job with a line
abbrev pub account_plan_of : Cluster → Query → Planned
account_plan_of c (Query.Job number) = job_account_plan (account_of c (Query.Job number))
account_plan_of c Query.Total = shown (account_of c Query.Total)
account_plan_of c (Query.Owner name) = shown (account_of c (Query.Owner name))

unfoldable pub account_plan : Cluster → Query → Planned
account_plan c what = account_plan_of c what
