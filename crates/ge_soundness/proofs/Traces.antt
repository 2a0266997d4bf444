-- A sound cluster in order stays so under each entry of a plan, and in a trace of events.
use Rattle.std.proofs.Common.{◌≤◌, Bool, true, false, List, [], ◌∷◌, Option, Some, None}
use Rattle.std.specs.Prelude.{IfSome}
use Rattle.ge_model_rows.specs.ClusterRows.{Cluster, opening_cluster}
use Rattle.ge_model_rows.specs.EntryRows.{Entry}
use Rattle.ge_model_rows.specs.EventRows.{Event, Planned}
use Rattle.ge_model_jobs.specs.Soundness.{IsSound}
use Rattle.ge_model_jobs.specs.Orderly.{IsOrdered}
use Rattle.ge_model_jobs.specs.Applying.{after_entry}
use Rattle.ge_model_core.specs.Trace.{answer_of, after_entries, cluster_after}
use Rattle.ge_soundness.proofs.Brought.{Fits}
use Rattle.ge_soundness.proofs.Changes.{kept}

-- a sound cluster, its jobs in order
abbrev pub IsKept : Cluster → Type 0
IsKept c = IsSound c × IsOrdered c

-- before the first command no job lives and nothing is booked
pub opening_ordered : IsOrdered opening_cluster
unfolding opening_cluster
opening_ordered = record { numbers = tt; jobs = tt; advances = tt }

-- what a plan's entry brings, where there is one, fits
abbrev pub Brings : (Cluster → Event → Planned) → Type 0
Brings plan = (c : Cluster) (e : Event) → IfSome (plan c e).entry (λ entry. (c.last ≤ entry.moment) × Fits c entry.moment entry.change)

module _ (plan : Cluster → Event → Planned) (brings : Brings plan) where
  -- after the entry of an event
  pub entry_kept : (c : Cluster) (e : Event) → IsSound c → IsOrdered c → IfSome (plan c e).entry (λ entry. IsKept (after_entry c entry))
  entry_kept c e sound ordered = by (plan c e).entry (brings c e)
    where
      by : (o : Option Entry) → IfSome o (λ entry. (c.last ≤ entry.moment) × Fits c entry.moment entry.change) → IfSome o (λ entry. IsKept (after_entry c entry))
      by None fits = tt
      by (Some entry) fits = kept c entry.moment entry.change fits.0 fits.1 sound ordered

  -- after what may be an entry
  kept_after : (c : Cluster) (o : Option Entry) → IsKept c → IfSome o (λ entry. IsKept (after_entry c entry)) → IsKept (after_entries c o)
  kept_after c None well again = well
  kept_after c (Some entry) well again = again

  -- after an event with a mark
  marked_kept : (c : Cluster) (e : Event) (mark : Bool) → IsKept c → IsKept (after_entries c (answer_of plan c e mark).entry)
  marked_kept c e true well = kept_after c (plan c e).entry well (entry_kept c e well.0 well.1)
  marked_kept c e false well = well

  -- after events with marks, up to the one that stops the master
  pub trace_kept : (marks : List Bool) (c : Cluster) (events : List Event) → IsKept c → IsKept (cluster_after plan c events marks)
  trace_kept [] c events well = well
  trace_kept (mark ∷ marks) c [] well = well
  trace_kept (mark ∷ marks) c (e ∷ events) well = by (answer_of plan c e mark).stop (trace_kept marks after events one)
    where
      after : Cluster
      after = after_entries c (answer_of plan c e mark).entry

      one : IsKept after
      one = marked_kept c e mark well

      by : (stop : Bool) → IsKept (cluster_after plan after events marks) → IsKept (elim stop [ true ↦ after | false ↦ cluster_after plan after events marks ])
      by true more = one
      by false more = more
