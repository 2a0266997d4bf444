-- All that a trace gives at once. Marks as in the trace: an event is answered by its plan (true), or by want of memory (false).
use Rattle.std.specs.Prelude.{Bool, true, false, List, [], ◌∷◌, ◌++◌}
use Rattle.std.specs.Option.{option_to_list}
use Rattle.ge_model_rows.specs.ClusterRows.{Cluster}
use Rattle.ge_model_rows.specs.EntryRows.{Entry}
use Rattle.ge_model_rows.specs.EventRows.{Event, Reply, Planned}
use Rattle.ge_model_core.specs.Trace.{answer_of, after_entries}

-- what events with marks give: their replies and entries in order, the cluster after them, and whether the last one stops the
-- master
pub record Traced : Type 0 where
  pub replies : List Reply
  pub entries : List Entry
  pub cluster : Cluster
  pub stopped : Bool

-- these replies and entries before those of a trace
abbrev pub onto : List Reply → List Entry → Traced → Traced
onto replies entries t = record { replies = replies ++ t.replies; entries = entries ++ t.entries; cluster = t.cluster; stopped = t.stopped }

-- a trace that ends at a cluster
abbrev pub ends_at : Bool → Cluster → Traced
ends_at stopped c = record { replies = []; entries = []; cluster = c; stopped = stopped }

module _ (plan : Cluster → Event → Planned) where
  -- the trace of events with these marks, up to the event that stops the master
  abbrev pub traced : Cluster → List Event → List Bool → Traced
  traced c events [] = ends_at false c
  traced c [] (mark ∷ marks) = ends_at false c
  traced c (e ∷ events) (mark ∷ marks) =
      let p = answer_of plan c e mark in
      onto (p.reply ∷ []) (option_to_list p.entry) (elim p.stop [ true ↦ ends_at true (after_entries c p.entry) | false ↦ traced (after_entries c p.entry) events marks ])

-- what one event gives that is answered with this plan
abbrev pub single : Cluster → Planned → Traced
single c p = record { replies = p.reply ∷ []; entries = option_to_list p.entry; cluster = after_entries c p.entry; stopped = p.stop }
