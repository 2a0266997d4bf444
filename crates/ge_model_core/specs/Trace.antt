-- The trace of a list of events under a plan. A mark says for each event whether it was answered by its plan (true), or by
-- want of memory and nothing changed (false).
use Rattle.std.specs.Prelude.{◌≡◌, ℕ, ◌≤◌, Bool, true, false, List, [], ◌∷◌, ◌++◌, length, Option, Some, None}
use Rattle.ge_outside.specs.Streams.{Gains, GainsPrefix}
use Rattle.ge_base.specs.declared.refusal.Refusal.TheVariants.{NoMemory}
use Rattle.ge_model_rows.specs.ClusterRows.{Cluster}
use Rattle.ge_model_rows.specs.EntryRows.{Entry}
use Rattle.ge_model_rows.specs.EventRows.{Event, Planned}
use Rattle.ge_model_core.specs.Refusals.{refused}
use Rattle.ge_model_core.specs.Render.{rendered}
use Rattle.ge_model_jobs.specs.Applying.{after_entry}

-- the cluster after what may be an entry
abbrev pub after_entries : Cluster → Option Entry → Cluster
after_entries c None = c
after_entries c (Some entry) = after_entry c entry

module _ (plan : Cluster → Event → Planned) where
  -- what an event with this mark is answered with
  abbrev pub answer_of : Cluster → Event → Bool → Planned
  answer_of c e true = plan c e
  answer_of c e false = refused NoMemory

  -- the rendered replies to events with these marks, one after the other, up to the event that stops the master
  abbrev pub output : Cluster → List Event → List Bool → List ℕ
  output c events [] = []
  output c [] (mark ∷ marks) = []
  output c (e ∷ events) (mark ∷ marks) =
      let p = answer_of c e mark in
      rendered p.reply ++ elim p.stop [ true ↦ [] | false ↦ output (after_entries c p.entry) events marks ]

  -- the cluster after events with these marks
  abbrev pub cluster_after : Cluster → List Event → List Bool → Cluster
  cluster_after c events [] = c
  cluster_after c [] (mark ∷ marks) = c
  cluster_after c (e ∷ events) (mark ∷ marks) =
      let p = answer_of c e mark in elim p.stop [ true ↦ after_entries c p.entry | false ↦ cluster_after (after_entries c p.entry) events marks ]

  -- the whole output of a trace of these events was written
  abbrev pub WroteAll : Option (List ℕ) → Option (List ℕ) → Cluster → List Event → Type 0
  WroteAll old new c events = (marks : List Bool) × (length marks ≡ length events) × Gains old new (output c events marks)

  -- the output of a trace of the first of these events was written, up to the end of a reply
  abbrev pub WroteReplies : Option (List ℕ) → Option (List ℕ) → Cluster → List Event → Type 0
  WroteReplies old new c events = (marks : List Bool) × (length marks ≤ length events) × Gains old new (output c events marks)

  -- a front of the output of a trace of these events was written
  abbrev pub WroteFront : Option (List ℕ) → Option (List ℕ) → Cluster → List Event → Type 0
  WroteFront old new c events = (marks : List Bool) × (length marks ≤ length events) × GainsPrefix old new (output c events marks)
