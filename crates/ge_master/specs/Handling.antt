-- What handling events answers and leaves.
use Rattle.std.specs.Prelude.{◌≡◌, ◌⊎◌, ℕ, ◌+◌, ◌<◌, ◌≤◌, Bool, ◌||◌, List, [], ◌∷◌, length, flat_map, Result, Ok, Err, OnOk}
use Rattle.ge_limits.specs.Limits as limit
use Rattle.ge_model_rows.specs.ClusterRows.{Cluster}
use Rattle.ge_model_rows.specs.EventRows.{Event, Reply, Planned}
use Rattle.ge_model_core.specs.Trace.{answer_of}
use Rattle.ge_model_program.specs.StandsFor.{entry_bytes, cluster_bytes, StandsForOneOf}
use Rattle.ge_model_program.specs.Traced.{Traced, traced, single}
use Rattle.ge_model_program.specs.Keeping.{FitsBatch, HasNoRoom, next_ledger}
use Rattle.ge_spool.specs.Settled.{Grows, generation_of, record_count}
use Rattle.ge_spool.specs.declared.spool.Spool.{Spool}
use Rattle.ge_master.specs.Areas.{Areas, HasFailed, EachSince, StandsSince}
use Rattle.ge_master.specs.Storing.{record_limit, last_generation, compacts, written_end, IsStored, stored_syncs, OnUnwritten}
use Rattle.ge_master.specs.Ledgers.{ledger_of}
use Rattle.ge_master.specs.Homes.{Parts, IsHome}
use Rattle.ge_master.specs.declared.faults.Stop.{Stop}
use Rattle.ge_master.specs.declared.faults.Stop.TheVariants.{Disk, Full, Spent, Dead}

-- how many bytes the record of a trace's entries has
abbrev pub traced_size : Traced → ℕ
traced_size t = length (flat_map entry_bytes t.entries)

-- whether what a trace changed is kept as a snapshot
abbrev pub traced_compacts : Spool → Traced → Bool
traced_compacts spool t = compacts spool (traced_size t)

-- where the area ends that is written for it
abbrev pub traced_end : Spool → Traced → ℕ
traced_end spool t = written_end spool t.cluster (traced_size t)

-- the answer for a trace, whose replies are handed out when all it changed is kept; Full comes exactly where there is no room for that, and
-- a disk fails only for a reason
abbrev pub RepliesAs : Traced → Spool → Result (List Reply) Stop → Type 0 → Type 0
RepliesAs t spool (Ok replies) reason = (replies ≡ t.replies) × FitsBatch (ledger_of spool) t
RepliesAs t spool (Err Disk) reason = reason × (traced_end spool t ≤ limit.area_bytes)
RepliesAs t spool (Err (Full place)) reason = HasNoRoom (ledger_of spool) t place
RepliesAs t spool (Err Spent) reason = Unit {0}
RepliesAs t spool (Err Dead) reason = ⊥

-- The journal after a trace whose changes are kept: as it was where there are none, else with one record more or in its next
-- generation.
abbrev pub KeepsTrace : Traced → Spool → Spool → Type 0
KeepsTrace t old new =
    ((t.entries ≡ []) × (new ≡ old))
    ⊎ IsStored (traced_compacts old t) old new (traced_size t) (length (cluster_bytes t.cluster))

-- what is left where a trace is answered
pub record HasHandled (t : Traced) (old new : Parts) : Type 0 where
  pub cluster : new.cluster ≡ t.cluster
  pub stopping : new.stopping ≡ (old.stopping || t.stopped)
  pub journal : KeepsTrace t old.spool new.spool
  pub ledger : ledger_of new.spool ≡ next_ledger (ledger_of old.spool) t
  -- in the last generation no bound is kept
  pub few : generation_of old.spool < last_generation → (t.entries ≡ []) ⊎ (record_count new.spool ≤ record_limit)

-- What handling events comes to that give this trace, for a master that lives.
pub record Handles (t : Traced) (old new : Parts) (result : Result (List Reply) Stop) (before after : Areas) : Type 0 where
  pub answer : RepliesAs t old.spool result (HasFailed before after)
  pub left : OnOk result (HasHandled t old new)
  pub home : IsHome old before → OnOk result (IsHome new after)
  -- where nothing is to be written the areas are left alone
  pub idle : t.entries ≡ [] → after ≡ before
  -- at each moment every pair of images stands for the cluster before the events or after them
  pub any_moment : IsHome old before → EachSince before after (StandsForOneOf old.cluster t.cluster)
  -- for the one before where nothing was written
  pub unwritten : IsHome old before → OnUnwritten result (StandsSince before after old.cluster)
  pub grows : Grows before.a after.a before.b after.b
  pub syncs : after.syncs ≤ before.syncs + stored_syncs (traced_compacts old.spool t)

-- What a batch comes to: its events are answered by their plans, or some by want of memory.
pub record HandlesBatch (plan : Cluster → Event → Planned) (old new : Parts) (events : List Event) (result : Result (List Reply) Stop) (before after : Areas) : Type 0 where
  pub marks : List Bool
  pub counted : length marks ≡ length events
  pub handled : Handles (traced plan old.cluster events marks) old new result before after

-- the answer to one event as that to a batch of one
abbrev pub as_batch : Result Reply Stop → Result (List Reply) Stop
as_batch (Ok reply) = Ok (reply ∷ [])
as_batch (Err stop) = Err stop

-- What one event comes to: it is answered by its plan, or by want of memory.
pub record HandlesEvent (plan : Cluster → Event → Planned) (old new : Parts) (event : Event) (result : Result Reply Stop) (before after : Areas) : Type 0 where
  pub mark : Bool
  pub handled : Handles (single old.cluster (answer_of plan old.cluster event mark)) old new (as_batch result) before after
