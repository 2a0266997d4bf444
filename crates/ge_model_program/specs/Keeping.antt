-- How a journal keeps what batches changed: each as a record, or as a snapshot of the whole cluster, which an area must hold.
use Rattle.std.specs.Prelude.{◌≡◌, ◌⊎◌, ℕ, zero, suc, ◌+◌, ◌-◌, ◌^◌, ◌<◌, ◌≤◌, min, Bool, true, false, not, ◌&&◌, ◌||◌, ◌==◌, nat_le, nat_lt, if◌then◌else◌, List, [], ◌∷◌, length, take, drop, flat_map}
use Rattle.ge_limits.specs.Limits as limit
use Rattle.ge_model_rows.specs.ClusterRows.{Cluster}
use Rattle.ge_model_rows.specs.EntryRows.{Entry}
use Rattle.ge_model_rows.specs.EventRows.{Event, Planned}
use Rattle.ge_model_journal.specs.Area.{written_format, end_from}
use Rattle.ge_model_journal.specs.Journal.{State}
use Rattle.ge_model_program.specs.Traced.{Traced, traced}
use Rattle.ge_model_program.specs.StandsFor.{entry_bytes, cluster_bytes}

-- what decides it: the format of the area that counts, its generation, how many records stand behind its snapshot, and where their list ends
pub record Ledger : Type 0 where
  pub format : ℕ
  pub generation : ℕ
  pub count : ℕ
  pub end : ℕ

-- that of what two areas stand for
abbrev pub ledger_in : State → Ledger
ledger_in s = record { format = s.format; generation = s.generation; count = length s.records; end = end_from (18 + length s.snapshot) s.records }

-- Whether the cluster is kept in place of a record of so many bytes: where the area is of the earlier format, 4,095 records stand behind its
-- snapshot, or the record doesn't fit. The last generation has no next one, so it takes records alone.
abbrev pub keeps_cluster : Ledger → ℕ → Bool
keeps_cluster l size =
    not (l.format == written_format)
    || (not (l.generation == 2 ^ 64 - 1) && (nat_le 4095 l.count || nat_lt limit.area_bytes (l.end + 6 + size)))

-- the ledger behind a snapshot of so many bytes, or behind a record of so many
abbrev pub kept_ledger : Bool → Ledger → ℕ → ℕ → Ledger
kept_ledger true l size snapshot_size = record { format = written_format; generation = l.generation + 1; count = 0; end = 18 + snapshot_size }
kept_ledger false l size snapshot_size = record { format = l.format; generation = l.generation; count = l.count + 1; end = l.end + 5 + size }

-- how many bytes the entries of a batch have
abbrev pub entries_size : Traced → ℕ
entries_size t = length (flat_map entry_bytes t.entries)

-- Where the area ends that is written for a batch: behind the snapshot, or behind one record more as far as a number of 64 bits tells.
abbrev pub batch_end : Ledger → Traced → ℕ
batch_end l t =
    if keeps_cluster l (entries_size t) then 19 + length (cluster_bytes t.cluster) else min (l.end + 6 + entries_size t) (2 ^ 64 - 1)

-- it changed nothing, or an area holds what is written for it
abbrev pub FitsBatch : Ledger → Traced → Type 0
FitsBatch l t = (t.entries ≡ []) ⊎ (batch_end l t ≤ limit.area_bytes)

-- It changed something, for which there is no room: the area would end at the place, past its limit. Before the last generation that is
-- behind a snapshot, for there a record that doesn't fit gives way to one.
pub record HasNoRoom (l : Ledger) (t : Traced) (place : ℕ) : Type 0 where
  pub some : 0 < length t.entries
  pub end : place ≡ batch_end l t
  pub past : limit.area_bytes < place
  pub compacting : l.generation < 2 ^ 64 - 1 → keeps_cluster l (entries_size t) ≡ true

-- the one where there are no entries, else the other
abbrev pub by_entries : List Entry → Ledger → Ledger → Ledger
by_entries [] l kept = l
by_entries (e ∷ es) l kept = kept

-- the ledger after a batch: as before where it changed nothing, else that of how it is kept
abbrev pub next_ledger : Ledger → Traced → Ledger
next_ledger l t = by_entries t.entries l (kept_ledger (keeps_cluster l (entries_size t)) l (entries_size t) (length (cluster_bytes t.cluster)))

module _ (plan : Cluster → Event → Planned) (size : ℕ) where
  -- the ledger after the first batches of events with these marks, so many events a batch
  abbrev pub ledger_after : ℕ → Ledger → Cluster → List Event → List Bool → Ledger
  ledger_after zero l c events marks = l
  ledger_after (suc k) l c events marks =
      let t = traced plan c (take size events) (take size marks) in
      ledger_after k (next_ledger l t) t.cluster (drop size events) (drop size marks)

  -- each of those batches fits
  abbrev pub BatchesFit : ℕ → Ledger → Cluster → List Event → List Bool → Type 0
  BatchesFit zero l c events marks = Unit {0}
  BatchesFit (suc k) l c events marks =
      let t = traced plan c (take size events) (take size marks) in
      FitsBatch l t × BatchesFit k (next_ledger l t) t.cluster (drop size events) (drop size marks)
