-- How far a replay has come: the replies to the first n events are written, and the areas hold what the first n or the first m events
-- changed. Marks are those of the first m events. Each batch that is answered fits: an area holds what is written for it.
use Rattle.std.specs.Prelude.{◌≡◌, ◌⊎◌, ℕ, ◌+◌, ◌*◌, ◌<◌, ◌≤◌, Bool, true, false, List, ◌++◌, length, take, drop, flat_map, Option, Ok}
use Rattle.ge_outside.specs.Streams.{Gains}
use Rattle.ge_model_rows.specs.ClusterRows.{Cluster}
use Rattle.ge_model_rows.specs.EventRows.{Event, Planned}
use Rattle.ge_model_journal.specs.Disk.{Content, IsImageNow}
use Rattle.ge_model_core.specs.Render.{rendered}
use Rattle.ge_model_program.specs.Traced.{Traced, traced}
use Rattle.ge_model_program.specs.StandsFor.{stands_for, StandsForOneOf}
use Rattle.ge_model_program.specs.Keeping.{Ledger, HasNoRoom, ledger_after, BatchesFit}

-- the replies of a trace as they are written
abbrev pub written_of : Traced → List ℕ
written_of t = flat_map rendered t.replies

-- every pair of what a stop may leave now stands for the cluster
abbrev pub EachStandsFor : List Content → List Content → Cluster → Type 0
EachStandsFor a b x = (c d : List ℕ) → IsImageNow a c → IsImageNow b d → stands_for c d ≡ Ok x

-- every such pair stands for one of two clusters
abbrev pub EachStandsForOneOf : List Content → List Content → Cluster → Cluster → Type 0
EachStandsForOneOf a b x y = (c d : List ℕ) → IsImageNow a c → IsImageNow b d → StandsForOneOf x y c d

-- A number of batches was begun for m events, of which all but the last are full; each takes three syncs at most.
pub record Syncs (batch m before later : ℕ) : Type 0 where
  pub batches : ℕ
  pub begun : batches * batch < m + batch
  pub few : later ≤ before + 3 * batches

module _ (plan : Cluster → Event → Planned) (start : Cluster) (events : List Event) (old new : Option (List ℕ)) (batch : ℕ) (ledger : Ledger) where
  -- The replies to the events of some full batches are written, and a batch more is at hand: as many events, or all that are left. These
  -- are its marks.
  pub record HasNext : Type 0 where
    pub marks : List Bool
    pub more : List Bool
    pub batches : ℕ
    pub full : length marks ≡ batches * batch
    pub going : (traced plan start events marks).stopped ≡ false
    pub some : 0 < length more
    pub few : length more ≤ batch
    pub within : length (marks ++ more) ≤ length events
    pub whole : (length more ≡ batch) ⊎ (length (marks ++ more) ≡ length events)
    pub wrote : Gains old new (written_of (traced plan start events marks))
    pub fits : (k : ℕ) → BatchesFit plan batch k ledger start events marks

  -- the ledger before that batch, and the trace of its events
  abbrev pub ledger_then : HasNext → Ledger
  ledger_then next = ledger_after plan batch next.batches ledger start events next.marks

  abbrev pub trace_then : HasNext → Traced
  trace_then next = traced plan (traced plan start events next.marks).cluster (drop (length next.marks) events) next.more

module _ (plan : Cluster → Event → Planned) (start : Cluster) (events : List Event) (home : Type 0) (old new : Option (List ℕ)) (a b : List Content)
    (batch before later : ℕ) (ledger : Ledger) where
  -- the replies to the first n events are written, and the areas have these events or some of one batch more
  pub record RanTo : Type 0 where
    pub marks : List Bool
    pub n : ℕ
    pub answered : n ≤ length marks
    pub in_hand : length marks ≤ n + batch
    pub within : length marks ≤ length events
    pub wrote : Gains old new (written_of (traced plan start events (take n marks)))
    pub fits : (k : ℕ) → BatchesFit plan batch k ledger start events (take n marks)
    pub images : home → EachStandsForOneOf a b (traced plan start events (take n marks)).cluster (traced plan start events marks).cluster
    pub syncs : Syncs batch (length marks) before later

  -- a front of the replies to the first m events is written, with all to the first n, and the areas have the first m
  pub record RanCut : Type 0 where
    pub marks : List Bool
    pub n : ℕ
    pub answered : n ≤ length marks
    pub in_hand : length marks ≤ n + batch
    pub within : length marks ≤ length events
    pub size : ℕ
    pub least : length (written_of (traced plan start events (take n marks))) ≤ size
    pub most : size ≤ length (written_of (traced plan start events marks))
    pub wrote : Gains old new (take size (written_of (traced plan start events marks)))
    pub fits : (k : ℕ) → BatchesFit plan batch k ledger start events marks
    pub images : home → EachStandsFor a b (traced plan start events marks).cluster
    pub syncs : Syncs batch (length marks) before later

  -- All events are answered and the script is read to its end, or those are up to one that stops the master; and the areas have them all.
  pub record RanAll (ended : Type 0) : Type 0 where
    pub marks : List Bool
    pub within : length marks ≤ length events
    pub all : ((length marks ≡ length events) × ended) ⊎ ((traced plan start events marks).stopped ≡ true)
    pub wrote : Gains old new (written_of (traced plan start events marks))
    pub fits : (k : ℕ) → BatchesFit plan batch k ledger start events marks
    pub images : home → EachStandsFor a b (traced plan start events marks).cluster
    pub syncs : Syncs batch (length marks) before later

  -- There is no room for the next batch: the areas have the events before it alone.
  pub record RanFull : Type 0 where
    pub next : HasNext plan start events old new batch ledger
    pub place : ℕ
    pub room : HasNoRoom (ledger_then plan start events old new batch ledger next) (trace_then plan start events old new batch ledger next) place
    pub images : home → EachStandsFor a b (traced plan start events next.marks).cluster
    pub syncs : Syncs batch (length (next.marks ++ next.more)) before later
