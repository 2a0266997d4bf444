-- A replay, by its status: what it wrote, what the areas hold, and why it ended.
use Rattle.std.specs.Prelude.{◌≡◌, ◌≢◌, ◌⊎◌, ℕ, ◌+◌, ◌<◌, ◌≤◌, Bool, true, List, [], ◌∷◌, Option, Some, Ok, IfSome, IsErr}
use Rattle.ge_limits.specs.Limits as limit
use Rattle.ge_outside.specs.Faults.{Rose}
use Rattle.ge_model_rows.specs.ClusterRows.{Cluster}
use Rattle.ge_model_grammar.specs.Events.{events_of}
use Rattle.ge_model_grammar.specs.Sources.{IsReadToEnd}
use Rattle.ge_model_core.specs.Plan.{plan_of}
use Rattle.ge_model_journal.specs.Journal.{State, meaning}
use Rattle.ge_model_program.specs.Traced.{traced}
use Rattle.ge_model_program.specs.StandsFor.{stands_for}
use Rattle.ge_model_program.specs.Statuses.{IsOneStatusOf}
use Rattle.ge_model_program.specs.Simulating.{IfRead}
use Rattle.ge_model_program.specs.View.{View, DiskRose, said_of, AreStill, AreKept}
use Rattle.ge_model_program.specs.Keeping.{Ledger, ledger_in}
use Rattle.ge_model_program.specs.Runs.{RanTo, RanCut, RanAll, RanFull}

-- a script was read to its end, or one of its events stops a master
abbrev pub EndsOrStops : Option (List ℕ) → Option (List ℕ) → Type 0
EndsOrStops script rest =
    IsReadToEnd rest ⊎ IfSome script (λ bytes. (c : Cluster) × (marks : List Bool) × ((traced plan_of c (events_of bytes) marks).stopped ≡ true))

-- Exit statuses of a replay over areas that stand for a cluster: 0 done, 3 the script has no end within 2^40 bytes, 5 an area
-- has no room for a batch, 6 a read failed, 7 a write failed, 8 an area failed, 10 want of memory.
abbrev pub IsReplayStatus : ℕ → Type 0
IsReplayStatus status = IsOneStatusOf (0 ∷ 3 ∷ 5 ∷ 6 ∷ 7 ∷ 8 ∷ 10 ∷ []) status

-- script and rest: what the input had before and has after the replay; reads: its counts of faults; x and y: what it may change, before
-- and after
module _ (status : ℕ) (script rest : Option (List ℕ)) (reads_before reads_after : ℕ) (x y : View) where
  -- Why a replay ends with a status: the script was read to its end or up to an event that stops the master; or as many bytes of it as a
  -- script may have were read without its end; or a device failed.
  pub record HasCauses : Type 0 where
    pub ended : status ≡ 0 → EndsOrStops script rest
    pub long : status ≡ 3 → IfRead script rest (λ count. limit.script_bytes ≤ count)
    pub below : (status ≡ 0) ⊎ (status ≡ 5) ⊎ (status ≡ 7) → IfRead script rest (λ count. count < limit.script_bytes)
    pub read : status ≡ 6 → Rose reads_before reads_after
    pub written : status ≡ 7 → Rose x.writes y.writes
    pub disk : status ≡ 8 → DiskRose x y

  -- How far a replay has come that began with a cluster, with the areas at home, and from a ledger on.
  pub record Replays (start : Cluster) (home : Type 0) (ledger : Ledger) (batch : ℕ) : Type 0 where
    pub statuses : IsReplayStatus status
    pub whole : status ≡ 0 → IfSome script (λ bytes. RanAll plan_of start (events_of bytes) home x.output y.output y.a y.b batch x.syncs y.syncs ledger (IsReadToEnd rest))
    pub part : status ≢ 7 → IfSome script (λ bytes. RanTo plan_of start (events_of bytes) home x.output y.output y.a y.b batch x.syncs y.syncs ledger)
    pub cut : status ≡ 7 → IfSome script (λ bytes. RanCut plan_of start (events_of bytes) home x.output y.output y.a y.b batch x.syncs y.syncs ledger)
    pub full : status ≡ 5 → IfSome script (λ bytes. RanFull plan_of start (events_of bytes) home x.output y.output y.a y.b batch x.syncs y.syncs ledger)
    pub causes : HasCauses

-- what is seen where opening the areas has synced them, six times at most
abbrev pub opened_view : View → View
opened_view x = record x { syncs = x.syncs + 6 }

-- Where opening the areas may be what failed, nothing was pending on them before. Areas that were opened are at rest, whatever was.
abbrev pub WereStill : ℕ → View → Type 0
WereStill status x = ((status ≡ 8) ⊎ (status ≡ 10)) → AreStill x

-- A replay that opens the areas. Where they stand for a cluster it begins with that.
-- Status 4 comes only where they stand for none, and then it is that, an area's failure or want of memory.
pub record ReplaysAreas (batch status : ℕ) (script rest : Option (List ℕ)) (reads_before reads_after : ℕ) (x y : View) : Type 0 where
  pub statuses : (status ≡ 4) ⊎ IsReplayStatus status
  pub ran : (start : Cluster) (state : State) → said_of stands_for x.a x.b ≡ Some (Ok start) → said_of meaning x.a x.b ≡ Some (Ok state)
      → Replays status script rest reads_before reads_after (opened_view x) y start (WereStill status x) (ledger_in state) batch
  pub causes : HasCauses status script rest reads_before reads_after x y
  pub refused : status ≡ 4 → IfSome (said_of stands_for x.a x.b) IsErr
  pub kept : status ≡ 4 → AreKept x y
  pub not_opened : IfSome (said_of stands_for x.a x.b) (λ stood. IsErr stood → IsOneStatusOf (4 ∷ 8 ∷ 10 ∷ []) status)
  pub untouched : IfSome (said_of stands_for x.a x.b) (λ stood. IsErr stood → (rest ≡ script) × (y.output ≡ x.output))
  pub unread : status ≡ 4 → rest ≡ script
  pub unwritten : status ≡ 4 → y.output ≡ x.output
