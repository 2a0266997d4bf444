-- A run of `simulate`, from the bytes that come in to the bytes that go out: what is written is what the model's plan answers
-- (plan_of).
use Rattle.std.specs.Prelude.{◌≡◌, ◌≢◌, ℕ, ◌-◌, ◌<◌, ◌≤◌, ◌⊎◌, Bool, true, false, List, [], ◌∷◌, length, Option, Some, None, IfSome}
use Rattle.ge_limits.specs.Limits as limit
use Rattle.ge_outside.specs.Faults.{Rose}
use Rattle.ge_outside.specs.Streams.{Gains}
use Rattle.ge_model_rows.specs.ClusterRows.{Cluster, opening_cluster}
use Rattle.ge_model_rows.specs.EventRows.{Event}
use Rattle.ge_model_grammar.specs.Events.{events_of}
use Rattle.ge_model_grammar.specs.Sources.{IsReadToEnd}
use Rattle.ge_model_core.specs.Plan.{plan_of}
use Rattle.ge_model_core.specs.Trace.{answer_of, after_entries, output, WroteAll, WroteReplies, WroteFront}
use Rattle.ge_model_program.specs.Statuses.{IsOneStatusOf}

-- Exit statuses: 0 done, 3 the script has no end within 2^40 bytes, 6 a read failed, 7 a write failed, 10 want of memory.
abbrev pub IsSimulateStatus : ℕ → Type 0
IsSimulateStatus status = IsOneStatusOf (0 ∷ 3 ∷ 6 ∷ 7 ∷ 10 ∷ []) status

-- whether one of the events with these marks stops the master
abbrev pub is_stopped : Cluster → List Event → List Bool → Bool
is_stopped c events [] = false
is_stopped c [] (mark ∷ marks) = false
is_stopped c (e ∷ events) (mark ∷ marks) =
    let p = answer_of plan_of c e mark in elim p.stop [ true ↦ true | false ↦ is_stopped (after_entries c p.entry) events marks ]

-- the whole output of a trace of these events was written, and nothing is left to read unless the trace stops the master
abbrev pub WroteToEnd : Option (List ℕ) → Option (List ℕ) → Cluster → List Event → Option (List ℕ) → Type 0
WroteToEnd old new c events rest =
    (marks : List Bool) × (length marks ≡ length events) × Gains old new (output plan_of c events marks)
    × (is_stopped c events marks ≡ false → IsReadToEnd rest)

-- a fact of how many bytes were read, where the source tells what there was; it tells what is left too, or neither
abbrev pub IfRead : Option (List ℕ) → Option (List ℕ) → (ℕ → Type 0) → Type 0
IfRead None None P = Unit {0}
IfRead None (Some rest) P = ⊥
IfRead (Some script) None P = ⊥
IfRead (Some script) (Some rest) P = P (length script - length rest)

-- script and rest: what the input had before and has after the run; reads: its counts of faults; old and new: what the
-- output holds; writes: its counts of faults
pub record Simulates (status : ℕ) (script rest : Option (List ℕ)) (reads_before reads_after : ℕ) (old new : Option (List ℕ)) (writes_before writes_after : ℕ) : Type 0 where
  pub statuses : IsSimulateStatus status
  pub whole : status ≡ 0 → IfSome script (λ bytes. WroteAll plan_of old new opening_cluster (events_of bytes))
  pub ended : status ≡ 0 → IfSome script (λ bytes. WroteToEnd old new opening_cluster (events_of bytes) rest)
  pub replies : status ≢ 7 → IfSome script (λ bytes. WroteReplies plan_of old new opening_cluster (events_of bytes))
  pub front : IfSome script (λ bytes. WroteFront plan_of old new opening_cluster (events_of bytes))
  pub long : status ≡ 3 → IfRead script rest (λ count. limit.script_bytes ≤ count)
  pub below : (status ≡ 0) ⊎ (status ≡ 7) → IfRead script rest (λ count. count < limit.script_bytes)
  pub read : status ≡ 6 → Rose reads_before reads_after
  pub written : status ≡ 7 → Rose writes_before writes_after

-- no stream fails in a run, and the script is below its limit
pub record AreFaultlessStreams (script : Option (List ℕ)) (reads_before reads_after writes_before writes_after : ℕ) : Type 0 where
  pub reads : Rose reads_before reads_after → ⊥
  pub writes : Rose writes_before writes_after → ⊥
  pub bytes : List ℕ
  pub told : script ≡ Some bytes
  pub below : length bytes < limit.script_bytes
