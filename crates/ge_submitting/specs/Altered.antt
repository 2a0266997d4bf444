-- The plan of an alteration behind the refusals of its jobs.
use Rattle.std.specs.Prelude.{ℕ, List, Option}
use Rattle.ge_base.specs.declared.refusal.Refusal.{Refusal}
use Rattle.ge_base.specs.declared.refusal.Refusal.TheVariants.{Cycle}
use Rattle.ge_model_rows.specs.ClusterRows.{Cluster}
use Rattle.ge_model_rows.specs.EventRows.{Event, Planned}
use Rattle.ge_model_rows.specs.Faults.{when, after_faults}
use Rattle.ge_model_grammar.specs.Options.{Given}
use Rattle.ge_model_core.specs.Refusals.{unless_refused}
use Rattle.ge_model_core.specs.Altering.{patches_of, closes_a_cycle, altered}

-- the plan where this was noted of the jobs
abbrev pub plan_behind : Cluster → Event → Given → List ℕ → Option Refusal → Planned
plan_behind c e options numbers noted =
    unless_refused (after_faults noted (when (closes_a_cycle c options (patches_of c options numbers)) Cycle)) (altered e (patches_of c options numbers))
