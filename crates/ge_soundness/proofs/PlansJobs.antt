-- The plans of the commands of jobs: what they change fits.
use Rattle.std.proofs.Common.{ℕ, ◌≤◌, Bool, List, ◌++◌, flat_map}
use Rattle.std.specs.Prelude.{not, ◌&&◌}
use Rattle.ge_base.specs.declared.refusal.Refusal.TheVariants.{Cycle, NotPermitted}
use Rattle.ge_model_rows.specs.ClusterRows.{Cluster}
use Rattle.ge_model_rows.specs.EntryRows.{Pick}
use Rattle.ge_model_rows.specs.EventRows.{Event}
use Rattle.ge_model_order.specs.Priority.{prios_at, order_of}
use Rattle.ge_model_core.specs.Altering.{alter_plan, alter_faults, patches_of, closes_a_cycle}
use Rattle.ge_model_core.specs.Deleting.{delete_plan, clear_plan}
use Rattle.ge_model_core.specs.Holding.{hold_plan, release_plan, hold_plan_faults}
use Rattle.ge_model_core.specs.Configuring.{manager_faults}
use Rattle.ge_model_core.specs.Scheduling.{decisions_at, sched_plan}
use Rattle.ge_model_core.specs.Targets.{target_faults}
use Rattle.ge_model_jobs.proofs.Orderly.{ArePicks}
use Rattle.ge_model_grammar.specs.Options.{Given}
use Rattle.ge_model_rows.specs.Access.{is_operator}
use Rattle.ge_model_rows.specs.Faults.{when}
use Rattle.ge_soundness.proofs.PlansAnswers.{EntryFits, entry_change}
use Rattle.ge_soundness.proofs.PlansRuns.{run_is_numbered}

-- qalter sets fields that soundness doesn't speak of
pub alter_entry : (c : Cluster) (e : Event) (options : Given) (numbers : List ℕ) → c.last ≤ e.moment → EntryFits c (alter_plan c e options numbers)
unfolding alter_plan
alter_entry c e options numbers later =
    entry_change c e (flat_map (alter_faults c e options) numbers ++ when (closes_a_cycle c options (patches_of c options numbers)) Cycle) _ _ later (λ none. tt)

-- qhold and qrls change holds alone
pub hold_entry : (c : Cluster) (e : Event) (bits : ℕ) (numbers : List ℕ) → c.last ≤ e.moment → EntryFits c (hold_plan c e bits numbers)
unfolding hold_plan
hold_entry c e bits numbers later = entry_change c e (hold_plan_faults c e bits numbers) _ _ later (λ none. tt)

pub release_entry : (c : Cluster) (e : Event) (bits : ℕ) (numbers : List ℕ) → c.last ≤ e.moment → EntryFits c (release_plan c e bits numbers)
unfolding release_plan
release_entry c e bits numbers later = entry_change c e (hold_plan_faults c e bits numbers) _ _ later (λ none. tt)

-- qdel and qmod -cj name tasks by sets in the form
pub delete_entry : (c : Cluster) (e : Event) (force : Bool) (picks : List Pick) → c.last ≤ e.moment → ArePicks picks → EntryFits c (delete_plan c e force picks)
unfolding delete_plan
delete_entry c e force picks later are = entry_change c e (flat_map (target_faults c e) picks ++ when (force && not (is_operator c e.user)) NotPermitted) _ _ later (λ none. are)

pub clear_entry : (c : Cluster) (e : Event) (picks : List Pick) → c.last ≤ e.moment → ArePicks picks → EntryFits c (clear_plan c e picks)
unfolding clear_plan
clear_entry c e picks later are = entry_change c e (flat_map (target_faults c e) picks) _ _ later (λ none. are)

-- a run starts tasks under the next serials
pub sched_entry : (c : Cluster) (e : Event) → c.last ≤ e.moment → EntryFits c (sched_plan c e)
unfolding sched_plan decisions_at
sched_entry c e later = entry_change c e (manager_faults c e) _ _ later (λ none. run_is_numbered c (order_of c (prios_at c e.moment) e.moment) e.moment)
