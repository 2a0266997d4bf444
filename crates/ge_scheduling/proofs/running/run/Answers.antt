-- What holds of the run that is computed holds of the decisions.
use Rattle.ge_model_place.specs.Running.{run_of}
use Rattle.ge_model_place.specs.Runs.{IsRun, KeepsLimits, DecidesEach}
use Rattle.ge_model_place.proofs.Decided.{run_of_is_run}
use Rattle.ge_model_place.proofs.Laws.{decides_each}
use Rattle.ge_model_place.proofs.Sums.{run_keeps_limits}
use Rattle.ge_scheduling.specs.Sooner.{ReservesEarliest}
use Rattle.ge_scheduling.proofs.Sound.{holds_of_it, run_reserves_early}
use Rattle.ge_scheduling.proofs.running.run.Goals as goal

pub returns-clause-each : goal.returns-clause-each
returns-clause-each c =
    holds_of_it (λ decisions. DecidesEach c.args.order.now decisions) _ _ c.decide_all.ensures
    (decides_each c.args.cluster.now c.args.now c.args.order.now (run_of c.args.cluster.now c.args.order.now c.args.now) (run_of_is_run c.args.cluster.now c.args.now c.args.order.now))

pub returns-clause-run : goal.returns-clause-run
returns-clause-run c = holds_of_it (λ decisions. IsRun c.args.cluster.now c.args.order.now c.args.now decisions) _ _ c.decide_all.ensures (run_of_is_run c.args.cluster.now c.args.now c.args.order.now)

pub returns-clause-limits : goal.returns-clause-limits
returns-clause-limits c = holds_of_it (λ decisions. KeepsLimits c.args.cluster.now c.args.now decisions) _ _ c.decide_all.ensures (run_keeps_limits c.args.cluster.now c.args.order.now c.args.now)

pub returns-clause-earliest : goal.returns-clause-earliest
returns-clause-earliest c = holds_of_it (λ decisions. ReservesEarliest c.args.cluster.now c.args.now decisions) _ _ c.decide_all.ensures (run_reserves_early c.args.cluster.now c.args.now c.args.order.now)
