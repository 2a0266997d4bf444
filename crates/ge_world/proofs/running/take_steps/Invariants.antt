use Rattle.std.proofs.Common.{◌≡◌, fold, drop}
use Rattle.ge_model_world.specs.Worlds.{step_of}
use Rattle.ge_world_laws.specs.Product.{product}
use Rattle.ge_world.proofs.running.take_steps.Given as goal

-- the steps that are left lead to the same
abbrev pub invariant-loop-step : goal.invariant-loop-step
invariant-loop-step l = fold (step_of product) l.w (drop l.step-index l.steps) ≡ fold (step_of product) l.fn.w l.steps
