use Rattle.std.proofs.Common.{◌≡◌, ◌++◌, ◌∷◌, [], arith}
use Rattle.std.proofs.lemmas.Grind.{common_steps}
use Rattle.ge_outside.specs.declared.memory_steps.Step.TheVariants.{Wrote}
use Rattle.ge_outside.proofs.histories.keep_write.Goals as goal

pub returns-clause-step : goal.returns-clause-step
returns-clause-step c =
    let pushed : c.push.new.self.items ≡ c.args.steps.now.items ++ Wrote c.in_ok-write.write ∷ [] = grind (arith, common_steps) in
    (c.in_ok-write.write, c.in_ok-write.ensures.at, c.in_ok-write.ensures.piece, pushed)
