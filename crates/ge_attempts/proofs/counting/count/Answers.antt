use Rattle.std.proofs.Common.{[], ◌∷◌, ◌++◌, refl, sym, subst}
use Rattle.ge_attempts.specs.declared.counting.Tally.{Tally}
use Rattle.ge_attempts.specs.Counts.{IsTallied}
use Rattle.ge_attempts.proofs.Tallies.{tallied_start, tallied_reserve, tallied_skip}
use Rattle.ge_attempts.proofs.counting.count.Goals as goal

pub returns-in_ok-count_start-in-Start : goal.returns-in_ok-count_start-in-Start
returns-in_ok-count_start-in-Start c = λ decisions before.
    let new : Tally = record { serial = c.in_ok-tally-in-Start.field-0; reserved = c.args.tally.now.reserved; running = c.count_start.new.running } in
    subst (λ d. IsTallied c.args.cluster.now (decisions ++ d ∷ []) new) (sym c.in-Start.is)
    (tallied_start c.args.cluster.now decisions c.in-Start.start c.args.tally.now new c.in_ok-tally-in-Start.ensures refl c.in_ok-count_start-in-Start.ensures before)

pub returns-in_ok-tally-in-Reserve : goal.returns-in_ok-tally-in-Reserve
returns-in_ok-tally-in-Reserve c = λ decisions before.
    let new : Tally = record { serial = c.args.tally.now.serial; reserved = c.in_ok-tally-in-Reserve.field-0; running = c.args.tally.now.running } in
    subst (λ d. IsTallied c.args.cluster.now (decisions ++ d ∷ []) new) (sym c.in-Reserve.is)
    (tallied_reserve c.args.cluster.now decisions c.in-Reserve.field-0 c.args.tally.now new refl c.in_ok-tally-in-Reserve.ensures refl before)

pub returns-in-Skip : goal.returns-in-Skip
returns-in-Skip c = λ decisions before.
    subst (λ d. IsTallied c.args.cluster.now (decisions ++ d ∷ []) c.args.tally.now) (sym c.in-Skip.is) (tallied_skip c.args.cluster.now decisions c.in-Skip.field-0 c.args.tally.now before)
