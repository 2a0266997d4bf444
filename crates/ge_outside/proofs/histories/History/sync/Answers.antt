use Rattle.ge_outside.specs.Steps.{sync-tied, sync-told}
use Rattle.ge_outside.proofs.histories.History.sync.Goals as goal

pub invariant_of-self : goal.invariant_of-self
invariant_of-self c = record { tied = sync-tied _ c.args.self.now.steps.items _ _ _ c.push.ensures.items c.args.self.now.tied }

pub returns-clause-synced : goal.returns-clause-synced
returns-clause-synced c = sync-told _ c.args.self.now.steps.items _ c.in_ok-push.ensures.items
