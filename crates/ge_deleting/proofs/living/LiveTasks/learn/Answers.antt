use Rattle.std.proofs.Common.{ℕ, List, sym, ap, ◌∙◌}
use Rattle.ge_collections.specs.Keyed.{at_number}
use Rattle.ge_model_rows.specs.TaskRows.{TaskSpan}
use Rattle.ge_deleting.specs.Live.{live_in}
use Rattle.ge_deleting.proofs.Learnt.{one_learnt}
use Rattle.ge_deleting.proofs.living.LiveTasks.learn.Goals as goal

pub invariant_of-self : goal.invariant_of-self
invariant_of-self c = λ number x found. c.self.invariant number x (ap (λ (es : List (ℕ × List TaskSpan)). at_number es number) (sym c.in_err-insert.ensures.err) ∙ found)

pub invariant_of-self-2 : goal.invariant_of-self-2
invariant_of-self-2 c =
    one_learnt c.self.inside.asker.0.jobs c.self.inside.sets.entries c.insert.new.self.entries c.args.number c.in_ok-tasks.tasks c.self.invariant
    c.in_ok-insert.ensures.updates.0 (c.in_ok-tasks.ensures ∙ ap live_in c.job.ensures)
