use Rattle.std.proofs.Common.{◌≡◌, drop}
use Rattle.ge_model_journal.specs.Disk.{settled_content}
use Rattle.ge_outside.specs.Steps.{after_steps}
use Rattle.ge_outside.specs.Shown.{shown_content}
use Rattle.ge_outside.proofs.replays.replay.Given as goal

abbrev pub invariant-loop-step : goal.invariant-loop-step
invariant-loop-step l = after_steps (shown_content l.shown) (drop l.step-index l.steps) ≡ after_steps (settled_content l.fn.start) l.fn.steps
