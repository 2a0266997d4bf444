use Rattle.std.proofs.Common.{◌≡◌, take}
use Rattle.ge_model_jobs.specs.Accounts.{line_slots}
use Rattle.ge_applying.proofs.accounts.slots_of.Given as goal

abbrev pub invariant-loop-grant : goal.invariant-loop-grant
invariant-loop-grant l = l.slots ≡ line_slots (take l.grant-index l.grants)
