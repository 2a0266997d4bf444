use Rattle.std.proofs.Common.{◌≡◌, take}
use Rattle.ge_model_report.specs.Grants.{granted_slots}
use Rattle.ge_listing.proofs.grants.slots_of.Given as goal

abbrev pub invariant-loop-grant : goal.invariant-loop-grant
invariant-loop-grant l = l.slots ≡ granted_slots (take l.grant-index l.grants)
