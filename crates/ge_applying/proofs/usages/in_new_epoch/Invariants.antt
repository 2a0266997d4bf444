use Rattle.std.proofs.Common.{◌≡◌, [], fold}
use Rattle.ge_model_jobs.specs.Usage.{with_usage_row}
use Rattle.ge_applying.proofs.usages.in_new_epoch.Given as goal

abbrev pub invariant-loop-key : goal.invariant-loop-key
invariant-loop-key l = fold (with_usage_row l.epoch l.new_epoch) l.usage l.key-iterator ≡ fold (with_usage_row l.epoch l.new_epoch) [] l.rows
