use Rattle.std.proofs.Common.{◌≡◌, ℕ, cond, take, None}
use Rattle.ge_job_options.specs.Holding.{at_name, name_at, is_keyed}
use Rattle.ge_job_options.proofs.owners.names_of.Given as goal

abbrev pub invariant-loop-pair : goal.invariant-loop-pair
invariant-loop-pair l = (q : ℕ) → at_name q l.names.entries ≡ cond (is_keyed q (take l.pair-index l.marked)) (name_at l.jobs q) None
