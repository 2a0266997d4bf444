use Rattle.std.proofs.Common.{◌≡◌, ℕ, drop}
use Rattle.std.specs.BTreeMap.{is_at}
use Rattle.std.specs.Map.{lookup}
use Rattle.std.specs.Option.{option_or}
use Rattle.std.specs.Ordering.{nat_cmp}
use Rattle.ge_job_options.specs.Walking.{at_lent}
use Rattle.ge_job_options.proofs.reaching.patches_by_number.Given as goal

abbrev pub invariant-loop-number : goal.invariant-loop-number
invariant-loop-number l =
    (q : ℕ) → option_or (at_lent q l.found.entries) (lookup (is_at (nat_cmp q)) (drop l.number-index l.patches)) ≡ lookup (is_at (nat_cmp q)) l.patches
