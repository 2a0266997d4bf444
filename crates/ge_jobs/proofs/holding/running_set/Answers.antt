use Rattle.std.proofs.Common.{ℕ, List, ap, ◌∙◌}
use Rattle.ge_ranges.specs.Forming.{is_rising}
use Rattle.ge_jobs.proofs.Rising.{rising_keys}
use Rattle.ge_jobs.proofs.holding.running_set.Goals as goal

pub set_of-requires : goal.set_of-requires
set_of-requires c = ap (λ (ns : List ℕ). is_rising 0 ns) (c.items.ensures ∙ c.in_ok-numbers.ensures) ∙ rising_keys _ c.orderly.ensures.rising
