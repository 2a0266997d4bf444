use Rattle.std.proofs.Common.{◌≡◌, drop}
use Rattle.ge_ranges.specs.Forming.{is_rising}
use Rattle.ge_listing.proofs.fields.rise_above.Given as goal

abbrev pub invariant-loop-number : goal.invariant-loop-number
invariant-loop-number l = is_rising l.last (drop l.number-index l.numbers) ≡ is_rising l.low l.numbers
