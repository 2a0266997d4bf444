use Rattle.std.proofs.Common.{◌≡◌, take}
use Rattle.ge_model_rows.specs.Sets.{numbers_of}
use Rattle.ge_ranges.proofs.listing.first_of.Given as goal

abbrev pub invariant-loop-span : goal.invariant-loop-span
invariant-loop-span l = l.numbers ≡ take l.most (numbers_of (take l.span-index l.span-items))
