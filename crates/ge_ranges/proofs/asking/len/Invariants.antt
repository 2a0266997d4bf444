use Rattle.std.proofs.Common.{◌≡◌, take}
use Rattle.ge_model_rows.specs.Sets.{count_of}
use Rattle.ge_ranges.proofs.asking.len.Given as goal

abbrev pub invariant-loop-span : goal.invariant-loop-span
invariant-loop-span l = l.count ≡ count_of (take l.span-index l.span-items)
