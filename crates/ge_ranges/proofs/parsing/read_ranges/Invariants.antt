use Rattle.std.proofs.Common.{◌≡◌, ◌++◌, drop, map}
use Rattle.std.specs.Prelude.{option_map}
use Rattle.ge_model_rows.specs.Ranges.{ranges_of}
use Rattle.ge_ranges.proofs.parsing.read_ranges.Given as goal

abbrev pub invariant-loop-text : goal.invariant-loop-text
invariant-loop-text l = option_map (λ rest. l.ranges ++ rest) (ranges_of (map (λ text. text.now) (drop l.text-index l.texts))) ≡ ranges_of (map (λ text. text.now) l.texts)
