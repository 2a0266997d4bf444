use Rattle.std.proofs.Common.{take, ap, ◌∙◌}
use Rattle.ge_model_rows.specs.Sets.{numbers_of}
use Rattle.ge_ranges.proofs.Listed.{all_numbers}
use Rattle.ge_ranges.proofs.listing.numbers.Goals as goal

pub returns : goal.returns
returns c = c.in_ok-numbers.ensures ∙ ap (λ n. take n (numbers_of c.args.s.now)) (c.from.ensures ∙ c.len.ensures) ∙ all_numbers c.args.s.now
