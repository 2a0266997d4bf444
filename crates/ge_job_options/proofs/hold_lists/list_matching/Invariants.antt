use Rattle.std.proofs.Common.{◌≡◌}
use Rattle.std.specs.Prelude.{fold}
use Rattle.ge_model_rows.specs.Pieces.{with_one_number}
use Rattle.ge_job_options.specs.Listing.{Knows}
use Rattle.ge_job_options.specs.Holding.{named_shown, numbers_matching}
use Rattle.ge_job_options.proofs.hold_lists.list_matching.Given as goal

abbrev pub invariant-loop-number : goal.invariant-loop-number
invariant-loop-number l = record {
  knows : Knows l.listed;
  listed : fold with_one_number l.listed.numbers (numbers_matching l.pattern (named_shown l.number-iterator))
      ≡ fold with_one_number l.fn.listed.numbers (numbers_matching l.pattern (named_shown l.named.entries));
}
