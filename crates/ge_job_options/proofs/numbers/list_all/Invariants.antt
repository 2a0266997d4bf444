use Rattle.std.proofs.Common.{◌≡◌, take}
use Rattle.std.specs.Prelude.{fold}
use Rattle.ge_model_rows.specs.Pieces.{with_one_number}
use Rattle.ge_job_options.specs.Listing.{Knows}
use Rattle.ge_job_options.proofs.numbers.list_all.Given as goal

abbrev pub invariant-loop-number : goal.invariant-loop-number
invariant-loop-number l = record {
  knows : Knows l.listed;
  listed : l.listed.numbers ≡ fold with_one_number l.fn.listed.numbers (take l.number-index l.numbers);
}
