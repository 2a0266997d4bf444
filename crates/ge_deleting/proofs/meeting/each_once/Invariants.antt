use Rattle.std.proofs.Common.{◌≡◌, fold, drop}
use Rattle.ge_model_rows.specs.Pieces.{with_one_number, each_number_once}
use Rattle.ge_deleting.specs.Once.{HasMet}
use Rattle.ge_deleting.proofs.meeting.each_once.Given as goal

abbrev pub invariant-loop-number : goal.invariant-loop-number
invariant-loop-number l = record {
  met : HasMet l.met l.once;
  so_far : fold with_one_number l.once (drop l.number-index l.numbers) ≡ each_number_once l.numbers;
}
