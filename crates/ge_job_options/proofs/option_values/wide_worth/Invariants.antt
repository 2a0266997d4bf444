use Rattle.std.proofs.Common.{◌≡◌, ◌≤◌, ◌^◌, ◌-◌, min, drop}
use Rattle.ge_model_text.specs.Value.{number_with_digits}
use Rattle.ge_model_rows.specs.Pieces.{number_of}
use Rattle.ge_job_options.proofs.option_values.wide_worth.Given as goal

abbrev pub invariant-loop-digit : goal.invariant-loop-digit
invariant-loop-digit l = record {
  rest : min (number_with_digits l.worth (drop l.digit-index l.digits)) (2 ^ 128 - 1) ≡ number_of l.digits;
  small : l.worth ≤ 2 ^ 128 - 1;
}
