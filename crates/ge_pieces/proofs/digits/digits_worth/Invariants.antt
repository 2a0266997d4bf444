use Rattle.std.proofs.Common.{◌≡◌, ◌≤◌, ◌^◌, ◌-◌, min, drop}
use Rattle.ge_model_text.specs.Value.{number_with_digits}
use Rattle.ge_model_rows.specs.Pieces.{number_of}
use Rattle.ge_pieces.proofs.digits.digits_worth.Given as goal

abbrev pub invariant-loop-digit : goal.invariant-loop-digit
invariant-loop-digit l = record {
  rest : min (number_with_digits l.worth (drop l.digit-index l.digits)) (2 ^ 64 - 1) ≡ min (number_of l.digits) (2 ^ 64 - 1);
  small : l.worth ≤ 2 ^ 64 - 1;
}
