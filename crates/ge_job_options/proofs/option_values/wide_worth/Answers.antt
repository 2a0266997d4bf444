use Rattle.std.proofs.Common.{◌^◌, ◌-◌, arith}
use Rattle.ge_pieces.proofs.Worth.{turn, ended}
use Rattle.ge_job_options.proofs.option_values.wide_worth.Goals as goal

pub loop-digit-preserved : goal.loop-digit-preserved
loop-digit-preserved c = record {
  rest = turn (2 ^ 128 - 1) c.args.digits.now c.loop-digit.digit-index c.loop-digit.worth _ _ c.loop-digit-test.true (omega arith) c.loop-digit.invariant.rest;
  small = omega arith;
}

pub returns : goal.returns
returns c = ended (2 ^ 128 - 1) c.args.digits.now c.loop-digit.digit-index c.loop-digit.worth _ c.loop-digit-test.false c.loop-digit.invariant.small c.loop-digit.invariant.rest
