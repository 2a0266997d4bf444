use Rattle.std.proofs.Common.{◌≡◌, ◌^◌, min, take}
use Rattle.ge_model_grammar.specs.Header.{decimal_value}
use Rattle.ge_script.proofs.header.value_up_to_limit.Given as goal

-- what the digits so far are worth, cut
abbrev pub invariant-loop-digit : goal.invariant-loop-digit
invariant-loop-digit l = l.value ≡ min (decimal_value (take l.digit-index l.digits)) (2 ^ 40)
