use Rattle.ge_commands.proofs.RuleWords.{filter_turn}
use Rattle.ge_commands.proofs.rules.read_rest.Goals as goal

pub loop-word-preserved : goal.loop-word-preserved
loop-word-preserved c =
    filter_turn _ _ _ _ _ _ _ _ _ _ _ _ c.in-Some.ensures.cases.0 c.in-Some-split_first.ensures.cases.0 c.bytes.ensures c.bytes-in-Some.ensures c.bytes-in-Some-2.ensures
    c.is_word.ensures c.if-is_word.false c.in-Ok.ensures c.loop-word.invariant
