use Rattle.ge_complex.proofs.Lent.{turned}
use Rattle.ge_complex.proofs.finding.shortcuts_of.Goals as goal

pub loop-name-preserved : goal.loop-name-preserved
loop-name-preserved c = λ word. turned _ _ _ _ word _ _ _ c.in-Some.ensures.steps (c.in_ok-put_row.ensures word) (c.loop-name.invariant word)
