use Rattle.ge_order.proofs.OneKind.{none_asked}
use Rattle.ge_order.proofs.kinds.no_kinds.Goals as goal

pub returns : goal.returns
returns c = λ cluster rows. none_asked cluster rows 64
