use Rattle.ge_model_report.proofs.OrderTexts.{orders_gathered}
use Rattle.ge_laws.proofs.rules.orders_are_gathered_by_serial.Goals as goal

pub returns : goal.returns
returns c = orders_gathered
