use Rattle.ge_model_order.proofs.ShareRuled.{share_tickets_of-rule}
use Rattle.ge_laws.proofs.rules.share_tickets_are_those_of_the_rule.Goals as goal

pub returns : goal.returns
returns c = share_tickets_of-rule
