use Rattle.std.proofs.Common.{◌∙◌}
use Rattle.ge_model_text.specs.declared.Form.TheVariants.{Memory}
use Rattle.ge_text.proofs.ReadingLaws.{reading_worth}
use Rattle.ge_text.proofs.amounts.read_memory.Goals as goal

pub returns-clause-worth : goal.returns-clause-worth
returns-clause-worth c = λ amount worth. c.read.ensures ∙ reading_worth Memory c.args.text.now amount worth
