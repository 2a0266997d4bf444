use Rattle.ge_model_grammar.proofs.ParsingLaws.{long_line, short_lines}
use Rattle.ge_laws.proofs.rules.texts_are_commands_or_refused.Goals as goal

pub returns-clause-long : goal.returns-clause-long
returns-clause-long c = long_line

pub returns-clause-short : goal.returns-clause-short
returns-clause-short c = short_lines
