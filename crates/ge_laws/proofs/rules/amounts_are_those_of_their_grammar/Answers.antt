use Rattle.ge_text.proofs.ReadingLaws.{reading_answers, reading_worth}
use Rattle.ge_laws.proofs.rules.amounts_are_those_of_their_grammar.Goals as goal

pub returns-clause-answers : goal.returns-clause-answers
returns-clause-answers c = reading_answers

pub returns-clause-worth : goal.returns-clause-worth
returns-clause-worth c = reading_worth
