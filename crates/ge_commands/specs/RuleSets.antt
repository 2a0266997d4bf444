-- What one more line of a rule set adds to what was read of it.
use Rattle.std.specs.Prelude.{ℕ, Bool, true, false, List, [], ◌∷◌, ◌++◌, Option, Some, None}
use Rattle.ge_model_grammar.specs.declared.RuleLine.{RuleLine}
use Rattle.ge_model_grammar.specs.Rules.{rule_line_of}
use Rattle.ge_model_grammar.specs.Bodies.{attribute_line, with_attribute, rule_set_attributes, is_limit}

-- rules and one more, if it could be read
abbrev pub with_rule : List RuleLine → Option RuleLine → Option (List RuleLine)
with_rule rules None = None
with_rule rules (Some rule) = Some (rules ++ rule ∷ [])

-- rules beside the attributes
abbrev pub beside_rules : List RuleLine → Option (List (List ℕ × List ℕ)) → Option (List (List ℕ × List ℕ) × List RuleLine)
beside_rules rules None = None
beside_rules rules (Some values) = Some (values, rules)

-- attributes beside the rules
abbrev pub beside_values : List (List ℕ × List ℕ) → Option (List RuleLine) → Option (List (List ℕ × List ℕ) × List RuleLine)
beside_values values None = None
beside_values values (Some rules) = Some (values, rules)

-- attributes and rules with a rule, or else an attribute, if it could be read
abbrev pub with_either : List (List ℕ × List ℕ) → List RuleLine → Bool → Option RuleLine → Option (List (List ℕ × List ℕ)) → Option (List (List ℕ × List ℕ) × List RuleLine)
with_either values rules true rule attribute = beside_values values (with_rule rules rule)
with_either values rules false rule attribute = beside_rules rules attribute

-- attributes and rules, and what a line that isn't the last adds to them
abbrev pub with_line : List (List ℕ × List ℕ) → List RuleLine → List ℕ → Option (List (List ℕ × List ℕ) × List RuleLine)
with_line values rules line =
    with_either values rules (is_limit line) (rule_line_of (attribute_line line).1) (with_attribute rule_set_attributes values (attribute_line line))
