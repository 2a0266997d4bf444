-- One line of a rule set that isn't the last.
use Rattle.std.proofs.Common.{◌≡◌, ℕ, Bool, true, false, List, [], ◌∷◌, ◌++◌, Option, Some, None, refl}
use Rattle.std.specs.Prelude.{codes}
use Rattle.ge_collections.specs.Keyed.{text_eq}
use Rattle.ge_model_rows.specs.Pieces.{trimmed}
use Rattle.ge_model_grammar.specs.declared.RuleLine.{RuleLine}
use Rattle.ge_model_grammar.specs.declared.Body.{Body}
use Rattle.ge_model_grammar.specs.Rules.{rule_line_of}
use Rattle.ge_model_grammar.specs.Bodies.{attribute_line, with_attribute, rule_set_attributes, is_limit, rule_set_from}
use Rattle.ge_commands.specs.RuleSets.{with_either, with_line}

-- what is behind a line, where it was read as a rule or as an attribute
behind : (values : List (List ℕ × List ℕ)) (rules : List RuleLine) (lines : List (List ℕ)) (limit : Bool) (rule : Option RuleLine) (attribute : Option (List (List ℕ × List ℕ)))
    → ◌≡◌ {A = Option Body}
    (elim limit [
      | true ↦ elim rule [ None ↦ None | Some r ↦ rule_set_from values (rules ++ r ∷ []) lines ]
      | false ↦ elim attribute [ None ↦ None | Some more ↦ rule_set_from more rules lines ]
    ])
    (elim (with_either values rules limit rule attribute) [ None ↦ None | Some more ↦ rule_set_from more.0 more.1 lines ])
behind values rules lines true None attribute = refl
behind values rules lines true (Some r) attribute = refl
behind values rules lines false rule None = refl
behind values rules lines false rule (Some more) = refl

-- what stands behind a line that isn't the last is read with what the line added
pub one_line : (values : List (List ℕ × List ℕ)) (rules : List RuleLine) (line : List ℕ) (lines : List (List ℕ)) → text_eq (trimmed line) (codes "}") ≡ false
    → rule_set_from values rules (line ∷ lines) ≡ elim (with_line values rules line) [ None ↦ None | Some more ↦ rule_set_from more.0 more.1 lines ]
one_line values rules line lines inside =
    rw (inside, rule_set_from) (behind values rules lines (is_limit line) (rule_line_of (attribute_line line).1) (with_attribute rule_set_attributes values (attribute_line line)))
