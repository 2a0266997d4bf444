-- The words of a rule.
use Rattle.std.proofs.Common.{◌≡◌, ℕ, ◌≤◌, Bool, false, List, [], ◌∷◌, length, get_or, Option, Some, refl, ap, sym, ◌∙◌, arith}
use Rattle.std.specs.Prelude.{codes}
use Rattle.ge_collections.specs.Keyed.{text_eq}
use Rattle.ge_model_grammar.specs.declared.RuleLine.{RuleLine}
use Rattle.ge_model_grammar.specs.Rules.{bare_rule, filtered_by, rule_with_rest, rule_in}

-- one more filter, of a word and a text that were lent
pub filter_turn : (rule new : RuleLine) (rest others behind : List (List ℕ)) (word text seen lent given : List ℕ) (is_to : Bool) (total : Option RuleLine)
    → rest ≡ word ∷ others → others ≡ text ∷ behind → seen ≡ word → lent ≡ word → given ≡ text → is_to ≡ text_eq seen (codes "to") → is_to ≡ false
    → filtered_by rule lent given ≡ Some new → rule_with_rest rule rest ≡ total → rule_with_rest new behind ≡ total
filter_turn rule new rest others behind word text seen lent given is_to total first second v w t test more is so_far =
    let other : text_eq word (codes "to") ≡ false = ap (λ (x : List ℕ). text_eq x (codes "to")) (sym v) ∙ sym test ∙ more in
    let filtered : filtered_by rule word text ≡ Some new =
    ap (λ (x : List ℕ). filtered_by rule x text) (sym w) ∙ ap (λ (x : List ℕ). filtered_by rule lent x) (sym t) ∙ is in
    let e : rule_with_rest rule (word ∷ text ∷ behind) ≡ rule_with_rest new behind = rw (other, filtered, rule_with_rest) refl in
    sym e ∙ ap (rule_with_rest rule) (sym (first ∙ ap (λ words. word ∷ words) second)) ∙ so_far

-- words that begin with no name are all of the rule
pub nameless : (words : List (List ℕ)) (word : List ℕ) → 2 ≤ length words → word ≡ get_or words 0 word → text_eq word (codes "name") ≡ false
    → rule_in words ≡ rule_with_rest (bare_rule []) words
nameless [] word enough is other = absurd (omega arith)
nameless (only ∷ []) word enough is other = absurd (omega arith)
nameless (first ∷ second ∷ words) word enough is other =
    let e : text_eq first (codes "name") ≡ false = sym (ap (λ w. text_eq w (codes "name")) is) ∙ other in
    rw e refl
