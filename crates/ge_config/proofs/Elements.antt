-- The elements of a filter, and the name of a rule, by what they begin with.
use Rattle.std.proofs.Common.{◌≡◌, ℕ, Bool, not, ◌||◌, List, [], ◌∷◌, length, refl, sym, ap, arith, ne_eqb}
use Rattle.std.specs.Prelude.{◌==◌}
use Rattle.ge_model_rows.specs.ClusterRows.{Cluster}
use Rattle.ge_model_grammar.specs.Names.{is_name}
use Rattle.ge_model_rows.specs.Groups.{is_group}
use Rattle.ge_model_config.specs.Cited.{has_name}
use Rattle.ge_model_config.specs.Quotas.{is_known_host, is_rule_name}

pub known_host : (c : Cluster) (element : List ℕ) → is_known_host c element ≡ (not (is_group element) || has_name c.groups element)
known_host c [] = refl
known_host c (b ∷ name) = refl

pub rule_name : (name : List ℕ) → is_rule_name name ≡ (length name == 0 || is_name name)
rule_name [] = refl
rule_name (b ∷ name) = sym (ap (λ (t : Bool). t || is_name (b ∷ name)) (ne_eqb (length (b ∷ name)) 0 (λ e. omega (arith, e))))
