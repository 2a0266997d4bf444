-- A name is in a table exactly where it is among its keys.
use Rattle.std.proofs.Common.{◌≡◌, ℕ, Bool, true, false, cond, List, [], ◌∷◌, Some, refl, sym, ◌∙◌}
use Rattle.std.specs.Prelude.{◌||◌, is_some}
use Rattle.std.specs.BTreeMap.{is_at}
use Rattle.std.specs.Cmp.Lexicographic.{texts_ties}
use Rattle.std.specs.List.{list_any}
use Rattle.std.specs.Map.{keys_of, lookup}
use Rattle.ge_collections.specs.Keyed.{text_cmp, text_eq}
use Rattle.ge_model_config.specs.Cited.{has_name}

-- the order of texts meets where texts are equal
pub at_same : (a b : List ℕ) → is_at (text_cmp a) b ≡ text_eq a b
at_same a b = sym (texts_ties a b)

pub has_key : {X : Type 0} (rows : List (List ℕ × X)) (name : List ℕ) → has_name rows name ≡ list_any (text_eq name) (keys_of rows)
has_key [] name = refl
has_key {X = X} (row ∷ rows) name =
    (λ i. is_some (cond (at_same name row.0 i) (Some row.1) (lookup (is_at (text_cmp name)) rows))) ∙ by (text_eq name row.0) (has_key rows name)
  where
    by : (b : Bool) → has_name rows name ≡ list_any (text_eq name) (keys_of rows)
        → is_some (cond b (Some row.1) (lookup (is_at (text_cmp name)) rows)) ≡ (b || list_any (text_eq name) (keys_of rows))
    by true rest = refl
    by false rest = rest
