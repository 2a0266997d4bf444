-- The items of a list in a body that isn't NONE.
use Rattle.std.specs.Prelude.{ℕ, List, flat_map}
use Rattle.ge_model_rows.specs.Pieces.{items_between}

-- the items of what stands between commas
abbrev pub items_of_all : List (List ℕ) → List (List ℕ)
items_of_all texts = flat_map items_between texts
