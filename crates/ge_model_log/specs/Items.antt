-- The items that all bytes are, one behind the other, for any code of an item.
use Rattle.std.specs.Prelude.{ℕ, zero, suc, ◌==◌, true, false, List, [], ◌∷◌, ◌++◌, length, Option, Some, None, Ok, Err}
use Rattle.ge_model_codec.specs.Code.{Code}

module _ {X : Type 0} (item : Code X) where
  -- these items and those from a place on up to the end of the bytes, in so many steps at most; nothing where one of them can't be
  -- read or none is there
  abbrev pub items_behind : ℕ → List ℕ → ℕ → List X → Option (List X)
  items_behind zero bytes at items = None
  items_behind (suc steps) bytes at items = elim (item.read bytes at) [
    | Ok p ↦ elim (p.1 == length bytes) [ true ↦ Some (items ++ p.0 ∷ []) | false ↦ items_behind steps bytes p.1 (items ++ p.0 ∷ []) ]
    | Err fault ↦ None
  ]

  -- the items that the bytes are
  abbrev pub items_in : List ℕ → Option (List X)
  items_in bytes = items_behind (suc (length bytes)) bytes 0 []
