-- The complexes by their shortcuts, each as it is lent.
use Rattle.std.specs.Prelude.{◌≡◌, ℕ, List, map, find, Option}
use Rattle.std.specs.BTreeMap.{is_at}
use Rattle.std.specs.Map.{lookup}
use Rattle.std.specs.Map.Iter.{deref_pair}
use Rattle.std.specs.Option.{option_or}
use Rattle.ge_collections.specs.Keyed.{text_cmp, text_eq}
use Rattle.ge_model_rows.specs.ValueRows.{ComplexDef}
use denote.Ref.{Bor}

-- a shortcut, and the name and the row that have it
abbrev pub Lent : Type 0
Lent = Bor (List ℕ) × (Bor (List ℕ) × Bor ComplexDef)

-- the table by text of what is lent
abbrev pub lent_rows : List Lent → List (List ℕ × (List ℕ × ComplexDef))
lent_rows entries = map (λ e. (e.0.now, deref_pair e.1)) entries

-- what is lent at a shortcut
abbrev pub lent_at : List Lent → List ℕ → Option (List ℕ × ComplexDef)
lent_at entries word = lookup (is_at (text_cmp word)) (lent_rows entries)

-- the first row with a shortcut
abbrev pub first_with : List (List ℕ × ComplexDef) → List ℕ → Option (List ℕ × ComplexDef)
first_with rows word = find (λ row. text_eq row.1.shortcut word) rows

-- the same, or else another one
abbrev pub first_else : List (List ℕ × ComplexDef) → List ℕ → Option (List ℕ × ComplexDef) → Option (List ℕ × ComplexDef)
first_else rows word other = option_or (first_with rows word) other

-- at each word the first row with that shortcut is lent
abbrev pub LendsFirst : List Lent → List (List ℕ × ComplexDef) → Type 0
LendsFirst entries rows = (word : List ℕ) → lent_at entries word ≡ first_with rows word
