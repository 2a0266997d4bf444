-- Replies as they are written.
use Rattle.std.specs.Prelude.{ℕ, List, [], ◌∷◌, ◌++◌, length, flat_map, decimal}
use Rattle.ge_model_rows.specs.EventRows.{Reply}

abbrev pub rendered_line : List ℕ → List ℕ
rendered_line line = line ++ 10 ∷ []

-- the code, a blank, the number of lines and a line feed, and then each line with a line feed
unfoldable pub rendered : Reply → List ℕ
rendered r = decimal r.code ++ 32 ∷ [] ++ decimal (length r.lines) ++ 10 ∷ [] ++ flat_map rendered_line r.lines
