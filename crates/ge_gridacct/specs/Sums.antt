-- Which lines are summed.
use Rattle.std.specs.Prelude.{◌||◌, Bool, List, ℕ, filter}
use Rattle.ge_collections.specs.Keyed.{text_eq}
use Rattle.ge_model_rows.specs.AccountRows.{Line}

-- all lines, or those of an owner
abbrev pub counted : Bool → List ℕ → List Line → List Line
counted all name lines = filter (λ line. all || text_eq line.owner name) lines
