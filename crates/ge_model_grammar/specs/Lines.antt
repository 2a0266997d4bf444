-- The lines of a command and of a body, and readers of lists.
use Rattle.std.specs.Prelude.{ℕ, Bool, ◌||◌, ◌==◌, List, [], ◌∷◌, ◌++◌, Option, Some, None, nat_eq}
use Rattle.std.specs.Int.{is_in_range}
use Rattle.std.specs.List.{list_all, starts_with, ends_with}
use Rattle.ge_model_rows.specs.Pieces.{pieces_at}

-- bytes that print, blanks and tabs
abbrev pub is_plain_byte : ℕ → Bool
is_plain_byte b = b == 9 || is_in_range 32 126 b

-- a command line, a #$ line or a line of a body has such bytes alone
abbrev pub is_plain_line : List ℕ → Bool
is_plain_line line = list_all is_plain_byte line

-- the lines that line feeds part
abbrev pub text_lines : List ℕ → List (List ℕ)
text_lines text = pieces_at 10 text

-- whether a text begins with another one
abbrev pub begins_with : List ℕ → List ℕ → Bool
begins_with front text = starts_with nat_eq text front

-- whether a text ends with another one
abbrev pub ends_in : List ℕ → List ℕ → Bool
ends_in back text = ends_with nat_eq text back

-- what was read, and what a reader gives for each of these, if it gives something for all
abbrev pub read_after : {A B : Type 0} → (A → Option B) → List B → List A → Option (List B)
read_after read so_far [] = Some so_far
read_after read so_far (x ∷ xs) = elim (read x) [ None ↦ None | Some y ↦ read_after read (so_far ++ y ∷ []) xs ]

-- what a reader gives for each of these
abbrev pub read_each : {A B : Type 0} → (A → Option B) → List A → Option (List B)
read_each read xs = read_after read [] xs
