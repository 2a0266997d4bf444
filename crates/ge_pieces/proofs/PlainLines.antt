-- A text of plain bytes and line feeds is a text of plain lines.
use Rattle.std.proofs.Common.{◌≡◌, ℕ, Bool, true, false, cond, List, [], ◌∷◌, refl, ap, sym, ◌∙◌}
use Rattle.std.specs.Prelude.{◌&&◌, ◌||◌, ◌==◌}
use Rattle.std.specs.List.{list_all, onto_first}
use Rattle.ge_model_grammar.specs.Lines.{is_plain_byte, is_plain_line, text_lines}
use Rattle.ge_pieces.specs.BodyLines.{plain_or_feed}

regrouped : (a b c : Bool) → (a && b && c) ≡ (a && (b && c))
regrouped true b c = refl
regrouped false b c = refl

-- a plain byte in front of lines
onto : (b : ℕ) (lines : List (List ℕ)) → list_all is_plain_line (onto_first b lines) ≡ (is_plain_byte b && list_all is_plain_line lines)
onto b [] = regrouped (is_plain_byte b) true true
onto b (line ∷ lines) = regrouped (is_plain_byte b) (list_all is_plain_byte line) (list_all is_plain_line lines)

one_more : (feed : Bool) (b : ℕ) (rest : Bool) (lines : List (List ℕ)) → rest ≡ list_all is_plain_line lines
    → ((feed || is_plain_byte b) && rest) ≡ list_all is_plain_line (cond feed ([] ∷ lines) (onto_first b lines))
one_more true b rest lines same = same
one_more false b rest lines same = ap (λ others. is_plain_byte b && others) same ∙ sym (onto b lines)

pub plain_lines : (text : List ℕ) → list_all plain_or_feed text ≡ list_all is_plain_line (text_lines text)
plain_lines [] = refl
plain_lines (b ∷ text) = one_more (b == 10) b (list_all plain_or_feed text) (text_lines text) (plain_lines text)
