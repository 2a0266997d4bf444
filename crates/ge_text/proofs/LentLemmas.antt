-- A turn of the loop over the words of a line that are lent from it.
use Rattle.std.proofs.Common.{◌≡◌, ℕ, ◌+◌, ◌<◌, List, ◌++◌, length, get_or, drop, map, refl, ap, sym, ◌∙◌, Result, Ok, Err}
use Rattle.std.proofs.lemmas.List.{append_assoc, map-append}
use Rattle.ge_model_text.specs.declared.Span.{Span}
use Rattle.ge_model_text.specs.Words.{joined, words_from, word_here, taken_here, text_at}
use Rattle.ge_text.proofs.WordsLemmas.{words_from-place}

-- texts, and then those of the words behind them
abbrev pub lent_on : List (List ℕ) → List ℕ → Result (List Span) ℕ → Result (List (List ℕ)) ℕ
lent_on before line (Ok spans) = Ok (before ++ map (text_at line) spans)
lent_on before line (Err place) = Err place

lent_joined : (before : List (List ℕ)) (found : List Span) (line : List ℕ) (words : Result (List Span) ℕ) → lent_on (before ++ map (text_at line) found) line words ≡ lent_on before line (joined (Ok found) words)
lent_joined before found line (Ok spans) =
    ap Ok (append_assoc before (map (text_at line) found) (map (text_at line) spans) ∙ ap (λ (xs : List (List ℕ)). before ++ xs) (sym (map-append (text_at line) found spans)))
lent_joined before found line (Err place) = refl

-- one more word is lent
pub one_more_lent : (before : List (List ℕ)) (found : List Span) (place taken : ℕ) (line : List ℕ) (whole : Result (List (List ℕ)) ℕ)
    → place < length line
    → word_here place (get_or line place 0) (drop (place + 1) line) ≡ Ok found
    → taken ≡ taken_here (get_or line place 0) (drop (place + 1) line)
    → lent_on before line (words_from place 0 (drop place line)) ≡ whole
    → lent_on (before ++ map (text_at line) found) line (words_from (place + (1 + taken)) 0 (drop (place + (1 + taken)) line)) ≡ whole
one_more_lent before found place taken line whole within word more told =
    lent_joined before found line (words_from (place + (1 + taken)) 0 (drop (place + (1 + taken)) line))
    ∙ (ap (λ (r : Result (List Span) ℕ). lent_on before line r) (sym (words_from-place place taken line found within word more)) ∙ told)
