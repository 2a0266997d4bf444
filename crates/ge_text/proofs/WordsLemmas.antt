-- The words of a line from a place on.
use Rattle.std.proofs.Common.{◌≡◌, ℕ, suc, zero, ◌+◌, ◌<◌, List, [], ◌∷◌, length, get_or, drop, refl, ap, sym, ◌∙◌, add-one, add-zero, arith, drop-cons, drop-drop, Ok}
use Rattle.ge_model_text.specs.declared.Span.{Span}
use Rattle.ge_model_text.specs.Words.{joined, words_from, word_here, taken_here}

-- what belongs to a word that is listed is passed over
pub words_from-taken : (place taken : ℕ) (rest : List ℕ) → words_from place taken rest ≡ words_from (place + taken) 0 (drop taken rest)
words_from-taken place zero [] = refl
words_from-taken place (suc taken) [] = refl
words_from-taken place zero (b ∷ rest) = rw add-zero refl
words_from-taken place (suc taken) (b ∷ rest) =
    let same : place + 1 + taken ≡ place + suc taken = omega arith in
    words_from-taken (place + 1) taken rest ∙ ap (λ n. words_from n 0 (drop taken rest)) same

-- the words from the byte b on are the one that begins there and those behind it
pub words_from-turn : (place b taken : ℕ) (rest : List ℕ) (found : List Span)
    → word_here place b rest ≡ Ok found → taken ≡ taken_here b rest
    → words_from place 0 (b ∷ rest) ≡ joined (Ok found) (words_from (place + 1 + taken) 0 (drop taken rest))
words_from-turn place b taken rest found word more =
    ap (λ w. joined w (words_from (place + 1) (taken_here b rest) rest)) word
    ∙ ap (λ r. joined (Ok found) r) (words_from-taken (place + 1) (taken_here b rest) rest
    ∙ ap (λ t. words_from (place + 1 + t) 0 (drop t rest)) (sym more))

-- the words from a place on are the one that begins there and those behind it
pub words_from-place : (place taken : ℕ) (line : List ℕ) (found : List Span)
    → place < length line
    → word_here place (get_or line place 0) (drop (place + 1) line) ≡ Ok found
    → taken ≡ taken_here (get_or line place 0) (drop (place + 1) line)
    → words_from place 0 (drop place line) ≡ joined (Ok found) (words_from (place + (1 + taken)) 0 (drop (place + (1 + taken)) line))
words_from-place place taken line found within word more =
    let rest : List ℕ = drop (place + 1) line in
    let opened : drop place line ≡ get_or line place 0 ∷ rest = rw (add-one, drop-cons line place 0 within) refl in
    let there : drop taken rest ≡ drop (place + 1 + taken) line = drop-drop taken (place + 1) line in
    let same : place + 1 + taken ≡ place + (1 + taken) = omega arith in
    ap (λ bytes. words_from place 0 bytes) opened
    ∙ (words_from-turn place (get_or line place 0) taken rest found word more
    ∙ (ap (λ bytes. joined (Ok found) (words_from (place + 1 + taken) 0 bytes)) there
    ∙ ap (λ n. joined (Ok found) (words_from n 0 (drop n line))) same))
