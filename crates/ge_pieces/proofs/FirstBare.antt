-- The first line without its line feed.
use Rattle.std.proofs.Common.{◌≡◌, ℕ, Bool, true, false, suc, ◌+◌, ◌<◌, cond, List, [], ◌∷◌, take, drop, length, min, refl, ap, ◌∙◌, sym, arith}
use Rattle.std.specs.List.{position_or_len}
use Rattle.ge_model_grammar.specs.ScriptLines.{is_line_feed, lines_of, bare}
use Rattle.ge_model_grammar.proofs.FirstLine.{first_len, first_len-is, lines_of-first}

take_more : (n b : ℕ) (bs : List ℕ) → take (1 + n) (b ∷ bs) ≡ b ∷ take n bs
take_more n b bs =
    let e : 1 + n ≡ suc n = omega arith in
    ap (λ (m : ℕ). take m (b ∷ bs)) e

-- by whether the first byte is a line feed
one_more : (b : ℕ) (bs : List ℕ) (feeds : Bool) → is_line_feed b ≡ feeds → take (position_or_len is_line_feed bs) bs ≡ bare (take (first_len bs) bs)
    → take (position_or_len is_line_feed (b ∷ bs)) (b ∷ bs) ≡ bare (take (cond feeds 1 (suc (first_len bs))) (b ∷ bs))
one_more b bs true is rest = rw is refl
one_more b bs false is rest =
    let front = take (first_len bs) bs in
    rw is (take_more (position_or_len is_line_feed bs) b bs ∙ ap (λ (xs : List ℕ). b ∷ xs) rest ∙ sym (take_more (position_or_len is_line_feed front) b front))

bare_front : (bs : List ℕ) → take (position_or_len is_line_feed bs) bs ≡ bare (take (first_len bs) bs)
bare_front [] = refl
bare_front (b ∷ bs) = one_more b bs (is_line_feed b) refl (bare_front bs)

-- what stands before the first line feed is the first line without it
pub first_is_bare : (bs front : List ℕ) (end taken : ℕ) → end ≡ position_or_len is_line_feed bs → front ≡ take end bs → taken ≡ min (end + 1) (length bs) → front ≡ bare (take taken bs)
first_is_bare bs front end taken ends is_front takes =
    is_front ∙ ap (λ (n : ℕ). take n bs) ends ∙ bare_front bs
    ∙ ap (λ (n : ℕ). bare (take n bs)) (first_len-is bs ∙ ap (λ (n : ℕ). min (n + 1) (length bs)) (sym ends) ∙ sym takes)

-- the first line is cut there
pub first_lines : (bs : List ℕ) (end taken : ℕ) → 0 < length bs → end ≡ position_or_len is_line_feed bs → taken ≡ min (end + 1) (length bs) → lines_of bs ≡ take taken bs ∷ lines_of (drop taken bs)
first_lines bs end taken some ends takes = lines_of-first bs taken some (takes ∙ ap (λ (n : ℕ). min (n + 1) (length bs)) ends)
