-- The first line of a text.
use Rattle.std.proofs.Common.{◌≡◌, ℕ, suc, ◌+◌, ◌<◌, true, false, cond, List, [], ◌∷◌, take, drop, length, min, refl, ap, ◌∙◌, sym, arith}
use Rattle.std.proofs.lemmas.Grind.{common_steps}
use Rattle.std.specs.List.{position_or_len, onto_first}
use Rattle.ge_model_grammar.specs.ScriptLines.{is_line_feed, put_byte, lines_of, is_header}

-- how many bytes the first line takes, with its line feed
abbrev pub first_len : List ℕ → ℕ
first_len [] = 0
first_len (b ∷ bs) = cond (is_line_feed b) 1 (suc (first_len bs))

pub first_len-is : (bs : List ℕ) → first_len bs ≡ min (position_or_len is_line_feed bs + 1) (length bs)
first_len-is [] = refl
first_len-is (b ∷ bs) = grind (arith, common_steps, first_len-is bs)

put_byte-onto : (b : ℕ) (first : List ℕ) (others : List (List ℕ)) → put_byte b (first ∷ others) ≡ cond (is_line_feed b) ((b ∷ []) ∷ first ∷ others) ((b ∷ first) ∷ others)
put_byte-onto b first others = refl

pub lines_of-first_at : (b : ℕ) (bs : List ℕ) → lines_of (b ∷ bs) ≡ take (first_len (b ∷ bs)) (b ∷ bs) ∷ lines_of (drop (first_len (b ∷ bs)) (b ∷ bs))
lines_of-first_at b [] = elim (is_line_feed b) as (λ t. cond t ((b ∷ []) ∷ []) ((b ∷ []) ∷ []) ≡ take (cond t 1 1) (b ∷ []) ∷ lines_of (drop (cond t 1 1) (b ∷ []))) [ true ↦ refl | false ↦ refl ]
lines_of-first_at b (c ∷ cs) =
    elim (is_line_feed b) as (λ t. cond t ((b ∷ []) ∷ lines_of (c ∷ cs)) (onto_first b (lines_of (c ∷ cs))) ≡ take (cond t 1 (suc (first_len (c ∷ cs)))) (b ∷ c ∷ cs) ∷ lines_of (drop (cond t 1 (suc (first_len (c ∷ cs)))) (b ∷ c ∷ cs)))
    [ true ↦ refl | false ↦ ap (onto_first b) (lines_of-first_at c cs) ]

-- the first line of a script that has a byte
pub lines_of-first : (bs : List ℕ) (n : ℕ) → 0 < length bs → n ≡ min (position_or_len is_line_feed bs + 1) (length bs) → lines_of bs ≡ take n bs ∷ lines_of (drop n bs)
lines_of-first [] n some is = absurd (omega arith)
lines_of-first (b ∷ bs) n some is =
    let same : n ≡ first_len (b ∷ bs) = is ∙ sym (first_len-is (b ∷ bs)) in rw same (lines_of-first_at b bs)

-- a script begins as its first line does
pub is_header-first_len : (bs : List ℕ) → is_header (take (first_len bs) bs) ≡ is_header bs
is_header-first_len [] = refl
is_header-first_len (b ∷ []) = elim (is_line_feed b) as (λ t. is_header (take (cond t 1 1) (b ∷ [])) ≡ is_header (b ∷ [])) [ true ↦ refl | false ↦ refl ]
is_header-first_len (b ∷ c ∷ cs) = grind (arith, common_steps)

pub is_header-first : (bs : List ℕ) (n : ℕ) → 0 < length bs → lines_of bs ≡ take n bs ∷ lines_of (drop n bs) → is_header (take n bs) ≡ is_header bs
is_header-first [] n some is = absurd (omega arith)
is_header-first (b ∷ bs) n some is =
    let at = lines_of-first_at b bs in
    let same : take n (b ∷ bs) ≡ take (first_len (b ∷ bs)) (b ∷ bs) = cc in
    ap is_header same ∙ is_header-first_len (b ∷ bs)
