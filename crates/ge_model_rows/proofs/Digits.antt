-- Numbers as digits, and texts cut at a byte.
use Rattle.std.proofs.Common.{◌≡◌, ℕ, zero, suc, ◌+◌, ◌-◌, ◌*◌, ◌/◌, ◌%◌, ◌^◌, ◌≤◌, ◌<◌, ◌==◌, ◌&&◌, ◌||◌, Bool, true, false, not, cond, if◌then◌else◌, nat_lt, List, [], ◌∷◌, ◌++◌, length, take, drop, All, decimal, min, refl, sym, ap, ◌∙◌, arith, append-nil, pow-suc, lit≤}
use Rattle.std.specs.Prelude.{flat_map}
use Rattle.std.specs.Fmt.{digits, digits_onto, digit_glyph}
use Rattle.std.specs.List.{list_all, slice_split, position_or_len, prefix_len}
use Rattle.std.proofs.lemmas.Bool.{eqb-true, eq-eqb, true≢false}
use Rattle.std.proofs.lemmas.List.Folds.{list_any-append}
use Rattle.std.proofs.lemmas.List.Splits.{slice_split_at, slice_split_none}
use Rattle.std.proofs.lemmas.Nat.{div-add-mod'}
use Rattle.ge_model_text.specs.Value.{is_digit, number, number_with_digits}
use Rattle.ge_model_rows.specs.Pieces.{is_digits, greatest_number, number_of, has_byte, before_byte, behind_byte, pieces_at, joined_by, is_empty}

-- ---- digits

glyph : (n : ℕ) → digit_glyph false (n % 10) ≡ 48 + n % 10
glyph n = by (nat_lt (n % 10) 10) refl
  where
    small : n % 10 < 10
    small = omega arith

    by : (fits : Bool) → nat_lt (n % 10) 10 ≡ fits → (if fits then 48 + n % 10 else (if false then 55 + n % 10 else 87 + n % 10)) ≡ 48 + n % 10
    by true is = refl
    by false is = absurd (let s = small in grind arith)

glyph_digit : (n : ℕ) → is_digit (digit_glyph false (n % 10)) ≡ true
glyph_digit n = ap is_digit (glyph n) ∙ (let s : n % 10 < 10 = omega arith in grind arith)

digits_are : (k n : ℕ) (rest : List ℕ) → list_all is_digit rest ≡ true → list_all is_digit (digits_onto k 10 false n rest) ≡ true
digits_are zero n rest all = all
digits_are (suc k) n rest all = by (n / 10 == 0) (digits_are k (n / 10) (digit_glyph false (n % 10) ∷ rest) more)
  where
    more : list_all is_digit (digit_glyph false (n % 10) ∷ rest) ≡ true
    more = ap (λ x. x && list_all is_digit rest) (glyph_digit n) ∙ all

    by : (last : Bool) → list_all is_digit (digits_onto k 10 false (n / 10) (digit_glyph false (n % 10) ∷ rest)) ≡ true
        → list_all is_digit (if last then digit_glyph false (n % 10) ∷ rest else digits_onto k 10 false (n / 10) (digit_glyph false (n % 10) ∷ rest)) ≡ true
    by true again = more
    by false again = again

some_byte : (b : ℕ) (rest : List ℕ) → is_empty (b ∷ rest) ≡ false
some_byte b rest = grind arith

some_digit : (k n b : ℕ) (rest : List ℕ) → is_empty (digits_onto k 10 false n (b ∷ rest)) ≡ false
some_digit zero n b rest = some_byte b rest
some_digit (suc k) n b rest = by (n / 10 == 0) (some_digit k (n / 10) (digit_glyph false (n % 10)) (b ∷ rest))
  where
    by : (last : Bool) → is_empty (digits_onto k 10 false (n / 10) (digit_glyph false (n % 10) ∷ b ∷ rest)) ≡ false
        → is_empty (if last then digit_glyph false (n % 10) ∷ b ∷ rest else digits_onto k 10 false (n / 10) (digit_glyph false (n % 10) ∷ b ∷ rest)) ≡ false
    by true again = some_byte (digit_glyph false (n % 10)) (b ∷ rest)
    by false again = again

digits_worth : (k n : ℕ) (rest : List ℕ) → n < 10 ^ k → number_with_digits 0 (digits_onto k 10 false n rest) ≡ number_with_digits n rest
digits_worth zero n rest small = ap (λ x. number_with_digits x rest) (let s : n < 1 = small in omega arith)
digits_worth (suc k) n rest small = by (n / 10 == 0) refl (digits_worth k (n / 10) (digit_glyph false (n % 10) ∷ rest))
  where
    whole : n / 10 * 10 + n % 10 ≡ n
    whole = div-add-mod' n 10

    by : (last : Bool) → (n / 10 == 0) ≡ last
        → (n / 10 < 10 ^ k → number_with_digits 0 (digits_onto k 10 false (n / 10) (digit_glyph false (n % 10) ∷ rest)) ≡ number_with_digits (n / 10) (digit_glyph false (n % 10) ∷ rest))
        → number_with_digits 0 (if last then digit_glyph false (n % 10) ∷ rest else digits_onto k 10 false (n / 10) (digit_glyph false (n % 10) ∷ rest)) ≡ number_with_digits n rest
    by true is again = ap (λ x. number_with_digits (10 * 0 + (x - 48)) rest) (glyph n)
        ∙ ap (λ x. number_with_digits x rest) (let w = whole in let e = eqb-true (n / 10) 0 is in omega arith)
    by false is again =
        again (let p = pow-suc 10 k in let s = small in omega arith)
        ∙ ap (λ x. number_with_digits (10 * (n / 10) + (x - 48)) rest) (glyph n)
        ∙ ap (λ x. number_with_digits x rest) (let w = whole in omega arith)

pub decimal_digits : (n : ℕ) → is_digits (decimal n) ≡ true
unfolding digits
decimal_digits n = both (is_empty (digits_onto 64 10 false n [])) (list_all is_digit (digits_onto 64 10 false n [])) some (digits_are 64 n [] refl)
  where
    both : (u v : Bool) → u ≡ false → v ≡ true → (not u && v) ≡ true
    both u v x y = grind arith

    some : is_empty (digits_onto 64 10 false n []) ≡ false
    some = by (n / 10 == 0) (some_digit 63 (n / 10) (digit_glyph false (n % 10)) [])
      where
        by : (last : Bool) → is_empty (digits_onto 63 10 false (n / 10) (digit_glyph false (n % 10) ∷ [])) ≡ false
            → is_empty (if last then digit_glyph false (n % 10) ∷ [] else digits_onto 63 10 false (n / 10) (digit_glyph false (n % 10) ∷ [])) ≡ false
        by true again = some_byte (digit_glyph false (n % 10)) []
        by false again = again

pub decimal_number : (n : ℕ) → n < 2 ^ 64 → number (decimal n) ≡ n
unfolding digits
decimal_number n small = digits_worth 64 n [] (let l : 2 ^ 64 ≤ 10 ^ 64 = lit≤ tt in omega arith)

pub decimal_worth : (n : ℕ) → n < 2 ^ 64 → number_of (decimal n) ≡ n
decimal_worth n small = ap (λ x. min x greatest_number) (decimal_number n small) ∙ omega (arith, small)

-- ---- texts cut at a byte

-- a byte that is no digit isn't in digits
pub digits_without : (byte : ℕ) (text : List ℕ) → is_digit byte ≡ false → list_all is_digit text ≡ true → has_byte byte text ≡ false
digits_without byte [] other all = refl
digits_without byte (b ∷ text) other all = by (b == byte) refl (digits_without byte text other (second (is_digit b) (list_all is_digit text) all))
  where
    second : (u v : Bool) → (u && v) ≡ true → v ≡ true
    second u v h = grind arith

    first : (u v : Bool) → (u && v) ≡ true → u ≡ true
    first u v h = grind arith

    by : (same : Bool) → (b == byte) ≡ same → has_byte byte text ≡ false → (same || has_byte byte text) ≡ false
    by true is again = absurd (true≢false (sym (first (is_digit b) (list_all is_digit text) all) ∙ ap is_digit (eqb-true b byte is) ∙ other))
    by false is again = again

pub all_digits : (text : List ℕ) → is_digits text ≡ true → list_all is_digit text ≡ true
all_digits text h = second (not (is_empty text)) (list_all is_digit text) h
  where
    second : (u v : Bool) → (u && v) ≡ true → v ≡ true
    second u v h = grind arith

-- where a byte first stands
neither : (u v : Bool) → (u || v) ≡ false → (u ≡ false) × (v ≡ false)
neither true v h = absurd (true≢false h)
neither false v h = (refl, h)

place : (byte : ℕ) (xs ys : List ℕ) → has_byte byte xs ≡ false → position_or_len (λ b. b == byte) (xs ++ byte ∷ ys) ≡ length xs
place byte [] ys none = ap (λ x. cond (not x) (1 + prefix_len (λ b. not (b == byte)) ys) 0) (eq-eqb byte byte refl)
place byte (x ∷ xs) ys none =
    let (here, later) = neither (x == byte) (has_byte byte xs) none in
    ap (λ z. cond (not z) (1 + prefix_len (λ b. not (b == byte)) (xs ++ byte ∷ ys)) 0) here ∙ ap (λ z. 1 + z) (place byte xs ys later) ∙ omega arith

take_front : (xs ys : List ℕ) → take (length xs) (xs ++ ys) ≡ xs
take_front [] ys = refl
take_front (x ∷ xs) ys = ap (λ z. x ∷ z) (take_front xs ys)

drop_front : (byte : ℕ) (xs ys : List ℕ) → drop (length xs + 1) (xs ++ byte ∷ ys) ≡ ys
drop_front byte [] ys = refl
drop_front byte (x ∷ xs) ys = ap (λ z. drop z (x ∷ xs ++ byte ∷ ys)) (let e : suc (length xs) + 1 ≡ suc (length xs + 1) = omega arith in e) ∙ drop_front byte xs ys

pub before_it : (byte : ℕ) (xs ys : List ℕ) → has_byte byte xs ≡ false → before_byte byte (xs ++ byte ∷ ys) ≡ xs
before_it byte xs ys none = ap (λ z. take z (xs ++ byte ∷ ys)) (place byte xs ys none) ∙ take_front xs (byte ∷ ys)

pub behind_it : (byte : ℕ) (xs ys : List ℕ) → has_byte byte xs ≡ false → behind_byte byte (xs ++ byte ∷ ys) ≡ ys
behind_it byte xs ys none = ap (λ z. drop (z + 1) (xs ++ byte ∷ ys)) (place byte xs ys none) ∙ drop_front byte xs ys

pub it_is_there : (byte : ℕ) (xs ys : List ℕ) → has_byte byte (xs ++ byte ∷ ys) ≡ true
it_is_there byte xs ys = list_any-append (λ b. b == byte) xs (byte ∷ ys) ∙ ap (λ z. has_byte byte xs || (z || has_byte byte ys)) (eq-eqb byte byte refl) ∙ or_true (has_byte byte xs)
  where
    or_true : (u : Bool) → (u || true) ≡ true
    or_true true = refl
    or_true false = refl

all_fail : (byte : ℕ) (xs : List ℕ) → has_byte byte xs ≡ false → All (λ b. (b == byte) ≡ false) xs
all_fail byte [] none k d small = absurd (omega arith)
all_fail byte (x ∷ xs) none zero d small = (neither (x == byte) (has_byte byte xs) none).0
all_fail byte (x ∷ xs) none (suc k) d small = all_fail byte xs (neither (x == byte) (has_byte byte xs) none).1 k d (omega arith)

-- texts without a byte
abbrev pub AreWithout : ℕ → List (List ℕ) → Type 0
AreWithout byte [] = Unit {0}
AreWithout byte (text ∷ texts) = (has_byte byte text ≡ false) × AreWithout byte texts

-- what is joined by a byte is cut there again
pub pieces_joined : (byte : ℕ) (text : List ℕ) (texts : List (List ℕ)) → has_byte byte text ≡ false → AreWithout byte texts → pieces_at byte (joined_by (byte ∷ []) (text ∷ texts)) ≡ text ∷ texts
pieces_joined byte text [] none without = ap (slice_split (λ b. b == byte)) (append-nil text) ∙ slice_split_none (λ b. b == byte) text (all_fail byte text none)
pieces_joined byte text (next ∷ more) none (other, without) =
    slice_split_at (λ b. b == byte) text byte (next ++ flat_map (λ x. byte ∷ x) more) (all_fail byte text none) (eq-eqb byte byte refl)
    ∙ ap (λ z. text ∷ z) (pieces_joined byte next more other without)

-- what is joined by a comma is cut at the commas again
pub joined_cut : (text : List ℕ) (texts : List (List ℕ)) → has_byte 44 text ≡ false → AreWithout 44 texts → pieces_at 44 (joined_by (44 ∷ []) (text ∷ texts)) ≡ text ∷ texts
joined_cut = pieces_joined 44
