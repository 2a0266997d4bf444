-- Printed amounts have no blank, no comma and no backslash.
use Rattle.std.proofs.Common.{◌≡◌, ℕ, ◌/◌, ◌%◌, ◌<◌, ◌==◌, ◌&&◌, Bool, true, false, if◌then◌else◌, List, [], ◌∷◌, ◌++◌, map, decimal, refl, sym, ◌∙◌, arith, codes}
use Rattle.std.specs.List.{list_all}
use Rattle.std.proofs.lemmas.Bool.{and_from, true≢false}
use Rattle.std.proofs.lemmas.List.Folds.{list_all-append}
use Rattle.ge_model_rows.specs.ValueRows.{Kind, infinity, million}
use Rattle.ge_model_text.specs.Value.{is_digit}
use Rattle.ge_model_rows.specs.Values.{digit_at, fixed_text, clock_text}
use Rattle.ge_model_rows.proofs.Digits.{decimal_digits, all_digits}
use Rattle.ge_model_config.specs.Cited.{number_text}
use Rattle.ge_model_config.proofs.ReadBackTexts.{is_shown, all_weaker}
use Rattle.ge_model_config.proofs.ReadBackLists.{is_item_byte, is_item}
use Rattle.ge_model_config.proofs.ReadBackNames.{item_shown}
use Rattle.ge_model_config.proofs.ReadBackNumbers.{decimal_shown}

digit_item : (b : ℕ) → is_digit b ≡ true → is_item_byte b ≡ true
digit_item b h = grind arith

digit_at_item : (n unit : ℕ) → is_item_byte (digit_at n unit) ≡ true
digit_at_item n unit = digit_item (digit_at n unit) (let small : n / unit % 10 < 10 = omega arith in grind arith)

decimal_bytes : (n : ℕ) → list_all is_item_byte (decimal n) ≡ true
decimal_bytes n = all_weaker is_digit is_item_byte digit_item (decimal n) (all_digits (decimal n) (decimal_digits n))

-- a text of items' bytes behind another one
bytes_behind : (front text : List ℕ) → list_all is_item_byte front ≡ true → list_all is_item_byte text ≡ true → list_all is_item_byte (front ++ text) ≡ true
bytes_behind front text first second = list_all-append is_item_byte front text ∙ and_from _ _ first second

six_digits : (n : ℕ) → list_all is_item_byte (map (digit_at n) (100000 ∷ 10000 ∷ 1000 ∷ 100 ∷ 10 ∷ 1 ∷ [])) ≡ true
six_digits n =
    λ i. digit_at_item n 100000 i && (digit_at_item n 10000 i && (digit_at_item n 1000 i && (digit_at_item n 100 i && (digit_at_item n 10 i && (digit_at_item n 1 i && true)))))

-- six decimals
fixed_bytes : (n : ℕ) → list_all is_item_byte (fixed_text n) ≡ true
fixed_bytes n =
    bytes_behind (decimal (n / million) ++ codes ".") (map (digit_at n) (100000 ∷ 10000 ∷ 1000 ∷ 100 ∷ 10 ∷ 1 ∷ [])) (bytes_behind (decimal (n / million)) (codes ".") (decimal_bytes (n / million)) refl)
    (six_digits n)

-- bytes of items behind a text that prints
shown_behind : (front text : List ℕ) → is_item front ≡ true → list_all is_item_byte text ≡ true → is_item (front ++ text) ≡ true
shown_behind [] text none all = absurd (true≢false (sym none))
shown_behind (b ∷ front) text first all = bytes_behind (b ∷ front) text first all

-- a weight behind its name
pub weight_item : (name : List ℕ) (n : ℕ) → is_item name ≡ true → is_item (name ++ fixed_text n) ≡ true
weight_item name n first = shown_behind name (fixed_text n) first (fixed_bytes n)

-- ---- amounts of each kind

decimal_item : (n : ℕ) → is_item (decimal n) ≡ true
decimal_item n = by (decimal n) (decimal_shown n) (decimal_bytes n)
  where
    by : (text : List ℕ) → is_shown text ≡ true → list_all is_item_byte text ≡ true → is_item text ≡ true
    by [] none all = none
    by (b ∷ text) some all = all

fixed_item : (n : ℕ) → is_item (fixed_text n) ≡ true
fixed_item n =
    shown_behind (decimal (n / million) ++ codes ".") (map (digit_at n) (100000 ∷ 10000 ∷ 1000 ∷ 100 ∷ 10 ∷ 1 ∷ []))
    (shown_behind (decimal (n / million)) (codes ".") (decimal_item (n / million)) refl) (six_digits n)

clock_item : (n : ℕ) → is_item (clock_text n) ≡ true
clock_item n =
    shown_behind (decimal (n / 3600) ++ codes ":" ++ decimal (n / 60 % 60) ++ codes ":") (decimal (n % 60))
    (shown_behind (decimal (n / 3600) ++ codes ":" ++ decimal (n / 60 % 60)) (codes ":")
    (shown_behind (decimal (n / 3600) ++ codes ":") (decimal (n / 60 % 60)) (shown_behind (decimal (n / 3600)) (codes ":") (decimal_item (n / 3600)) refl) (decimal_bytes (n / 60 % 60))) refl)
    (decimal_bytes (n % 60))

-- INFINITY or a text
endless_item : (n : ℕ) (text : List ℕ) → is_item text ≡ true → is_item (if n == infinity then codes "INFINITY" else text) ≡ true
endless_item n text plain = by (n == infinity)
  where
    by : (endless : Bool) → is_item (if endless then codes "INFINITY" else text) ≡ true
    by true = refl
    by false = plain

-- a printed amount is an item
pub number_item : (k : Kind) (n : ℕ) → is_item (number_text k n) ≡ true
number_item Kind.Time n = endless_item n (clock_text n) (clock_item n)
number_item Kind.Memory n = endless_item n (decimal n) (decimal_item n)
number_item Kind.Double n = fixed_item n
number_item Kind.Int n = decimal_item n
number_item _ n = decimal_item n

pub number_shown : (k : Kind) (n : ℕ) → is_shown (number_text k n) ≡ true
number_shown k n = item_shown (number_text k n) (number_item k n)
