-- Whole numbers of 128 bits: what would not fit is cut at 2^128 - 1, and a quotient is rounded down.
use Rattle.std.specs.Prelude.{◌≡◌, ℕ, ◌+◌, ◌-◌, ◌*◌, ◌/◌, ◌^◌, min, refl}

abbrev pub cut_sum : ℕ → ℕ → ℕ
cut_sum a b = min (a + b) (2 ^ 128 - 1)

abbrev pub cut_product : ℕ → ℕ → ℕ
cut_product a b = min (a * b) (2 ^ 128 - 1)

-- a number below 2^128 divided by 2 that many times. The power stops where nothing is left, so that it
-- computes for any number of times
abbrev pub halved_by : ℕ → ℕ → ℕ
halved_by a times = a / 2 ^ min times 128

-- rows

sum_at_the_end : cut_sum (2 ^ 128 - 1) 1 ≡ 2 ^ 128 - 1
sum_at_the_end = refl

product_past_the_end : cut_product (2 ^ 64) (2 ^ 64) ≡ 2 ^ 128 - 1
product_past_the_end = refl

product_below_the_end : cut_product (2 ^ 64) (2 ^ 64 - 1) ≡ 340282366920938463444927863358058659840
product_below_the_end = refl

halved_often : halved_by (2 ^ 128 - 1) (2 ^ 64 - 1) ≡ 0
halved_often = refl

halved_64_times : halved_by (2 ^ 127) 64 ≡ 9223372036854775808
halved_64_times = refl

halved_127_times : halved_by (2 ^ 128 - 1) 127 ≡ 1
halved_127_times = refl
