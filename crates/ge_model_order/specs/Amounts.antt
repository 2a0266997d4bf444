-- Amounts of tickets, usage and urgency: a sum or a product is cut at 2^128 - 1, a quotient is rounded down.
use Rattle.std.specs.Prelude.{ℕ, ◌/◌, ◌-◌, ◌^◌, ◌==◌, if◌then◌else◌, min, max, List, [], ◌∷◌, fold}
use Rattle.ge_base.specs.Fixed.{cut_sum, cut_product}

-- the sum of what the items of a list count
abbrev pub cut_total : {X : Type 0} → (X → ℕ) → List X → ℕ
cut_total amount items = fold (λ total item. cut_sum total (amount item)) 0 items

-- an amount, cut at the end of a number of 64 bits
abbrev pub cut_at_64 : ℕ → ℕ
cut_at_64 amount = min amount (2 ^ 64 - 1)

-- what of an amount falls to a part of a whole; nothing where the whole is nothing
abbrev pub portion : ℕ → ℕ → ℕ → ℕ
portion amount part whole = if whole == 0 then 0 else cut_product amount part / whole

-- what of an amount falls to each of so many
abbrev pub equal_part : ℕ → ℕ → ℕ
equal_part amount count = amount / max 1 count

-- the greatest of these numbers, and the least; 0 where there is none
abbrev pub greatest : List ℕ → ℕ
greatest numbers = fold (λ most n. max most n) 0 numbers

abbrev pub least : List ℕ → ℕ
least [] = 0
least (n ∷ numbers) = fold (λ few m. min few m) n numbers
