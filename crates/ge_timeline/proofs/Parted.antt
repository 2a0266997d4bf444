-- The part of so many that a number below 2^64 is of all of those.
use Rattle.std.proofs.Common.{ℕ, ◌-◌, ◌*◌, ◌/◌, ◌^◌, ◌≤◌, ◌<◌, arith}
use Rattle.std.proofs.lemmas.Nat.{mul-lt, mul-le, div_below}

pub part_fits : (number size : ℕ) → number < 2 ^ 64 → size < 2 ^ 64 → number * size < 2 ^ 128
part_fits number size low small = omega (arith, mul-lt number size (2 ^ 64) (2 ^ 64) low small)

pub part_within : (number size : ℕ) → number < 2 ^ 64 → 0 < size → number * size / 2 ^ 64 < size
part_within number size low some =
    let most : number ≤ 2 ^ 64 - 1 = omega (arith, low) in
    let product = mul-le number size (2 ^ 64 - 1) size most (omega arith) in
    div_below (number * size) (2 ^ 64) size (omega arith) (omega (arith, product, some))
