use Rattle.std.proofs.Common.{◌≡◌, ℕ, ◌/◌, ◌^◌, ◌<◌, ◌≤◌, sym, arith}
use Rattle.std.proofs.Math.Nat.{div-eq_of_lt}
use Rattle.std.proofs.Math.Pow.{pow_mono}
use Rattle.ge_base.proofs.fixed.halved.Goals as goal

-- a number below a smaller power of two is divided by a greater one to nothing
nothing_left : (a k n : ℕ) → a < 2 ^ k → k ≤ n → 0 ≡ a / 2 ^ n
nothing_left a k n small many =
    let grows : 2 ^ k ≤ 2 ^ n = pow_mono many in
    let below : a < 2 ^ n = omega arith in
    sym (div-eq_of_lt below)

pub returns-else-times-lt128-clause-quotient : goal.returns-else-times-lt128-clause-quotient
returns-else-times-lt128-clause-quotient c = nothing_left c.args.a 128 c.args.times c.ranges.a.fits c.if-times-lt128.false
