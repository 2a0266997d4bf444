-- Steps from a first number on.
use Rattle.std.proofs.Common.{◌≡◌, ℕ, ◌+◌, ◌-◌, ◌*◌, ◌/◌, ◌%◌, ◌≤◌, arith}
use Rattle.std.proofs.Math.Nat.{mul-mod_left}
use Rattle.std.proofs.lemmas.Grind.{common_steps}

pub steps_reach : (first way step : ℕ) → (first + (way - way % step) - first) % step ≡ 0
steps_reach first way step =
    let e : way - way % step ≡ way / step * step = grind (arith, common_steps) in
    let f : first + (way - way % step) - first ≡ way / step * step = omega (arith, e) in
    rw f (mul-mod_left (way / step) step)
