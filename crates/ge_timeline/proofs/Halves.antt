-- A search that halves what is left at each step.
use Rattle.std.proofs.Common.{◌≡◌, ℕ, suc, ◌+◌, ◌-◌, ◌*◌, ◌^◌, ◌≤◌, ap, ◌∙◌, arith, pow-suc, mul-le-mul_left, mul_assoc}

-- one step more: what is left is at most half
pub halved : (n w less s0 steps now : ℕ) → s0 ≤ steps → now ≡ steps + 1 → 2 * less ≤ w → 1 ≤ w → 2 ^ (steps - s0) * w ≤ n → (2 ^ (now - s0) * less ≤ n) × (2 ^ (now - s0) ≤ 2 * n + 1)
halved n w less s0 steps now since is half some so_far =
    let p : ℕ = 2 ^ (steps - s0) in
    let next : now - s0 ≡ suc (steps - s0) = omega (arith, is, since) in
    let twice : 2 ^ (now - s0) ≡ 2 ^ (steps - s0) * 2 = ap (λ k. 2 ^ k) next ∙ pow-suc 2 (steps - s0) in
    let first : 2 ^ (steps - s0) * (2 * less) ≤ 2 ^ (steps - s0) * w = mul-le-mul_left (2 ^ (steps - s0)) half in
    let turned : 2 ^ (steps - s0) * 2 * less ≡ 2 ^ (steps - s0) * (2 * less) = mul_assoc (2 ^ (steps - s0)) 2 less in
    let second : 2 ^ (steps - s0) * 1 ≤ 2 ^ (steps - s0) * w = mul-le-mul_left (2 ^ (steps - s0)) some in
    (rw twice (omega (arith, first, turned, so_far)), omega (arith, second, twice, so_far))
