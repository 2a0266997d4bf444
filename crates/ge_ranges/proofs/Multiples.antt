-- Whole steps.
use Rattle.std.proofs.Common.{◌≡◌, ℕ, ◌+◌, ◌*◌, ◌/◌, ◌%◌, sym, ap, ◌∙◌, arith}
use Rattle.std.proofs.Math.Nat.{add-mod-mod, mul-mod_left, mul_assoc}
use Rattle.std.proofs.lemmas.Nat.{div-add-mod'}

-- as many whole steps as there are
pub whole : (x d : ℕ) → x % d ≡ 0 → x / d * d ≡ x
whole x d even = let e = div-add-mod' x d in omega (arith, even)

-- a multiple of a multiple
pub through : (x d p : ℕ) → x % d ≡ 0 → d % p ≡ 0 → x % p ≡ 0
through x d p even again =
    ap (λ y. y % p) (sym (whole x d even) ∙ ap (λ y. x / d * y) (sym (whole d p again)) ∙ sym (mul_assoc (x / d) (d / p) p))
    ∙ mul-mod_left (x / d * (d / p)) p

-- what is left beside a multiple
pub beside : (r x p : ℕ) → x % p ≡ 0 → (r + x) % p ≡ r % p
beside r x p even = let none : r + 0 ≡ r = omega arith in sym (add-mod-mod r x p) ∙ ap (λ y. (r + y) % p) even ∙ ap (λ y. y % p) none
