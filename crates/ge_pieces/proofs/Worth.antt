-- What digits are worth, cut.
use Rattle.std.proofs.Common.{◌≡◌, ℕ, ◌+◌, ◌-◌, ◌*◌, ◌≤◌, ◌<◌, min, List, [], ◌∷◌, length, get_or, drop, drop-cons, add-one, refl, sym, ap, ◌∙◌, ⊎_elim, arith}
use Rattle.std.proofs.lemmas.Grind.{common_steps}
use Rattle.std.proofs.lemmas.Bool.{cases_lt}
use Rattle.ge_model_text.specs.Value.{number_with_digits}

grows : (n : ℕ) (digits : List ℕ) → n ≤ number_with_digits n digits
grows n [] = omega arith
grows n (b ∷ digits) = omega (arith, grows (10 * n + (b - 48)) digits)

-- a front that is cut changes nothing that is cut
cut_worth : (c n : ℕ) (digits : List ℕ) → min (number_with_digits (min n c) digits) c ≡ min (number_with_digits n digits) c
cut_worth c n digits = ⊎_elim above within (cases_lt c n)
  where
    above : c < n → min (number_with_digits (min n c) digits) c ≡ min (number_with_digits n digits) c
    above h = let e : min n c ≡ c = omega arith in rw e (omega (arith, grows c digits, grows n digits))

    within : n ≤ c → min (number_with_digits (min n c) digits) c ≡ min (number_with_digits n digits) c
    within h = let e : min n c ≡ n = omega arith in rw e refl

-- one more digit
one_digit : (c worth d : ℕ) (rest : List ℕ) → min (number_with_digits (min (min (worth * 10) c + (d - 48)) c) rest) c ≡ min (number_with_digits worth (d ∷ rest)) c
one_digit c worth d rest =
    let e : min (min (worth * 10) c + (d - 48)) c ≡ min (10 * worth + (d - 48)) c = omega arith in
    rw e (cut_worth c (10 * worth + (d - 48)) rest)

pub turn : (c : ℕ) (digits : List ℕ) (i worth next total : ℕ) → i < length digits → next ≡ min (min (worth * 10) c + (get_or digits i 0 - 48)) c
    → min (number_with_digits worth (drop i digits)) c ≡ total → min (number_with_digits next (drop (i + 1) digits)) c ≡ total
turn c digits i worth next total lt is so_far =
    let e : drop i digits ≡ get_or digits i 0 ∷ drop (i + 1) digits = rw (add-one, drop-cons digits i 0) in
    ap (λ n. min (number_with_digits n (drop (i + 1) digits)) c) is ∙ one_digit c worth (get_or digits i 0) (drop (i + 1) digits)
    ∙ ap (λ ds. min (number_with_digits worth ds) c) (sym e) ∙ so_far

pub ended : (c : ℕ) (digits : List ℕ) (i worth total : ℕ) → length digits ≤ i → worth ≤ c → min (number_with_digits worth (drop i digits)) c ≡ total → worth ≡ total
ended c digits i worth total past small so_far =
    let e : drop i digits ≡ [] = grind (arith, common_steps) in
    let w : min worth c ≡ worth = omega arith in
    sym w ∙ ap (λ ds. min (number_with_digits worth ds) c) (sym e) ∙ so_far
