-- The refusals of parts, and that of the whole.
use Rattle.std.proofs.Common.{◌≡◌, Bool, true, false, cond, List, [], ◌∷◌, ◌++◌, Option, Some, None, refl, sym, ap, ◌∙◌, arith}
use Rattle.std.proofs.lemmas.Bool.{ltb-true, ltb-false, lt-ltb, le-ltb}
use Rattle.std.proofs.lemmas.List.Sums.{fold-append}
use Rattle.std.specs.Prelude.{nat_lt}
use Rattle.ge_base.specs.declared.refusal.Refusal.{Refusal}
use Rattle.ge_model_rows.specs.Faults.{turn_of, earlier_fault, first_fault, after_faults, sooner}

-- refusals noted one part after the other are those of the whole
pub after_faults-append : (first : Option Refusal) (xs ys : List Refusal) → after_faults first (xs ++ ys) ≡ after_faults (after_faults first xs) ys
after_faults-append first xs ys = fold-append earlier_fault first xs ys

-- of three, whichever two are looked at first

tests : {A : Type 0} (p q r : Bool) (x y z : A) → (p ≡ true → q ≡ true → r ≡ true) → (p ≡ false → q ≡ false → r ≡ false)
    → cond p (cond q z y) (cond r z x) ≡ cond q (cond r z x) (cond p y x)
tests true true r x y z below above = ap (λ t. cond t z x) (sym (below refl refl))
tests true false r x y z below above = refl
tests false true r x y z below above = refl
tests false false r x y z below above = ap (λ t. cond t z x) (above refl refl)

earlier_by : (p : Bool) (x y z : Refusal) → earlier_fault (cond p (Some y) (Some x)) z ≡ cond p (earlier_fault (Some y) z) (earlier_fault (Some x) z)
earlier_by true x y z = refl
earlier_by false x y z = refl

sooner_by : (q : Bool) (x y z : Refusal) → sooner (Some x) (cond q (Some z) (Some y)) ≡ cond q (earlier_fault (Some x) z) (earlier_fault (Some x) y)
sooner_by true x y z = refl
sooner_by false x y z = refl

of_three : (x y z : Refusal) → earlier_fault (earlier_fault (Some x) y) z ≡ sooner (Some x) (earlier_fault (Some y) z)
of_three x y z =
    let a = turn_of x in
    let b = turn_of y in
    let c = turn_of z in
    let below = λ (s : nat_lt b a ≡ true) (t : nat_lt c b ≡ true). lt-ltb c a (omega (arith, ltb-true b a s, ltb-true c b t)) in
    let above = λ (s : nat_lt b a ≡ false) (t : nat_lt c b ≡ false). le-ltb c a (omega (arith, ltb-false b a s, ltb-false c b t)) in
    earlier_by (nat_lt b a) x y z ∙ tests (nat_lt b a) (nat_lt c b) (nat_lt c a) (Some x) (Some y) (Some z) below above ∙ sym (sooner_by (nat_lt c b) x y z)

after_none : (answer : Option Refusal) → answer ≡ sooner None answer
after_none None = refl
after_none (Some refusal) = refl

after_one : (first : Option Refusal) (refusal : Refusal) (rest : Option Refusal) → sooner (earlier_fault first refusal) rest ≡ sooner first (sooner (Some refusal) rest)
after_one first refusal None = refl
after_one None refusal (Some other) = after_none (earlier_fault (Some refusal) other)
after_one (Some first) refusal (Some other) = of_three first refusal other

-- what was found before, and what answers to the part that follows
pub after_faults-sooner : (first : Option Refusal) (faults : List Refusal) → after_faults first faults ≡ sooner first (first_fault faults)
after_faults-sooner first [] = refl
after_faults-sooner first (refusal ∷ faults) =
    after_faults-sooner (earlier_fault first refusal) faults ∙ after_one first refusal (first_fault faults)
    ∙ ap (sooner first) (sym (after_faults-sooner (Some refusal) faults))

-- what answers to the whole is the sooner of what answers to its parts
pub first_fault-append : (xs ys : List Refusal) → first_fault (xs ++ ys) ≡ sooner (first_fault xs) (first_fault ys)
first_fault-append xs ys = after_faults-append None xs ys ∙ after_faults-sooner (first_fault xs) ys
