-- The numbers of spans: a span that goes on with another one has the numbers of both.
use Rattle.std.proofs.Common.{◌≡◌, ℕ, ◌+◌, ◌-◌, ◌%◌, ◌≤◌, ◌<◌, ◌⊎◌, ◌==◌, ◌||◌, Bool, true, false, if◌then◌else◌, nat_lt, nat_le, refl, sym, ap, ◌∙◌, inl, inr, arith, mod-eq_of_lt}
use Rattle.std.proofs.Math.Nat.{add-mod-mod, add-mod_left, mod-eq-sub-mod, zero-mod}
use Rattle.std.proofs.lemmas.Bool.{eqb-true, eq-eqb}
use Rattle.ge_model_rows.specs.TaskRows.{TaskSpan}
use Rattle.ge_model_rows.specs.Spans.{span_of, in_span}

-- two answers that follow from one another are the same
pub both_ways : {a b : Bool} → (a ≡ true → b ≡ true) → (b ≡ true → a ≡ true) → a ≡ b
both_ways f g = grind arith

abbrev pub raw : ℕ → ℕ → ℕ → TaskSpan
raw first last step = record { first = first; last = last; step = step }

-- what it is to lie in a span
abbrev pub In : ℕ → ℕ → ℕ → ℕ → Type 0
In m first last step = (first ≤ m) × (m ≤ last) × ((m - first) % step ≡ 0)

pub lies : (m first last step : ℕ) → in_span m (raw first last step) ≡ true → In m first last step
lies m first last step h = grind arith

pub lies_back : (m first last step : ℕ) → In m first last step → in_span m (raw first last step) ≡ true
lies_back m first last step h = grind arith

-- ---- steps

-- less than a step is no step
pub no_step : (x d : ℕ) → x < d → x % d ≡ 0 → x ≡ 0
no_step x d small even = sym (mod-eq_of_lt small) ∙ even

-- from a place that steps lead to, the same is left
pub from_there : (a b m d : ℕ) → a ≤ b → b ≤ m → (b - a) % d ≡ 0 → (m - a) % d ≡ (m - b) % d
from_there a b m d p q even =
    let split : m - a ≡ (m - b) + (b - a) = omega arith in
    let none : (m - b) + 0 ≡ m - b = omega arith in
    ap (λ x. x % d) split ∙ sym (add-mod-mod (m - b) (b - a) d) ∙ ap (λ x. ((m - b) + x) % d) even ∙ ap (λ x. x % d) none

-- one step more
pub step_more : (a b d : ℕ) → a ≤ b → (b - a) % d ≡ 0 → (b + d - a) % d ≡ 0
step_more a b d p even =
    let split : b + d - a ≡ d + (b - a) = omega arith in
    ap (λ x. x % d) split ∙ add-mod_left d (b - a) ∙ even

-- behind a place, the next number is one step on
pub next_step : (b m d : ℕ) → b < m → (m - b) % d ≡ 0 → (b + d ≤ m) × ((m - (b + d)) % d ≡ 0)
next_step b m d later even = by (nat_lt (m - b) d) refl
  where
    by : (small : Bool) → nat_lt (m - b) d ≡ small → (b + d ≤ m) × ((m - (b + d)) % d ≡ 0)
    by true is = absurd (let none : m - b ≡ 0 = no_step (m - b) d (grind arith) even in omega arith)
    by false is =
        let large : d ≤ m - b = grind arith in
        let again : m - (b + d) ≡ (m - b) - d = omega arith in
        (omega arith, ap (λ x. x % d) again ∙ sym (mod-eq-sub-mod large) ∙ even)

-- ---- spans

-- a span that goes one step on with another one of its step has the numbers of both
pub joined : (m a b c d : ℕ) → a ≤ b → (b - a) % d ≡ 0 → b + d ≤ c
    → in_span m (raw a c d) ≡ (in_span m (raw a b d) || in_span m (raw (b + d) c d))
joined m a b c d p even q = both_ways to from
  where
    split : In m a c d → (In m a b d) ⊎ (In m (b + d) c d)
    split has = by (nat_le m b) refl
      where
        by : (low : Bool) → nat_le m b ≡ low → (In m a b d) ⊎ (In m (b + d) c d)
        by true is = inl (has.0, grind arith, has.2)
        by false is =
            let later : b < m = grind arith in
            let there = next_step b m d later (sym (from_there a b m d p (omega arith) even) ∙ has.2) in
            inr (there.0, has.1, there.1)

    first : In m a b d → In m a c d
    first has = (has.0, omega arith, has.2)

    second : In m (b + d) c d → In m a c d
    second has = (omega arith, has.1, from_there a (b + d) m d (omega arith) has.0 (step_more a b d p even) ∙ has.2)

    to : in_span m (raw a c d) ≡ true → (in_span m (raw a b d) || in_span m (raw (b + d) c d)) ≡ true
    to h = by (split (lies m a c d h))
      where
        by : (In m a b d) ⊎ (In m (b + d) c d) → (in_span m (raw a b d) || in_span m (raw (b + d) c d)) ≡ true
        by (inl x) = rw (lies_back m a b d x) refl
        by (inr x) = or_second (in_span m (raw a b d)) _ (lies_back m (b + d) c d x)
          where
            or_second : (u v : Bool) → v ≡ true → (u || v) ≡ true
            or_second true v h = refl
            or_second false v h = h

    from : (in_span m (raw a b d) || in_span m (raw (b + d) c d)) ≡ true → in_span m (raw a c d) ≡ true
    from h = by (in_span m (raw a b d)) (in_span m (raw (b + d) c d)) refl refl h
      where
        by : (u v : Bool) → in_span m (raw a b d) ≡ u → in_span m (raw (b + d) c d) ≡ v → (u || v) ≡ true → in_span m (raw a c d) ≡ true
        by true v x y h = lies_back m a c d (first (lies m a b d x))
        by false v x y h = lies_back m a c d (second (lies m (b + d) c d (y ∙ h)))

-- one number lies alone in its span, whatever the step
pub alone : (m a d : ℕ) → in_span m (raw a a d) ≡ (m == a)
alone m a d = both_ways to from
  where
    to : in_span m (raw a a d) ≡ true → (m == a) ≡ true
    to h = let has = lies m a a d h in eq-eqb m a (omega arith)

    from : (m == a) ≡ true → in_span m (raw a a d) ≡ true
    from h =
        let same : m ≡ a = eqb-true m a h in
        let none : m - a ≡ 0 = omega arith in
        lies_back m a a d (omega arith, omega arith, ap (λ x. x % d) none ∙ zero-mod d)

-- a step that one number doesn't need
pub span_of_numbers : (m a b d : ℕ) → in_span m (span_of a b d) ≡ in_span m (raw a b d)
span_of_numbers m a b d = by (a == b) refl
  where
    by : (same : Bool) → (a == b) ≡ same → in_span m (raw a b (if same then 1 else d)) ≡ in_span m (raw a b d)
    by true is = rw (← eqb-true a b is) (alone m a 1 ∙ sym (alone m a d))
    by false is = refl
