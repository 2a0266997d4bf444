-- The parts of rising spans below a number and above one.
use Rattle.std.proofs.Common.{◌≡◌, ℕ, ◌+◌, ◌-◌, ◌*◌, ◌/◌, ◌%◌, ◌≤◌, ◌<◌, ◌==◌, ◌&&◌, ◌||◌, Bool, true, false, if◌then◌else◌, min, nat_lt, [], ◌∷◌, refl, sym, ap, ◌∙◌, arith, mul-le-mul_right, mod-lt}
use Rattle.std.proofs.Math.Nat.{div-mul-le_self, mul-mod_left, mod-one}
use Rattle.std.proofs.lemmas.Bool.{true≢false}
use Rattle.std.proofs.lemmas.Nat.{le-div, div-add-mod'}
use Rattle.ge_model_rows.specs.TaskRows.{TaskSpan}
use Rattle.ge_model_rows.specs.Spans.{span_of, in_span, stretch, below_in, above_in}
use Rattle.ge_model_rows.specs.Sets.{has_number}
use Rattle.ge_model_rows.proofs.Steps.{both_ways, raw, lies, lies_back, from_there, step_more, next_step, span_of_numbers}
use Rattle.ge_model_rows.proofs.Form.{IsMade}

-- ---- steps that fit below a bound

-- the last number that steps reach
abbrev pub floor : ℕ → ℕ → ℕ
floor x d = x / d * d

fits : (x y d : ℕ) → 0 < d → x % d ≡ 0 → x ≤ y → x ≤ floor y d
fits x y d p even h =
    let whole : x / d * d ≡ x = let e = div-add-mod' x d in omega (arith, even) in
    let more : x / d ≤ y / d = le-div (x / d) y d p (rw whole h) in
    let large : x / d * d ≤ y / d * d = mul-le-mul_right d more in
    omega arith

-- the span of the numbers from a first one that aren't above a bound
pub stretch_numbers : (m a bound d : ℕ) → 0 < d → has_number m (stretch a bound d) ≡ in_span m (raw a bound d)
stretch_numbers m a bound d p = by (nat_lt bound a) refl
  where
    low : a ≤ bound → in_span m (raw a (a + floor (bound - a) d) d) ≡ in_span m (raw a bound d)
    low h = both_ways to from
      where
        least : floor (bound - a) d ≤ bound - a
        least = div-mul-le_self (bound - a) d

        to : in_span m (raw a (a + floor (bound - a) d) d) ≡ true → in_span m (raw a bound d) ≡ true
        to has = let i = lies m a (a + floor (bound - a) d) d has in let l = least in lies_back m a bound d (i.0, omega arith, i.2)

        from : in_span m (raw a bound d) ≡ true → in_span m (raw a (a + floor (bound - a) d) d) ≡ true
        from has =
            let i = lies m a bound d has in
            let l = fits (m - a) (bound - a) d p i.2 (omega arith) in
            lies_back m a (a + floor (bound - a) d) d (i.0, omega arith, i.2)

    by : (empty : Bool) → nat_lt bound a ≡ empty
        → has_number m (if empty then [] else span_of a (a + floor (bound - a) d) d ∷ []) ≡ in_span m (raw a bound d)
    by true is = both_ways (λ h. absurd (true≢false (sym h))) (λ h. absurd (let i = lies m a bound d h in grind arith))
    by false is = or_nothing _ ∙ span_of_numbers m a (a + floor (bound - a) d) d ∙ low (grind arith)
      where
        or_nothing : (u : Bool) → (u || false) ≡ u
        or_nothing true = refl
        or_nothing false = refl

pub made_span : (a b d : ℕ) → 1 ≤ a → a ≤ b → 1 ≤ d → (b - a) % d ≡ 0 → IsMade (span_of a b d)
made_span a b d p q r even = by (a == b) refl
  where
    by : (same : Bool) → (a == b) ≡ same → IsMade (raw a b (if same then 1 else d))
    by true is = record { positive = p; ordered = q; forward = omega arith; reached = mod-one (b - a); single = λ e. refl }
    by false is = record { positive = p; ordered = q; forward = r; reached = even; single = λ e. absurd (grind arith) }

pub stretched : (a bound d : ℕ) → 1 ≤ a → a ≤ bound → 1 ≤ d → IsMade (span_of a (a + floor (bound - a) d) d)
stretched a bound d p q r =
    let none : a + floor (bound - a) d - a ≡ floor (bound - a) d = omega arith in
    made_span a (a + floor (bound - a) d) d p (omega arith) r (ap (λ x. x % d) none ∙ mul-mod_left ((bound - a) / d) d)

-- where a stretch ends
pub stretch_end : (a bound d : ℕ) → a ≤ bound → a + floor (bound - a) d ≤ bound
stretch_end a bound d h = let l = div-mul-le_self (bound - a) d in omega arith

-- ---- one span

pub below_in_numbers : (m n : ℕ) (s : TaskSpan) → IsMade s → has_number m (below_in n s) ≡ (in_span m s && nat_lt m n)
below_in_numbers m n s made = by (nat_lt s.first n) refl
  where
    by : (some : Bool) → nat_lt s.first n ≡ some
        → has_number m (if some then stretch s.first (min s.last (n - 1)) s.step else []) ≡ (in_span m s && nat_lt m n)
    by true is = stretch_numbers m s.first (min s.last (n - 1)) s.step made.forward ∙ both_ways (λ h. grind arith) (λ h. grind arith)
    by false is = both_ways (λ h. absurd (true≢false (sym h))) (λ h. absurd (grind arith))

-- the next step behind a number is behind it
pub behind_all : (n a d : ℕ) → a ≤ n → 0 < d → n < a + ((n - a) / d + 1) * d
behind_all n a d p q = let e = div-add-mod' (n - a) d in let l = mod-lt (n - a) q in omega arith

-- steps from a first number on, those behind a number
past : (m n a c d : ℕ) → a ≤ n → 0 < d → in_span m (raw (a + ((n - a) / d + 1) * d) c d) ≡ (in_span m (raw a c d) && nat_lt n m)
past m n a c d p q = both_ways to from
  where
    base : ℕ
    base = a + floor (n - a) d

    next : ℕ
    next = a + ((n - a) / d + 1) * d

    is_next : next ≡ base + d
    is_next = omega arith

    before : base ≤ n
    before = let l = div-mul-le_self (n - a) d in omega arith

    behind : n < base + d
    behind = let e = div-add-mod' (n - a) d in let l = mod-lt (n - a) q in omega arith

    from_first : (base - a) % d ≡ 0
    from_first = let none : a + floor (n - a) d - a ≡ floor (n - a) d = omega arith in ap (λ x. x % d) none ∙ mul-mod_left ((n - a) / d) d

    first_base : a ≤ base
    first_base = omega arith

    to : in_span m (raw next c d) ≡ true → (in_span m (raw a c d) && nat_lt n m) ≡ true
    to h =
        let i = lies m (base + d) c d (rw (← is_next) h) in
        let l = behind in
        let f = first_base in
        both (in_span m (raw a c d)) (nat_lt n m)
        (lies_back m a c d (omega arith, i.1, from_there a (base + d) m d (omega arith) i.0 (step_more a base d f from_first) ∙ i.2))
        (grind arith)
      where
        both : (u v : Bool) → u ≡ true → v ≡ true → (u && v) ≡ true
        both u v x y = grind arith

    from : (in_span m (raw a c d) && nat_lt n m) ≡ true → in_span m (raw next c d) ≡ true
    from h =
        let i = lies m a c d (first (in_span m (raw a c d)) (nat_lt n m) h) in
        let later : n < m = second (in_span m (raw a c d)) h in
        let b = before in
        let f = first_base in
        let there = next_step base m d (omega arith) (sym (from_there a base m d f (omega arith) from_first) ∙ i.2) in
        rw is_next (lies_back m (base + d) c d (there.0, i.1, there.1))
      where
        first : (u v : Bool) → (u && v) ≡ true → u ≡ true
        first u v h = grind arith

        second : (u : Bool) → (u && nat_lt n m) ≡ true → n < m
        second u h = grind arith

pub above_in_numbers : (m n : ℕ) (s : TaskSpan) → IsMade s → has_number m (above_in n s) ≡ (in_span m s && nat_lt n m)
above_in_numbers m n s made = by (nat_lt n s.first) refl
  where
    by : (whole : Bool) → nat_lt n s.first ≡ whole
        → has_number m (if whole then s ∷ [] else stretch (s.first + ((n - s.first) / s.step + 1) * s.step) s.last s.step) ≡ (in_span m s && nat_lt n m)
    by true is = both_ways (λ h. grind arith) (λ h. grind arith)
    by false is =
        stretch_numbers m (s.first + ((n - s.first) / s.step + 1) * s.step) s.last s.step made.forward
        ∙ past m n s.first s.last s.step (grind arith) made.forward
