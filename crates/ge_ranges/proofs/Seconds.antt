-- Spans that have their second number, where they have more than one.
use Rattle.std.proofs.Common.{◌≡◌, ℕ, zero, suc, ◌+◌, ◌-◌, ◌*◌, ◌/◌, ◌<◌, ◌==◌, ◌&&◌, ◌||◌, Bool, true, false, min, if◌then◌else◌, nat_lt, nat_le, List, [], ◌∷◌, refl, ap, ◌∙◌, arith, length, get_or}
use Rattle.std.proofs.lemmas.Bool.{eqb-false, le-leb}
use Rattle.ge_model_rows.specs.TaskRows.{TaskSpan, is_form}
use Rattle.ge_model_rows.specs.Spans.{span_of, stretch, below_in, above_in}
use Rattle.ge_model_rows.proofs.Form.{IsMade, Rises}
use Rattle.ge_model_rows.proofs.Steps.{next_step}
use Rattle.ge_model_rows.proofs.Sets.{form_rises}
use Rattle.ge_ranges.specs.Forming.{has_second, have_seconds}

-- a span from a number by whole steps
spanned : (a q d : ℕ) → has_second (span_of a (a + q * d) d) ≡ true
spanned a q d = by (a == a + q * d) refl
  where
    by : (same : Bool) → (a == a + q * d) ≡ same → (same || nat_le (a + (if same then 1 else d)) (a + q * d)) ≡ true
    by true is = refl
    by false is = more q is
      where
        more : (q : ℕ) → (a == a + q * d) ≡ false → nat_le (a + d) (a + q * d) ≡ true
        more zero is = absurd (eqb-false a (a + 0 * d) is (omega arith))
        more (suc q) is = le-leb (a + d) (a + suc q * d) (omega arith)

-- a stretch of whole steps
pub stretched : (a bound d : ℕ) → have_seconds (stretch a bound d) ≡ true
stretched a bound d = by (nat_lt bound a)
  where
    by : (none : Bool) → have_seconds (if none then [] else span_of a (a + (bound - a) / d * d) d ∷ []) ≡ true
    by true = refl
    by false = ap (λ b. b && true) (spanned a ((bound - a) / d) d)

pub below_seconds : (n : ℕ) (s : TaskSpan) → have_seconds (below_in n s) ≡ true
below_seconds n s = by (nat_lt s.first n)
  where
    by : (some : Bool) → have_seconds (if some then stretch s.first (min s.last (n - 1)) s.step else []) ≡ true
    by true = stretched s.first (min s.last (n - 1)) s.step
    by false = refl

pub above_seconds : (n : ℕ) (s : TaskSpan) → has_second s ≡ true → have_seconds (above_in n s) ≡ true
above_seconds n s here = by (nat_lt n s.first)
  where
    by : (whole : Bool) → have_seconds (if whole then s ∷ [] else stretch (s.first + ((n - s.first) / s.step + 1) * s.step) s.last s.step) ≡ true
    by true = ap (λ b. b && true) here
    by false = stretched (s.first + ((n - s.first) / s.step + 1) * s.step) s.last s.step

made_second : (s : TaskSpan) → IsMade s → has_second s ≡ true
made_second s made = by (s.first == s.last) refl
  where
    by : (same : Bool) → (s.first == s.last) ≡ same → (same || nat_le (s.first + s.step) s.last) ≡ true
    by true is = refl
    by false is =
        let o = made.ordered in
        let ne : s.first ≡ s.last → ⊥ = eqb-false s.first s.last is in
        let lt : s.first < s.last = omega arith in
        le-leb (s.first + s.step) s.last (next_step s.first s.last s.step lt made.reached).0

rising_seconds : (low : ℕ) (spans : List TaskSpan) → Rises low spans → have_seconds spans ≡ true
rising_seconds low [] h = refl
rising_seconds low (s ∷ rest) (above, made, rises) =
    ap (λ b. b && have_seconds rest) (made_second s made) ∙ rising_seconds s.last rest rises

-- the spans of a set have their seconds
pub form_seconds : (spans : List TaskSpan) → is_form spans ≡ true → have_seconds spans ≡ true
form_seconds spans form = rising_seconds 0 spans (form_rises spans form)

and_both : (a b : Bool) → (a && b) ≡ true → (a ≡ true) × (b ≡ true)
and_both true b h = (refl, h)
and_both false b h = cc

-- each of spans that have their seconds has its second
pub second_there : (spans : List TaskSpan) (i : ℕ) (d : TaskSpan) → i < length spans → have_seconds spans ≡ true → has_second (get_or spans i d) ≡ true
second_there [] i d lt h = absurd (omega arith)
second_there (s ∷ rest) zero d lt h = (and_both (has_second s) (have_seconds rest) h).0
second_there (s ∷ rest) (suc i) d lt h = second_there rest i d (omega arith) (and_both (has_second s) (have_seconds rest) h).1
