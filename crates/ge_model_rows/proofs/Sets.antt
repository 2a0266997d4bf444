-- A set with one number more, and with one less: its numbers, and its form.
use Rattle.std.proofs.Common.{◌≡◌, ℕ, ◌+◌, ◌-◌, ◌*◌, ◌/◌, ◌%◌, ◌≤◌, ◌<◌, ◌==◌, ◌&&◌, ◌||◌, Bool, true, false, not, if◌then◌else◌, min, nat_lt, List, [], ◌∷◌, ◌++◌, refl, ap, ◌∙◌, arith}
use Rattle.std.proofs.Math.Nat.{zero-mod}
use Rattle.std.proofs.lemmas.List.Folds.{list_any-append}
use Rattle.ge_model_rows.specs.TaskRows.{TaskSpan, is_single, is_run, is_apart, is_form_from}
use Rattle.ge_model_rows.specs.TaskRows.{is_form}
use Rattle.ge_model_rows.specs.Spans.{one, span_of, in_span, below_in, above_in}
use Rattle.ge_model_rows.specs.Sets.{has_number, below, above, with_number, without_number}
use Rattle.ge_model_rows.proofs.Steps.{both_ways, alone}
use Rattle.ge_model_rows.proofs.Form.{IsMade, Rises}
use Rattle.ge_model_rows.proofs.Runs.{in_form_form, in_form_numbers}
use Rattle.ge_model_rows.proofs.Cuts.{floor, stretched, stretch_end, behind_all, below_in_numbers, above_in_numbers}

-- ---- the numbers of the parts

both_parts : (u v s r x : Bool) → u ≡ (s && x) → v ≡ (r && x) → (u || v) ≡ ((s || r) && x)
both_parts u v s r x p q = grind arith

pub below_numbers : (m n low : ℕ) (spans : List TaskSpan) → Rises low spans → has_number m (below n spans) ≡ (has_number m spans && nat_lt m n)
below_numbers m n low [] rises = refl
below_numbers m n low (s ∷ rest) (higher, made, rises) =
    list_any-append (in_span m) (below_in n s) (below n rest)
    ∙ both_parts _ _ (in_span m s) (has_number m rest) (nat_lt m n) (below_in_numbers m n s made) (below_numbers m n s.last rest rises)

pub above_numbers : (m n low : ℕ) (spans : List TaskSpan) → Rises low spans → has_number m (above n spans) ≡ (has_number m spans && nat_lt n m)
above_numbers m n low [] rises = refl
above_numbers m n low (s ∷ rest) (higher, made, rises) =
    list_any-append (in_span m) (above_in n s) (above n rest)
    ∙ both_parts _ _ (in_span m s) (has_number m rest) (nat_lt n m) (above_in_numbers m n s made) (above_numbers m n s.last rest rises)

-- ---- the parts rise

-- rising spans that end at a number or before it
abbrev pub Within : ℕ → ℕ → List TaskSpan → Type 0
Within low high [] = low ≤ high
Within low high (s ∷ rest) = (low < s.first) × IsMade s × Within s.last high rest

pub lower : (low high : ℕ) (spans : List TaskSpan) → low ≤ high → Rises high spans → Rises low spans
lower low high [] p rises = tt
lower low high (s ∷ rest) p (higher, made, rises) = (omega arith, made, rises)

lower_within : (low high top : ℕ) (spans : List TaskSpan) → low ≤ high → Within high top spans → Within low top spans
lower_within low high top [] p within = omega arith
lower_within low high top (s ∷ rest) p (higher, made, within) = (omega arith, made, within)

pub joined_rises : (low mid : ℕ) (xs ys : List TaskSpan) → Within low mid xs → Rises mid ys → Rises low (xs ++ ys)
joined_rises low mid [] ys p rises = lower low mid ys p rises
joined_rises low mid (s ∷ xs) ys (higher, made, within) rises = (higher, made, joined_rises s.last mid xs ys within rises)

-- nothing of what rises above a number stands below it, and all of it above
none_below : (n low : ℕ) (spans : List TaskSpan) → n ≤ low + 1 → Rises low spans → below n spans ≡ []
none_below n low [] p rises = refl
none_below n low (s ∷ rest) p (higher, made, rises) =
    let ordered = made.ordered in
    let not_here : nat_lt s.first n ≡ false = grind arith in
    rw not_here (none_below n s.last rest (omega arith) rises)

all_above : (n low : ℕ) (spans : List TaskSpan) → n ≤ low → Rises low spans → above n spans ≡ spans
all_above n low [] p rises = refl
all_above n low (s ∷ rest) p (higher, made, rises) =
    let ordered = made.ordered in
    let here : nat_lt n s.first ≡ true = grind arith in
    rw here (ap (λ x. s ∷ x) (all_above n s.last rest (omega arith) rises))

-- below a number that rising spans begin under: what rises to it
below_within : (n low : ℕ) (spans : List TaskSpan) → low < n → Rises low spans → Within low (n - 1) (below n spans)
below_within n low [] p rises = omega arith
below_within n low (s ∷ rest) p (higher, made, rises) = by (nat_lt s.first n) (nat_lt (min s.last (n - 1)) s.first) refl refl (below_within n s.last rest)
  where
    bound : ℕ
    bound = min s.last (n - 1)

    by : (some none : Bool) → nat_lt s.first n ≡ some → nat_lt bound s.first ≡ none
        → (s.last < n → Rises s.last rest → Within s.last (n - 1) (below n rest))
        → Within low (n - 1) ((if some then (if none then [] else span_of s.first (s.first + floor (bound - s.first) s.step) s.step ∷ []) else []) ++ below n rest)
    by false none is _ again = let o = made.ordered in rw (none_below n s.last rest (grind arith) rises) (omega arith)
    by true true is none again = let o = made.ordered in absurd (grind arith)
    by true false is some again =
        let o = made.ordered in
        let fits : s.first ≤ bound = grind arith in
        (higher, stretched s.first bound s.step made.positive fits made.forward, tail (nat_lt s.last n) refl (stretch_end s.first bound s.step fits))
      where
        tail : (more : Bool) → nat_lt s.last n ≡ more → s.first + floor (bound - s.first) s.step ≤ bound
            → Within (s.first + floor (bound - s.first) s.step) (n - 1) (below n rest)
        tail true is end = lower_within (s.first + floor (bound - s.first) s.step) s.last (n - 1) (below n rest) (omega arith) (again (grind arith) rises)
        tail false is end = rw (none_below n s.last rest (grind arith) rises) (omega arith)

-- above a number: what rises from it
above_rises : (n low : ℕ) (spans : List TaskSpan) → Rises low spans → Rises n (above n spans)
above_rises n low [] rises = tt
above_rises n low (s ∷ rest) (higher, made, rises) = by (nat_lt n s.first) (nat_lt s.last next) refl refl (above_rises n s.last rest rises)
  where
    next : ℕ
    next = s.first + ((n - s.first) / s.step + 1) * s.step

    by : (whole none : Bool) → nat_lt n s.first ≡ whole → nat_lt s.last next ≡ none → Rises n (above n rest)
        → Rises n ((if whole then s ∷ [] else (if none then [] else span_of next (next + floor (s.last - next) s.step) s.step ∷ [])) ++ above n rest)
    by true none is _ again = let o = made.ordered in (grind arith, made, rw (all_above n s.last rest (grind arith) rises) rises)
    by false true is none again = again
    by false false is some again =
        let fits : next ≤ s.last = grind arith in
        let later : n < next = behind_all n s.first s.step (grind arith) made.forward in
        let p = made.positive in
        let end = stretch_end next s.last s.step fits in (
          later,
          stretched next s.last s.step (omega arith) fits made.forward,
          rw (all_above n s.last rest (omega arith) rises) (lower (next + floor (s.last - next) s.step) s.last rest end rises),
        )

-- ---- a set in the form

from_single : (s : TaskSpan) → is_single s ≡ true → (1 ≤ s.first) × (s.last ≡ s.first) × (s.step ≡ 1)
from_single s h = grind arith

pub from_run : (s : TaskSpan) → is_run s ≡ true → (1 ≤ s.first) × (s.first < s.last) × (1 ≤ s.step) × ((s.last - s.first) % s.step ≡ 0)
from_run s h = grind arith

single_made : (s : TaskSpan) → is_single s ≡ true → IsMade s
single_made s h =
    let (positive, same, step) = from_single s h in
    let none : s.last - s.first ≡ 0 = omega arith in
    record { positive = positive; ordered = omega arith; forward = omega arith; reached = ap (λ x. x % s.step) none ∙ zero-mod s.step; single = λ e. step }

run_made : (s : TaskSpan) → is_run s ≡ true → IsMade s
run_made s h =
    let (positive, more, forward, reached) = from_run s h in
    record { positive = positive; ordered = omega arith; forward = forward; reached = reached; single = λ e. absurd (omega arith) }

form_made : (s : TaskSpan) → (is_single s || is_run s) ≡ true → IsMade s
form_made s h = by (is_single s) refl h
  where
    by : (one : Bool) → is_single s ≡ one → (one || is_run s) ≡ true → IsMade s
    by true is h = single_made s is
    by false is h = run_made s h

form_rises_from : (s : TaskSpan) (rest : List TaskSpan) → is_form_from s rest ≡ true → IsMade s × Rises s.last rest
form_rises_from s [] h = (form_made s h, tt)
form_rises_from s (t ∷ rest) h =
    let (run, gap, form) = all_three (is_run s) (is_apart s t) (is_form_from t rest) h in
    let next = form_rises_from t rest form in
    (run_made s run, (gap_rises s t gap, next.0, next.1))
  where
    all_three : (a b c : Bool) → (a && b && c) ≡ true → (a ≡ true) × (b ≡ true) × (c ≡ true)
    all_three a b c h = grind arith

    gap_rises : (s t : TaskSpan) → is_apart s t ≡ true → s.last < t.first
    gap_rises s t h = grind arith

-- the spans of a set in the form rise
pub form_rises : (spans : List TaskSpan) → is_form spans ≡ true → Rises 0 spans
form_rises [] h = tt
form_rises (s ∷ rest) h = let made = form_rises_from s rest h in (made.0.positive, made.0, made.1)

-- ---- one number more, one number less

pub one_made : (n : ℕ) → 1 ≤ n → IsMade (one n)
one_made n p = let none : n - n ≡ 0 = omega arith in
    record { positive = p; ordered = omega arith; forward = omega arith; reached = ap (λ x. x % 1) none ∙ zero-mod 1; single = λ e. refl }

-- where numbers stand beside one that is at least 1
more_rises : (n : ℕ) (spans : List TaskSpan) → 1 ≤ n → Rises 0 spans → Rises 0 (below n spans ++ one n ∷ above n spans)
more_rises n spans p rises =
    joined_rises 0 (n - 1) (below n spans) (one n ∷ above n spans) (below_within n 0 spans p rises) (omega arith, one_made n p, above_rises n 0 spans rises)

less_rises : (n : ℕ) (spans : List TaskSpan) → 1 ≤ n → Rises 0 spans → Rises 0 (below n spans ++ above n spans)
less_rises n spans p rises =
    joined_rises 0 (n - 1) (below n spans) (above n spans) (below_within n 0 spans p rises) (lower (n - 1) n (above n spans) (omega arith) (above_rises n 0 spans rises))

-- a set with one number more is in the form, and has that number and those that it had
pub with_number_form : (n : ℕ) (spans : List TaskSpan) → 1 ≤ n → is_form spans ≡ true → is_form (with_number n spans) ≡ true
with_number_form n spans p form = in_form_form 0 (below n spans ++ one n ∷ above n spans) (more_rises n spans p (form_rises spans form))

pub with_number_has : (m n : ℕ) (spans : List TaskSpan) → 1 ≤ n → is_form spans ≡ true → has_number m (with_number n spans) ≡ (m == n || has_number m spans)
with_number_has m n spans p form =
    in_form_numbers m 0 (below n spans ++ one n ∷ above n spans) (more_rises n spans p rises)
    ∙ list_any-append (in_span m) (below n spans) (one n ∷ above n spans)
    ∙ (λ i. below_numbers m n 0 spans rises i || (alone m n 1 i || above_numbers m n 0 spans rises i))
    ∙ sorted (has_number m spans)
  where
    rises : Rises 0 spans
    rises = form_rises spans form

    sorted : (has : Bool) → ((has && nat_lt m n) || (m == n || (has && nat_lt n m))) ≡ (m == n || has)
    sorted true = both_ways (λ h. grind arith) (λ h. grind arith)
    sorted false = both_ways (λ h. grind arith) (λ h. grind arith)

-- a set with one number less is in the form, and has all others that it had
pub without_number_form : (n : ℕ) (spans : List TaskSpan) → 1 ≤ n → is_form spans ≡ true → is_form (without_number n spans) ≡ true
without_number_form n spans p form = in_form_form 0 (below n spans ++ above n spans) (less_rises n spans p (form_rises spans form))

pub without_number_has : (m n : ℕ) (spans : List TaskSpan) → 1 ≤ n → is_form spans ≡ true → has_number m (without_number n spans) ≡ (has_number m spans && not (m == n))
without_number_has m n spans p form =
    in_form_numbers m 0 (below n spans ++ above n spans) (less_rises n spans p rises)
    ∙ list_any-append (in_span m) (below n spans) (above n spans)
    ∙ (λ i. below_numbers m n 0 spans rises i || above_numbers m n 0 spans rises i)
    ∙ sorted (has_number m spans)
  where
    rises : Rises 0 spans
    rises = form_rises spans form

    sorted : (has : Bool) → ((has && nat_lt m n) || (has && nat_lt n m)) ≡ (has && not (m == n))
    sorted true = both_ways (λ h. grind arith) (λ h. grind arith)
    sorted false = refl
