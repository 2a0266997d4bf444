-- Two sets together: the numbers of either, of both, and of the first alone, in the form.
use Rattle.std.proofs.Common.{◌≡◌, ℕ, zero, suc, ◌+◌, ◌-◌, ◌≤◌, ◌<◌, ◌&&◌, ◌||◌, Bool, true, false, not, min, List, [], ◌∷◌, ◌++◌, refl, subst, ◌∙◌, arith, nat_cmp, Ordering, Less, Equal, Greater}
use Rattle.ge_model_rows.specs.TaskRows.{TaskSpan, is_form}
use Rattle.ge_model_rows.specs.Spans.{below_in, above_in}
use Rattle.ge_model_rows.specs.Sets.{has_number, count_of, kept, shared_end, merged, together, union, meet, difference}
use Rattle.ge_model_rows.proofs.Form.{Rises}
use Rattle.ge_model_rows.proofs.Runs.{in_form_form, in_form_numbers}
use Rattle.ge_model_rows.proofs.Sets.{Within, lower, joined_rises, form_rises}
use Rattle.ge_model_rows.proofs.Turns.{taken, left_rises, size, counted, left_size}
use Rattle.ge_model_rows.proofs.Merged.{chosen, turn, less_is, equal_is, greater_is, shared_fits, merged_numbers}

-- ---- the parts rise

kept_within : (low high : ℕ) (wanted : Bool) (spans : List TaskSpan) → low ≤ high → Within low high spans → Within low high (kept wanted spans)
kept_within low high true spans p within = within
kept_within low high false spans p within = p

kept_rises : (low : ℕ) (wanted : Bool) (spans : List TaskSpan) → Rises low spans → Rises low (kept wanted spans)
kept_rises low true spans rises = rises
kept_rises low false spans rises = tt

merged_rises : (a b c : Bool) (turns low : ℕ) (spans others : List TaskSpan) → Rises low spans → Rises low others → size spans + size others < turns
    → Rises low (merged a b c turns spans others)
merged_rises a b c zero low spans others rises rising enough = absurd (omega arith)
merged_rises a b c (suc turns) low [] others rises rising enough = kept_rises low c others rising
merged_rises a b c (suc turns) low (s ∷ spans) [] rises rising enough = kept_rises low a (s ∷ spans) rises
merged_rises a b c (suc turns) low (s ∷ spans) (t ∷ others) (higher, made, rises) (above, other, rising) enough =
    by (nat_cmp s.first t.first) refl
    (merged_rises a b c turns (min s.last (t.first - 1)) (above_in (t.first - 1) s ++ spans) (t ∷ others))
    (merged_rises a b c turns (min s.last (shared_end s t)) (above_in (shared_end s t) s ++ spans) (above_in (shared_end s t) t ++ others))
    (merged_rises a b c turns (min t.last (s.first - 1)) (s ∷ spans) (above_in (s.first - 1) t ++ others))
  where
    by : (order : Ordering) → nat_cmp s.first t.first ≡ order
        → (Rises (min s.last (t.first - 1)) (above_in (t.first - 1) s ++ spans) → Rises (min s.last (t.first - 1)) (t ∷ others) → size (above_in (t.first - 1) s ++ spans) + size (t ∷ others) < turns
        → Rises (min s.last (t.first - 1)) (merged a b c turns (above_in (t.first - 1) s ++ spans) (t ∷ others)))
        → (Rises (min s.last (shared_end s t)) (above_in (shared_end s t) s ++ spans) → Rises (min s.last (shared_end s t)) (above_in (shared_end s t) t ++ others)
        → size (above_in (shared_end s t) s ++ spans) + size (above_in (shared_end s t) t ++ others) < turns
        → Rises (min s.last (shared_end s t)) (merged a b c turns (above_in (shared_end s t) s ++ spans) (above_in (shared_end s t) t ++ others)))
        → (Rises (min t.last (s.first - 1)) (s ∷ spans) → Rises (min t.last (s.first - 1)) (above_in (s.first - 1) t ++ others) → size (s ∷ spans) + size (above_in (s.first - 1) t ++ others) < turns
        → Rises (min t.last (s.first - 1)) (merged a b c turns (s ∷ spans) (above_in (s.first - 1) t ++ others)))
        → Rises low (turn a b c turns order s spans t others)
    by Less is less equal greater =
        let first = less_is s.first t.first is in
        let o = made.ordered in
        let shorter = left_size (t.first - 1) s spans made (omega arith) in
        joined_rises low (min s.last (t.first - 1)) (kept a (below_in t.first s)) _
        (kept_within low (min s.last (t.first - 1)) a (below_in t.first s) (omega arith) (taken t.first low s made higher first))
        (less (left_rises (t.first - 1) s spans made (omega arith) rises) (omega arith, other, rising) (omega arith))
    by Equal is less equal greater =
        let same = equal_is s.first t.first is in
        let fits = shared_fits s t made other same in
        let least = fits.0 in
        let one = left_size (shared_end s t) s spans made fits.0 in
        let two = left_size (shared_end s t) t others other (omega arith) in
        let back : shared_end s t + 1 - 1 ≡ shared_end s t = omega arith in
        let part = taken (shared_end s t + 1) low s made higher (omega arith) in
        let part_there = subst (λ x. Within low (min s.last x) (below_in (shared_end s t + 1) s)) back part in
        joined_rises low (min s.last (shared_end s t)) (kept b (below_in (shared_end s t + 1) s)) _
        (kept_within low (min s.last (shared_end s t)) b (below_in (shared_end s t + 1) s) (omega arith) part_there)
        (equal (left_rises (shared_end s t) s spans made fits.0 rises)
        (lower (min s.last (shared_end s t)) (min t.last (shared_end s t)) _ (omega arith) (left_rises (shared_end s t) t others other (omega arith) rising))
        (omega arith))
    by Greater is less equal greater =
        let first = greater_is s.first t.first is in
        let o = other.ordered in
        let shorter = left_size (s.first - 1) t others other (omega arith) in
        joined_rises low (min t.last (s.first - 1)) (kept c (below_in s.first t)) _
        (kept_within low (min t.last (s.first - 1)) c (below_in s.first t) (omega arith) (taken s.first low t other above first))
        (greater (omega arith, made, rises) (left_rises (s.first - 1) t others other (omega arith) rising) (omega arith))

-- ---- two sets together

enough : (spans others : List TaskSpan) → size spans + size others < count_of spans + count_of others + 1
enough spans others = let a = counted 0 spans in let b = counted 0 others in omega arith

together_form : (a b c : Bool) (spans others : List TaskSpan) → is_form spans ≡ true → is_form others ≡ true → is_form (together a b c spans others) ≡ true
together_form a b c spans others one two =
    in_form_form 0 (merged a b c (count_of spans + count_of others + 1) spans others)
    (merged_rises a b c (count_of spans + count_of others + 1) 0 spans others (form_rises spans one) (form_rises others two) (enough spans others))

together_has : (m : ℕ) (a b c : Bool) (spans others : List TaskSpan) → is_form spans ≡ true → is_form others ≡ true
    → has_number m (together a b c spans others) ≡ chosen a b c (has_number m spans) (has_number m others)
together_has m a b c spans others one two =
    in_form_numbers m 0 (merged a b c (count_of spans + count_of others + 1) spans others)
    (merged_rises a b c (count_of spans + count_of others + 1) 0 spans others (form_rises spans one) (form_rises others two) (enough spans others))
    ∙ merged_numbers m a b c (count_of spans + count_of others + 1) 0 0 spans others (form_rises spans one) (form_rises others two) (enough spans others)

-- the numbers of either set
pub union_form : (spans others : List TaskSpan) → is_form spans ≡ true → is_form others ≡ true → is_form (union spans others) ≡ true
union_form = together_form true true true

pub union_has : (m : ℕ) (spans others : List TaskSpan) → is_form spans ≡ true → is_form others ≡ true
    → has_number m (union spans others) ≡ (has_number m spans || has_number m others)
union_has m spans others one two = together_has m true true true spans others one two ∙ either (has_number m spans) (has_number m others)
  where
    either : (u v : Bool) → chosen true true true u v ≡ (u || v)
    either true true = refl
    either true false = refl
    either false v = refl

-- the numbers of both sets
pub meet_form : (spans others : List TaskSpan) → is_form spans ≡ true → is_form others ≡ true → is_form (meet spans others) ≡ true
meet_form = together_form false true false

pub meet_has : (m : ℕ) (spans others : List TaskSpan) → is_form spans ≡ true → is_form others ≡ true
    → has_number m (meet spans others) ≡ (has_number m spans && has_number m others)
meet_has m spans others one two = together_has m false true false spans others one two ∙ both (has_number m spans) (has_number m others)
  where
    both : (u v : Bool) → chosen false true false u v ≡ (u && v)
    both true true = refl
    both true false = refl
    both false v = refl

-- the numbers of the first set alone
pub difference_form : (spans others : List TaskSpan) → is_form spans ≡ true → is_form others ≡ true → is_form (difference spans others) ≡ true
difference_form = together_form true false false

pub difference_has : (m : ℕ) (spans others : List TaskSpan) → is_form spans ≡ true → is_form others ≡ true
    → has_number m (difference spans others) ≡ (has_number m spans && not (has_number m others))
difference_has m spans others one two = together_has m true false false spans others one two ∙ alone_in (has_number m spans) (has_number m others)
  where
    alone_in : (u v : Bool) → chosen true false false u v ≡ (u && not v)
    alone_in true true = refl
    alone_in true false = refl
    alone_in false v = refl
