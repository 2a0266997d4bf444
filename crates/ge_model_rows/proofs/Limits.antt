-- A set within the limits reads back from its text.
use Rattle.std.proofs.Common.{◌≡◌, ℕ, zero, suc, ◌+◌, ◌-◌, ◌*◌, ◌/◌, ◌^◌, ◌≤◌, ◌<◌, ◌==◌, ◌&&◌, ◌||◌, Bool, true, false, min, if◌then◌else◌, nat_lt, nat_le, List, [], ◌∷◌, length, map, Result, Ok, Err, refl, sym, ap, subst, ◌∙◌, arith, length-append, zero-le}
use Rattle.std.proofs.lemmas.Bool.{eqb-true, eqb-false, eq-eqb, true≢false}
use Rattle.ge_model_rows.specs.TaskRows.{TaskSpan, is_form}
use Rattle.ge_model_rows.specs.declared.RangeFault.{RangeFault}
use Rattle.ge_model_rows.specs.declared.RangeFault.TheVariants.{Limit}
use Rattle.ge_model_rows.specs.Spans.{in_span, steps_of, stepping, span_numbers, span_of, stretch}
use Rattle.ge_model_rows.specs.Sets.{has_number, numbers_of, count_of, union}
use Rattle.ge_model_rows.specs.Ranges.{ranges_of, reached, range_count, range_set, most_tasks, greatest_task, is_within_limits, with_ranges, set_of_ranges, parsed_set}
use Rattle.ge_model_rows.specs.SetText.{span_text, set_text}
use Rattle.ge_model_rows.proofs.Steps.{raw, lies_back, no_step}
use Rattle.ge_model_rows.proofs.Form.{IsMade, Rises}
use Rattle.ge_model_rows.proofs.Runs.{made_end}
use Rattle.ge_model_rows.proofs.Sets.{form_rises}
use Rattle.ge_model_rows.proofs.Turns.{size, counted}
use Rattle.ge_model_rows.proofs.Together.{union_form, union_has}
use Rattle.ge_model_rows.proofs.Numbers.{Rising, is_among, among_above, steps_lead, numbers_has, numbers_rise}
use Rattle.ge_model_rows.proofs.Unique.{one_form}
use Rattle.ge_model_rows.proofs.Digits.{joined_cut}
use Rattle.ge_model_rows.proofs.ReadBack.{IsSmall, AreSmall, read_spans, span_without, texts_without}

-- ---- how many numbers

-- rising numbers that are all among others are no more than these
no_more : (low : ℕ) (xs ys : List ℕ) → Rising low xs → Rising low ys → ((m : ℕ) → is_among m xs ≡ true → is_among m ys ≡ true) → length xs ≤ length ys
no_more low [] ys one two within = zero-le
no_more low (x ∷ xs) [] one two within = absurd (true≢false (sym (within x (ap (λ z. z || is_among x xs) (eq-eqb x x refl)))))
no_more low (x ∷ xs) (y ∷ ys) (above, one) (higher, two) within =
    by (x == y) refl (no_more y xs ys) (no_more y (x ∷ xs) ys)
  where
    head : is_among x (x ∷ xs) ≡ true
    head = ap (λ z. z || is_among x xs) (eq-eqb x x refl)

    -- a later number is among the later ones
    later : (m : ℕ) → y < m → is_among m (x ∷ xs) ≡ true → is_among m ys ≡ true
    later m h has = ap (λ z. z || is_among m ys) (sym (differs (m == y) refl)) ∙ within m has
      where
        differs : (same : Bool) → (m == y) ≡ same → (m == y) ≡ false
        differs true is = absurd (let e = eqb-true m y is in omega arith)
        differs false is = is

    by : (same : Bool) → (x == y) ≡ same
        → (Rising y xs → Rising y ys → ((m : ℕ) → is_among m xs ≡ true → is_among m ys ≡ true) → length xs ≤ length ys)
        → (Rising y (x ∷ xs) → Rising y ys → ((m : ℕ) → is_among m (x ∷ xs) ≡ true → is_among m ys ≡ true) → length (x ∷ xs) ≤ length ys)
        → length (x ∷ xs) ≤ length (y ∷ ys)
    by true is tails rest =
        let e : x ≡ y = eqb-true x y is in
        let l = tails (subst (λ z. Rising z xs) e one) two
        (λ m has. later m (let g = among_above m x xs one has in omega arith) (or_second (m == x) (is_among m xs) has)) in
        omega arith
      where
        or_second : (u v : Bool) → v ≡ true → (u || v) ≡ true
        or_second true v h = refl
        or_second false v h = h
    by false is tails rest =
        let behind : y < x = first_behind in
        let l = rest (behind, one) two (λ m has. later m (let g = least m has in omega arith) has) in
        omega arith
      where
        least : (m : ℕ) → is_among m (x ∷ xs) ≡ true → x ≤ m
        least m has = go (m == x) refl has
          where
            go : (same : Bool) → (m == x) ≡ same → (same || is_among m xs) ≡ true → x ≤ m
            go true is has = let e = eqb-true m x is in omega arith
            go false is has = let g = among_above m x xs one has in omega arith

        first_behind : y < x
        first_behind = among_above x y ys two (ap (λ z. z || is_among x ys) (sym is) ∙ within x head)

stepping_length : (n first step : ℕ) → length (stepping n first step) ≡ n
stepping_length zero first step = refl
stepping_length (suc n) first step = ap suc (stepping_length n (first + step) step)

size_length : (spans : List TaskSpan) → size spans ≡ length (numbers_of spans)
size_length [] = refl
size_length (s ∷ rest) =
    (λ i. sym (stepping_length (steps_of s + 1) s.first s.step) i + size_length rest i) ∙ sym (length-append (span_numbers s) (numbers_of rest))

-- a set has as many numbers as there are, and no more than one that has them all
pub count_numbers : (spans : List TaskSpan) → count_of spans ≡ length (numbers_of spans)
count_numbers spans = counted 0 spans ∙ (let z : 0 + size spans ≡ size spans = omega arith in z) ∙ size_length spans

count_within : (spans others : List TaskSpan) → is_form spans ≡ true → is_form others ≡ true → ((m : ℕ) → has_number m spans ≡ true → has_number m others ≡ true)
    → count_of spans ≤ count_of others
count_within spans others one two within =
    let first = form_rises spans one in
    let second = form_rises others two in
    let l = no_more 0 (numbers_of spans) (numbers_of others) (numbers_rise 0 spans first) (numbers_rise 0 others second)
    (λ m has. numbers_has m 0 others second ∙ within m (sym (numbers_has m 0 spans first) ∙ has)) in
    let a = count_numbers spans in
    let b = count_numbers others in
    omega arith

-- ---- within the limits

span_same : (s : TaskSpan) → IsMade s → span_of s.first s.last s.step ≡ s
span_same s made = by (s.first == s.last) refl
  where
    by : (same : Bool) → (s.first == s.last) ≡ same → raw s.first s.last (if same then 1 else s.step) ≡ s
    by true is = λ i. raw s.first s.last (sym (made.single (eqb-true s.first s.last is)) i)
    by false is = refl

range_alone : (s : TaskSpan) → IsMade s → s.last < 2 ^ 32 → range_set s ≡ s ∷ []
range_alone s made small =
    ap (λ z. if z then stretch s.first (min s.last (2 ^ 32 - 1)) s.step else []) fits
    ∙ ap (λ z. stretch s.first z s.step) least
    ∙ ap (λ z. if z then [] else span_of s.first (s.first + (s.last - s.first) / s.step * s.step) s.step ∷ []) some
    ∙ ap (λ z. span_of s.first z s.step ∷ []) (steps_lead s made)
    ∙ ap (λ z. z ∷ []) (span_same s made)
  where
    fits : nat_lt s.first (2 ^ 32) ≡ true
    fits = let o = made.ordered in grind arith

    least : min s.last (2 ^ 32 - 1) ≡ s.last
    least = omega arith

    some : nat_lt s.last s.first ≡ false
    some = let o = made.ordered in grind arith

-- a made span is a set
alone_form : (s : TaskSpan) → IsMade s → is_form (s ∷ []) ≡ true
alone_form s made = made_end s made

-- a set of at most so many numbers, none above the greatest that a task may have
pub record IsWithinLimits (spans : List TaskSpan) : Type 0 where
  pub form : is_form spans ≡ true
  pub few : count_of spans ≤ most_tasks
  pub low : (m : ℕ) → has_number m spans ≡ true → m ≤ greatest_task

-- a span's last number
has_last : (s : TaskSpan) → IsMade s → in_span s.last s ≡ true
has_last s made = let o = made.ordered in lies_back s.last s.first s.last s.step (o, omega arith, made.reached)

or_nothing : (u : Bool) → (u || false) ≡ u
or_nothing true = refl
or_nothing false = refl

fits_limits : (s : TaskSpan) (whole : List TaskSpan) → IsMade s → IsWithinLimits whole → ((m : ℕ) → in_span m s ≡ true → has_number m whole ≡ true) → is_within_limits s ≡ true
fits_limits s whole made limits within =
    both (range_count s) (reached s).last
    (let c = count_within (s ∷ []) whole (alone_form s made) limits.form (λ m has. within m (sym (or_nothing (in_span m s)) ∙ has)) in let f = limits.few in omega arith)
    (let l = limits.low s.last (within s.last (has_last s made)) in let e = steps_lead s made in omega arith)
  where
    both : (a b : ℕ) → a ≤ most_tasks → b ≤ greatest_task → (nat_le a most_tasks && nat_le b greatest_task) ≡ true
    both a b p q = grind arith

reads : (whole : List TaskSpan) → IsWithinLimits whole → (low : ℕ) (set rest : List TaskSpan) → is_form set ≡ true → Rises low rest
    → ((m : ℕ) → (has_number m set || has_number m rest) ≡ has_number m whole) → with_ranges set rest ≡ Ok whole
reads whole limits low set [] form rises same =
    ap (λ x. Ok x) (one_form set whole form limits.form (λ m. sym (or_nothing (has_number m set)) ∙ same m))
reads whole limits low set (s ∷ rest) form (higher, made, rises) same =
    by (is_within_limits s && nat_le (count_of next) most_tasks) tests (reads whole limits s.last next rest next_form rises next_same)
  where
    next : List TaskSpan
    next = union set (range_set s)

    small : s.last < 2 ^ 32
    small = let l = limits.low s.last (sym (same s.last) ∙ ap (λ z. has_number s.last set || (z || has_number s.last rest)) (has_last s made) ∙ or_true (has_number s.last set)) in omega arith
      where
        or_true : (u : Bool) → (u || true) ≡ true
        or_true true = refl
        or_true false = refl

    is_next : next ≡ union set (s ∷ [])
    is_next = ap (union set) (range_alone s made small)

    next_form : is_form next ≡ true
    next_form = ap is_form is_next ∙ union_form set (s ∷ []) form (alone_form s made)

    next_has : (m : ℕ) → has_number m next ≡ (has_number m set || in_span m s)
    next_has m = ap (has_number m) is_next ∙ union_has m set (s ∷ []) form (alone_form s made) ∙ ap (λ z. has_number m set || z) (or_nothing (in_span m s))

    regrouped : (a b c : Bool) → ((a || b) || c) ≡ (a || (b || c))
    regrouped true b c = refl
    regrouped false b c = refl

    next_same : (m : ℕ) → (has_number m next || has_number m rest) ≡ has_number m whole
    next_same m = ap (λ z. z || has_number m rest) (next_has m) ∙ regrouped (has_number m set) (in_span m s) (has_number m rest) ∙ same m

    or_first : (u v : Bool) → u ≡ true → (u || v) ≡ true
    or_first u v h = grind arith

    or_mid : (u v w : Bool) → v ≡ true → (u || (v || w)) ≡ true
    or_mid u v w h = grind arith

    both : (u v : Bool) → u ≡ true → v ≡ true → (u && v) ≡ true
    both u v x y = grind arith

    at_most : (n k : ℕ) → n ≤ k → nat_le n k ≡ true
    at_most n k h = grind arith

    tests : (is_within_limits s && nat_le (count_of next) most_tasks) ≡ true
    tests = both (is_within_limits s) (nat_le (count_of next) most_tasks)
        (fits_limits s whole made limits (λ m has. sym (same m) ∙ or_mid (has_number m set) (in_span m s) (has_number m rest) has))
        (at_most (count_of next) most_tasks
        (let c = count_within next whole next_form limits.form (λ m has. sym (next_same m) ∙ or_first (has_number m next) (has_number m rest) has) in
        let f = limits.few in omega arith))

    by : (fits : Bool) → fits ≡ true → with_ranges next rest ≡ Ok whole
        → ◌≡◌ {A = Result (List TaskSpan) RangeFault} (elim fits [ true ↦ with_ranges next rest | false ↦ Err Limit ]) (Ok whole)
    by true is again = again
    by false is again = absurd (true≢false (sym is))

-- ---- the law

span_small : (s : TaskSpan) → IsMade s → s.last ≤ greatest_task → IsSmall s
span_small s made small = record { first = let o = made.ordered in omega arith; last = omega arith; step = by (s.first == s.last) refl }
  where
    by : (same : Bool) → (s.first == s.last) ≡ same → s.step < 2 ^ 64
    by true is = let e = made.single (eqb-true s.first s.last is) in omega arith
    by false is = large (nat_lt (s.last - s.first) s.step) refl
      where
        large : (short : Bool) → nat_lt (s.last - s.first) s.step ≡ short → s.step < 2 ^ 64
        large true none =
            absurd (let z = no_step (s.last - s.first) s.step (grind arith) made.reached in let o = made.ordered in let d = eqb-false s.first s.last is in omega arith)
        large false none = let l : s.step ≤ s.last - s.first = grind arith in omega arith

all_small : (low : ℕ) (spans : List TaskSpan) → Rises low spans → ((m : ℕ) → has_number m spans ≡ true → m ≤ greatest_task) → AreSmall spans
all_small low [] rises least = tt
all_small low (s ∷ rest) (higher, made, rises) least = (
  span_small s made (least s.last (or_first (in_span s.last s) (has_number s.last rest) (has_last s made))),
  all_small s.last rest rises (λ m has. least m (or_second (in_span m s) (has_number m rest) has)),
)
  where
    or_first : (u v : Bool) → u ≡ true → (u || v) ≡ true
    or_first u v h = grind arith

    or_second : (u v : Bool) → v ≡ true → (u || v) ≡ true
    or_second u v h = grind arith

-- a set of some numbers, within the limits, reads back from its text
pub reads_back : (s : TaskSpan) (rest : List TaskSpan) → IsWithinLimits (s ∷ rest) → parsed_set (set_text (s ∷ rest)) ≡ Ok (s ∷ rest)
unfolding parsed_set
reads_back s rest limits =
    ap (λ x. set_of_ranges (ranges_of x)) (joined_cut (span_text s) (map span_text rest) (span_without s) (texts_without rest))
    ∙ ap set_of_ranges (read_spans 0 (s ∷ rest) rises (all_small 0 (s ∷ rest) rises limits.low))
    ∙ reads (s ∷ rest) limits 0 [] (s ∷ rest) refl rises (λ m. refl)
  where
    rises : Rises 0 (s ∷ rest)
    rises = form_rises (s ∷ rest) limits.form
