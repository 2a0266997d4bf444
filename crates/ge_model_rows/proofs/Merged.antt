-- The walk over two sets has the numbers that are wanted.
use Rattle.std.proofs.Common.{◌≡◌, ℕ, zero, suc, ◌+◌, ◌-◌, ◌%◌, ◌≤◌, ◌<◌, ◌==◌, ◌&&◌, ◌||◌, Bool, true, false, not, if◌then◌else◌, min, nat_lt, List, [], ◌∷◌, ◌++◌, refl, sym, ap, ◌∙◌, arith, nat_cmp, Ordering, Less, Equal, Greater}
use Rattle.std.proofs.Math.Nat.{zero-mod}
use Rattle.std.proofs.lemmas.Bool.{eqb-true, true≢false}
use Rattle.std.proofs.lemmas.List.Folds.{list_any-append}
use Rattle.ge_model_rows.specs.TaskRows.{TaskSpan}
use Rattle.ge_model_rows.specs.Spans.{in_span, below_in, above_in}
use Rattle.ge_model_rows.specs.Sets.{has_number, kept, shared_end, merged}
use Rattle.ge_model_rows.proofs.Steps.{both_ways, lies, lies_back}
use Rattle.ge_model_rows.proofs.Form.{IsMade, Rises}
use Rattle.ge_model_rows.proofs.Cuts.{below_in_numbers, above_in_numbers}
use Rattle.ge_model_rows.proofs.Turns.{left_rises, size, left_size}

-- ---- numbers

-- what a number is, by what is wanted: in the first alone, in both, in the second alone
abbrev pub chosen : Bool → Bool → Bool → Bool → Bool → Bool
chosen first both second one other = (first && (one && not other)) || ((both && (one && other)) || (second && (not one && other)))

kept_numbers : (m : ℕ) (wanted : Bool) (spans : List TaskSpan) → has_number m (kept wanted spans) ≡ (wanted && has_number m spans)
kept_numbers m true spans = refl
kept_numbers m false spans = refl

-- what rises above a number is above it
pub above_low : (m low : ℕ) (spans : List TaskSpan) → Rises low spans → has_number m spans ≡ true → low < m
above_low m low [] rises has = absurd (true≢false (sym has))
above_low m low (s ∷ rest) (higher, made, rises) has = by (in_span m s) refl has (above_low m s.last rest rises)
  where
    by : (here : Bool) → in_span m s ≡ here → (here || has_number m rest) ≡ true → (has_number m rest ≡ true → s.last < m) → low < m
    by true is has again = grind arith
    by false is has again = let o = made.ordered in let l = again has in omega arith

pub less_is : (x y : ℕ) → nat_cmp x y ≡ Less → x < y
less_is x y h = grind arith

pub equal_is : (x y : ℕ) → nat_cmp x y ≡ Equal → x ≡ y
equal_is x y h = grind arith

pub greater_is : (x y : ℕ) → nat_cmp x y ≡ Greater → y < x
greater_is x y h = grind arith

-- two spans that begin alike are alike up to their shared end
pub shared_fits : (s t : TaskSpan) → IsMade s → IsMade t → s.first ≡ t.first → (s.first ≤ shared_end s t) × (shared_end s t ≤ s.last) × (shared_end s t ≤ t.last)
shared_fits s t made other same = by (s.step == t.step)
  where
    by : (alike : Bool) → (s.first ≤ (if alike then min s.last t.last else s.first)) × ((if alike then min s.last t.last else s.first) ≤ s.last) × ((if alike then min s.last t.last else s.first) ≤ t.last)
    by true = let o = made.ordered in let p = other.ordered in (omega arith, omega arith, omega arith)
    by false = let o = made.ordered in let p = other.ordered in (omega arith, omega arith, omega arith)

shared_numbers : (m : ℕ) (s t : TaskSpan) → IsMade s → IsMade t → s.first ≡ t.first → m ≤ shared_end s t → in_span m s ≡ in_span m t
shared_numbers m s t made other same h = by (s.step == t.step) refl h
  where
    first : (s t : TaskSpan) → IsMade t → s.first ≡ t.first → m ≤ s.first → in_span m s ≡ true → in_span m t ≡ true
    first s t other same h has =
        let i = lies m s.first s.last s.step has in
        let o = other.ordered in
        let none : m - t.first ≡ 0 = omega arith in
        lies_back m t.first t.last t.step (omega arith, omega arith, ap (λ x. x % t.step) none ∙ zero-mod t.step)

    by : (alike : Bool) → (s.step == t.step) ≡ alike → m ≤ (if alike then min s.last t.last else s.first) → in_span m s ≡ in_span m t
    by true is h = let e = eqb-true s.step t.step is in both_ways (λ has. grind arith) (λ has. grind arith)
    by false is h = both_ways (first s t other same h) (first t s made (sym same) (rw (← same) h))

-- one turn, by which of the two begins first
abbrev pub turn : Bool → Bool → Bool → ℕ → Ordering → TaskSpan → List TaskSpan → TaskSpan → List TaskSpan → List TaskSpan
turn first both second turns order s spans t others = elim order [
  | Less ↦ kept first (below_in t.first s) ++ merged first both second turns (above_in (t.first - 1) s ++ spans) (t ∷ others)
  | Equal ↦ kept both (below_in (shared_end s t + 1) s)
      ++ merged first both second turns (above_in (shared_end s t) s ++ spans) (above_in (shared_end s t) t ++ others)
  | Greater ↦ kept second (below_in s.first t) ++ merged first both second turns (s ∷ spans) (above_in (s.first - 1) t ++ others)
]

-- the first span is taken up to the other one's begin
taken_first : (a b c here later more other : Bool) → (other ≡ true → later ≡ true)
    → ((a && (here && not later)) || chosen a b c ((here && later) || more) other) ≡ chosen a b c (here || more) other
taken_first a b c here true more other h = grind arith
taken_first a b c here false more true h = absurd (true≢false (sym (h refl)))
taken_first a b c here false more false h = grind arith

taken_second : (a b c here later more one : Bool) → (one ≡ true → later ≡ true)
    → ((c && (here && not later)) || chosen a b c one ((here && later) || more)) ≡ chosen a b c one (here || more)
taken_second a b c here true more one h = grind arith
taken_second a b c here false more true h = absurd (true≢false (sym (h refl)))
taken_second a b c here false more false h = grind arith

-- both are taken up to their shared end
taken_both : (a b c here there later more other : Bool) → (more ≡ true → later ≡ true) → (other ≡ true → later ≡ true) → (later ≡ false → here ≡ there)
    → ((b && (here && not later)) || chosen a b c ((here && later) || more) ((there && later) || other)) ≡ chosen a b c (here || more) (there || other)
taken_both a b c here there true more other h g e = grind arith
taken_both a b c here there false true other h g e = absurd (true≢false (sym (h refl)))
taken_both a b c here there false false true h g e = absurd (true≢false (sym (g refl)))
taken_both a b c here there false false false h g e = rw (e refl) (grind arith)

before_is : (m n : ℕ) → 1 ≤ n → nat_lt m n ≡ not (nat_lt (n - 1) m)
before_is m n p = both_ways (λ h. grind arith) (λ h. grind arith)

-- a part taken of a span below a number that is at least 1
part_numbers : (m n : ℕ) (wanted : Bool) (s : TaskSpan) → IsMade s → 1 ≤ n
    → has_number m (kept wanted (below_in n s)) ≡ (wanted && (in_span m s && not (nat_lt (n - 1) m)))
part_numbers m n wanted s made p =
    kept_numbers m wanted (below_in n s) ∙ ap (λ x. wanted && x) (below_in_numbers m n s made ∙ ap (λ x. in_span m s && x) (before_is m n p))

-- what is left of a span, and what follows it
pub left_numbers : (m n : ℕ) (s : TaskSpan) (rest : List TaskSpan) → IsMade s
    → has_number m (above_in n s ++ rest) ≡ ((in_span m s && nat_lt n m) || has_number m rest)
left_numbers m n s rest made = list_any-append (in_span m) (above_in n s) rest ∙ ap (λ x. x || has_number m rest) (above_in_numbers m n s made)

later_is : (n m : ℕ) → n < m → nat_lt n m ≡ true
later_is n m h = grind arith

not_later : (n m : ℕ) → nat_lt n m ≡ false → m ≤ n
not_later n m h = grind arith

second_alone : (a b c other : Bool) → (c && other) ≡ chosen a b c false other
second_alone a b c other = grind arith

first_alone : (a b c one : Bool) → (a && one) ≡ chosen a b c one false
first_alone a b c one = grind arith

pub merged_numbers : (m : ℕ) (a b c : Bool) (turns low high : ℕ) (spans others : List TaskSpan) → Rises low spans → Rises high others → size spans + size others < turns
    → has_number m (merged a b c turns spans others) ≡ chosen a b c (has_number m spans) (has_number m others)
merged_numbers m a b c zero low high spans others rises rising enough = absurd (omega arith)
merged_numbers m a b c (suc turns) low high [] others rises rising enough = kept_numbers m c others ∙ second_alone a b c (has_number m others)
merged_numbers m a b c (suc turns) low high (s ∷ spans) [] rises rising enough = kept_numbers m a (s ∷ spans) ∙ first_alone a b c (has_number m (s ∷ spans))
merged_numbers m a b c (suc turns) low high (s ∷ spans) (t ∷ others) (higher, made, rises) (above, other, rising) enough =
    by (nat_cmp s.first t.first) refl
    (merged_numbers m a b c turns (min s.last (t.first - 1)) high (above_in (t.first - 1) s ++ spans) (t ∷ others))
    (merged_numbers m a b c turns (min s.last (shared_end s t)) (min t.last (shared_end s t)) (above_in (shared_end s t) s ++ spans) (above_in (shared_end s t) t ++ others))
    (merged_numbers m a b c turns low (min t.last (s.first - 1)) (s ∷ spans) (above_in (s.first - 1) t ++ others))
  where
    by : (order : Ordering) → nat_cmp s.first t.first ≡ order
        → (Rises (min s.last (t.first - 1)) (above_in (t.first - 1) s ++ spans) → Rises high (t ∷ others) → size (above_in (t.first - 1) s ++ spans) + size (t ∷ others) < turns
        → has_number m (merged a b c turns (above_in (t.first - 1) s ++ spans) (t ∷ others)) ≡ chosen a b c (has_number m (above_in (t.first - 1) s ++ spans)) (has_number m (t ∷ others)))
        → (Rises (min s.last (shared_end s t)) (above_in (shared_end s t) s ++ spans) → Rises (min t.last (shared_end s t)) (above_in (shared_end s t) t ++ others)
        → size (above_in (shared_end s t) s ++ spans) + size (above_in (shared_end s t) t ++ others) < turns
        → has_number m (merged a b c turns (above_in (shared_end s t) s ++ spans) (above_in (shared_end s t) t ++ others))
        ≡ chosen a b c (has_number m (above_in (shared_end s t) s ++ spans)) (has_number m (above_in (shared_end s t) t ++ others)))
        → (Rises low (s ∷ spans) → Rises (min t.last (s.first - 1)) (above_in (s.first - 1) t ++ others) → size (s ∷ spans) + size (above_in (s.first - 1) t ++ others) < turns
        → has_number m (merged a b c turns (s ∷ spans) (above_in (s.first - 1) t ++ others)) ≡ chosen a b c (has_number m (s ∷ spans)) (has_number m (above_in (s.first - 1) t ++ others)))
        → has_number m (turn a b c turns order s spans t others) ≡ chosen a b c (has_number m (s ∷ spans)) (has_number m (t ∷ others))
    by Less is less equal greater =
        let first = less_is s.first t.first is in
        let positive = other.positive in
        let shorter = left_size (t.first - 1) s spans made (omega arith) in
        list_any-append (in_span m) (kept a (below_in t.first s)) _
        ∙ (λ i. part_numbers m t.first a s made positive i
        || (less (left_rises (t.first - 1) s spans made (omega arith) rises) (above, other, rising) (omega arith) ∙ ap (λ x. chosen a b c x (has_number m (t ∷ others))) (left_numbers m (t.first - 1) s spans made)) i)
        ∙ taken_first a b c (in_span m s) (nat_lt (t.first - 1) m) (has_number m spans) (has_number m (t ∷ others))
        (λ has. later_is (t.first - 1) m (above_low m (t.first - 1) (t ∷ others) (omega arith, other, rising) has))
    by Equal is less equal greater =
        let same = equal_is s.first t.first is in
        let fits = shared_fits s t made other same in
        let one = left_size (shared_end s t) s spans made fits.0 in
        let two = left_size (shared_end s t) t others other (omega arith) in
        let part = part_numbers m (shared_end s t + 1) b s made (omega arith) in
        let back : shared_end s t + 1 - 1 ≡ shared_end s t = omega arith in
        list_any-append (in_span m) (kept b (below_in (shared_end s t + 1) s)) _
        ∙ (λ i. (part ∙ ap (λ x. b && (in_span m s && not (nat_lt x m))) back) i
        || (equal (left_rises (shared_end s t) s spans made fits.0 rises) (left_rises (shared_end s t) t others other (omega arith) rising) (omega arith)
        ∙ (λ j. chosen a b c (left_numbers m (shared_end s t) s spans made j) (left_numbers m (shared_end s t) t others other j))) i)
        ∙ taken_both a b c (in_span m s) (in_span m t) (nat_lt (shared_end s t) m) (has_number m spans) (has_number m others)
        (λ has. later_is (shared_end s t) m (let l = above_low m s.last spans rises has in let f = fits.1 in omega arith))
        (λ has. later_is (shared_end s t) m (let l = above_low m t.last others rising has in let f = fits.2 in omega arith))
        (λ low. shared_numbers m s t made other same (not_later (shared_end s t) m low))
    by Greater is less equal greater =
        let first = greater_is s.first t.first is in
        let positive = made.positive in
        let shorter = left_size (s.first - 1) t others other (omega arith) in
        list_any-append (in_span m) (kept c (below_in s.first t)) _
        ∙ (λ i. part_numbers m s.first c t other positive i
        || (greater (higher, made, rises) (left_rises (s.first - 1) t others other (omega arith) rising) (omega arith) ∙ ap (λ x. chosen a b c (has_number m (s ∷ spans)) x) (left_numbers m (s.first - 1) t others other)) i)
        ∙ taken_second a b c (in_span m t) (nat_lt (s.first - 1) m) (has_number m others) (has_number m (s ∷ spans))
        (λ has. later_is (s.first - 1) m (above_low m (s.first - 1) (s ∷ spans) (omega arith, made, rises) has))
