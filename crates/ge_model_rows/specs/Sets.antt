-- Sets of task numbers.
use Rattle.std.specs.Prelude.{ℕ, zero, suc, ◌+◌, ◌-◌, ◌==◌, min, Bool, true, false, if◌then◌else◌, List, [], ◌∷◌, ◌++◌, map, filter, flat_map, fold, Option, Some, None}
use Rattle.std.specs.List.{list_any}
use Rattle.std.specs.Ordering.{nat_cmp}
use Rattle.std.specs.declared.cmp.Ordering.TheVariants.{Less, Equal, Greater}
use Rattle.ge_model_rows.specs.TaskRows.{TaskSpan}
use Rattle.ge_model_rows.specs.Spans.{one, in_span, steps_of, span_numbers, below_in, above_in, in_form}

-- a set of task numbers is its spans, in their one form (ge_rows, is_form)

-- whether a set has a number
abbrev pub has_number : ℕ → List TaskSpan → Bool
has_number n spans = list_any (in_span n) spans

-- the numbers below a number, and those above one, as spans
abbrev pub below : ℕ → List TaskSpan → List TaskSpan
below n spans = flat_map (below_in n) spans

abbrev pub above : ℕ → List TaskSpan → List TaskSpan
above n spans = flat_map (above_in n) spans

-- its least number, and the next one after a number
abbrev pub first_number : List TaskSpan → Option ℕ
first_number [] = None
first_number (s ∷ rest) = Some s.first

abbrev pub next_number : ℕ → List TaskSpan → Option ℕ
next_number n spans = first_number (above n spans)

-- how many numbers it has
abbrev pub add_count : ℕ → TaskSpan → ℕ
add_count count s = count + (steps_of s + 1)

abbrev pub count_of : List TaskSpan → ℕ
count_of spans = fold add_count 0 spans

-- its numbers, rising
abbrev pub numbers_of : List TaskSpan → List ℕ
numbers_of spans = flat_map span_numbers spans

-- a walk over a set, of at most so many turns, until so many of its numbers have passed a test
abbrev pub passing : (ℕ → Bool) → ℕ → ℕ → List TaskSpan → List ℕ
passing test zero most spans = []
passing test (suc turns) most [] = []
passing test (suc turns) zero (s ∷ rest) = []
passing test (suc turns) (suc most) (s ∷ rest) = elim (test s.first) [
  | true ↦ s.first ∷ passing test turns most (above_in s.first s ++ rest)
  | false ↦ passing test turns (suc most) (above_in s.first s ++ rest)
]

-- its first numbers that pass a test, at most so many
abbrev pub first_numbers : (ℕ → Bool) → ℕ → List TaskSpan → List ℕ
first_numbers test most spans = passing test (count_of spans) most spans

-- the set of these rising numbers, each at least 1
abbrev pub set_of : List ℕ → List TaskSpan
set_of numbers = in_form (map one numbers)

-- a set with one number more, or one less
abbrev pub with_number : ℕ → List TaskSpan → List TaskSpan
with_number n spans = in_form (below n spans ++ one n ∷ above n spans)

abbrev pub without_number : ℕ → List TaskSpan → List TaskSpan
without_number n spans = in_form (below n spans ++ above n spans)

-- the numbers of a set that pass a test, as a set; each number is asked
abbrev pub filtered : (ℕ → Bool) → List TaskSpan → List TaskSpan
filtered test spans = set_of (filter test (numbers_of spans))

-- spans where they are wanted, else none
abbrev pub kept : Bool → List TaskSpan → List TaskSpan
kept wanted spans = if wanted then spans else []

-- two spans that begin with one same number have the same numbers up to this one, as far as their steps tell
abbrev pub shared_end : TaskSpan → TaskSpan → ℕ
shared_end s t = if s.step == t.step then min s.last t.last else s.first

-- a walk over two sets from the least number on, of at most so many turns: what the first has alone, what both have
-- and what the second has alone, each where it is wanted
abbrev pub merged : Bool → Bool → Bool → ℕ → List TaskSpan → List TaskSpan → List TaskSpan
merged first both second zero spans others = []
merged first both second (suc turns) [] others = kept second others
merged first both second (suc turns) (s ∷ spans) [] = kept first (s ∷ spans)
merged first both second (suc turns) (s ∷ spans) (t ∷ others) = elim (nat_cmp s.first t.first) [
  | Less ↦ kept first (below_in t.first s) ++ merged first both second turns (above_in (t.first - 1) s ++ spans) (t ∷ others)
  | Equal ↦ kept both (below_in (shared_end s t + 1) s)
      ++ merged first both second turns (above_in (shared_end s t) s ++ spans) (above_in (shared_end s t) t ++ others)
  | Greater ↦ kept second (below_in s.first t) ++ merged first both second turns (s ∷ spans) (above_in (s.first - 1) t ++ others)
]

-- as many turns as both sets have numbers
abbrev pub together : Bool → Bool → Bool → List TaskSpan → List TaskSpan → List TaskSpan
together first both second spans others = in_form (merged first both second (count_of spans + count_of others + 1) spans others)

-- the numbers of either set, of both, and of the first alone
abbrev pub union : List TaskSpan → List TaskSpan → List TaskSpan
union spans others = together true true true spans others

abbrev pub meet : List TaskSpan → List TaskSpan → List TaskSpan
meet spans others = together false true false spans others

abbrev pub difference : List TaskSpan → List TaskSpan → List TaskSpan
difference spans others = together true false false spans others
