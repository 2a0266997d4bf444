-- What a turn of the walk over two sets takes, and what it leaves.
use Rattle.std.proofs.Common.{◌≡◌, ℕ, ◌+◌, ◌-◌, ◌*◌, ◌/◌, ◌≤◌, ◌<◌, ◌==◌, Bool, true, false, if◌then◌else◌, min, nat_lt, List, [], ◌∷◌, ◌++◌, fold, refl, ◌∙◌, arith, zero-le, le_refl}
use Rattle.std.proofs.Math.Nat.{zero-div, mul-div_left, div-mul-le_self}
use Rattle.std.proofs.lemmas.Bool.{eqb-true}
use Rattle.std.proofs.lemmas.Nat.{le-div}
use Rattle.ge_model_rows.specs.TaskRows.{TaskSpan}
use Rattle.ge_model_rows.specs.Spans.{span_of, steps_of, below_in, above_in}
use Rattle.ge_model_rows.specs.Sets.{add_count}
use Rattle.ge_model_rows.proofs.Form.{IsMade, Rises}
use Rattle.ge_model_rows.proofs.Cuts.{floor, stretched, stretch_end, behind_all}
use Rattle.ge_model_rows.proofs.Sets.{Within, lower}

-- ---- what a turn takes and leaves

-- what is below a number rises to it, and to the span's end
pub taken : (n low : ℕ) (s : TaskSpan) → IsMade s → low < s.first → s.first < n → Within low (min s.last (n - 1)) (below_in n s)
taken n low s made p q = by (nat_lt s.first n) (nat_lt (min s.last (n - 1)) s.first) refl refl
  where
    bound : ℕ
    bound = min s.last (n - 1)

    by : (some none : Bool) → nat_lt s.first n ≡ some → nat_lt bound s.first ≡ none
        → Within low bound (if some then (if none then [] else span_of s.first (s.first + floor (bound - s.first) s.step) s.step ∷ []) else [])
    by false none is _ = absurd (grind arith)
    by true true is none = let o = made.ordered in absurd (grind arith)
    by true false is some =
        let o = made.ordered in
        let fits : s.first ≤ bound = grind arith in
        (p, stretched s.first bound s.step made.positive fits made.forward, stretch_end s.first bound s.step fits)

-- what is left of a span, and what follows it, rises from there
pub left_rises : (n : ℕ) (s : TaskSpan) (rest : List TaskSpan) → IsMade s → s.first ≤ n → Rises s.last rest → Rises (min s.last n) (above_in n s ++ rest)
left_rises n s rest made p rises = by (nat_lt n s.first) (nat_lt s.last next) refl refl
  where
    next : ℕ
    next = s.first + ((n - s.first) / s.step + 1) * s.step

    by : (whole none : Bool) → nat_lt n s.first ≡ whole → nat_lt s.last next ≡ none
        → Rises (min s.last n) ((if whole then s ∷ [] else (if none then [] else span_of next (next + floor (s.last - next) s.step) s.step ∷ [])) ++ rest)
    by true none is _ = absurd (grind arith)
    by false true is none = lower (min s.last n) s.last rest (omega arith) rises
    by false false is some =
        let fits : next ≤ s.last = grind arith in
        let later : n < next = behind_all n s.first s.step p made.forward in
        let o = made.positive in
        let end = stretch_end next s.last s.step fits in
        (omega arith, stretched next s.last s.step (omega arith) fits made.forward, lower (next + floor (s.last - next) s.step) s.last rest end rises)

-- ---- the turns suffice

-- how many numbers spans have
abbrev pub size : List TaskSpan → ℕ
size [] = 0
size (s ∷ rest) = steps_of s + 1 + size rest

pub counted : (count : ℕ) (spans : List TaskSpan) → fold add_count count spans ≡ count + size spans
counted count [] = omega arith
counted count (s ∷ rest) = counted (count + (steps_of s + 1)) rest ∙ omega arith

-- a span that begins a step later has fewer numbers
fewer : (a n c d : ℕ) → 0 < d → a ≤ c → a + d ≤ n → n ≤ c → (c - n) / d + 1 ≤ (c - a) / d
fewer a n c d p q r t =
    let low = div-mul-le_self (c - n) d in
    le-div ((c - n) / d + 1) (c - a) d p (omega arith)

-- how many steps a stretch has
span_steps : (a c d : ℕ) → 0 < d → steps_of (span_of a (a + floor (c - a) d) d) ≤ (c - a) / d
span_steps a c d p = by (a == a + floor (c - a) d) refl
  where
    by : (same : Bool) → (a == a + floor (c - a) d) ≡ same → (a + floor (c - a) d - a) / (if same then 1 else d) ≤ (c - a) / d
    by true is =
        let e : a ≡ a + floor (c - a) d = eqb-true a (a + floor (c - a) d) is in
        let none : a + floor (c - a) d - a ≡ 0 = omega arith in
        rw (none, zero-div) zero-le
    by false is =
        let none : a + floor (c - a) d - a ≡ floor (c - a) d = omega arith in
        rw (none, mul-div_left ((c - a) / d) p) (le_refl ((c - a) / d))

pub left_size : (n : ℕ) (s : TaskSpan) (rest : List TaskSpan) → IsMade s → s.first ≤ n → size (above_in n s ++ rest) < size (s ∷ rest)
left_size n s rest made p = by (nat_lt n s.first) (nat_lt s.last next) refl refl
  where
    next : ℕ
    next = s.first + ((n - s.first) / s.step + 1) * s.step

    by : (whole none : Bool) → nat_lt n s.first ≡ whole → nat_lt s.last next ≡ none
        → size ((if whole then s ∷ [] else (if none then [] else span_of next (next + floor (s.last - next) s.step) s.step ∷ [])) ++ rest) < size (s ∷ rest)
    by true none is _ = absurd (grind arith)
    by false true is none = omega arith
    by false false is some =
        let o = made.ordered in
        let fits : next ≤ s.last = grind arith in
        let left = span_steps next s.last s.step made.forward in
        let less = fewer s.first next s.last s.step made.forward o (omega arith) fits in
        omega arith
