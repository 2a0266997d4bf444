-- Rising spans have the same numbers in the one form, and the form is the form.
use Rattle.std.proofs.Common.{◌≡◌, ℕ, ◌+◌, ◌-◌, ◌%◌, ◌≤◌, ◌<◌, ◌==◌, ◌||◌, Bool, true, false, if◌then◌else◌, List, [], ◌∷◌, refl, sym, ap, ◌∙◌, arith}
use Rattle.std.proofs.Math.Nat.{zero-mod, mod-one}
use Rattle.std.proofs.lemmas.Bool.{eqb-true, false≢true}
use Rattle.ge_model_rows.specs.TaskRows.{TaskSpan}
use Rattle.ge_model_rows.specs.Spans.{in_span, run_goes_on, lengthened, behind_first}
use Rattle.ge_model_rows.proofs.Steps.{raw, from_there, step_more, next_step, joined, alone, span_of_numbers}

-- a span of at least one number, from 1 on; its steps reach its last number
pub record IsMade (s : TaskSpan) : Type 0 where
  pub positive : 1 ≤ s.first
  pub ordered : s.first ≤ s.last
  pub forward : 1 ≤ s.step
  pub reached : (s.last - s.first) % s.step ≡ 0
  pub single : s.first ≡ s.last → s.step ≡ 1

-- spans above a number, each above the one before it
abbrev pub Rises : ℕ → List TaskSpan → Type 0
Rises low [] = Unit {0}
Rises low (s ∷ rest) = (low < s.first) × IsMade s × Rises s.last rest

-- ---- a run and what follows it

-- a run with which a number goes on, by the step that leads there
pub restep : (m a b d n : ℕ) → (a == b || n - b == d) ≡ true → (b - a) % d ≡ 0
    → (in_span m (raw a b d) ≡ in_span m (raw a b (n - b))) × ((b - a) % (n - b) ≡ 0)
restep m a b d n on even = by (a == b) (n - b == d) refl refl on
  where
    by : (same step : Bool) → (a == b) ≡ same → (n - b == d) ≡ step → (same || step) ≡ true
        → (in_span m (raw a b d) ≡ in_span m (raw a b (n - b))) × ((b - a) % (n - b) ≡ 0)
    by true step is _ on =
        let e : a ≡ b = eqb-true a b is in
        let none : b - a ≡ 0 = omega arith in
        (rw (← e) (alone m a d ∙ sym (alone m a (n - a))), ap (λ x. x % (n - b)) none ∙ zero-mod (n - b))
    by false true _ is on =
        let e : n - b ≡ d = eqb-true (n - b) d is in
        (ap (λ x. in_span m (raw a b x)) (sym e), ap (λ x. (b - a) % x) e ∙ even)
    by false false _ _ on = absurd (false≢true on)

-- it has the numbers of the run, and those from that number on
pub extended : (m a b d n c : ℕ) → a ≤ b → b < n → n ≤ c → (a == b || n - b == d) ≡ true → (b - a) % d ≡ 0
    → in_span m (raw a c (n - b)) ≡ (in_span m (raw a b d) || in_span m (raw n c (n - b)))
extended m a b d n c p q r on even =
    let to = restep m a b d n on even in
    let there : b + (n - b) ≡ n = omega arith in
    joined m a b c (n - b) p to.1 (omega arith) ∙ (λ i. sym to.0 i || in_span m (raw (there i) c (n - b)))

-- a run with one number more
pub lengthened_numbers : (m : ℕ) (run : TaskSpan) (n : ℕ) → IsMade run → run.last < n → run_goes_on run n ≡ true
    → in_span m (lengthened run n) ≡ (in_span m run || m == n)
lengthened_numbers m run n made later on =
    extended m run.first run.last run.step n n made.ordered later (omega arith) on made.reached ∙ ap (λ x. in_span m run || x) (alone m n (n - run.last))

pub lengthened_made : (run : TaskSpan) (n : ℕ) → IsMade run → run.last < n → run_goes_on run n ≡ true → IsMade (lengthened run n)
lengthened_made run n made later on =
    let ordered = made.ordered in
    let positive = made.positive in
    let to = restep 0 run.first run.last run.step n on made.reached in
    let there : run.last + (n - run.last) ≡ n = omega arith in
    record {
      positive = positive;
      ordered = omega arith;
      forward = omega arith;
      reached = ap (λ x. (x - run.first) % (n - run.last)) (sym there) ∙ step_more run.first run.last (n - run.last) ordered to.1;
      single = λ e. absurd (omega arith);
    }

-- a run that goes on with a whole span
pub whole_numbers : (m : ℕ) (run s : TaskSpan) → IsMade run → IsMade s → run.last < s.first → run_goes_on run s.first ≡ true → s.first - run.last ≡ s.step
    → in_span m (record s { first = run.first }) ≡ (in_span m run || in_span m s)
whole_numbers m run s made other later on step =
    rw (← step) (extended m run.first run.last run.step s.first s.last made.ordered later other.ordered on made.reached)

pub whole_made : (run s : TaskSpan) → IsMade run → IsMade s → run.last < s.first → run_goes_on run s.first ≡ true → s.first - run.last ≡ s.step
    → IsMade (record s { first = run.first })
whole_made run s made other later on step =
    let long = lengthened_made run s.first made later on in
    let ordered = made.ordered in
    let beyond = other.ordered in
    record {
      positive = made.positive;
      ordered = omega arith;
      forward = other.forward;
      reached = from_there run.first s.first s.last s.step (omega arith) beyond (ap (λ x. (s.first - run.first) % x) (sym step) ∙ long.reached) ∙ other.reached;
      single = λ e. absurd (omega arith);
    }

-- a span of more numbers than one has its first one and those behind it
pub behind_numbers : (m : ℕ) (s : TaskSpan) → IsMade s → s.first < s.last → in_span m s ≡ (m == s.first || in_span m (behind_first s))
behind_numbers m s made more =
    let none : s.first - s.first ≡ 0 = omega arith in
    let there = next_step s.first s.last s.step more made.reached in
    joined m s.first s.first s.last s.step (omega arith) (ap (λ x. x % s.step) none ∙ zero-mod s.step) there.0
    ∙ (λ i. alone m s.first s.step i || sym (span_of_numbers m (s.first + s.step) s.last s.step) i)

pub behind_made : (s : TaskSpan) → IsMade s → s.first < s.last → IsMade (behind_first s)
behind_made s made more = by (s.first + s.step == s.last) refl
  where
    there : (s.first + s.step ≤ s.last) × ((s.last - (s.first + s.step)) % s.step ≡ 0)
    there = next_step s.first s.last s.step more made.reached

    by : (same : Bool) → (s.first + s.step == s.last) ≡ same → IsMade (raw (s.first + s.step) s.last (if same then 1 else s.step))
    by true is = record { positive = let p = made.positive in omega arith; ordered = there.0; forward = omega arith; reached = mod-one (s.last - (s.first + s.step)); single = λ e. refl }
    by false is = record {
      positive = let p = made.positive in omega arith;
      ordered = there.0;
      forward = made.forward;
      reached = there.1;
      single = λ e. absurd (grind arith);
    }
