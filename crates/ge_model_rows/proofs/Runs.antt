-- Rising spans and the one form: it has their numbers, and it is the form.
use Rattle.std.proofs.Common.{◌≡◌, ℕ, ◌+◌, ◌-◌, ◌<◌, ◌==◌, ◌&&◌, ◌||◌, Bool, true, false, List, [], ◌∷◌, refl, sym, ap, ◌∙◌, arith, true≢false}
use Rattle.std.proofs.lemmas.Bool.{eqb-true, eqb-false}
use Rattle.ge_model_rows.specs.TaskRows.{TaskSpan, is_single, is_run, is_apart, is_form_from}
use Rattle.ge_model_rows.specs.TaskRows.{is_form}
use Rattle.ge_model_rows.specs.Spans.{is_one, in_span, run_goes_on, lengthened, behind_first, runs_from, in_form}
use Rattle.ge_model_rows.specs.Sets.{has_number}
use Rattle.ge_model_rows.proofs.Steps.{raw, alone}
use Rattle.ge_model_rows.proofs.Form.{IsMade, Rises, lengthened_numbers, lengthened_made, whole_numbers, whole_made, behind_numbers, behind_made}

-- one turn of the runs, by the answers of its three tests
abbrev pub turn : Bool → Bool → Bool → TaskSpan → TaskSpan → List TaskSpan → List TaskSpan
turn on single same run s rest = elim on [
  | true ↦ elim single [
    | true ↦ runs_from (lengthened run s.first) rest
    | false ↦ elim same [
      | true ↦ runs_from (record s { first = run.first }) rest
      | false ↦ lengthened run s.first ∷ runs_from (behind_first s) rest
    ]
  ]
  | false ↦ run ∷ runs_from s rest
]

-- ---- numbers

two_and_rest : (a b c : Bool) (x y : Bool) → x ≡ (a || b) → y ≡ (x || c) → y ≡ (a || (b || c))
two_and_rest true b c x y p q = q ∙ ap (λ z. z || c) p
two_and_rest false b c x y p q = q ∙ ap (λ z. z || c) p

three_and_rest : (a b c d : Bool) (x y z : Bool) → x ≡ (a || b) → y ≡ (c || d) → z ≡ (b || c) → (x || y) ≡ (a || (z || d))
three_and_rest true b c d x y z p q r = ap (λ w. w || y) p
three_and_rest false true c d x y z p q r = ap (λ w. w || y) p ∙ sym (ap (λ w. w || d) r)
three_and_rest false false c d x y z p q r = ap (λ w. w || y) p ∙ q ∙ sym (ap (λ w. w || d) r)

-- the runs of rising spans have the numbers of the spans
pub runs_numbers : (m : ℕ) (run : TaskSpan) (rest : List TaskSpan) → IsMade run → Rises run.last rest
    → has_number m (runs_from run rest) ≡ has_number m (run ∷ rest)
runs_numbers m run [] made rises = refl
runs_numbers m run (s ∷ rest) made (later, other, rises) =
    by (run_goes_on run s.first) (is_one s) (s.first - run.last == s.step) refl refl refl
    (runs_numbers m s rest other rises)
    (runs_numbers m (lengthened run s.first) rest)
    (runs_numbers m (record s { first = run.first }) rest)
    (runs_numbers m (behind_first s) rest)
  where
    by : (on single same : Bool) → run_goes_on run s.first ≡ on → is_one s ≡ single → (s.first - run.last == s.step) ≡ same
        → has_number m (runs_from s rest) ≡ has_number m (s ∷ rest)
        → (IsMade (lengthened run s.first) → Rises s.first rest → has_number m (runs_from (lengthened run s.first) rest) ≡ has_number m (lengthened run s.first ∷ rest))
        → (IsMade (record s { first = run.first }) → Rises s.last rest → has_number m (runs_from (record s { first = run.first }) rest) ≡ has_number m (record s { first = run.first } ∷ rest))
        → (IsMade (behind_first s) → Rises s.last rest → has_number m (runs_from (behind_first s) rest) ≡ has_number m (behind_first s ∷ rest))
        → has_number m (turn on single same run s rest) ≡ has_number m (run ∷ s ∷ rest)
    by false single same a b c plain long whole behind = ap (λ x. in_span m run || x) plain
    by true true same a b c plain long whole behind =
        let e : s.first ≡ s.last = eqb-true s.first s.last b in
        two_and_rest (in_span m run) (in_span m s) (has_number m rest) _ _
        (lengthened_numbers m run s.first made later a ∙ ap (λ x. in_span m run || x) (sym (alone m s.first s.step) ∙ ap (λ x. in_span m (raw s.first x s.step)) e))
        (long (lengthened_made run s.first made later a) (rw e rises))
    by true false true a b c plain long whole behind =
        let e : s.first - run.last ≡ s.step = eqb-true (s.first - run.last) s.step c in
        two_and_rest (in_span m run) (in_span m s) (has_number m rest) _ _
        (whole_numbers m run s made other later a e)
        (whole (whole_made run s made other later a e) rises)
    by true false false a b c plain long whole behind =
        let more : s.first < s.last = let p = other.ordered in let q = eqb-false s.first s.last b in omega arith in
        three_and_rest (in_span m run) (m == s.first) (in_span m (behind_first s)) (has_number m rest) _ _ _
        (lengthened_numbers m run s.first made later a)
        (behind (behind_made s other more) rises)
        (behind_numbers m s other more)

-- ---- the form

-- a form that begins with a number
abbrev pub FormFrom : ℕ → List TaskSpan → Type 0
FormFrom first [] = ⊥
FormFrom first (s ∷ rest) = (s.first ≡ first) × (is_form_from s rest ≡ true)

-- a made span of more numbers than one is a run, and one number is a single one
made_run : (s : TaskSpan) → IsMade s → s.first < s.last → is_run s ≡ true
made_run s made more =
    let positive = made.positive in
    let forward = made.forward in
    let reached = made.reached in
    grind arith

pub made_end : (s : TaskSpan) → IsMade s → (is_single s || is_run s) ≡ true
made_end s made = by (s.first == s.last) refl
  where
    by : (same : Bool) → (s.first == s.last) ≡ same → (is_single s || is_run s) ≡ true
    by true is =
        let e : s.first ≡ s.last = eqb-true s.first s.last is in
        let positive = made.positive in
        let step : s.step ≡ 1 = made.single e in
        grind arith
    by false is =
        let more : s.first < s.last = let p = made.ordered in let q = eqb-false s.first s.last is in omega arith in
        or_second (is_single s) (is_run s) (made_run s made more)
      where
        or_second : (u v : Bool) → v ≡ true → (u || v) ≡ true
        or_second true v h = refl
        or_second false v h = h

-- a run before a form whose first number doesn't lengthen it
before_form : (s : TaskSpan) (first : ℕ) (spans : List TaskSpan) → IsMade s → s.first < s.last → s.last < first → (first - s.last == s.step) ≡ false
    → FormFrom first spans → FormFrom s.first (s ∷ spans)
before_form s first [] made more above apart form = absurd form
before_form s first (t ∷ rest) made more above apart (begins, form) =
    let run = made_run s made more in
    (refl, all_three (is_run s) (is_apart s t) (is_form_from t rest) run (gap t begins) form)
  where
    all_three : (a b c : Bool) → a ≡ true → b ≡ true → c ≡ true → (a && b && c) ≡ true
    all_three a b c x y z = grind arith

    gap : (t : TaskSpan) → t.first ≡ first → is_apart s t ≡ true
    gap t begins = rw begins (grind arith)

-- the runs of rising spans are a form
pub runs_form : (run : TaskSpan) (rest : List TaskSpan) → IsMade run → Rises run.last rest → FormFrom run.first (runs_from run rest)
runs_form run [] made rises = (refl, made_end run made)
runs_form run (s ∷ rest) made (later, other, rises) =
    by (run_goes_on run s.first) (is_one s) (s.first - run.last == s.step) refl refl refl
    (runs_form s rest other rises)
    (runs_form (lengthened run s.first) rest)
    (runs_form (record s { first = run.first }) rest)
    (runs_form (behind_first s) rest)
  where
    by : (on single same : Bool) → run_goes_on run s.first ≡ on → is_one s ≡ single → (s.first - run.last == s.step) ≡ same
        → FormFrom s.first (runs_from s rest)
        → (IsMade (lengthened run s.first) → Rises s.first rest → FormFrom run.first (runs_from (lengthened run s.first) rest))
        → (IsMade (record s { first = run.first }) → Rises s.last rest → FormFrom run.first (runs_from (record s { first = run.first }) rest))
        → (IsMade (behind_first s) → Rises s.last rest → FormFrom (s.first + s.step) (runs_from (behind_first s) rest))
        → FormFrom run.first (turn on single same run s rest)
    by false single same a b c plain long whole behind =
        let ordered = made.ordered in
        let tests = neither (run.first == run.last) (s.first - run.last == run.step) a in
        let more : run.first < run.last = let q = eqb-false run.first run.last tests.0 in omega arith in
        before_form run s.first (runs_from s rest) made more later tests.1 plain
      where
        neither : (u v : Bool) → (u || v) ≡ false → (u ≡ false) × (v ≡ false)
        neither true v h = absurd (true≢false h)
        neither false v h = (refl, h)
    by true true same a b c plain long whole behind =
        let e : s.first ≡ s.last = eqb-true s.first s.last b in
        long (lengthened_made run s.first made later a) (rw e rises)
    by true false true a b c plain long whole behind =
        let e : s.first - run.last ≡ s.step = eqb-true (s.first - run.last) s.step c in
        whole (whole_made run s made other later a e) rises
    by true false false a b c plain long whole behind =
        let more : s.first < s.last = let p = other.ordered in let q = eqb-false s.first s.last b in omega arith in
        let ordered = made.ordered in
        let forward = other.forward in
        let short : s.first + s.step - s.first ≡ s.step = omega arith in
        let apart : (s.first + s.step - s.first == s.first - run.last) ≡ false = rw short (flipped (s.first - run.last) s.step c) in
        before_form (lengthened run s.first) (s.first + s.step) (runs_from (behind_first s) rest) (lengthened_made run s.first made later a)
        (omega arith) (omega arith) apart (behind (behind_made s other more) rises)
      where
        flipped : (x y : ℕ) → (x == y) ≡ false → (y == x) ≡ false
        flipped x y h = grind arith

-- ---- spans above a number, in the form

has_form : (first : ℕ) (spans : List TaskSpan) → FormFrom first spans → is_form spans ≡ true
has_form first [] form = absurd form
has_form first (s ∷ rest) form = form.1

-- rising spans in the form are in the form
pub in_form_form : (low : ℕ) (spans : List TaskSpan) → Rises low spans → is_form (in_form spans) ≡ true
in_form_form low [] rises = refl
in_form_form low (s ∷ rest) (above, made, rises) = has_form s.first (runs_from s rest) (runs_form s rest made rises)

-- and have the same numbers
pub in_form_numbers : (m low : ℕ) (spans : List TaskSpan) → Rises low spans → has_number m (in_form spans) ≡ has_number m spans
in_form_numbers m low [] rises = refl
in_form_numbers m low (s ∷ rest) (above, made, rises) = runs_numbers m s rest made rises
