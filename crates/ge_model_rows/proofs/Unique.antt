-- The form is one: two sets in the form that have the same numbers are the same.
use Rattle.std.proofs.Common.{◌≡◌, ℕ, zero, suc, ◌+◌, ◌-◌, ◌*◌, ◌/◌, ◌<◌, ◌==◌, ◌&&◌, ◌||◌, Bool, true, false, List, [], ◌∷◌, ◌++◌, map, refl, sym, ap, ◌∙◌, arith}
use Rattle.std.proofs.Math.Nat.{zero-div}
use Rattle.std.proofs.lemmas.Bool.{eqb-true, eq-eqb, eqb-false}
use Rattle.std.proofs.lemmas.List.{map-append}
use Rattle.ge_model_rows.specs.TaskRows.{TaskSpan, is_run, is_apart, is_form_from, is_form}
use Rattle.ge_model_rows.specs.Spans.{one, is_one, steps_of, stepping, run_goes_on, lengthened, runs_from, in_form}
use Rattle.ge_model_rows.specs.Sets.{has_number, numbers_of, set_of}
use Rattle.ge_model_rows.proofs.Steps.{raw}
use Rattle.ge_model_rows.proofs.Form.{IsMade, Rises}
use Rattle.ge_model_rows.proofs.Runs.{turn, in_form_form, in_form_numbers}
use Rattle.ge_model_rows.proofs.Sets.{form_rises, from_run}
use Rattle.ge_model_rows.proofs.Numbers.{same_numbers, plus_one, steps_lead, numbers_has, numbers_rise}

-- ---- a run is made of its numbers again

longer : (run : TaskSpan) (n : ℕ) (rest : List TaskSpan) → run_goes_on run n ≡ true → runs_from run (one n ∷ rest) ≡ runs_from (lengthened run n) rest
longer run n rest on =
    ap (λ x. turn x (is_one (one n)) (n - run.last == 1) run (one n) rest) on
    ∙ ap (λ x. turn true x (n - run.last == 1) run (one n) rest) (eq-eqb n n refl)

ended : (run : TaskSpan) (n : ℕ) (rest : List TaskSpan) → run_goes_on run n ≡ false → runs_from run (one n ∷ rest) ≡ run ∷ runs_from (one n) rest
ended run n rest off = ap (λ x. turn x (is_one (one n)) (n - run.last == 1) run (one n) rest) off

by_step : (u v : Bool) → v ≡ true → (u || v) ≡ true
by_step true v h = refl
by_step false v h = h

grown : (a b d more : ℕ) (rest : List TaskSpan) → runs_from (raw a b d) (map one (stepping more (b + d) d) ++ rest) ≡ runs_from (raw a (b + more * d) d) rest
grown a b d zero rest = ap (λ x. runs_from (raw a x d) rest) (omega arith)
grown a b d (suc more) rest =
    longer (raw a b d) (b + d) (map one (stepping more (b + d + d) d) ++ rest) (by_step (a == b) (b + d - b == d) (eq-eqb (b + d - b) d back))
    ∙ ap (λ x. runs_from (raw a (b + d) x) (map one (stepping more (b + d + d) d) ++ rest)) back
    ∙ grown a (b + d) d more rest
    ∙ ap (λ x. runs_from (raw a x d) rest) (omega arith)
  where
    back : b + d - b ≡ d
    back = omega arith

-- the numbers of a set behind its first one
tail_numbers : TaskSpan → List TaskSpan → List ℕ
tail_numbers s rest = stepping (steps_of s) (s.first + s.step) s.step ++ numbers_of rest

numbers_split : (s : TaskSpan) (rest : List TaskSpan) → numbers_of (s ∷ rest) ≡ s.first ∷ tail_numbers s rest
unfolding tail_numbers
numbers_split s rest = ap (λ x. x ++ numbers_of rest) (plus_one (steps_of s) s.first s.step)

-- a run of more numbers than one
whole_run : (s : TaskSpan) (rest : List ℕ) → IsMade s → s.first < s.last
    → runs_from (one s.first) (map one (stepping (steps_of s) (s.first + s.step) s.step ++ rest)) ≡ runs_from s (map one rest)
whole_run s rest made more = by (steps_of s) (steps_lead s made)
  where
    a : ℕ
    a = s.first

    d : ℕ
    d = s.step

    by : (n : ℕ) → a + n * d ≡ s.last → runs_from (one a) (map one (stepping n (a + d) d ++ rest)) ≡ runs_from s (map one rest)
    by zero e = absurd (omega arith)
    by (suc n) e =
        let back : a + d - a ≡ d = omega arith in
        ap (λ x. runs_from (one a) x) (map-append one (stepping (suc n) (a + d) d) rest)
        ∙ longer (one a) (a + d) (map one (stepping n (a + d + d) d) ++ map one rest) (ap (λ x. x || (a + d - a == 1)) (eq-eqb a a refl))
        ∙ ap (λ x. runs_from (raw a (a + d) x) (map one (stepping n (a + d + d) d) ++ map one rest)) back
        ∙ grown a (a + d) d n (map one rest)
        ∙ ap (λ x. runs_from (raw a x d) (map one rest)) (let f : a + d + n * d ≡ a + suc n * d = omega arith in f ∙ e)

-- a set in the form is made of its numbers again
shaped : (s : TaskSpan) (rest : List TaskSpan) → is_form_from s rest ≡ true → IsMade s → Rises s.last rest
    → runs_from (one s.first) (map one (tail_numbers s rest)) ≡ s ∷ rest
unfolding tail_numbers
shaped s [] form made rises = by (s.first == s.last) refl
  where
    by : (same : Bool) → (s.first == s.last) ≡ same → runs_from (one s.first) (map one (stepping (steps_of s) (s.first + s.step) s.step ++ [])) ≡ s ∷ []
    by true is =
        let e : s.first ≡ s.last = eqb-true s.first s.last is in
        let none : s.last - s.first ≡ 0 = omega arith in
        let steps : steps_of s ≡ 0 = ap (λ x. x / s.step) none ∙ zero-div s.step in
        ap (λ x. runs_from (one s.first) (map one (stepping x (s.first + s.step) s.step ++ []))) steps
        ∙ (λ i. raw s.first (e i) (sym (made.single e) i) ∷ [])
    by false is = whole_run s [] made (let o = made.ordered in let n = eqb-false s.first s.last is in omega arith)
shaped s (t ∷ rest) form made (higher, other, rises) =
    let (run, gap, more) = all_three (is_run s) (is_apart s t) (is_form_from t rest) form in
    let (positive, longer, forward, reached) = from_run s run in
    whole_run s (numbers_of (t ∷ rest)) made longer
    ∙ ap (λ x. runs_from s (map one x)) (numbers_split t rest)
    ∙ ended s t.first (map one (tail_numbers t rest)) (off longer gap)
    ∙ ap (λ x. s ∷ x) (shaped t rest more other rises)
  where
    all_three : (a b c : Bool) → (a && b && c) ≡ true → (a ≡ true) × (b ≡ true) × (c ≡ true)
    all_three a b c h = grind arith

    off : s.first < s.last → is_apart s t ≡ true → run_goes_on s t.first ≡ false
    off more gap = grind arith

-- a set in the form is the set of its numbers
pub set_of_numbers : (spans : List TaskSpan) → is_form spans ≡ true → set_of (numbers_of spans) ≡ spans
set_of_numbers [] form = refl
set_of_numbers (s ∷ rest) form =
    let (higher, made, rises) = form_rises (s ∷ rest) form in
    ap (λ x. in_form (map one x)) (numbers_split s rest) ∙ shaped s rest form made rises

-- two sets in the form that have the same numbers are the same
pub one_form : (spans others : List TaskSpan) → is_form spans ≡ true → is_form others ≡ true → ((m : ℕ) → has_number m spans ≡ has_number m others) → spans ≡ others
one_form spans others one two same =
    let first = form_rises spans one in
    let second = form_rises others two in
    let numbers = same_numbers 0 (numbers_of spans) (numbers_of others) (numbers_rise 0 spans first) (numbers_rise 0 others second)
    (λ m. numbers_has m 0 spans first ∙ same m ∙ sym (numbers_has m 0 others second)) in
    sym (set_of_numbers spans one) ∙ ap set_of numbers ∙ set_of_numbers others two

-- rising spans put into the form, where they are in it, stay
pub in_form_stays : (spans : List TaskSpan) → is_form spans ≡ true → in_form spans ≡ spans
in_form_stays spans form =
    one_form (in_form spans) spans (in_form_form 0 spans (form_rises spans form)) form (λ m. in_form_numbers m 0 spans (form_rises spans form))
