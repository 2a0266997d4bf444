-- What the spans of two sets share are the numbers of both.
use Rattle.std.proofs.Common.{◌≡◌, ℕ, ◌+◌, ◌-◌, ◌≤◌, ◌<◌, ◌⊎◌, inl, inr, ◌&&◌, ◌||◌, Bool, true, false, if◌then◌else◌, min, max, nat_le, List, [], ◌∷◌, ◌++◌, refl, sym, ap, ◌∙◌, arith}
use Rattle.std.specs.Prelude.{Option, Some, None}
use Rattle.std.proofs.lemmas.Bool.{eq-eqb}
use Rattle.std.proofs.lemmas.List.Folds.{list_any-append}
use Rattle.ge_model_rows.specs.TaskRows.{TaskSpan, is_form}
use Rattle.ge_model_rows.specs.Spans.{in_span, in_form}
use Rattle.ge_model_rows.specs.Sets.{has_number, meet}
use Rattle.ge_model_rows.proofs.Steps.{lies}
use Rattle.ge_model_rows.proofs.Form.{IsMade, Rises}
use Rattle.ge_model_rows.proofs.Runs.{in_form_form, in_form_numbers}
use Rattle.ge_model_rows.proofs.Sets.{Within, joined_rises, form_rises}
use Rattle.ge_model_rows.proofs.Merged.{above_low}
use Rattle.ge_model_rows.proofs.Together.{meet_form, meet_has}
use Rattle.ge_model_rows.proofs.Unique.{one_form}
use Rattle.ge_ranges.specs.Forming.{have_seconds}
use Rattle.ge_ranges.specs.Meeting.{next_shared, shared_on, shared_from, shared_by, shared_part, meet_one, met}
use Rattle.ge_ranges.proofs.Seconds.{stretched}
use Rattle.ge_ranges.proofs.Shared.{shared_by_numbers, shared_by_within}

-- ---- two spans

shared_numbers : (m : ℕ) (s t : TaskSpan) → IsMade s → IsMade t → has_number m (shared_part s t) ≡ (in_span m s && in_span m t)
shared_numbers m s t made too = by (nat_le s.step t.step)
  where
    turned : (u v : Bool) → (u && v) ≡ (v && u)
    turned u v = grind arith

    by : (fine : Bool) → has_number m (if fine then shared_by s t else shared_by t s) ≡ (in_span m s && in_span m t)
    by true = shared_by_numbers s t made too m
    by false = shared_by_numbers t s too made m ∙ turned (in_span m t) (in_span m s)

-- what they share lies above what both lie above, up to where one of them ends
shared_within : (low high : ℕ) (s t : TaskSpan) → IsMade s → IsMade t → (low < s.first) ⊎ (low < t.first) → low ≤ high → min s.last t.last ≤ high
    → Within low high (shared_part s t)
shared_within low high s t made too above p q = by (nat_le s.step t.step)
  where
    turned : (low < s.first) ⊎ (low < t.first) → (low < t.first) ⊎ (low < s.first)
    turned (inl x) = inr x
    turned (inr x) = inl x

    by : (fine : Bool) → Within low high (if fine then shared_by s t else shared_by t s)
    by true = shared_by_within s t made too low high above p q
    by false = shared_by_within t s too made low high (turned above) p (omega arith)

-- a shared part has its seconds
pub by_seconds : (span other : TaskSpan) → have_seconds (shared_by span other) ≡ true
by_seconds span other = by (next_shared span other (span.first - 1))
  where
    further : (first : ℕ) (second : Option ℕ) → have_seconds (shared_on first (min span.last other.last) second) ≡ true
    further first None = ap (λ b. (b || nat_le (first + 1) first) && true) (eq-eqb first first refl)
    further first (Some second) = stretched first (min span.last other.last) (second - first)

    by : (first : Option ℕ) → have_seconds (shared_from span other first) ≡ true
    by None = refl
    by (Some first) = further first (next_shared span other first)

-- ---- two sets

-- the span that ends first is met with no other
pub ends_first : (s t : TaskSpan) (spans others : List TaskSpan) → s.last ≤ t.last → met (s ∷ spans) (t ∷ others) ≡ shared_part s t ++ met spans (t ∷ others)
ends_first s t spans others p =
    let ends : nat_le s.last t.last ≡ true = grind arith in
    ap (λ e. shared_part s t ++ (if e then met spans (t ∷ others) else meet_one s (met spans) others)) ends

pub ends_later : (s t : TaskSpan) (spans others : List TaskSpan) → t.last < s.last → met (s ∷ spans) (t ∷ others) ≡ shared_part s t ++ met (s ∷ spans) others
ends_later s t spans others p =
    let ends : nat_le s.last t.last ≡ false = grind arith in
    ap (λ e. shared_part s t ++ (if e then met spans (t ∷ others) else meet_one s (met spans) others)) ends

met_rises : (low behind : ℕ) (spans others : List TaskSpan) → Rises low spans → Rises behind others → Rises (max low behind) (met spans others)
met_rises low behind [] others rises rising = tt
met_rises low behind (s ∷ spans) others (higher, made, rises) rising = one_rises behind others rising (λ b o r. met_rises s.last b spans o rises r)
  where
    one_rises : (behind : ℕ) (others : List TaskSpan) → Rises behind others
        → ((b : ℕ) (o : List TaskSpan) → Rises b o → Rises (max s.last b) (met spans o)) → Rises (max low behind) (meet_one s (met spans) others)
    one_rises behind [] rising again = tt
    one_rises behind (t ∷ others) (above, other, rising) again =
        by (nat_le s.last t.last) refl (again behind (t ∷ others) (above, other, rising)) (one_rises t.last others rising again)
      where
        first : (low < s.first) × (behind < t.first) → (max low behind < s.first) ⊎ (max low behind < t.first)
        first both = by (nat_le low behind) refl
          where
            by : (less : Bool) → nat_le low behind ≡ less → (max low behind < s.first) ⊎ (max low behind < t.first)
            by true is = let x = both.0 in let y = both.1 in inr (grind arith)
            by false is = let x = both.0 in let y = both.1 in inl (grind arith)

        by : (ends : Bool) → nat_le s.last t.last ≡ ends → Rises (max s.last behind) (met spans (t ∷ others)) → Rises (max low t.last) (meet_one s (met spans) others)
            → Rises (max low behind) (shared_part s t ++ (if ends then met spans (t ∷ others) else meet_one s (met spans) others))
        by true is one two =
            let o = made.ordered in
            joined_rises (max low behind) (max s.last behind) (shared_part s t) (met spans (t ∷ others))
            (shared_within (max low behind) (max s.last behind) s t made other (first (higher, above)) (omega arith) (omega arith)) one
        by false is one two =
            let o = other.ordered in
            joined_rises (max low behind) (max low t.last) (shared_part s t) (meet_one s (met spans) others)
            (shared_within (max low behind) (max low t.last) s t made other (first (higher, above)) (omega arith) (omega arith)) two

-- no number of a span is one of spans that rise behind where another one ends that reaches as far
none_behind : (m : ℕ) (s t : TaskSpan) (others : List TaskSpan) → s.last ≤ t.last → Rises t.last others → (in_span m s && has_number m others) ≡ false
none_behind m s t others p rises = by (in_span m s) (has_number m others) refl refl
  where
    by : (u v : Bool) → in_span m s ≡ u → has_number m others ≡ v → (u && v) ≡ false
    by true true x y =
        let i = lies m s.first s.last s.step x in
        let b = i.1 in
        let l = above_low m t.last others rises y in
        absurd (omega arith)
    by true false x y = refl
    by false v x y = refl

met_numbers : (m low behind : ℕ) (spans others : List TaskSpan) → Rises low spans → Rises behind others
    → has_number m (met spans others) ≡ (has_number m spans && has_number m others)
met_numbers m low behind [] others rises rising = refl
met_numbers m low behind (s ∷ spans) others (higher, made, rises) rising = one_numbers behind others rising (λ b o r. met_numbers m s.last b spans o rises r)
  where
    one_numbers : (behind : ℕ) (others : List TaskSpan) → Rises behind others
        → ((b : ℕ) (o : List TaskSpan) → Rises b o → has_number m (met spans o) ≡ (has_number m spans && has_number m o))
        → has_number m (meet_one s (met spans) others) ≡ (has_number m (s ∷ spans) && has_number m others)
    one_numbers behind [] rising again = none (has_number m (s ∷ spans))
      where
        none : (u : Bool) → false ≡ (u && false)
        none true = refl
        none false = refl
    one_numbers behind (t ∷ others) (above, other, rising) again =
        by (nat_le s.last t.last) refl (again behind (t ∷ others) (above, other, rising)) (one_numbers t.last others rising again)
      where
        both_left : (u v w z : Bool) → (u && z) ≡ false → ((u && w) || (v && (w || z))) ≡ ((u || v) && (w || z))
        both_left u v w z h = grind arith

        both_right : (u v w z : Bool) → (w && v) ≡ false → ((u && w) || ((u || v) && z)) ≡ ((u || v) && (w || z))
        both_right u v w z h = grind arith

        by : (ends : Bool) → nat_le s.last t.last ≡ ends
            → has_number m (met spans (t ∷ others)) ≡ (has_number m spans && has_number m (t ∷ others))
            → has_number m (meet_one s (met spans) others) ≡ (has_number m (s ∷ spans) && has_number m others)
            → has_number m (shared_part s t ++ (if ends then met spans (t ∷ others) else meet_one s (met spans) others))
            ≡ (has_number m (s ∷ spans) && has_number m (t ∷ others))
        by true is one two =
            list_any-append (in_span m) (shared_part s t) (met spans (t ∷ others))
            ∙ (λ i. shared_numbers m s t made other i || one i)
            ∙ both_left (in_span m s) (has_number m spans) (in_span m t) (has_number m others) (none_behind m s t others (grind arith) rising)
        by false is one two =
            list_any-append (in_span m) (shared_part s t) (meet_one s (met spans) others)
            ∙ (λ i. shared_numbers m s t made other i || two i)
            ∙ both_right (in_span m s) (has_number m spans) (in_span m t) (has_number m others) (none_behind m t s spans (grind arith) rises)

-- two sets meet in what their spans share
pub meets : (s t : List TaskSpan) → is_form s ≡ true → is_form t ≡ true → in_form (met s t) ≡ meet s t
meets s t form other =
    one_form (in_form (met s t)) (meet s t) (in_form_form 0 (met s t) rises) (meet_form s t form other)
    (λ m. in_form_numbers m 0 (met s t) rises ∙ met_numbers m 0 0 s t (form_rises s form) (form_rises t other) ∙ sym (meet_has m s t form other))
  where
    rises : Rises 0 (met s t)
    rises = met_rises 0 0 s t (form_rises s form) (form_rises t other)
