-- The next number that two spans share.
use Rattle.std.proofs.Common.{◌≡◌, ℕ, ◌+◌, ◌-◌, ◌*◌, ◌/◌, ◌%◌, ◌≤◌, ◌<◌, ◌&&◌, ◌||◌, Bool, true, false, nat_lt, [], ◌∷◌, refl, sym, ap, ◌∙◌, arith}
use Rattle.std.specs.Prelude.{Some, None}
use Rattle.std.proofs.Math.Nat.{zero-mod}
use Rattle.std.proofs.lemmas.Bool.{true≢false}
use Rattle.ge_model_rows.specs.TaskRows.{TaskSpan}
use Rattle.ge_model_rows.specs.Spans.{span_of, in_span, above_in}
use Rattle.ge_model_rows.specs.Sets.{has_number}
use Rattle.ge_model_rows.proofs.Steps.{In, lies, lies_back}
use Rattle.ge_model_rows.proofs.Form.{IsMade}
use Rattle.ge_model_rows.proofs.Cuts.{floor, stretched, above_in_numbers}
use Rattle.ge_ranges.specs.Meeting.{first_in_part, next_shared}
use Rattle.ge_ranges.proofs.Looked.{nothing_found, not_both, Found, found, missed_all}

-- the part of a span above a number is nothing or a span
module _ {T : Type 0} where
  above_parts : (n : ℕ) (s : TaskSpan) → IsMade s → (above_in n s ≡ [] → T) → ((part : TaskSpan) → above_in n s ≡ part ∷ [] → IsMade part → T) → T
  above_parts n s made none some = by (nat_lt n s.first) (nat_lt s.last next) refl refl
    where
      next : ℕ
      next = s.first + ((n - s.first) / s.step + 1) * s.step

      by : (whole empty : Bool) → nat_lt n s.first ≡ whole → nat_lt s.last next ≡ empty → T
      by true empty is _ = some s (rw is refl) made
      by false true is last = none (rw (is, last) refl)
      by false false is last =
          let fits : next ≤ s.last = grind arith in
          let o = made.positive in
          some (span_of next (next + floor (s.last - next) s.step) s.step) (rw (is, last) refl) (stretched next s.last s.step (omega arith) fits made.forward)

pub or_nothing : (u : Bool) → (u || false) ≡ u
or_nothing true = refl
or_nothing false = refl

part_numbers : (m n : ℕ) (s part : TaskSpan) → IsMade s → above_in n s ≡ part ∷ [] → in_span m part ≡ (in_span m s && nat_lt n m)
part_numbers m n s part made is = sym (or_nothing (in_span m part)) ∙ sym (ap (λ xs. has_number m xs) is) ∙ above_in_numbers m n s made

pub and_both : (a b : Bool) → (a && b) ≡ true → (a ≡ true) × (b ≡ true)
and_both a b h = grind arith

pub both_true : {a b : Bool} → a ≡ true → b ≡ true → (a && b) ≡ true
both_true is other = grind arith

pub higher : (n m : ℕ) → nat_lt n m ≡ true → n < m
higher n m h = grind arith

is_higher : (n m : ℕ) → n < m → nat_lt n m ≡ true
is_higher n m h = grind arith

-- a number that both have, above one, and no other before it
pub record Next (span other : TaskSpan) (n r : ℕ) : Type 0 where
  pub first_has : in_span r span ≡ true
  pub second_has : in_span r other ≡ true
  pub above : n < r
  pub least : (m : ℕ) → n < m → in_span m span ≡ true → in_span m other ≡ true → r ≤ m

module _ (span other : TaskSpan) (n : ℕ) (made : IsMade span) (too : IsMade other) (low : span.first ≤ n + 1) where
  in_part : (part : TaskSpan) → above_in n other ≡ part ∷ [] → (m : ℕ) → n < m → in_span m other ≡ true → In m part.first part.last part.step
  in_part part is m above here = lies m part.first part.last part.step (part_numbers m n other part too is ∙ both_true here (is_higher n m above))

  out_of_part : (part : TaskSpan) → above_in n other ≡ part ∷ [] → (m : ℕ) → In m part.first part.last part.step → (in_span m other ≡ true) × (n < m)
  out_of_part part is m inside =
      let both = and_both (in_span m other) (nat_lt n m) (sym (part_numbers m n other part too is) ∙ lies_back m part.first part.last part.step inside) in
      (both.0, higher n m both.1)

  pub next_some : (r : ℕ) → next_shared span other n ≡ Some r → Next span other n r
  next_some r is = above_parts n other too
      (λ e. absurd (nothing_found r (sym (ap (λ xs. first_in_part span xs) e) ∙ is)))
      (λ part e fits. from part e (found span.step span part.first part.last part.step r fits.ordered (sym (ap (λ xs. first_in_part span xs) e) ∙ is)))
    where
      from : (part : TaskSpan) → above_in n other ≡ part ∷ [] → Found span part.first part.last part.step r → Next span other n r
      from part e there =
          let out = out_of_part part e r (there.behind, there.within, there.even) in
          record {
            first_has = there.inside;
            second_has = out.0;
            above = out.1;
            least = λ m above here too_here. let i = in_part part e m above too_here in there.least m i.0 i.2 here;
          }

  pub next_none : next_shared span other n ≡ None → (m : ℕ) → n < m → in_span m span ≡ true → in_span m other ≡ true → ⊥
  next_none is m above here too_here = above_parts n other too
      (λ e. true≢false (sym (both_true too_here (is_higher n m above)) ∙ sym (above_in_numbers m n other too) ∙ ap (λ xs. has_number m xs) e))
      (λ part e fits. from part e fits (in_part part e m above too_here))
    where
      from : (part : TaskSpan) → above_in n other ≡ part ∷ [] → IsMade part → In m part.first part.last part.step → ⊥
      from part e fits inside =
          let first = out_of_part part e part.first (omega arith, fits.ordered, start part) in
          let later = first.1 in
          not_both here (missed_all span part.first part.last part.step made.forward fits.forward fits.ordered (omega arith) (sym (ap (λ xs. first_in_part span xs) e) ∙ is) m inside.0 inside.1 inside.2)
        where
          start : (part : TaskSpan) → (part.first - part.first) % part.step ≡ 0
          start part = let none : part.first - part.first ≡ 0 = omega arith in ap (λ x. x % part.step) none ∙ zero-mod part.step
