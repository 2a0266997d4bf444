-- Numbers of which each is looked at until one lies in a span.
use Rattle.std.proofs.Common.{◌≡◌, ℕ, zero, suc, ◌+◌, ◌-◌, ◌*◌, ◌/◌, ◌%◌, ◌≤◌, ◌<◌, Bool, true, false, if◌then◌else◌, nat_lt, refl, sym, ap, ◌∙◌, arith, mul-le-mul_right, mod-lt}
use Rattle.std.specs.Prelude.{Option, Some, None}
use Rattle.std.proofs.Math.Nat.{mul-mod_left, mul_right_comm, zero-mod}
use Rattle.std.proofs.lemmas.Nat.{div-add-mod'}
use Rattle.std.proofs.lemmas.Bool.{true≢false}
use Rattle.ge_model_rows.specs.TaskRows.{TaskSpan}
use Rattle.ge_model_rows.specs.Spans.{in_span}
use Rattle.ge_model_rows.proofs.Steps.{lies, lies_back, from_there, step_more, next_step}
use Rattle.ge_ranges.specs.Meeting.{first_inside}
use Rattle.ge_ranges.proofs.Multiples.{whole, beside}

-- ---- one turn

module _ (turns : ℕ) (span : TaskSpan) (n last step : ℕ) where
  pub over : turns ≤ 0 → first_inside turns span n last step ≡ None
  over none = let is : turns ≡ 0 = omega (arith, none) in ap (λ t. first_inside t span n last step) is

  module _ (some : 0 < turns) where
    one_more : turns ≡ suc (turns - 1)
    one_more = omega (arith, some)

    next : Bool → Bool → Option ℕ
    next here ends = if here then Some n else (if ends then None else first_inside (turns - 1) span (n + step) last step)

    opened : first_inside turns span n last step ≡ next (in_span n span) (nat_lt (last - n) step)
    unfolding next
    opened = ap (λ t. first_inside t span n last step) one_more

    pub found_here : in_span n span ≡ true → first_inside turns span n last step ≡ Some n
    unfolding next
    found_here here = opened ∙ ap (λ h. next h (nat_lt (last - n) step)) here

    pub ends_here : in_span n span ≡ false → last - n < step → first_inside turns span n last step ≡ None
    unfolding next
    ends_here here close =
        let ends : nat_lt (last - n) step ≡ true = grind arith in
        opened ∙ (λ i. next (here i) (ends i))

    pub goes_on : in_span n span ≡ false → step ≤ last - n → first_inside turns span n last step ≡ first_inside (turns - 1) span (n + step) last step
    unfolding next
    goes_on here room =
        let ends : nat_lt (last - n) step ≡ false = grind arith in
        opened ∙ (λ i. next (here i) (ends i))

-- ---- what is found

pub nothing_found : (r : ℕ) → None ≡ Some r → ⊥
nothing_found r wrong = cc

pub not_both : {b : Bool} → b ≡ true → b ≡ false → ⊥
not_both is other = true≢false (sym is ∙ other)

-- what was found is inside, stands in the steps, and no number before it is inside
pub record Found (span : TaskSpan) (n last step r : ℕ) : Type 0 where
  pub inside : in_span r span ≡ true
  pub behind : n ≤ r
  pub within : r ≤ last
  pub even : (r - n) % step ≡ 0
  pub least : (m : ℕ) → n ≤ m → (m - n) % step ≡ 0 → in_span m span ≡ true → r ≤ m

pub found : (turns : ℕ) (span : TaskSpan) (n last step r : ℕ) → n ≤ last → first_inside turns span n last step ≡ Some r → Found span n last step r
found zero span n last step r p is = absurd (nothing_found r is)
found (suc turns) span n last step r p is = by (in_span n span) (nat_lt (last - n) step) refl refl is (found turns span (n + step) last step r)
  where
    none : n - n ≡ 0
    none = omega arith

    by : (here ends : Bool) → in_span n span ≡ here → nat_lt (last - n) step ≡ ends
        → (if here then Some n else (if ends then None else first_inside turns span (n + step) last step)) ≡ Some r
        → (n + step ≤ last → first_inside turns span (n + step) last step ≡ Some r → Found span (n + step) last step r) → Found span n last step r
    by true ends here _ is again =
        let same : n ≡ r = cc in
        record {
          inside = ap (λ x. in_span x span) (sym same) ∙ here;
          behind = omega (arith, same);
          within = omega (arith, same);
          even = ap (λ x. (x - n) % step) (sym same) ∙ ap (λ x. x % step) none ∙ zero-mod step;
          least = λ m q _ _. omega (arith, same);
        }
    by false true here _ is again = absurd (nothing_found r is)
    by false false here ends is again =
        let room : n + step ≤ last = grind arith in
        let next = again room is in
        let later = next.behind in
        record {
          inside = next.inside;
          behind = omega arith;
          within = next.within;
          even = from_there n (n + step) r step (omega arith) later (step_more n n step (omega arith) (ap (λ x. x % step) none ∙ zero-mod step)) ∙ next.even;
          least = λ m q even inside. later_least next m q even inside;
        }
      where
        later_least : Found span (n + step) last step r → (m : ℕ) → n ≤ m → (m - n) % step ≡ 0 → in_span m span ≡ true → r ≤ m
        later_least next m q even inside = further (nat_lt n m) refl
          where
            further : (above : Bool) → nat_lt n m ≡ above → r ≤ m
            further true is =
                let there = next_step n m step (grind arith) even in
                next.least m there.0 there.1 inside
            further false is =
                let same : m ≡ n = grind arith in
                absurd (not_both (ap (λ x. in_span x span) (sym same) ∙ inside) here)

-- where nothing was found, none of the numbers that were looked at is inside
missed : (turns : ℕ) (span : TaskSpan) (n last step : ℕ) → n ≤ last → first_inside turns span n last step ≡ None
    → (m : ℕ) → n ≤ m → m ≤ last → (m - n) % step ≡ 0 → m < n + turns * step → in_span m span ≡ false
missed zero span n last step p is m q r even close = absurd (omega arith)
missed (suc turns) span n last step p is m q r even close =
    by (in_span n span) (nat_lt (last - n) step) (nat_lt n m) refl refl refl is (missed turns span (n + step) last step)
  where
    by : (here ends above : Bool) → in_span n span ≡ here → nat_lt (last - n) step ≡ ends → nat_lt n m ≡ above
        → (if here then Some n else (if ends then None else first_inside turns span (n + step) last step)) ≡ None
        → (n + step ≤ last → first_inside turns span (n + step) last step ≡ None → (m : ℕ) → n + step ≤ m → m ≤ last → (m - (n + step)) % step ≡ 0
        → m < n + step + turns * step → in_span m span ≡ false)
        → in_span m span ≡ false
    by true ends above _ _ _ is again = absurd (nothing_found n (sym is))
    by false ends false here _ low is again = let same : m ≡ n = grind arith in ap (λ x. in_span x span) same ∙ here
    by false true true here ends low is again =
        let there = next_step n m step (grind arith) even in
        let near = there.0 in
        absurd (grind arith)
    by false false true here ends low is again =
        let there = next_step n m step (grind arith) even in
        let near = there.0 in
        again (grind arith) is m near r there.1 (omega arith)

-- after as many numbers as the span's step, the numbers fall on the same places again
pub missed_all : (span : TaskSpan) (n last step : ℕ) → 1 ≤ span.step → 1 ≤ step → n ≤ last → span.first ≤ n → first_inside span.step span n last step ≡ None
    → (m : ℕ) → n ≤ m → m ≤ last → (m - n) % step ≡ 0 → in_span m span ≡ false
missed_all span n last step forward steps p low is m q r even = by (in_span m span) refl
  where
    places : ℕ
    places = (m - n) / step

    place : ℕ
    place = places % span.step

    again : ℕ
    again = n + place * step

    skipped : ℕ
    skipped = places / span.step * span.step * step

    all : again + skipped ≡ m
    all =
        let e = div-add-mod' places span.step in
        let w : places * step ≡ m - n = whole (m - n) step even in
        let both : (places / span.step * span.step + place) * step ≡ m - n = ap (λ x. x * step) e ∙ w in
        omega arith

    skips : skipped % span.step ≡ 0
    skips = ap (λ x. x % span.step) (mul_right_comm (places / span.step) span.step step) ∙ mul-mod_left (places / span.step * step) span.step

    close : again < n + span.step * step
    close =
        let small : place + 1 ≤ span.step = let l = mod-lt places forward in omega arith in
        let most : (place + 1) * step ≤ span.step * step = mul-le-mul_right step small in
        omega arith

    lattice : (again - n) % step ≡ 0
    lattice = let back : again - n ≡ place * step = omega arith in ap (λ x. x % step) back ∙ mul-mod_left place step

    by : (inside : Bool) → in_span m span ≡ inside → in_span m span ≡ false
    by false is = is
    by true there =
        let i = lies m span.first span.last span.step there in
        let a = all in
        let low_again : span.first ≤ again = omega arith in
        let split : m - span.first ≡ (again - span.first) + skipped = omega arith in
        let left : (again - span.first) % span.step ≡ 0 =
        sym (beside (again - span.first) skipped span.step skips) ∙ ap (λ x. x % span.step) (sym split) ∙ i.2 in
        absurd (not_both (lies_back again span.first span.last span.step (low_again, omega arith, left))
        (missed span.step span n last step p is again (omega arith) (omega arith) lattice close))
