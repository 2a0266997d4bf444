-- The numbers that two spans share are a span.
use Rattle.std.proofs.Common.{◌≡◌, ℕ, zero, suc, ◌+◌, ◌-◌, ◌*◌, ◌/◌, ◌%◌, ◌≤◌, ◌<◌, ◌⊎◌, inl, inr, ◌==◌, ◌&&◌, Bool, true, false, if◌then◌else◌, min, nat_lt, [], ◌∷◌, refl, sym, ap, ◌∙◌, arith, mod-lt}
use Rattle.std.specs.Prelude.{Option, Some, None}
use Rattle.std.proofs.Math.Nat.{mul-mod_left}
use Rattle.std.proofs.lemmas.Nat.{div-add-mod'}
use Rattle.std.proofs.lemmas.Bool.{eqb-true, true≢false}
use Rattle.ge_model_rows.specs.TaskRows.{TaskSpan}
use Rattle.ge_model_rows.specs.Spans.{one, span_of, in_span}
use Rattle.ge_model_rows.specs.Sets.{has_number}
use Rattle.ge_model_rows.proofs.Steps.{both_ways, raw, In, lies, lies_back, from_there, alone}
use Rattle.ge_model_rows.proofs.Form.{IsMade}
use Rattle.ge_model_rows.proofs.Sets.{Within, one_made}
use Rattle.ge_model_rows.proofs.Cuts.{floor, stretched, stretch_end, stretch_numbers}
use Rattle.ge_ranges.specs.Meeting.{next_shared, shared_on, shared_from, shared_by}
use Rattle.ge_ranges.proofs.Multiples.{through, beside}
use Rattle.ge_ranges.proofs.NextShared.{Next, next_some, next_none, or_nothing, and_both, both_true, higher}

module _ (span other : TaskSpan) (made : IsMade span) (too : IsMade other) where
  abbrev bound : ℕ
  bound = min span.last other.last

  -- from a first number that both have
  module _ (first : ℕ) (start : Next span other (span.first - 1) first) where
    here : In first span.first span.last span.step
    here = lies first span.first span.last span.step start.first_has

    there : In first other.first other.last other.step
    there = lies first other.first other.last other.step start.second_has

    from_first : (m : ℕ) → in_span m span ≡ true → in_span m other ≡ true → first ≤ m
    from_first m x y =
        let i = lies m span.first span.last span.step x in
        let p = made.positive in
        start.least m (omega arith) x y

    -- no other
    alone_shared : next_shared span other first ≡ None → (m : ℕ) → in_span m (one first) ≡ (in_span m span && in_span m other)
    alone_shared is m = alone m first 1 ∙ both_ways to from
      where
        to : (m == first) ≡ true → (in_span m span && in_span m other) ≡ true
        to h =
            let same : m ≡ first = eqb-true m first h in
            both_true (ap (λ x. in_span x span) same ∙ start.first_has) (ap (λ x. in_span x other) same ∙ start.second_has)

        from : (in_span m span && in_span m other) ≡ true → (m == first) ≡ true
        from h =
            let both = and_both (in_span m span) (in_span m other) h in
            let least = from_first m both.0 both.1 in
            by (nat_lt first m) refl least both
          where
            by : (more : Bool) → nat_lt first m ≡ more → first ≤ m → (in_span m span ≡ true) × (in_span m other ≡ true) → (m == first) ≡ true
            by true is_more least both =
                let i = here in
                absurd (next_none span other first made too (omega arith) is m (higher first m is_more) both.0 both.1)
            by false is_less least both = grind arith

    -- and a second one: all by their distance
    module _ (second : ℕ) (next : Next span other first second) where
      abbrev distance : ℕ
      distance = second - first

      positive : 1 ≤ distance
      positive = let l = next.above in omega arith

      -- the distance is a multiple of a step that leads from a place to both
      steps_of_both : (a last step : ℕ) → In first a last step → In second a last step → distance % step ≡ 0
      steps_of_both a last step x y = let l = next.above in let i = x.0 in sym (from_there a first second step x.0 (omega arith) x.2) ∙ y.2

      by_span : distance % span.step ≡ 0
      by_span = steps_of_both span.first span.last span.step here (lies second span.first span.last span.step next.first_has)

      by_other : distance % other.step ≡ 0
      by_other = steps_of_both other.first other.last other.step there (lies second other.first other.last other.step next.second_has)

      -- whole distances from the first number lead to shared ones
      reaches : (a last step m : ℕ) → In first a last step → distance % step ≡ 0 → first ≤ m → m ≤ last → (m - first) % distance ≡ 0 → In m a last step
      reaches a last step m x by low high even =
          (let l = x.0 in omega arith, high, from_there a first m step x.0 low x.2 ∙ through (m - first) distance step even by)

      -- what is left of a shared number leads to a shared one
      rest_of : (a last step m rest : ℕ) → In first a last step → distance % step ≡ 0 → In m a last step → first ≤ m → rest ≡ (m - first) % distance
          → In (first + rest) a last step
      rest_of a last step m rest x by inside low is =
          (let l = x.0 in omega arith, let l = inside.1 in let s = split in omega arith, from_there a first (first + rest) step x.0 (omega arith) x.2 ∙ ap (λ x. x % step) back ∙ left)
        where
          e : (m - first) / distance * distance + rest ≡ m - first
          e = ap (λ x. (m - first) / distance * distance + x) is ∙ div-add-mod' (m - first) distance

          back : first + rest - first ≡ rest
          back = omega arith

          skipped : (m - first) / distance * distance % step ≡ 0
          skipped = through ((m - first) / distance * distance) distance step (mul-mod_left ((m - first) / distance) distance) by

          split : rest + (m - first) / distance * distance ≡ m - first
          split = let s = e in omega arith

          left : rest % step ≡ 0
          left = sym (beside rest ((m - first) / distance * distance) step skipped) ∙ ap (λ x. x % step) split
              ∙ sym (from_there a first m step x.0 low x.2) ∙ inside.2

      all_shared : (m : ℕ) → in_span m (raw first bound distance) ≡ (in_span m span && in_span m other)
      all_shared m = both_ways to from
        where
          to : in_span m (raw first bound distance) ≡ true → (in_span m span && in_span m other) ≡ true
          to h =
              let i = lies m first bound distance h in
              let b = i.1 in
              both_true
              (lies_back m span.first span.last span.step (reaches span.first span.last span.step m here by_span i.0 (omega arith) i.2))
              (lies_back m other.first other.last other.step (reaches other.first other.last other.step m there by_other i.0 (omega arith) i.2))

          from : (in_span m span && in_span m other) ≡ true → in_span m (raw first bound distance) ≡ true
          from h = by (and_both (in_span m span) (in_span m other) h)
            where
              rest : ℕ
              rest = (m - first) % distance

              by : (in_span m span ≡ true) × (in_span m other ≡ true) → in_span m (raw first bound distance) ≡ true
              by both =
                  let low = from_first m both.0 both.1 in
                  let x = lies m span.first span.last span.step both.0 in
                  let y = lies m other.first other.last other.step both.1 in
                  let back = lies_back (first + rest) span.first span.last span.step (rest_of span.first span.last span.step m rest here by_span x low refl) in
                  let too_back = lies_back (first + rest) other.first other.last other.step (rest_of other.first other.last other.step m rest there by_other y low refl) in
                  lies_back m first bound distance (low, omega arith, even rest (mod-lt (m - first) positive) back too_back)
                where
                  even : (rest : ℕ) → rest < distance → in_span (first + rest) span ≡ true → in_span (first + rest) other ≡ true → rest ≡ 0
                  even zero small x y = refl
                  even (suc rest) small x y = let l = next.least (first + suc rest) (omega arith) x y in absurd (omega arith)

  -- the numbers of what two spans share
  pub shared_by_numbers : (m : ℕ) → has_number m (shared_by span other) ≡ (in_span m span && in_span m other)
  shared_by_numbers m = by (next_shared span other (span.first - 1)) refl
    where
      low : span.first ≤ span.first - 1 + 1
      low = let p = made.positive in omega arith

      by : (first : Option ℕ) → next_shared span other (span.first - 1) ≡ first → has_number m (shared_from span other first) ≡ (in_span m span && in_span m other)
      by None is = both_ways (λ h. absurd (true≢false (sym h))) (λ h. absurd (none (and_both (in_span m span) (in_span m other) h)))
        where
          none : (in_span m span ≡ true) × (in_span m other ≡ true) → ⊥
          none both =
              let i = lies m span.first span.last span.step both.0 in
              let p = made.positive in
              next_none span other (span.first - 1) made too low is m (omega arith) both.0 both.1
      by (Some first) is = further (next_some span other (span.first - 1) made too low first is) (next_shared span other first) refl
        where
          further : Next span other (span.first - 1) first → (second : Option ℕ) → next_shared span other first ≡ second
              → has_number m (shared_on first bound second) ≡ (in_span m span && in_span m other)
          further start None none = or_nothing (in_span m (one first)) ∙ alone_shared first start none m
          further start (Some second) some =
              let i = here first start in
              let next = next_some span other first made too (omega arith) second some in
              stretch_numbers m first bound (second - first) (positive first start second next) ∙ all_shared first start second next m

  -- and they lie above what both spans lie above, up to where one of them ends
  pub shared_by_within : (low high : ℕ) → (low < span.first) ⊎ (low < other.first) → low ≤ high → min span.last other.last ≤ high → Within low high (shared_by span other)
  shared_by_within low high above p q = by (next_shared span other (span.first - 1)) refl
    where
      passed : (first : ℕ) → (low < span.first) ⊎ (low < other.first) → span.first ≤ first → other.first ≤ first → low < first
      passed first (inl x) a b = omega arith
      passed first (inr x) a b = omega arith

      stretch_within : (first distance : ℕ) → low < first → 1 ≤ first → 1 ≤ distance → (none : Bool) → nat_lt bound first ≡ none
          → Within low high (if none then [] else span_of first (first + floor (bound - first) distance) distance ∷ [])
      stretch_within first distance l o d true is = p
      stretch_within first distance l o d false is =
          let fits : first ≤ bound = grind arith in
          let end = stretch_end first bound distance fits in
          (l, stretched first bound distance o fits d, omega arith)

      by : (first : Option ℕ) → next_shared span other (span.first - 1) ≡ first → Within low high (shared_from span other first)
      by None is = p
      by (Some first) is = further (next_some span other (span.first - 1) made too (let o = made.positive in omega arith) first is) (next_shared span other first) refl
        where
          further : Next span other (span.first - 1) first → (second : Option ℕ) → next_shared span other first ≡ second → Within low high (shared_on first bound second)
          further start None none =
              let i = here first start in
              let j = there first start in
              let o = made.positive in
              (passed first above i.0 j.0, one_made first (omega arith), omega arith)
          further start (Some second) some =
              let i = here first start in
              let j = there first start in
              let o = made.positive in
              let next = next_some span other first made too (omega arith) second some in
              stretch_within first (second - first) (passed first above i.0 j.0) (omega arith) (positive first start second next) (nat_lt bound first) refl
