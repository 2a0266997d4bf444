-- Jobs with one priority come before a bound by their numbers.
use Rattle.std.proofs.Common.{◌≡◌, ℕ, ◌<◌, ◌^◌, true, false, nat_cmp, Less, Equal, Greater, sym, ap, ◌∙◌, arith}
use Rattle.std.specs.Prelude.{nat_lt}
use Rattle.std.specs.Ordering.{is_lt, ordering_then}
use Rattle.ge_model_rows.specs.ScheduleRows.{Prio}
use Rattle.ge_order.specs.Parted.{IsLimit}
use Rattle.ge_order.specs.declared.parting.Bound.{Bound}

lesser : (a b : ℕ) → a < b → nat_cmp a b ≡ Less
lesser a b below = grind (arith, below)

same : (a b : ℕ) → a ≡ b → nat_cmp a b ≡ Equal
same a b is = grind (arith, is)

greater : (a b : ℕ) → b < a → nat_cmp a b ≡ Greater
greater a b above = grind (arith, above)

test : (a b : ℕ) → is_lt (nat_cmp a b) ≡ nat_lt a b
test a b = grind arith

within : (n limit : ℕ) → n < limit → true ≡ nat_lt n limit
within n limit below = grind (arith, below)

nothing : (n : ℕ) → false ≡ nat_lt n 0
nothing n = grind arith

-- those with a greater total do
pub all_before : (bound : Bound) (first : Prio) → (bound.rank.0).0 < first.total → IsLimit bound first (2 ^ 32)
all_before bound first more = λ number small.
    ap (λ o. is_lt (ordering_then o (nat_cmp number bound.rank.1))) (lesser (bound.rank.0).0 first.total more) ∙ within number (2 ^ 32) small

-- those with the same total do where their numbers are below the bound's
pub some_before : (bound : Bound) (first : Prio) → first.total ≡ (bound.rank.0).0 → IsLimit bound first bound.rank.1
some_before bound first is = λ number small.
    ap (λ o. is_lt (ordering_then o (nat_cmp number bound.rank.1))) (same (bound.rank.0).0 first.total (sym is)) ∙ test number bound.rank.1

-- those with a lesser total don't
pub none_before : (bound : Bound) (first : Prio) → first.total < (bound.rank.0).0 → IsLimit bound first 0
none_before bound first less = λ number small.
    ap (λ o. is_lt (ordering_then o (nat_cmp number bound.rank.1))) (greater (bound.rank.0).0 first.total less) ∙ nothing number
