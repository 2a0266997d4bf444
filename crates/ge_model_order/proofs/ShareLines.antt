-- Amounts put along lines: a node has what the rule adds up for it.
use Rattle.std.proofs.Common.{◌≡◌, refl, ap, sym, ◌∙◌}
use Rattle.std.specs.Prelude.{ℕ, Bool, true, false, nat_eq, ◌==◌, ◌||◌, cond, List, [], ◌∷◌, fold, refl as same}
use mathlib.Core.Bool.{true≢false}
use native.Mathlib.Omega.{arith}
use borrow.Author.Tests.{eqb-true}
use Rattle.std.specs.List.{AllByRecursion, IsDistinct}
use Rattle.std.specs.Cmp.{unsigned_ties}
use Rattle.ge_base.specs.Fixed.{cut_sum}
use Rattle.ge_model_order.specs.Amounts.{cut_total}
use Rattle.ge_model_order.specs.ShareRule.{Charge, charged_at}
use Rattle.ge_model_order.specs.ShareTables.{amount_at, raised_amount, raised_along}
use Rattle.ge_model_rows.specs.Pieces.{lists_number}
use Rattle.ge_model_order.proofs.ShareTotals.{AreCut, none_cut, raised_at, raised_cut}

along_cut : (ids : List ℕ) (rows : List (ℕ × ℕ)) (amount : ℕ) → AreCut rows → AreCut (raised_along rows ids amount)
along_cut [] rows amount cut = cut
along_cut (id ∷ ids) rows amount cut = along_cut ids (raised_amount amount rows id) amount (raised_cut rows id amount cut)

same_id : (a b : ℕ) → (a == b) ≡ true → a ≡ b
same_id a b e = eqb-true a b e

none_of : (id : ℕ) (ids : List ℕ) → AllByRecursion (λ y. nat_eq id y ≡ false) ids → lists_number ids id ≡ false
none_of id [] all = refl
none_of id (other ∷ ids) all = by (other == id) same (none_of id ids all.1)
  where
    by : (b : Bool) → (other == id) ≡ b → lists_number ids id ≡ false → (b || lists_number ids id) ≡ false
    by true is later = absurd (true≢false (sym is ∙ ap (λ (n : ℕ). nat_eq other n) (sym (same_id other id is)) ∙ ap (λ (n : ℕ). nat_eq n other) (same_id other id is) ∙ all.0))
    by false is later = later

-- each node of a line of different nodes has the amount once
along_at : (ids : List ℕ) (rows : List (ℕ × ℕ)) (amount q : ℕ) → AreCut rows → IsDistinct nat_eq ids
    → amount_at (raised_along rows ids amount) q ≡ cut_sum (amount_at rows q) (cond (lists_number ids q) amount 0)
unfolding IsDistinct
along_at [] rows amount q cut apart = let least = cut q in omega arith
along_at (id ∷ ids) rows amount q cut apart =
    along_at ids (raised_amount amount rows id) amount q (raised_cut rows id amount cut) apart.1
    ∙ ap (λ (n : ℕ). cut_sum n (cond (lists_number ids q) amount 0)) (raised_at rows id q amount cut ∙ ap (λ (b : Bool). cut_sum (amount_at rows q) (cond b amount 0)) (sym (unsigned_ties id q)))
    ∙ by (id == q) same (lists_number ids q) same
  where
    by : (b : Bool) → (id == q) ≡ b → (d : Bool) → lists_number ids q ≡ d → cut_sum (cut_sum (amount_at rows q) (cond b amount 0)) (cond d amount 0) ≡ cut_sum (amount_at rows q) (cond (b || d) amount 0)
    by true is true has = absurd (true≢false (sym has ∙ ap (λ (n : ℕ). lists_number ids n) (sym (same_id id q is)) ∙ none_of id ids apart.0))
    by true is false has = let least = cut q in omega arith
    by false is true has = let least = cut q in omega arith
    by false is false has = let least = cut q in omega arith

-- amounts put along lines one after the other: at each node what is charged there
pub charged_along : (charges : List Charge) (rows : List (ℕ × ℕ)) (q : ℕ) → AreCut rows → AllByRecursion (λ charge. IsDistinct nat_eq charge.nodes) charges
    → amount_at (fold (λ rows charge. raised_along rows charge.nodes charge.amount) rows charges) q ≡ fold (λ total charge. cut_sum total (charged_at q charge)) (amount_at rows q) charges
charged_along [] rows q cut apart = refl
charged_along (charge ∷ charges) rows q cut apart =
    charged_along charges (raised_along rows charge.nodes charge.amount) q (along_cut charge.nodes rows charge.amount cut) apart.1
    ∙ ap (λ (n : ℕ). fold (λ total charge. cut_sum total (charged_at q charge)) n charges) (along_at charge.nodes rows charge.amount q cut apart.0)

-- so the usage of a node is what the rule adds up of all charges
pub charged_along-total : (charges : List Charge) (q : ℕ) → AllByRecursion (λ charge. IsDistinct nat_eq charge.nodes) charges
    → amount_at (fold (λ rows charge. raised_along rows charge.nodes charge.amount) [] charges) q ≡ cut_total (charged_at q) charges
charged_along-total charges q apart = charged_along charges [] q none_cut apart
