-- A set beside the list of the same numbers, with one number more.
use Rattle.std.proofs.Common.{◌≡◌, ℕ, ◌==◌, ◌||◌, not, Bool, true, false, cond, List, [], ◌∷◌, ◌++◌, refl, sym, ap, ◌∙◌}
use Rattle.std.specs.Prelude.{if◌then◌else◌}
use Rattle.std.specs.BTreeMap.{is_at}
use Rattle.std.specs.BTreeSet.{BTreeSet, contains}
use Rattle.std.specs.Cmp.{unsigned_ties}
use Rattle.std.specs.Ordering.{nat_cmp}
use Rattle.ge_model_rows.specs.Pieces.{lists_number, with_one_number}

abbrev HasAll : BTreeSet ℕ → List ℕ → Type 0
HasAll seen numbers = (q : ℕ) → contains nat_cmp seen q ≡ lists_number numbers q

at_is : (q m : ℕ) → is_at (nat_cmp q) m ≡ (q == m)
at_is q m = sym (unsigned_ties q m)

one_more : (numbers : List ℕ) (n q : ℕ) → lists_number (numbers ++ n ∷ []) q ≡ cond (n == q) true (lists_number numbers q)
one_more [] n q = flip (n == q)
  where
    flip : (t : Bool) → (t || false) ≡ cond t true false
    flip true = refl
    flip false = refl
one_more (m ∷ numbers) n q = ap (λ (t : Bool). (m == q) || t) (one_more numbers n q) ∙ turn (m == q) (n == q) (lists_number numbers q)
  where
    turn : (x y z : Bool) → (x || cond y true z) ≡ cond y true (x || z)
    turn true true z = refl
    turn true false z = refl
    turn false true z = refl
    turn false false z = refl

-- a number that is new
pub put_new : (old new : BTreeSet ℕ) (numbers : List ℕ) (n : ℕ) → ((q : ℕ) → contains nat_cmp new q ≡ cond (is_at (nat_cmp n) q) true (contains nat_cmp old q)) → HasAll old numbers
    → HasAll new (numbers ++ n ∷ [])
put_new old new numbers n changes has q =
    changes q ∙ ap (λ (t : Bool). cond t true (contains nat_cmp old q)) (at_is n q) ∙ ap (λ (t : Bool). cond (n == q) true t) (has q) ∙ sym (one_more numbers n q)

-- what the list is with a number that is new, or isn't
pub list_new : (old : BTreeSet ℕ) (numbers : List ℕ) (n : ℕ) → HasAll old numbers → not (contains nat_cmp old n) ≡ true → with_one_number numbers n ≡ numbers ++ n ∷ []
list_new old numbers n has new = by (lists_number numbers n) (sym (ap (λ (t : Bool). not t) (has n)) ∙ new)
  where
    by : (t : Bool) → not t ≡ true → (if t then numbers else numbers ++ n ∷ []) ≡ numbers ++ n ∷ []
    by true e = cc
    by false e = refl

pub list_same : (old : BTreeSet ℕ) (numbers : List ℕ) (n : ℕ) → HasAll old numbers → not (contains nat_cmp old n) ≡ false → with_one_number numbers n ≡ numbers
list_same old numbers n has new = by (lists_number numbers n) (sym (ap (λ (t : Bool). not t) (has n)) ∙ new)
  where
    by : (t : Bool) → not t ≡ false → (if t then numbers else numbers ++ n ∷ []) ≡ numbers
    by true e = refl
    by false e = cc
