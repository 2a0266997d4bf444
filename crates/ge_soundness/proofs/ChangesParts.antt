-- Lists from which some items are left out.
use Rattle.std.proofs.Common.{◌≡◌, ℕ, Bool, true, false, cond, List, [], ◌∷◌, ◌++◌, filter}
use Rattle.std.specs.Prelude.{nat_eq, map}
use Rattle.std.specs.List.{AllByRecursion, IsDistinct}
use Rattle.std.specs.Map.{remove_entry}

-- the second list is the first one, with some items left out
pub data IsPart {X : Type 0} : List X → List X → Type 0 where
  none : IsPart [] []
  same : {x : X} {xs ys : List X} → IsPart xs ys → IsPart (x ∷ xs) (x ∷ ys)
  less : {x : X} {xs ys : List X} → IsPart xs ys → IsPart (x ∷ xs) ys

module _ {X : Type 0} where
  -- nothing is left out
  pub part_all : (xs : List X) → IsPart xs xs
  part_all [] = none
  part_all (x ∷ xs) = same (part_all xs)

  -- items are left out, and then more of them
  pub part_then : {xs ys zs : List X} → IsPart xs ys → IsPart ys zs → IsPart xs zs
  part_then none q = q
  part_then (same p) (same q) = same (part_then p q)
  part_then (same p) (less q) = less (part_then p q)
  part_then (less p) q = less (part_then p q)

  -- items are left out of each of two lists
  pub part_append : {xs ys us vs : List X} → IsPart xs ys → IsPart us vs → IsPart (xs ++ us) (ys ++ vs)
  part_append none q = q
  part_append (same p) q = same (part_append p q)
  part_append (less p) q = less (part_append p q)

  -- a list is left out in front
  pub part_behind : {us vs : List X} (xs : List X) → IsPart us vs → IsPart (xs ++ us) vs
  part_behind [] q = q
  part_behind (x ∷ xs) q = less (part_behind xs q)

  -- items that fail a test are left out
  pub part_filter : (test : X → Bool) (xs : List X) → IsPart xs (filter test xs)
  part_filter test [] = none
  part_filter test (x ∷ xs) = by (test x) (part_filter test xs)
    where
      by : (fits : Bool) → IsPart xs (filter test xs) → IsPart (x ∷ xs) (cond fits (x ∷ filter test xs) (filter test xs))
      by true again = same again
      by false again = less again

  -- a fact of each item that there was
  pub part_facts : (P : X → Type 0) {xs ys : List X} → IsPart xs ys → AllByRecursion P xs → AllByRecursion P ys
  part_facts P none a = a
  part_facts P (same p) a = (a.0, part_facts P p a.1)
  part_facts P (less p) a = part_facts P p a.1

-- of each item what a function gives
pub part_map : {X Y : Type 0} (f : X → Y) {xs ys : List X} → IsPart xs ys → IsPart (map f xs) (map f ys)
part_map f none = none
part_map f (same p) = same (part_map f p)
part_map f (less p) = less (part_map f p)

-- a key is taken out of a table
pub part_removed : {K X : Type 0} (test : K → Bool) (rows : List (K × X)) → IsPart rows (remove_entry test rows)
part_removed test [] = none
part_removed test (row ∷ rows) = by (test row.0) (part_removed test rows)
  where
    by : (here : Bool) → IsPart rows (remove_entry test rows) → IsPart (row ∷ rows) (cond here rows (row ∷ remove_entry test rows))
    by true again = less (part_all rows)
    by false again = same again

-- numbers that differ still do with some left out
pub part_distinct : {xs ys : List ℕ} → IsPart xs ys → IsDistinct nat_eq xs → IsDistinct nat_eq ys
unfolding IsDistinct
part_distinct none d = d
part_distinct (same {x = x} p) d = (part_facts (λ y. nat_eq x y ≡ false) p d.0, part_distinct p d.1)
part_distinct (less p) d = part_distinct p d.1
