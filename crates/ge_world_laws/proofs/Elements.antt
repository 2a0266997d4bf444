-- Elements of lists that a function gives, and of tables in which one row is changed or taken out.
use Rattle.std.proofs.Common.{◌≡◌, ◌⊎◌, inl, inr, Less, Equal, Greater, ℕ, ◌+◌, Bool, true, false, cond, List, [], ◌∷◌, ◌++◌, Some, refl, ap, sym, ◌∙◌, subst, arith, true≢false}
use Rattle.std.specs.Prelude.{◌==◌, nat_lt, flat_map, find}
use Rattle.std.specs.BTreeMap.{is_at}
use Rattle.std.specs.Ordering.{nat_cmp, is_eq}
use Rattle.std.proofs.lemmas.Bool.{eq-eqb, le-ltb}
use Rattle.ge_collections.specs.Keyed.{at_number, drop_number}
use Rattle.ge_collections.specs.Changed.{change_value}
use Rattle.ge_model_jobs.specs.Orderly.{KeysFrom}
use Rattle.ge_model_world.specs.Laws.{Has}
use Rattle.ge_model_world.specs.Laws.Has.{here, there}
use Rattle.ge_model_world.proofs.Lists.{has_append, has_left, has_right, first_or, has_same, at_key, key_from}

-- what is found is there, and passes the test
module _ {X : Type 0} where
  pub found_has : {x : X} (test : X → Bool) (xs : List X) → find test xs ≡ Some x → Has x xs × (test x ≡ true)
  found_has test [] is = cc
  found_has {x = x} test (y ∷ xs) is = by (test y) refl (λ is. found_has test xs is) is
    where
      by : (b : Bool) → test y ≡ b → (find test xs ≡ Some x → Has x xs × (test x ≡ true)) → cond b (Some y) (find test xs) ≡ Some x → Has x (y ∷ xs) × (test x ≡ true)
      by true here_is rest is = let same : x ≡ y = cc in (has_same same, ap test same ∙ here_is)
      by false here_is rest is = let r = rest is in (there r.0, r.1)

  -- an element of one of the lists that a function gives is one of all
  pub flat_has : {Y : Type 0} {y : Y} (f : X → List Y) (x : X) (xs : List X) → Has x xs → Has y (f x) → Has y (flat_map f xs)
  flat_has f x [] h g = elim h [ ]
  flat_has {y = y} f x (z ∷ xs) h g = by (first_or h) (λ h. flat_has f x xs h g)
    where
      by : (x ≡ z) ⊎ Has x xs → (Has x xs → Has y (flat_map f xs)) → Has y (f z ++ flat_map f xs)
      by (inl same) rest = has_left (f z) (flat_map f xs) (subst (λ w. Has y (f w)) same g)
      by (inr later) rest = has_right (f z) (flat_map f xs) (rest later)

  pub has_flat : {Y : Type 0} {y : Y} (f : X → List Y) (xs : List X) → Has y (flat_map f xs) → (x : X) × Has x xs × Has y (f x)
  has_flat f [] h = elim h [ ]
  has_flat {y = y} f (x ∷ xs) h = by (has_append (f x) (flat_map f xs) h) (λ h. has_flat f xs h)
    where
      by : Has y (f x) ⊎ Has y (flat_map f xs) → (Has y (flat_map f xs) → (z : X) × Has z xs × Has y (f z)) → (z : X) × Has z (x ∷ xs) × Has y (f z)
      by (inl now) rest = (x, here, now)
      by (inr later) rest = let r = rest later in (r.0, there r.1, r.2)

-- ---- tables

at_self : (n : ℕ) → is_at (nat_cmp n) n ≡ true
at_self n = ap (λ b. is_eq (cond b Less (cond (n == n) Equal Greater))) (irreflexive n) ∙ ap (λ b. is_eq (cond b Equal Greater)) (eq-eqb n n refl)
  where
    irreflexive : (n : ℕ) → nat_lt n n ≡ false
    irreflexive n = le-ltb n n (omega arith)

module _ {X : Type 0} where
  -- a row with another key stays where one is taken out, or changed
  pub drop_has : {row : ℕ × X} (rows : List (ℕ × X)) (n : ℕ) → (row.0 ≡ n → ⊥) → Has row rows → Has row (drop_number rows n)
  drop_has [] n other h = elim h [ ]
  drop_has {row = row} (first ∷ rows) n other h = by (is_at (nat_cmp n) first.0) refl (first_or h) (λ h. drop_has rows n other h)
    where
      by : (b : Bool) → is_at (nat_cmp n) first.0 ≡ b → (row ≡ first) ⊎ Has row rows → (Has row rows → Has row (drop_number rows n)) → Has row (cond b rows (first ∷ drop_number rows n))
      by true at (inl same) rest = absurd (other (ap (λ r. r.0) same ∙ sym (at_key n first.0 at)))
      by true at (inr later) rest = later
      by false at (inl same) rest = has_same same
      by false at (inr later) rest = there (rest later)

  pub change_other : {row : ℕ × X} (f : X → X) (rows : List (ℕ × X)) (n : ℕ) → (row.0 ≡ n → ⊥) → Has row rows → Has row (change_value (is_at (nat_cmp n)) f rows)
  change_other f [] n other h = elim h [ ]
  change_other {row = row} f (first ∷ rows) n other h = by (is_at (nat_cmp n) first.0) refl (first_or h) (λ h. change_other f rows n other h)
    where
      by : (b : Bool) → is_at (nat_cmp n) first.0 ≡ b → (row ≡ first) ⊎ Has row rows → (Has row rows → Has row (change_value (is_at (nat_cmp n)) f rows)) → Has row (cond b ((first.0, f first.1) ∷ rows) (first ∷ change_value (is_at (nat_cmp n)) f rows))
      by true at (inl same) rest = absurd (other (ap (λ r. r.0) same ∙ sym (at_key n first.0 at)))
      by true at (inr later) rest = there later
      by false at (inl same) rest = has_same same
      by false at (inr later) rest = there (rest later)

  -- the row of a key is changed where keys rise
  pub change_there : {v : X} (f : X → X) (low : ℕ) (rows : List (ℕ × X)) (n : ℕ) → KeysFrom low rows → Has (n, v) rows → Has (n, f v) (change_value (is_at (nat_cmp n)) f rows)
  change_there f low [] n keys h = elim h [ ]
  change_there {v = v} f low (first ∷ rows) n keys h = by (is_at (nat_cmp n) first.0) refl (first_or h) (λ h. change_there f (first.0 + 1) rows n keys.1 h)
    where
      by : (b : Bool) → is_at (nat_cmp n) first.0 ≡ b → (◌≡◌ {A = ℕ × X} (n, v) first) ⊎ Has {X = ℕ × X} (n, v) rows → (Has {X = ℕ × X} (n, v) rows → Has {X = ℕ × X} (n, f v) (change_value (is_at (nat_cmp n)) f rows))
          → Has {X = ℕ × X} (n, f v) (cond b ((first.0, f first.1) ∷ rows) (first ∷ change_value (is_at (nat_cmp n)) f rows))
      by true at (inl same) rest = has_same (λ i. ((same i).0, f (same i).1))
      by true at (inr later) rest = let less = key_from (first.0 + 1) rows n v keys.1 later in let key = at_key n first.0 at in absurd (omega (arith, less, key))
      by false at (inl same) rest = absurd (true≢false (sym (at_self n) ∙ ap (λ k. is_at (nat_cmp n) k) (ap (λ r. r.0) same) ∙ at))
      by false at (inr later) rest = there (rest later)

  -- what a table with rising keys has at a key
  pub row_at : (low : ℕ) (rows : List (ℕ × X)) (n : ℕ) (v : X) → KeysFrom low rows → Has (n, v) rows → at_number rows n ≡ Some v
  row_at low [] n v keys h = elim h [ ]
  row_at low (first ∷ rows) n v keys h = by (is_at (nat_cmp n) first.0) refl (first_or h) (λ h. row_at (first.0 + 1) rows n v keys.1 h)
    where
      by : (b : Bool) → is_at (nat_cmp n) first.0 ≡ b → (◌≡◌ {A = ℕ × X} (n, v) first) ⊎ Has {X = ℕ × X} (n, v) rows → (Has {X = ℕ × X} (n, v) rows → at_number rows n ≡ Some v) → cond b (Some first.1) (at_number rows n) ≡ Some v
      by true at (inl same) rest = ap (λ r. Some r.1) (sym same)
      by true at (inr later) rest = let less = key_from (first.0 + 1) rows n v keys.1 later in let key = at_key n first.0 at in absurd (omega (arith, less, key))
      by false at (inl same) rest = absurd (true≢false (sym (at_self n) ∙ ap (λ k. is_at (nat_cmp n) k) (ap (λ r. r.0) same) ∙ at))
      by false at (inr later) rest = rest later
