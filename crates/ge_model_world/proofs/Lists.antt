-- Elements of lists.
use Rattle.std.proofs.Common.{◌≡◌, ◌⊎◌, inl, inr, ⊎_elim, Less, Equal, Greater, ℕ, zero, suc, ◌+◌, ◌≤◌, Bool, true, false, cond, List, [], ◌∷◌, ◌++◌, map, length, take, Some, refl, ap, sym, ◌∙◌, subst, arith}
use Rattle.std.specs.Prelude.{◌==◌, ◌||◌, nat_eq, nat_lt, slice_get, slice_set, filter}
use Rattle.std.specs.List.{AllByRecursion, IsDistinct, list_any}
use Rattle.std.specs.BTreeMap.{is_at}
use Rattle.std.specs.Ordering.{nat_cmp, match_ordering, is_eq}
use Rattle.std.proofs.lemmas.Bool.{eqb-true, ne_eqb, eq-eqb, true≢false, false≢true}
use Rattle.ge_collections.specs.Keyed.{at_number, put_number, drop_number}
use Rattle.ge_collections.specs.Changed.{change_value}
use Rattle.ge_model_jobs.specs.Orderly.{KeysFrom}
use Rattle.ge_model_world.specs.Laws.{Has}
use Rattle.ge_model_world.specs.Laws.Has.{here, there}

module _ {X : Type 0} where
  pub has_append : {x : X} (xs ys : List X) → Has x (xs ++ ys) → Has x xs ⊎ Has x ys
  has_append [] ys h = inr h
  has_append (y ∷ xs) ys here = inl here
  has_append {x = x} (y ∷ xs) ys (there h) = by (has_append xs ys h)
    where
      by : Has x xs ⊎ Has x ys → Has x (y ∷ xs) ⊎ Has x ys
      by (inl p) = inl (there p)
      by (inr p) = inr p

  pub has_left : {x : X} (xs ys : List X) → Has x xs → Has x (xs ++ ys)
  has_left [] ys h = elim h [ ]
  has_left (y ∷ xs) ys here = here
  has_left (y ∷ xs) ys (there h) = there (has_left xs ys h)

  pub has_none : {x : X} → Has x [] → ⊥
  has_none h = elim h [ ]

  pub has_one : {x y : X} → Has x (y ∷ []) → x ≡ y
  has_one here = refl
  has_one (there h) = absurd (has_none h)

  -- an element of a list is its first one, or one behind it
  pub first_or : {x y : X} {ys : List X} → Has x (y ∷ ys) → (x ≡ y) ⊎ Has x ys
  first_or here = inl refl
  first_or (there h) = inr h

  pub has_same : {x y : X} {ys : List X} → x ≡ y → Has x (y ∷ ys)
  has_same {x = x} {y = y} {ys = ys} same = subst (λ z. Has x (z ∷ ys)) same here

  pub has_right : {x : X} (xs ys : List X) → Has x ys → Has x (xs ++ ys)
  has_right [] ys h = h
  has_right (y ∷ xs) ys h = there (has_right xs ys h)

  -- an element at a place
  pub has_at : {x : X} (xs : List X) (k : ℕ) → slice_get xs k ≡ Some x → Has x xs
  has_at [] k is = cc
  has_at {x = x} (y ∷ xs) zero is = let same : y ≡ x = cc in subst (λ z. Has z (y ∷ xs)) same here
  has_at (y ∷ xs) (suc k) is = there (has_at xs k is)

  pub get_left : {x : X} (xs ys : List X) (k : ℕ) → slice_get xs k ≡ Some x → slice_get (xs ++ ys) k ≡ Some x
  get_left [] ys k is = cc
  get_left (y ∷ xs) ys zero is = is
  get_left (y ∷ xs) ys (suc k) is = get_left xs ys k is

  pub get_last : (xs : List X) (x : X) → slice_get (xs ++ x ∷ []) (length xs) ≡ Some x
  get_last [] x = refl
  get_last (y ∷ xs) x = get_last xs x

  pub get_set_same : {y : X} (xs : List X) (k : ℕ) (x : X) → slice_get xs k ≡ Some y → slice_get (slice_set xs k x) k ≡ Some x
  get_set_same [] k x is = cc
  get_set_same (y ∷ xs) zero x is = refl
  get_set_same (y ∷ xs) (suc k) x is = get_set_same xs k x is

  pub get_set_other : (xs : List X) (k j : ℕ) (x : X) → (k ≡ j → ⊥) → slice_get (slice_set xs k x) j ≡ slice_get xs j
  get_set_other [] k j x other = refl
  get_set_other (y ∷ xs) zero zero x other = absurd (other refl)
  get_set_other (y ∷ xs) zero (suc j) x other = refl
  get_set_other (y ∷ xs) (suc k) zero x other = refl
  get_set_other (y ∷ xs) (suc k) (suc j) x other = get_set_other xs k j x (λ same. other (ap suc same))

  -- what stands at a place after one was set
  pub get_set : {y : X} (xs : List X) (k j : ℕ) (x : X) → slice_get (slice_set xs k x) j ≡ Some y → ((j ≡ k) × (y ≡ x)) ⊎ (slice_get xs j ≡ Some y)
  get_set [] k j x is = inr is
  get_set (z ∷ xs) zero zero x is = inl (refl, cc)
  get_set (z ∷ xs) zero (suc j) x is = inr is
  get_set (z ∷ xs) (suc k) zero x is = inr is
  get_set (z ∷ xs) (suc k) (suc j) x is = ⊎_elim (λ same. inl (ap suc same.0, same.1)) (λ other. inr other) (get_set xs k j x is)

  -- an element that a test passes
  pub has_filter : {x : X} (test : X → Bool) (xs : List X) → Has x (filter test xs) → Has x xs × (test x ≡ true)
  has_filter test [] h = absurd (has_none h)
  has_filter {x = x} test (y ∷ xs) h = by (test y) refl (λ h. has_filter test xs h) h
    where
      by : (b : Bool) → test y ≡ b → (Has x (filter test xs) → Has x xs × (test x ≡ true)) → Has x (cond b (y ∷ filter test xs) (filter test xs)) → Has x (y ∷ xs) × (test x ≡ true)
      by true is rest h = ⊎_elim (λ same. (has_same same, ap test same ∙ is)) (λ h. (there (rest h).0, (rest h).1)) (first_or h)
      by false is rest h = (there (rest h).0, (rest h).1)

module _ {X : Type 0} where
  pub filter_has : {x : X} (test : X → Bool) (xs : List X) → Has x xs → test x ≡ true → Has x (filter test xs)
  filter_has test [] h is = elim h [ ]
  filter_has {x = x} test (y ∷ xs) h is = by (test y) refl (λ h. filter_has test xs h is)
    where
      by : (b : Bool) → test y ≡ b → (Has x xs → Has x (filter test xs)) → Has x (cond b (y ∷ filter test xs) (filter test xs))
      by true here_is rest = ⊎_elim (λ same. has_same same) (λ later. there (rest later)) (first_or h)
      by false here_is rest = ⊎_elim (λ same. absurd (true≢false (sym is ∙ ap test same ∙ here_is))) (λ later. rest later) (first_or h)

module _ {X Y : Type 0} (f : X → Y) where
  pub map_has : {x : X} (xs : List X) → Has x xs → Has (f x) (map f xs)
  map_has [] h = elim h [ ]
  map_has (y ∷ xs) here = here
  map_has (y ∷ xs) (there h) = there (map_has xs h)

  pub has_map : {y : Y} (xs : List X) → Has y (map f xs) → (x : X) × Has x xs × (f x ≡ y)
  has_map [] h = absurd (has_none h)
  has_map {y = y} (x ∷ xs) h = by (f x) refl (λ h. has_map xs h) h
    where
      by : (z : Y) → f x ≡ z → (Has y (map f xs) → (w : X) × Has w xs × (f w ≡ y)) → Has y (z ∷ map f xs) → (w : X) × Has w (x ∷ xs) × (f w ≡ y)
      by z is rest here = (x, here, is)
      by z is rest (there h) = let r = rest h in (r.0, there r.1, r.2)

  pub map_append : (xs ys : List X) → map f (xs ++ ys) ≡ map f xs ++ map f ys
  map_append [] ys = refl
  map_append (x ∷ xs) ys = ap (λ zs. f x ∷ zs) (map_append xs ys)

-- ---- numbers

pub any_has : (n : ℕ) (ns : List ℕ) → Has n ns → list_any (λ m. m == n) ns ≡ true
any_has n [] h = elim h [ ]
any_has n (m ∷ ns) here = ap (λ b. b || list_any (λ k. k == n) ns) (eq-eqb n n refl)
any_has n (m ∷ ns) (there h) = by (m == n) (any_has n ns h)
  where
    by : (b : Bool) → list_any (λ k. k == n) ns ≡ true → (b || list_any (λ k. k == n) ns) ≡ true
    by true rest = refl
    by false rest = rest

-- a number that no element is
pub no_other : (n : ℕ) (ns : List ℕ) → (Has n ns → ⊥) → AllByRecursion (λ m. nat_eq n m ≡ false) ns
no_other n [] never = tt
no_other n (m ∷ ns) never = (ne_eqb n m (λ same. never (subst (λ k. Has n (k ∷ ns)) same here)), no_other n ns (λ h. never (there h)))

pub all_has : (n : ℕ) (ns : List ℕ) → AllByRecursion (λ m. nat_eq n m ≡ false) ns → Has n ns → ⊥
all_has n [] all h = elim h [ ]
all_has n (m ∷ ns) all here = true≢false (sym (eq-eqb n n refl) ∙ all.0)
all_has n (m ∷ ns) all (there h) = all_has n ns all.1 h

module _ where
  -- numbers that differ, before others that differ, with none in both
  pub distinct_append : (xs ys : List ℕ) → IsDistinct nat_eq xs → IsDistinct nat_eq ys → ((n : ℕ) → Has n xs → Has n ys → ⊥) → IsDistinct nat_eq (xs ++ ys)
  unfolding IsDistinct
  distinct_append [] ys one two apart = two
  distinct_append (x ∷ xs) ys one two apart =
      (no_other x (xs ++ ys) (λ h. by (has_append xs ys h)), distinct_append xs ys one.1 two (λ n left right. apart n (there left) right))
    where
      by : Has x xs ⊎ Has x ys → ⊥
      by (inl left) = all_has x xs one.0 left
      by (inr right) = apart x here right

  -- a front of numbers that differ
  pub has_take : (k : ℕ) (xs : List ℕ) (n : ℕ) → Has n (take k xs) → Has n xs
  has_take zero xs n h = elim h [ ]
  has_take (suc k) [] n h = elim h [ ]
  has_take (suc k) (x ∷ xs) n h = ⊎_elim (λ same. has_same same) (λ later. there (has_take k xs n later)) (first_or h)

  pub distinct_take : (k : ℕ) (xs : List ℕ) → IsDistinct nat_eq xs → IsDistinct nat_eq (take k xs)
  unfolding IsDistinct
  distinct_take zero xs one = tt
  distinct_take (suc k) [] one = tt
  distinct_take (suc k) (x ∷ xs) one = (no_other x (take k xs) (λ h. all_has x xs one.0 (has_take k xs x h)), distinct_take k xs one.1)

  pub distinct_none : IsDistinct nat_eq []
  unfolding IsDistinct
  distinct_none = tt

  -- numbers that differ, of which some are left out
  pub distinct_filter : (test : ℕ → Bool) (xs : List ℕ) → IsDistinct nat_eq xs → IsDistinct nat_eq (filter test xs)
  unfolding IsDistinct
  distinct_filter test [] one = tt
  distinct_filter test (x ∷ xs) one = by (test x) (distinct_filter test xs one.1)
    where
      by : (b : Bool) → IsDistinct nat_eq (filter test xs) → IsDistinct nat_eq (cond b (x ∷ filter test xs) (filter test xs))
      by true rest = (no_other x (filter test xs) (λ h. all_has x xs one.0 (has_filter test xs h).0), rest)
      by false rest = rest

  -- one value alone for each key, where the keys differ
  pub one_value : {Y : Type 0} (rows : List (ℕ × Y)) (key : ℕ) (v w : Y) → IsDistinct nat_eq (map (λ row. row.0) rows) → Has (key, v) rows → Has (key, w) rows → v ≡ w
  unfolding IsDistinct
  one_value [] key v w one h g = elim h [ ]
  one_value {Y = Y} (row ∷ rows) key v w one h g = by (first_or h) (first_or g) (λ h g. one_value rows key v w one.1 h g)
    where
      apart : (u : Y) → key ≡ row.0 → Has (key, u) rows → ⊥
      apart u same h = all_has row.0 (map (λ row. row.0) rows) one.0 (subst (λ k. Has k (map (λ row. row.0) rows)) same (map_has (λ row. row.0) rows h))

      by : ((key, v) ≡ row) ⊎ Has (key, v) rows → ((key, w) ≡ row) ⊎ Has (key, w) rows → (Has (key, v) rows → Has (key, w) rows → v ≡ w) → v ≡ w
      by (inl p) (inl q) rest = ap (λ r. r.1) p ∙ sym (ap (λ r. r.1) q)
      by (inl p) (inr h) rest = absurd (apart w (ap (λ r. r.0) p) h)
      by (inr h) (inl q) rest = absurd (apart v (ap (λ r. r.0) q) h)
      by (inr h) (inr g) rest = rest h g

-- ---- tables by number

pub at_key : (n k : ℕ) → is_at (nat_cmp n) k ≡ true → n ≡ k
at_key n k is = by (nat_lt n k) (n == k) refl is
  where
    by : (lt eq : Bool) → (n == k) ≡ eq → is_eq (cond lt Less (cond eq Equal Greater)) ≡ true → n ≡ k
    by true eq same is = absurd (false≢true is)
    by false true same is = eqb-true n k same
    by false false same is = absurd (false≢true is)

module _ {X : Type 0} where
  -- what a table has at a number is one of its rows
  pub has_row : (rows : List (ℕ × X)) (n : ℕ) {v : X} → at_number rows n ≡ Some v → Has (n, v) rows
  has_row [] n is = cc
  has_row (row ∷ rows) n {v = v} is = by (is_at (nat_cmp n) row.0) refl (λ is. has_row rows n is) is
    where
      by : (b : Bool) → is_at (nat_cmp n) row.0 ≡ b → (at_number rows n ≡ Some v → Has (n, v) rows) → cond b (Some row.1) (at_number rows n) ≡ Some v → Has (n, v) (row ∷ rows)
      by true test rest is =
          let key : n ≡ row.0 = at_key n row.0 test in
          let value : row.1 ≡ v = cc in
          subst (λ one. Has one (row ∷ rows)) (λ i. (sym key i, value i)) here
      by false test rest is = there (rest is)

  -- a row of a table with one more is one of its rows, or the new one
  pub has_put : {row : ℕ × X} (rows : List (ℕ × X)) (n : ℕ) (v : X) → Has row (put_number rows n v) → Has row rows ⊎ (row ≡ (n, v))
  has_put [] n v h = inr (has_one h)
  has_put {row = row} (first ∷ rows) n v h = by (nat_lt n first.0) (n == first.0) refl (λ h. has_put rows n v h) h
    where
      later : Has row rows ⊎ (row ≡ (n, v)) → Has row (first ∷ rows) ⊎ (row ≡ (n, v))
      later (inl h) = inl (there h)
      later (inr is) = inr is

      by : (lt eq : Bool) → (n == first.0) ≡ eq → (Has row (put_number rows n v) → Has row rows ⊎ (row ≡ (n, v))) → Has row (match_ordering (cond lt Less (cond eq Equal Greater)) ((n, v) ∷ first ∷ rows) ((first.0, v) ∷ rows) (first ∷ put_number rows n v))
          → Has row (first ∷ rows) ⊎ (row ≡ (n, v))
      by true eq same rest h = ⊎_elim (λ is. inr is) (λ h. inl h) (first_or h)
      by false true same rest h = ⊎_elim (λ is. inr (is ∙ (λ i. (sym (eqb-true n first.0 same) i, v)))) (λ h. inl (there h)) (first_or h)
      by false false same rest h = ⊎_elim (λ is. inl (has_same is)) (λ h. later (rest h)) (first_or h)

  -- a row of a table without a number
  pub has_drop : {row : ℕ × X} (rows : List (ℕ × X)) (n : ℕ) → Has row (drop_number rows n) → Has row rows
  has_drop [] n h = h
  has_drop {row = row} (first ∷ rows) n h = by (is_at (nat_cmp n) first.0) (λ h. has_drop rows n h) h
    where
      by : (b : Bool) → (Has row (drop_number rows n) → Has row rows) → Has row (cond b rows (first ∷ drop_number rows n)) → Has row (first ∷ rows)
      by true rest h = there h
      by false rest h = ⊎_elim (λ is. has_same is) (λ h. there (rest h)) (first_or h)

  pub key_from : (low : ℕ) (rows : List (ℕ × X)) (n : ℕ) (v : X) → KeysFrom low rows → Has (n, v) rows → low ≤ n
  key_from low [] n v keys h = elim h [ ]
  key_from low (row ∷ rows) n v keys h = by (first_or h) (λ h. key_from (row.0 + 1) rows n v keys.1 h)
    where
      by : (◌≡◌ {A = ℕ × X} (n, v) row) ⊎ Has {X = ℕ × X} (n, v) rows → (Has {X = ℕ × X} (n, v) rows → row.0 + 1 ≤ n) → low ≤ n
      by (inl is) rest = let same : n ≡ row.0 = ap (λ r. r.0) is in omega (arith, same, keys.0)
      by (inr h) rest = let more = rest h in omega (arith, more, keys.0)

  -- a key has one row
  pub one_row : (low : ℕ) (rows : List (ℕ × X)) (n : ℕ) (v w : X) → KeysFrom low rows → Has (n, v) rows → Has (n, w) rows → v ≡ w
  one_row low [] n v w keys h g = elim h [ ]
  one_row low (row ∷ rows) n v w keys h g = by (first_or h) (first_or g) (λ h g. one_row (row.0 + 1) rows n v w keys.1 h g)
    where
      apart : (u : X) → n ≡ row.0 → Has {X = ℕ × X} (n, u) rows → ⊥
      apart u same h = let more = key_from (row.0 + 1) rows n u keys.1 h in absurd (omega (arith, more, same))

      by : (◌≡◌ {A = ℕ × X} (n, v) row) ⊎ Has {X = ℕ × X} (n, v) rows → (◌≡◌ {A = ℕ × X} (n, w) row) ⊎ Has {X = ℕ × X} (n, w) rows
          → (Has {X = ℕ × X} (n, v) rows → Has {X = ℕ × X} (n, w) rows → v ≡ w) → v ≡ w
      by (inl p) (inl q) rest = ap (λ r. r.1) p ∙ sym (ap (λ r. r.1) q)
      by (inl p) (inr h) rest = absurd (apart w (ap (λ r. r.0) p) h)
      by (inr h) (inl q) rest = absurd (apart v (ap (λ r. r.0) q) h)
      by (inr h) (inr g) rest = rest h g

  -- a row of a table in which one value was changed
  pub has_change : (test : ℕ → Bool) (f : X → X) (rows : List (ℕ × X)) (n : ℕ) (v : X) → Has (n, v) (change_value test f rows)
      → Has {X = ℕ × X} (n, v) rows ⊎ ((u : X) × Has {X = ℕ × X} (n, u) rows × (v ≡ f u))
  has_change test f [] n v h = elim h [ ]
  has_change test f (row ∷ rows) n v h = by (test row.0) (λ h. has_change test f rows n v h) h
    where
      later : Has {X = ℕ × X} (n, v) rows ⊎ ((u : X) × Has {X = ℕ × X} (n, u) rows × (v ≡ f u)) → Has {X = ℕ × X} (n, v) (row ∷ rows) ⊎ ((u : X) × Has {X = ℕ × X} (n, u) (row ∷ rows) × (v ≡ f u))
      later (inl h) = inl (there h)
      later (inr c) = inr (c.0, there c.1, c.2)

      here_is : (◌≡◌ {A = ℕ × X} (n, v) (row.0, f row.1)) → Has {X = ℕ × X} (n, v) (row ∷ rows) ⊎ ((u : X) × Has {X = ℕ × X} (n, u) (row ∷ rows) × (v ≡ f u))
      here_is is = inr (row.1, has_same (λ i. ((is i).0, row.1)), ap (λ r. r.1) is)

      by : (b : Bool) → (Has {X = ℕ × X} (n, v) (change_value test f rows) → Has {X = ℕ × X} (n, v) rows ⊎ ((u : X) × Has {X = ℕ × X} (n, u) rows × (v ≡ f u)))
          → Has {X = ℕ × X} (n, v) (cond b ((row.0, f row.1) ∷ rows) (row ∷ change_value test f rows)) → Has {X = ℕ × X} (n, v) (row ∷ rows) ⊎ ((u : X) × Has {X = ℕ × X} (n, u) (row ∷ rows) × (v ≡ f u))
      by true rest h = ⊎_elim (λ is. here_is is) (λ h. inl (there h)) (first_or h)
      by false rest h = ⊎_elim (λ is. inl (has_same is)) (λ h. later (rest h)) (first_or h)

  pub change_rises : (low : ℕ) (test : ℕ → Bool) (f : X → X) (rows : List (ℕ × X)) → KeysFrom low rows → KeysFrom low (change_value test f rows)
  change_rises low test f [] keys = tt
  change_rises low test f (row ∷ rows) keys = by (test row.0) (change_rises (row.0 + 1) test f rows keys.1)
    where
      by : (b : Bool) → KeysFrom (row.0 + 1) (change_value test f rows) → KeysFrom low (cond b ((row.0, f row.1) ∷ rows) (row ∷ change_value test f rows))
      by true rest = keys
      by false rest = (keys.0, rest)
