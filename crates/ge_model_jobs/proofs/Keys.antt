-- Tables by number: which keys they have after a row is put in, taken out, or left out.
use Rattle.std.proofs.Common.{◌≡◌, ℕ, ◌+◌, ◌≤◌, ◌<◌, ◌==◌, ◌&&◌, ◌||◌, Bool, true, false, not, cond, List, [], ◌∷◌, filter, find, Option, Some, None, is_some, refl, sym, ap, ◌∙◌, arith, nat_cmp, Ordering, Less, Equal, Greater}
use Rattle.std.specs.BTreeMap.{is_at}
use Rattle.std.specs.Ordering.{is_eq, match_ordering}
use Rattle.std.proofs.lemmas.Bool.{eqb-true, eq-eqb, ne_eqb, true≢false}
use Rattle.ge_collections.specs.Keyed.{at_number, put_number, drop_number}
use Rattle.ge_model_jobs.specs.Orderly.{has_key, KeysFrom}

key_less : (x y : ℕ) → nat_cmp x y ≡ Less → x < y
key_less x y h = grind arith

key_equal : (x y : ℕ) → nat_cmp x y ≡ Equal → x ≡ y
key_equal x y h = grind arith

key_greater : (x y : ℕ) → nat_cmp x y ≡ Greater → y < x
key_greater x y h = grind arith

swapped : (a b c : Bool) → (a || (b || c)) ≡ (b || (a || c))
swapped a b c = grind arith

twice : (a b : Bool) → (a || b) ≡ (a || (a || b))
twice a b = grind arith

pub same_key : (n m : ℕ) → is_eq (nat_cmp n m) ≡ (n == m)
same_key n m = grind arith

module _ {X : Type 0} where
  pub keys_lower : (low high : ℕ) (rows : List (ℕ × X)) → low ≤ high → KeysFrom high rows → KeysFrom low rows
  keys_lower low high [] p keys = tt
  keys_lower low high (row ∷ rows) p (above, keys) = (omega arith, keys)

  -- a key of a table isn't below the first
  pub key_above : (n low : ℕ) (rows : List (ℕ × X)) → KeysFrom low rows → has_key n rows ≡ true → low ≤ n
  key_above n low [] keys has = absurd (true≢false (sym has))
  key_above n low (row ∷ rows) (above, keys) has = by (n == row.0) refl has (key_above n (row.0 + 1) rows keys)
    where
      by : (here : Bool) → (n == row.0) ≡ here → (here || has_key n rows) ≡ true → (has_key n rows ≡ true → row.0 + 1 ≤ n) → low ≤ n
      by true is has again = let e = eqb-true n row.0 is in omega arith
      by false is has again = let l = again has in omega arith

  -- a row is put in at a key
  pub put_keys : (n key : ℕ) (rows : List (ℕ × X)) (x : X) → has_key n (put_number rows key x) ≡ (n == key || has_key n rows)
  put_keys n key [] x = refl
  put_keys n key (row ∷ rows) x = by (nat_cmp key row.0) refl (put_keys n key rows x)
    where
      by : (order : Ordering) → nat_cmp key row.0 ≡ order → has_key n (put_number rows key x) ≡ (n == key || has_key n rows)
          → has_key n (match_ordering order ((key, x) ∷ row ∷ rows) ((row.0, x) ∷ rows) (row ∷ put_number rows key x)) ≡ (n == key || has_key n (row ∷ rows))
      by Less is again = refl
      by Equal is again = twice (n == row.0) (has_key n rows) ∙ ap (λ z. (n == z) || (n == row.0 || has_key n rows)) (sym (key_equal key row.0 is))
      by Greater is again = ap (λ z. n == row.0 || z) again ∙ swapped (n == row.0) (n == key) (has_key n rows)

  pub put_rises : (low key : ℕ) (rows : List (ℕ × X)) (x : X) → low ≤ key → KeysFrom low rows → KeysFrom low (put_number rows key x)
  put_rises low key [] x p keys = (p, tt)
  put_rises low key (row ∷ rows) x p (above, keys) = by (nat_cmp key row.0) refl (put_rises (row.0 + 1) key rows x)
    where
      by : (order : Ordering) → nat_cmp key row.0 ≡ order → (row.0 + 1 ≤ key → KeysFrom (row.0 + 1) rows → KeysFrom (row.0 + 1) (put_number rows key x))
          → KeysFrom low (match_ordering order ((key, x) ∷ row ∷ rows) ((row.0, x) ∷ rows) (row ∷ put_number rows key x))
      by Less is again = let l = key_less key row.0 is in (p, (omega arith, keys))
      by Equal is again = (above, keys)
      by Greater is again = let l = key_greater key row.0 is in (above, again (omega arith) keys)

  -- a key is taken out
  pub drop_keys : (n key low : ℕ) (rows : List (ℕ × X)) → KeysFrom low rows → has_key n (drop_number rows key) ≡ (has_key n rows && not (n == key))
  drop_keys n key low [] keys = refl
  drop_keys n key low (row ∷ rows) (above, keys) = by (nat_cmp key row.0) refl (drop_keys n key (row.0 + 1) rows keys) (n == row.0) refl
    where
      gone_key : (here rest : Bool) → (here ≡ true → rest ≡ false) → rest ≡ ((here || rest) && not here)
      gone_key true true h = absurd (true≢false (h refl))
      gone_key true false h = refl
      gone_key false true h = refl
      gone_key false false h = refl

      none : (n == row.0) ≡ true → has_key n rows ≡ false
      none h = by (has_key n rows) refl
        where
          by : (has : Bool) → has_key n rows ≡ has → has_key n rows ≡ false
          by true is = absurd (let l = key_above n (row.0 + 1) rows keys is in let e = eqb-true n row.0 h in omega arith)
          by false is = is

      stays : (here other rest : Bool) → (here ≡ true → other ≡ false) → (here || (rest && not other)) ≡ ((here || rest) && not other)
      stays here other rest h = grind arith

      by : (order : Ordering) → nat_cmp key row.0 ≡ order → has_key n (drop_number rows key) ≡ (has_key n rows && not (n == key))
          → (here : Bool) → (n == row.0) ≡ here
          → has_key n (cond (is_eq order) rows (row ∷ drop_number rows key)) ≡ ((n == row.0 || has_key n rows) && not (n == key))
      by Less is again here eq = ap (λ z. n == row.0 || z) again ∙ stays (n == row.0) (n == key) (has_key n rows) (λ h. let e = eqb-true n row.0 h in let l = key_less key row.0 is in grind arith)
      by Equal is again here eq = gone_key (n == row.0) (has_key n rows) none ∙ ap (λ z. (n == row.0 || has_key n rows) && not (n == z)) (sym (key_equal key row.0 is))
      by Greater is again here eq = ap (λ z. n == row.0 || z) again ∙ stays (n == row.0) (n == key) (has_key n rows) (λ h. let e = eqb-true n row.0 h in let l = key_greater key row.0 is in grind arith)

  pub drop_rises : (key low : ℕ) (rows : List (ℕ × X)) → KeysFrom low rows → KeysFrom low (drop_number rows key)
  drop_rises key low [] keys = tt
  drop_rises key low (row ∷ rows) (above, keys) = by (nat_cmp key row.0) (drop_rises key (row.0 + 1) rows keys)
    where
      by : (order : Ordering) → KeysFrom (row.0 + 1) (drop_number rows key) → KeysFrom low (cond (is_eq order) rows (row ∷ drop_number rows key))
      by Less again = (above, again)
      by Equal again = keys_lower low (row.0 + 1) rows (omega arith) keys
      by Greater again = (above, again)

  -- rows are left out by a test of their keys
  pub filter_keys : (n : ℕ) (test : ℕ → Bool) (rows : List (ℕ × X)) → has_key n (filter (λ row. test row.0) rows) ≡ (has_key n rows && test n)
  filter_keys n test [] = refl
  filter_keys n test (row ∷ rows) = by (n == row.0) refl (test row.0) refl (filter_keys n test rows)
    where
      by : (here : Bool) → (n == row.0) ≡ here → (fits : Bool) → test row.0 ≡ fits → has_key n (filter (λ row. test row.0) rows) ≡ (has_key n rows && test n)
          → has_key n (cond fits (row ∷ filter (λ row. test row.0) rows) (filter (λ row. test row.0) rows)) ≡ ((n == row.0 || has_key n rows) && test n)
      by true is true fits again = rw (is, ap test (eqb-true n row.0 is), fits)
      by true is false fits again = again ∙ rw (is, ap test (eqb-true n row.0 is), fits) (absorbed (has_key n rows))
        where
          absorbed : (u : Bool) → (u && false) ≡ false
          absorbed true = refl
          absorbed false = refl
      by false is true fits again = rw is again
      by false is false fits again = rw is again

  pub filter_rises : (low : ℕ) (test : ℕ × X → Bool) (rows : List (ℕ × X)) → KeysFrom low rows → KeysFrom low (filter test rows)
  filter_rises low test [] keys = tt
  filter_rises low test (row ∷ rows) (above, keys) = by (test row) (filter_rises (row.0 + 1) test rows keys)
    where
      by : (fits : Bool) → KeysFrom (row.0 + 1) (filter test rows) → KeysFrom low (cond fits (row ∷ filter test rows) (filter test rows))
      by true again = (above, again)
      by false again = keys_lower low (row.0 + 1) (filter test rows) (omega arith) again

  -- a table has a row under a key where one of its rows has the key
  pub at_has : (n : ℕ) (rows : List (ℕ × X)) → is_some (at_number rows n) ≡ has_key n rows
  at_has n [] = refl
  at_has n (row ∷ rows) = by (is_at (nat_cmp n) row.0) (n == row.0) (same_key n row.0) (at_has n rows)
    where
      by : (at here : Bool) → at ≡ here → is_some (at_number rows n) ≡ has_key n rows → is_some (cond at (Some row.1) (at_number rows n)) ≡ (here || has_key n rows)
      by true true same again = refl
      by true false same again = absurd (grind arith)
      by false true same again = absurd (grind arith)
      by false false same again = again

  -- what a search finds in a table of rising keys, and with it what the table has at its key
  abbrev pub IfAt : ℕ → List (ℕ × X) → Option (ℕ × X) → Type 0
  IfAt low rows None = Unit {0}
  IfAt low rows (Some row) = (low ≤ row.0) × (at_number rows row.0 ≡ Some row.1)

  pub found_at : (test : ℕ × X → Bool) (low : ℕ) (rows : List (ℕ × X)) → KeysFrom low rows → IfAt low rows (find test rows)
  found_at test low [] keys = tt
  found_at test low (row ∷ rows) (above, keys) = by (test row) (find test rows) (found_at test (row.0 + 1) rows keys)
    where
      by : (here : Bool) (later : Option (ℕ × X)) → IfAt (row.0 + 1) rows later → IfAt low (row ∷ rows) (cond here (Some row) later)
      by true later again = (above, ap (λ at. cond at (Some row.1) (at_number rows row.0)) (same_key row.0 row.0 ∙ eq-eqb row.0 row.0 refl))
      by false None again = tt
      by false (Some other) (higher, there) = (omega arith, ap (λ at. cond at (Some row.1) (at_number rows other.0)) (same_key other.0 row.0 ∙ ne_eqb other.0 row.0 (λ h. omega (arith, h))) ∙ there)
