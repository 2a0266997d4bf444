-- A walk meets all that can be reached, each once, whatever the order.
use Rattle.std.proofs.Common.{◌≡◌, ◌⊎◌, ℕ, zero, suc, ◌+◌, ◌-◌, ◌<◌, ◌≤◌, Bool, true, false, cond, not, ◌&&◌, ◌||◌, List, [], ◌∷◌, ◌++◌, length, refl, sym, ap, ◌∙◌, subst, arith, inl, inr, true≢false}
use Rattle.std.specs.Prelude.{◌==◌, Option, Some, None, fold, slice_get, ⊤}
use Rattle.std.specs.List.{list_any}
use Rattle.std.specs.Cmp.{nat_eq_equiv}
use Rattle.std.proofs.lemmas.Bool.{eqb-true, or_cases, or_parts, or_from, or_left, or_right, cases_lt}
use Rattle.std.proofs.lemmas.List.Folds.{list_any-append}
use Rattle.std.proofs.lemmas.Option.{slice_get_within, slice_get_past}
use Rattle.ge_model_rows.specs.Pieces.{lists_number, with_one_number}
use Rattle.ge_config.specs.ShareTree.{walked}

-- ---- numbers in a list

-- each number once
abbrev pub Once : List ℕ → Type 0
Once [] = ⊤
Once (x ∷ xs) = (lists_number xs x ≡ false) × Once xs

once_end : (xs : List ℕ) (n : ℕ) → Once xs → lists_number xs n ≡ false → Once (xs ++ n ∷ [])
once_end [] n once new = (refl, tt)
once_end (x ∷ xs) n once new =
    let parts : ((x == n) ≡ false) × (lists_number xs n ≡ false) = or_parts (x == n) (lists_number xs n) new in (
      list_any-append (λ m. m == x) xs (n ∷ []) ∙ or_from (lists_number xs x) ((n == x) || false) once.0 (or_from (n == x) false (nat_eq_equiv.symm n x ∙ parts.0) refl),
      once_end xs n once.1 parts.1,
    )

pub once_with : (xs : List ℕ) (n : ℕ) → Once xs → Once (with_one_number xs n)
once_with xs n once = by (lists_number xs n) refl
  where
    by : (there : Bool) → lists_number xs n ≡ there → Once (cond there xs (xs ++ n ∷ []))
    by true is = once
    by false is = once_end xs n once is

pub once_more : (xs more : List ℕ) → Once xs → Once (fold with_one_number xs more)
once_more xs [] once = once
once_more xs (n ∷ more) once = once_more (with_one_number xs n) more (once_with xs n once)

-- what stands in a list that has one more
pub kept_with : (xs : List ℕ) (n y : ℕ) → lists_number xs y ≡ true → lists_number (with_one_number xs n) y ≡ true
kept_with xs n y there = by (lists_number xs n)
  where
    by : (has : Bool) → lists_number (cond has xs (xs ++ n ∷ [])) y ≡ true
    by true = there
    by false = list_any-append (λ m. m == y) xs (n ∷ []) ∙ or_left (lists_number xs y) ((n == y) || false) there

pub put_with : (xs : List ℕ) (n : ℕ) → lists_number (with_one_number xs n) n ≡ true
put_with xs n = by (lists_number xs n) refl
  where
    by : (has : Bool) → lists_number xs n ≡ has → lists_number (cond has xs (xs ++ n ∷ [])) n ≡ true
    by true is = is
    by false is = list_any-append (λ m. m == n) xs (n ∷ []) ∙ or_right (lists_number xs n) ((n == n) || false) (or_left (n == n) false (nat_eq_equiv.refl n))

pub in_with : (xs : List ℕ) (n y : ℕ) → lists_number (with_one_number xs n) y ≡ true → (lists_number xs y ≡ true) ⊎ (n ≡ y)
in_with xs n y = by (lists_number xs n)
  where
    last : ((n == y) || false) ≡ true → (lists_number xs y ≡ true) ⊎ (n ≡ y)
    last is = or_else (or_cases (n == y) false is)
      where
        or_else : ((n == y) ≡ true) ⊎ (false ≡ true) → (lists_number xs y ≡ true) ⊎ (n ≡ y)
        or_else (inl same) = inr (eqb-true n y same)
        or_else (inr never) = absurd (true≢false (sym never))

    either : (lists_number xs y ≡ true) ⊎ (((n == y) || false) ≡ true) → (lists_number xs y ≡ true) ⊎ (n ≡ y)
    either (inl there) = inl there
    either (inr is) = last is

    by : (has : Bool) → lists_number (cond has xs (xs ++ n ∷ [])) y ≡ true → (lists_number xs y ≡ true) ⊎ (n ≡ y)
    by true is = inl is
    by false is = either (or_cases (lists_number xs y) ((n == y) || false) (sym (list_any-append (λ m. m == y) xs (n ∷ [])) ∙ is))

pub kept_more : (xs more : List ℕ) (y : ℕ) → lists_number xs y ≡ true → lists_number (fold with_one_number xs more) y ≡ true
kept_more xs [] y there = there
kept_more xs (n ∷ more) y there = kept_more (with_one_number xs n) more y (kept_with xs n y there)

pub put_more : (xs more : List ℕ) (y : ℕ) → lists_number more y ≡ true → lists_number (fold with_one_number xs more) y ≡ true
put_more xs [] y there = absurd (true≢false (sym there))
put_more xs (n ∷ more) y there = by (or_cases (n == y) (lists_number more y) there) (put_more (with_one_number xs n) more y)
  where
    by : ((n == y) ≡ true) ⊎ (lists_number more y ≡ true) → (lists_number more y ≡ true → lists_number (fold with_one_number (with_one_number xs n) more) y ≡ true)
        → lists_number (fold with_one_number (with_one_number xs n) more) y ≡ true
    by (inl same) rest = kept_more (with_one_number xs n) more y (subst (λ (m : ℕ). lists_number (with_one_number xs n) m ≡ true) (eqb-true n y same) (put_with xs n))
    by (inr later) rest = rest later

pub in_more : (xs more : List ℕ) (y : ℕ) → lists_number (fold with_one_number xs more) y ≡ true → (lists_number xs y ≡ true) ⊎ (lists_number more y ≡ true)
in_more xs [] y there = inl there
in_more xs (n ∷ more) y there = by (in_more (with_one_number xs n) more y there)
  where
    first : (lists_number xs y ≡ true) ⊎ (n ≡ y) → (lists_number xs y ≡ true) ⊎ (((n == y) || lists_number more y) ≡ true)
    first (inl is) = inl is
    first (inr same) = inr (or_left (n == y) (lists_number more y) (subst (λ (m : ℕ). (n == m) ≡ true) same (nat_eq_equiv.refl n)))

    by : (lists_number (with_one_number xs n) y ≡ true) ⊎ (lists_number more y ≡ true) → (lists_number xs y ≡ true) ⊎ (((n == y) || lists_number more y) ≡ true)
    by (inl is) = first (in_with xs n y is)
    by (inr is) = inr (or_right (n == y) (lists_number more y) is)

-- ---- places

at_place : (xs : List ℕ) (i x : ℕ) → slice_get xs i ≡ Some x → lists_number xs x ≡ true
at_place [] i x is = absurd (true≢false (ap (λ (o : Option ℕ). elim o [ None ↦ true | Some n ↦ false ]) is))
at_place (first ∷ xs) zero x is =
    or_left (first == x) (lists_number xs x) (subst (λ (m : ℕ). (first == m) ≡ true) (ap (λ (o : Option ℕ). elim o [ None ↦ first | Some n ↦ n ]) is) (nat_eq_equiv.refl first))
at_place (first ∷ xs) (suc i) x is = or_right (first == x) (lists_number xs x) (at_place xs i x is)

place_of : (xs : List ℕ) (x : ℕ) → lists_number xs x ≡ true → (i : ℕ) × (slice_get xs i ≡ Some x)
place_of [] x there = absurd (true≢false (sym there))
place_of (first ∷ xs) x there = by (or_cases (first == x) (lists_number xs x) there) (place_of xs x)
  where
    by : ((first == x) ≡ true) ⊎ (lists_number xs x ≡ true) → (lists_number xs x ≡ true → (i : ℕ) × (slice_get xs i ≡ Some x)) → (i : ℕ) × (slice_get (first ∷ xs) i ≡ Some x)
    by (inl same) rest = (0, ap Some (eqb-true first x same))
    by (inr later) rest = (suc (rest later).0, (rest later).1)

stays_append : (xs ys : List ℕ) (i x : ℕ) → slice_get xs i ≡ Some x → slice_get (xs ++ ys) i ≡ Some x
stays_append [] ys i x is = absurd (true≢false (ap (λ (o : Option ℕ). elim o [ None ↦ true | Some n ↦ false ]) is))
stays_append (first ∷ xs) ys zero x is = is
stays_append (first ∷ xs) ys (suc i) x is = stays_append xs ys i x is

stays_with : (xs : List ℕ) (n i x : ℕ) → slice_get xs i ≡ Some x → slice_get (with_one_number xs n) i ≡ Some x
stays_with xs n i x is = by (lists_number xs n)
  where
    by : (has : Bool) → slice_get (cond has xs (xs ++ n ∷ [])) i ≡ Some x
    by true = is
    by false = stays_append xs (n ∷ []) i x is

stays_more : (xs more : List ℕ) (i x : ℕ) → slice_get xs i ≡ Some x → slice_get (fold with_one_number xs more) i ≡ Some x
stays_more xs [] i x is = is
stays_more xs (n ∷ more) i x is = stays_more (with_one_number xs n) more i x (stays_with xs n i x is)

there_below : (xs : List ℕ) (i : ℕ) → i < length xs → (x : ℕ) × (slice_get xs i ≡ Some x)
there_below [] i within = absurd (omega (arith, within))
there_below (first ∷ xs) zero within = (first, refl)
there_below (first ∷ xs) (suc i) within = there_below xs i (omega (arith, within))

-- ---- a list of different numbers is no longer than one that has all of them

taken : List ℕ → ℕ → List ℕ
taken [] x = []
taken (u ∷ us) x = cond (u == x) us (u ∷ taken us x)

taken_length : (us : List ℕ) (x : ℕ) → lists_number us x ≡ true → length us ≡ suc (length (taken us x))
unfolding taken
taken_length [] x there = absurd (true≢false (sym there))
taken_length (u ∷ us) x there = by (u == x) there (taken_length us x)
  where
    by : (same : Bool) → (same || lists_number us x) ≡ true → (lists_number us x ≡ true → length us ≡ suc (length (taken us x))) → suc (length us) ≡ suc (length (cond same us (u ∷ taken us x)))
    by true there rest = refl
    by false there rest = ap suc (rest there)

taken_keeps : (us : List ℕ) (x n : ℕ) → (x == n) ≡ false → lists_number us n ≡ true → lists_number (taken us x) n ≡ true
unfolding taken
taken_keeps [] x n other there = there
taken_keeps (u ∷ us) x n other there = by (u == x) refl there (taken_keeps us x n other)
  where
    by : (same : Bool) → (u == x) ≡ same → ((u == n) || lists_number us n) ≡ true → (lists_number us n ≡ true → lists_number (taken us x) n ≡ true)
        → lists_number (cond same us (u ∷ taken us x)) n ≡ true
    by true is there rest = ap (λ (b : Bool). b || lists_number us n) (sym (ap (λ (m : ℕ). m == n) (eqb-true u x is) ∙ other)) ∙ there
    by false is there rest = by_place (or_cases (u == n) (lists_number us n) there)
      where
        by_place : ((u == n) ≡ true) ⊎ (lists_number us n ≡ true) → ((u == n) || lists_number (taken us x) n) ≡ true
        by_place (inl here) = or_left (u == n) (lists_number (taken us x) n) here
        by_place (inr later) = or_right (u == n) (lists_number (taken us x) n) (rest later)

pub no_longer : (xs us : List ℕ) → Once xs → ((n : ℕ) → lists_number xs n ≡ true → lists_number us n ≡ true) → length xs ≤ length us
no_longer [] us once all = omega arith
no_longer (x ∷ xs) us once all =
    let here : lists_number us x ≡ true = all x (or_left (x == x) (lists_number xs x) (nat_eq_equiv.refl x)) in
    let rest : length xs ≤ length (taken us x) = no_longer xs (taken us x) once.1 kept in
    let long : length us ≡ suc (length (taken us x)) = taken_length us x here in
    omega (arith, rest, long)
  where
    other : (n : ℕ) → lists_number xs n ≡ true → (same : Bool) → (x == n) ≡ same → same ≡ false
    other n there true is = absurd (true≢false (sym (ap (lists_number xs) (eqb-true x n is) ∙ there) ∙ once.0))
    other n there false is = refl

    kept : (n : ℕ) → lists_number xs n ≡ true → lists_number (taken us x) n ≡ true
    kept n there = taken_keeps us x n (other n there (x == n) refl) (all n (or_right (x == n) (lists_number xs n) there))

-- ---- walks

module _ (below : ℕ → List ℕ) where
  -- what is reached from a place, by what stands there
  abbrev pub walk_on : ℕ → List ℕ → ℕ → Option ℕ → List ℕ
  walk_on places met place None = met
  walk_on places met place (Some id) = walked below places (fold with_one_number met (below id)) (place + 1)

  pub walked_step : (places place : ℕ) (met : List ℕ) → place < places → walked below (places - place) met place ≡ walk_on (places - (place + 1)) met place (slice_get met place)
  walked_step places place met within =
      let e : places - place ≡ suc (places - (place + 1)) = omega (arith, within) in ap (λ (n : ℕ). walked below n met place) e ∙ by (slice_get met place)
    where
      by : (at : Option ℕ) → elim at [ None ↦ met | Some id ↦ walked below (places - (place + 1)) (fold with_one_number met (below id)) (place + 1) ] ≡ walk_on (places - (place + 1)) met place at
      by None = refl
      by (Some id) = refl

  pub walk_once : (places : ℕ) (met : List ℕ) (place : ℕ) → Once met → Once (walked below places met place)
  walk_once zero met place once = once
  walk_once (suc places) met place once = by (slice_get met place) (walk_once places)
    where
      by : (at : Option ℕ) → ((met : List ℕ) (place : ℕ) → Once met → Once (walked below places met place))
          → Once (elim at [ None ↦ met | Some id ↦ walked below places (fold with_one_number met (below id)) (place + 1) ])
      by None rest = once
      by (Some id) rest = rest (fold with_one_number met (below id)) (place + 1) (once_more met (below id) once)

  pub walk_keeps : (places : ℕ) (met : List ℕ) (place y : ℕ) → lists_number met y ≡ true → lists_number (walked below places met place) y ≡ true
  walk_keeps zero met place y there = there
  walk_keeps (suc places) met place y there = by (slice_get met place) (walk_keeps places)
    where
      by : (at : Option ℕ) → ((met : List ℕ) (place y : ℕ) → lists_number met y ≡ true → lists_number (walked below places met place) y ≡ true)
          → lists_number (elim at [ None ↦ met | Some id ↦ walked below places (fold with_one_number met (below id)) (place + 1) ]) y ≡ true
      by None rest = there
      by (Some id) rest = rest (fold with_one_number met (below id)) (place + 1) y (kept_more met (below id) y there)

  -- what holds of those met at the start, and of what is below where it holds, holds of all that is met
  pub walk_all : (P : ℕ → Type 0) → ((x y : ℕ) → P x → lists_number (below x) y ≡ true → P y) → (places : ℕ) (met : List ℕ) (place : ℕ)
      → ((n : ℕ) → lists_number met n ≡ true → P n) → (n : ℕ) → lists_number (walked below places met place) n ≡ true → P n
  walk_all P closed zero met place all n there = all n there
  walk_all P closed (suc places) met place all n there = by (slice_get met place) refl (walk_all P closed places) there
    where
      by : (at : Option ℕ) → slice_get met place ≡ at
          → ((met : List ℕ) (place : ℕ) → ((n : ℕ) → lists_number met n ≡ true → P n) → (n : ℕ) → lists_number (walked below places met place) n ≡ true → P n)
          → lists_number (elim at [ None ↦ met | Some id ↦ walked below places (fold with_one_number met (below id)) (place + 1) ]) n ≡ true → P n
      by None is rest there = all n there
      by (Some id) is rest there = rest (fold with_one_number met (below id)) (place + 1) more n there
        where
          either : (m : ℕ) → (lists_number met m ≡ true) ⊎ (lists_number (below id) m ≡ true) → P m
          either m (inl old) = all m old
          either m (inr new) = closed id m (all id (at_place met place id is)) new

          more : (m : ℕ) → lists_number (fold with_one_number met (below id)) m ≡ true → P m
          more m is = either m (in_more met (below id) m is)

  module _ (us : List ℕ) (within : (x y : ℕ) → lists_number (below x) y ≡ true → lists_number us y ≡ true) where
    -- where there are places enough, what is below those met is met
    pub walk_closed : (places : ℕ) (met : List ℕ) (place : ℕ) → Once met → ((n : ℕ) → lists_number met n ≡ true → lists_number us n ≡ true) → length us ≤ places + place
        → ((i x y : ℕ) → i < place → slice_get met i ≡ Some x → lists_number (below x) y ≡ true → lists_number met y ≡ true)
        → (x y : ℕ) → lists_number (walked below places met place) x ≡ true → lists_number (below x) y ≡ true → lists_number (walked below places met place) y ≡ true
    walk_closed zero met place once among enough done x y there child =
        let at : (i : ℕ) × (slice_get met i ≡ Some x) = place_of met x there in
        let few : length met ≤ length us = no_longer met us once among in
        let inside : at.0 < length met = slice_get_within met at.0 x at.1 in
        done at.0 x y (omega (arith, few, inside, enough)) at.1 child
    walk_closed (suc places) met place once among enough done x y there child = by (slice_get met place) refl (walk_closed places) there
      where
        ended : slice_get met place ≡ None → (i x : ℕ) → slice_get met i ≡ Some x → i < place
        ended none i x is = below_place (cases_lt i place)
          where
            below_place : (i < place) ⊎ (place ≤ i) → i < place
            below_place (inl less) = less
            below_place (inr over) = absurd (true≢false (ap (λ (o : Option ℕ). elim o [ None ↦ true | Some n ↦ false ]) (sym none ∙ (there_below met place (inside over)).1)))
              where
                inside : place ≤ i → place < length met
                inside o = let w : i < length met = slice_get_within met i x is in omega (arith, w, o)

        by : (at : Option ℕ) → slice_get met place ≡ at
            → ((met : List ℕ) (place : ℕ) → Once met → ((n : ℕ) → lists_number met n ≡ true → lists_number us n ≡ true) → length us ≤ places + place
            → ((i x y : ℕ) → i < place → slice_get met i ≡ Some x → lists_number (below x) y ≡ true → lists_number met y ≡ true)
            → (x y : ℕ) → lists_number (walked below places met place) x ≡ true → lists_number (below x) y ≡ true → lists_number (walked below places met place) y ≡ true)
            → lists_number (elim at [ None ↦ met | Some id ↦ walked below places (fold with_one_number met (below id)) (place + 1) ]) x ≡ true
            → lists_number (elim at [ None ↦ met | Some id ↦ walked below places (fold with_one_number met (below id)) (place + 1) ]) y ≡ true
        by None is rest there =
            let at : (i : ℕ) × (slice_get met i ≡ Some x) = place_of met x there in done at.0 x y (ended is at.0 x at.1) at.1 child
        by (Some id) is rest there =
            rest (fold with_one_number met (below id)) (place + 1) (once_more met (below id) once) among_more (omega (arith, enough)) done_more x y there child
          where
            either : (n : ℕ) → (lists_number met n ≡ true) ⊎ (lists_number (below id) n ≡ true) → lists_number us n ≡ true
            either n (inl old) = among n old
            either n (inr new) = within id n new

            among_more : (n : ℕ) → lists_number (fold with_one_number met (below id)) n ≡ true → lists_number us n ≡ true
            among_more n is = either n (in_more met (below id) n is)

            same : (a b : ℕ) → Some a ≡ Some b → a ≡ b
            same a b is = ap (λ (o : Option ℕ). elim o [ None ↦ a | Some n ↦ n ]) is

            met_at : (i x : ℕ) → i < length met → slice_get (fold with_one_number met (below id)) i ≡ Some x → slice_get met i ≡ Some x
            met_at i x inside is =
                let old : (z : ℕ) × (slice_get met i ≡ Some z) = there_below met i inside in
                old.1 ∙ ap Some (same old.0 x (sym (stays_more met (below id) i old.0 old.1) ∙ is))

            done_more : (i x y : ℕ) → i < place + 1 → slice_get (fold with_one_number met (below id)) i ≡ Some x → lists_number (below x) y ≡ true
                → lists_number (fold with_one_number met (below id)) y ≡ true
            done_more i x y before at child = by_place (cases_lt i place)
              where
                long : place < length met
                long = slice_get_within met place id is

                by_place : (i < place) ⊎ (place ≤ i) → lists_number (fold with_one_number met (below id)) y ≡ true
                by_place (inl less) = kept_more met (below id) y (done i x y less (met_at i x (omega (arith, less, long)) at) child)
                by_place (inr over) =
                    let e : i ≡ place = omega (arith, before, over) in
                    let w : i < length met = omega (arith, e, long) in
                    let x_is : x ≡ id = same x id (sym (met_at i x w at) ∙ ap (slice_get met) e ∙ is) in
                    put_more met (below id) y (subst (λ (n : ℕ). lists_number (below n) y ≡ true) x_is child)
