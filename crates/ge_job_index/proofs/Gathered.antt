-- What a ledger gathers at a mark is what a walk over the rows gathers.
use Rattle.std.proofs.Common.{Bor, ◌≡◌, ℕ, zero, suc, ◌+◌, Bool, true, false, cond, List, [], ◌∷◌, map, Option, Some, None, refl, sym, ap, subst, ◌∙◌, arith}
use Rattle.std.specs.Option.{option_map, unwrap_or, is_some}
use Rattle.std.specs.BTreeMap.{is_at}
use Rattle.std.specs.Cmp.{IsTotalOrder}
use Rattle.std.specs.List.{filter, filter_map, cons_option, sum_by, slice_get, AllByRecursion}
use Rattle.std.specs.Ordering.{is_eq, eq_by_cmp}
use Rattle.std.specs.Prelude.{Result, Ok, Err, IfOk}
use Rattle.std.specs.declared.cmp.Ordering.TheVariants.{Less, Equal}
use Rattle.std.specs.List.Sorted.{IsStrictlySortedBy}
use Rattle.std.specs.Map.{lookup, lookup_key, keys_of}
use Rattle.std.specs.Map.Iter.{deref_pair}
use Rattle.std.specs.declared.cmp.Ordering.{Ordering}
use Rattle.std.proofs.lemmas.Cmp.{eq_by_cmp_equiv}
use Rattle.std.proofs.lemmas.List.Sums.{sum_by-cons}
use Rattle.std.proofs.lemmas.Map.{lookup-none}
use Rattle.std.proofs.lemmas.Map.Entries.{lookup-filter-values, none_past_head, option_filter}
use Rattle.std.proofs.lemmas.Map.Keys.{IsDistinct-from_sorted, IsDistinct-head, sorted_tail}
use Rattle.std.proofs.lemmas.Map.Lookups.{map_keys}
use Rattle.std.proofs.lemmas.Map.Made.{lookup-map_values}
use Rattle.ge_job_index.specs.Asked.{bearers_of}
use Rattle.ge_job_index.specs.Kept.{nonzero, noted_in, Counts, only_at, times_at}
use Rattle.ge_job_index.specs.Marked.{times, is_among}
use Rattle.ge_job_index.proofs.Alike.{read_alike}
use Rattle.ge_job_index.proofs.Found.{counted}
use Rattle.ge_job_index.specs.declared.keys.Keys.{Keys}

module _ {X Y : Type 0} (f : Y → ℕ) (g : X → Y) where
  sum_by_map : (xs : List X) → sum_by f (map g xs) ≡ sum_by (λ x. f (g x)) xs
  sum_by_map [] = refl
  sum_by_map (x ∷ xs) = sum_by-cons f (g x) (map g xs) ∙ ap (λ n. f (g x) + n) (sum_by_map xs) ∙ sym (sum_by-cons (λ y. f (g y)) x xs)

module _ {K V : Type 0} {R : K → K → Ordering} (order : IsTotalOrder R) (t : V → ℕ) where
  -- what counts at one key alone, summed over rows, is what the row at the key counts
  spread_at : (rows : List (K × V)) → IsStrictlySortedBy R (keys_of rows) → (q : K)
      → sum_by (λ e. only_at R e.0 (t e.1) q) rows ≡ unwrap_or (option_map t (lookup (is_at (R q)) rows)) 0
  spread_at [] rising q = refl
  spread_at (e ∷ es) rising q =
      sum_by-cons (λ d. only_at R d.0 (t d.1) q) e es ∙ by (is_at (R e.0) q) refl (spread_at es (sorted_tail R e.0 (keys_of es) rising) q)
      ∙ ap (λ b. unwrap_or (option_map t (cond b (Some e.1) (lookup (is_at (R q)) es))) 0) ((eq_by_cmp_equiv order).symm e.0 q)
    where
      by : (b : Bool) → is_at (R e.0) q ≡ b → sum_by (λ d. only_at R d.0 (t d.1) q) es ≡ unwrap_or (option_map t (lookup (is_at (R q)) es)) 0
          → cond b (t e.1) 0 + sum_by (λ d. only_at R d.0 (t d.1) q) es ≡ unwrap_or (option_map t (cond b (Some e.1) (lookup (is_at (R q)) es))) 0
      by true at rest =
          let gone : lookup (is_at (R q)) es ≡ None = lookup-none (is_at (R q)) es
          (none_past_head (eq_by_cmp_equiv order) q e es (IsDistinct-from_sorted R (keys_of (e ∷ es)) rising) ((eq_by_cmp_equiv order).symm q e.0 ∙ at)) in
          let none : sum_by (λ d. only_at R d.0 (t d.1) q) es ≡ 0 = rest ∙ ap (λ o. unwrap_or (option_map t o) 0) gone in
          omega arith
      by false at rest = let e : (n : ℕ) → 0 + n ≡ n = λ n. omega arith in e (sum_by (λ d. only_at R d.0 (t d.1) q) es) ∙ rest

module _ {K V M : Type 0} {R : K → K → Ordering} (order : IsTotalOrder R) (C : M → M → Ordering) (marks : V → List M) where
  times_read : (m : M) (o : Option V) → unwrap_or (option_map (λ row. times C m (marks row)) o) 0 ≡ times_at C marks m o
  times_read m None = refl
  times_read m (Some row) = refl

  -- a ledger that learned each row counts what the rows bear
  pub learned : (ledger : List (M × Keys K)) (rows : List (K × V)) (yielded : List (Bor K × Bor V)) → IsStrictlySortedBy R (keys_of rows) → map deref_pair yielded ≡ rows
      → Counts R C ledger (λ m q. sum_by (λ e. only_at R e.0.now (times C m (marks e.1.now)) q) yielded)
      → Counts R C ledger (λ m q. times_at C marks m (lookup (is_at (R q)) rows))
  learned ledger rows yielded rising all known m q =
      known m q ∙ ap nonzero (sym (sum_by_map (λ e. only_at R e.0 (times C m (marks e.1)) q) deref_pair yielded)
      ∙ ap (λ (es : List (K × V)). sum_by (λ e. only_at R e.0 (times C m (marks e.1)) q) es) all
      ∙ spread_at order (λ row. times C m (marks row)) rows rising q ∙ times_read m (lookup (is_at (R q)) rows))

module _ {K V : Type 0} where
  keys_all : (P : K → Type 0) (p : K × V → Bool) (es : List (K × V)) → AllByRecursion P (keys_of es) → AllByRecursion P (keys_of (filter p es))
  keys_all P p [] each = tt
  keys_all P p (e ∷ es) each = by (p e) (keys_all P p es each.1)
    where
      by : (b : Bool) → AllByRecursion P (keys_of (filter p es)) → AllByRecursion P (keys_of (cond b (e ∷ filter p es) (filter p es)))
      by true rest = (each.0, rest)
      by false rest = rest

  -- keys that rise still do where some are left out
  pub keys_rise : (R : K → K → Ordering) (p : K × V → Bool) (es : List (K × V)) → IsStrictlySortedBy R (keys_of es) → IsStrictlySortedBy R (keys_of (filter p es))
  unfolding IsStrictlySortedBy
  keys_rise R p [] rising = tt
  keys_rise R p (e ∷ es) rising = by (p e) (keys_rise R p es rising.1)
    where
      by : (b : Bool) → IsStrictlySortedBy R (keys_of (filter p es)) → IsStrictlySortedBy R (keys_of (cond b (e ∷ filter p es) (filter p es)))
      by true rest = (keys_all (λ y. R e.0 y ≡ Less) p es rising.0, rest)
      by false rest = rest

  -- what a function on the values leaves of the keys
  keys_kept : (t : V → ℕ) (es : List (K × V)) → keys_of (map (λ e. (e.0, t e.1)) es) ≡ keys_of es
  keys_kept t [] = refl
  keys_kept t (e ∷ es) = ap (λ ks. e.0 ∷ ks) (keys_kept t es)

  keys_shown : {B : Type 0} (f : K → Option B) (es : List (K × V)) → filter_map f (keys_of es) ≡ filter_map (λ o. o) (keys_of (map_keys f es))
  keys_shown f [] = refl
  keys_shown {B} f (e ∷ es) = ap (λ (bs : List B). cons_option (f e.0) bs) (keys_shown f es)

  key_place : (P : K → Type 0) (es : List (K × V)) (i : ℕ) (e : K × V) → AllByRecursion P (keys_of es) → slice_get es i ≡ Some e → P e.0
  key_place P [] i e each at = cc
  key_place P (d ∷ ds) zero e each at = let same : d ≡ e = cc in subst (λ (x : K × V). P x.0) same each.0
  key_place P (d ∷ ds) (suc i) e each at = key_place P ds i e each.1 at

  module _ {R : K → K → Ordering} (order : IsTotalOrder R) where
    key_one : (x y : K) (es : List (K × V)) → R x y ≡ Equal → lookup_key (is_at (R x)) es ≡ lookup_key (is_at (R y)) es
    key_one x y [] same = refl
    key_one x y (e ∷ es) same =
        ap (λ b. cond b (Some e.0) (lookup_key (is_at (R x)) es)) (ap is_eq (order.congr x y e.0 same)) ∙ ap (λ o. cond (is_at (R y) e.0) (Some e.0) o) (key_one x y es same)

    -- a key of an index finds itself
    key_itself : (es : List (K × V)) → IsStrictlySortedBy R (keys_of es) → (i : ℕ) (e : K × V) → slice_get es i ≡ Some e → lookup_key (is_at (R e.0)) es ≡ Some e.0
    key_itself [] rising i e at = cc
    key_itself (d ∷ ds) rising zero e at =
        let same : d ≡ e = cc in
        ap (λ (x : K × V). cond (is_at (R e.0) x.0) (Some x.0) (lookup_key (is_at (R e.0)) ds)) same
        ∙ ap (λ b. cond b (Some e.0) (lookup_key (is_at (R e.0)) ds)) ((eq_by_cmp_equiv order).refl e.0)
    key_itself (d ∷ ds) rising (suc i) e at =
        let apart : is_at (R d.0) e.0 ≡ false = key_place (λ y. is_at (R d.0) y ≡ false) ds i e (IsDistinct-head (eq_by_cmp R) d.0 (keys_of ds) (IsDistinct-from_sorted R (keys_of (d ∷ ds)) rising)) at in
        ap (λ b. cond b (Some d.0) (lookup_key (is_at (R e.0)) ds)) ((eq_by_cmp_equiv order).symm e.0 d.0 ∙ apart)
        ∙ key_itself ds (sorted_tail R d.0 (keys_of ds) rising) i e at

-- a count that nothing notes is none
unnoted : (n : ℕ) → is_some (nonzero n) ≡ false → n ≡ 0
unnoted zero h = refl
unnoted (suc n) h = cc

noted_again : (n : ℕ) → is_some (nonzero n) ≡ true → Some n ≡ nonzero n
noted_again zero h = cc
noted_again (suc n) h = refl

module _ {K V M : Type 0} {R : K → K → Ordering} (order : IsTotalOrder R) (C : M → M → Ordering) (marks : V → List M) (m : M) where
  -- the rows that bear the mark, each with how often
  abbrev counted_rows : List (K × V) → List (K × ℕ)
  counted_rows rows = map (λ e. (e.0, times C m (marks e.1))) (filter (λ e. is_among C m (marks e.1)) rows)

  counted_lookup : (rows : List (K × V)) → IsStrictlySortedBy R (keys_of rows) → (q : K) → nonzero (times_at C marks m (lookup (is_at (R q)) rows)) ≡ lookup (is_at (R q)) (counted_rows rows)
  counted_lookup rows rising q =
      by (lookup (is_at (R q)) rows)
      ∙ sym (lookup-map_values (λ v. times C m (marks v)) (is_at (R q)) (filter (λ e. is_among C m (marks e.1)) rows)
      ∙ ap (option_map (λ v. times C m (marks v))) (lookup-filter-values (eq_by_cmp_equiv order) (λ v. is_among C m (marks v)) q rows (IsDistinct-from_sorted R (keys_of rows) rising)))
    where
      at : (v : V) (b : Bool) → is_some (nonzero (times C m (marks v))) ≡ b → nonzero (times C m (marks v)) ≡ option_map (λ x. times C m (marks x)) (cond b (Some v) None)
      at v true h = sym (noted_again (times C m (marks v)) h)
      at v false h = ap nonzero (unnoted (times C m (marks v)) h)

      by : (o : Option V) → nonzero (times_at C marks m o) ≡ option_map (λ x. times C m (marks x)) (option_filter (λ x. is_among C m (marks x)) o)
      by None = refl
      by (Some v) = at v (is_among C m (marks v)) (counted (is_at (C m)) (marks v))

  -- counts that are those of the rows' marks are those of the rows that bear the mark
  same_counts : (keys : List (K × ℕ)) (rows : List (K × V)) → IsStrictlySortedBy R (keys_of keys) → IsStrictlySortedBy R (keys_of rows)
      → ((q : K) → lookup (is_at (R q)) keys ≡ nonzero (times_at C marks m (lookup (is_at (R q)) rows)))
      → {B : Type 0} (f : K → B) → ((x y : K) → R x y ≡ Equal → f x ≡ f y) → map_keys f keys ≡ map_keys f (counted_rows rows)
  same_counts keys rows keys_rising rising counts f respects =
      let other : IsStrictlySortedBy R (keys_of (counted_rows rows)) =
      subst (λ (ks : List K). IsStrictlySortedBy R ks) (sym (keys_kept (λ v. times C m (marks v)) (filter (λ e. is_among C m (marks e.1)) rows))) (keys_rise R (λ e. is_among C m (marks e.1)) rows rising) in
      read_alike order f respects keys (counted_rows rows) keys_rising other (λ q. counts q ∙ counted_lookup rows rising q)

  own_shown : (f : K → Option K) (rows : List (K × V)) → ((i : ℕ) (e : K × V) → slice_get rows i ≡ Some e → f e.0 ≡ Some e.0)
      → filter_map f (keys_of (counted_rows rows)) ≡ bearers_of C marks m rows
  own_shown f [] own = refl
  own_shown f (e ∷ es) own = by (is_among C m (marks e.1)) (own_shown f es (λ i d at. own (suc i) d at))
    where
      by : (b : Bool) → filter_map f (keys_of (counted_rows es)) ≡ bearers_of C marks m es
          → filter_map f (keys_of (map (λ d. (d.0, times C m (marks d.1))) (cond b (e ∷ filter (λ d. is_among C m (marks d.1)) es) (filter (λ d. is_among C m (marks d.1)) es))))
          ≡ keys_of (cond b (e ∷ filter (λ d. is_among C m (marks d.1)) es) (filter (λ d. is_among C m (marks d.1)) es))
      by true rest = ap (λ o. cons_option o (filter_map f (keys_of (counted_rows es)))) (own zero e refl) ∙ ap (λ ks. e.0 ∷ ks) rest
      by false rest = rest

  -- the rows' own keys of those that are noted are those of the rows that bear the mark
  pub bearers_are : (keys : List (K × ℕ)) (rows : List (K × V)) → IsStrictlySortedBy R (keys_of keys) → IsStrictlySortedBy R (keys_of rows)
      → ((q : K) → lookup (is_at (R q)) keys ≡ nonzero (times_at C marks m (lookup (is_at (R q)) rows)))
      → filter_map (λ k. lookup_key (is_at (R k)) rows) (keys_of keys) ≡ bearers_of C marks m rows
  bearers_are keys rows keys_rising rising counts =
      let f : K → Option K = λ k. lookup_key (is_at (R k)) rows in
      keys_shown f keys
      ∙ ap (λ (es : List (Option K × ℕ)). filter_map (λ o. o) (keys_of es)) (same_counts keys rows keys_rising rising counts f (λ x y h. key_one order x y rows h))
      ∙ sym (keys_shown f (counted_rows rows))
      ∙ own_shown f rows (key_itself order rows rising)

  -- the counts of a mark in a ledger
  pub counts_of : (ledger : List (M × Keys K)) (rows : List (K × V)) (found : Option (Keys K)) → lookup (is_at (C m)) ledger ≡ found
      → Counts R C ledger (λ p q. times_at C marks p (lookup (is_at (R q)) rows))
      → (q : K) → noted_in R found q ≡ nonzero (times_at C marks m (lookup (is_at (R q)) rows))
  counts_of ledger rows found is known q = sym (ap (λ o. noted_in R o q) is) ∙ known m q

  -- a ledger without the mark
  pub bearers_none : (rows : List (K × V)) → IsStrictlySortedBy R (keys_of rows) → ((q : K) → None ≡ nonzero (times_at C marks m (lookup (is_at (R q)) rows))) → [] ≡ bearers_of C marks m rows
  unfolding IsStrictlySortedBy
  bearers_none rows rising counts = bearers_are [] rows tt rising counts

module _ {X Y E : Type 0} (f : X → Y) where
  pub ok_same : (r : Result X E) (a b : Y) → a ≡ b → IfOk r (λ x. f x ≡ a) → IfOk r (λ x. f x ≡ b)
  ok_same (Ok x) a b same is = is ∙ same
  ok_same (Err e) a b same is = tt
