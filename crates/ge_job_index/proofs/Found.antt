-- What an index answers is what a walk over its rows finds.
use Rattle.std.proofs.Common.{Bor, ◌≡◌, ℕ, zero, suc, ◌+◌, Bool, true, false, cond, ◌||◌, List, [], ◌∷◌, Option, Some, None, refl, sym, ap, ◌∙◌, arith}
use Rattle.std.specs.Option.{option_map, is_some, IsSome}
use Rattle.std.specs.BTreeMap.{is_at}
use Rattle.std.specs.Cmp.{IsTotalOrder}
use Rattle.std.specs.List.{list_any, find, slice_get, count_by}
use Rattle.std.specs.List.Sorted.{IsStrictlySortedBy}
use Rattle.std.specs.Map.{lookup, lookup_key, keys_of}
use Rattle.std.specs.Ordering.{is_gt, is_eq}
use Rattle.std.specs.declared.cmp.Ordering.{Ordering}
use Rattle.std.specs.declared.cmp.Ordering.TheVariants.{Less, Equal, Greater}
use Rattle.std.proofs.lemmas.Cmp.{eq_by_cmp_equiv}
use Rattle.std.proofs.lemmas.List.Sums.{sum_by-cons}
use Rattle.std.proofs.lemmas.Map.{lookup-none}
use Rattle.std.proofs.lemmas.Map.Keys.{IsDistinct-from_sorted, sorted_tail}
use Rattle.std.proofs.lemmas.Map.Entries.{lookup_from_place, none_below_head}
use Rattle.ge_job_index.specs.Asked.{bears, first_bearer}
use Rattle.ge_job_index.specs.Kept.{nonzero, noted, Counts, times_at}
use Rattle.ge_job_index.specs.Marked.{is_among}
use Rattle.ge_job_index.specs.declared.keys.Keys.{Keys}

more_is_some : (n : ℕ) → is_some (nonzero (1 + n)) ≡ true
more_is_some n = let e : 1 + n ≡ suc n = omega arith in ap (λ k. is_some (nonzero k)) e

module _ {X : Type 0} (p : X → Bool) where
  -- what is counted is there
  pub counted : (xs : List X) → is_some (nonzero (count_by p xs)) ≡ list_any p xs
  counted [] = refl
  counted (x ∷ xs) = ap (λ n. is_some (nonzero n)) (sum_by-cons (λ y. cond (p y) 1 0) x xs) ∙ by (p x) (counted xs)
    where
      by : (b : Bool) → is_some (nonzero (count_by p xs)) ≡ list_any p xs → is_some (nonzero (cond b 1 0 + count_by p xs)) ≡ (b || list_any p xs)
      by true rest = more_is_some (count_by p xs)
      by false rest = let e : 0 + count_by p xs ≡ count_by p xs = omega arith in ap (λ k. is_some (nonzero k)) e ∙ rest

  found_any : (xs : List X) → is_some (find p xs) ≡ list_any p xs
  found_any [] = refl
  found_any (x ∷ xs) = by (p x) (found_any xs)
    where
      by : (b : Bool) → is_some (find p xs) ≡ list_any p xs → is_some (cond b (Some x) (find p xs)) ≡ (b || list_any p xs)
      by true rest = refl
      by false rest = rest

  found_none : (xs : List X) → ((i : ℕ) (x : X) → slice_get xs i ≡ Some x → p x ≡ false) → find p xs ≡ None
  found_none [] fails = refl
  found_none (x ∷ xs) fails = ap (λ b. cond b (Some x) (find p xs)) (fails zero x refl) ∙ found_none xs (λ i y at. fails (suc i) y at)

  -- what is shown of the first that passes is there where one passes
  pub any_found : {Y : Type 0} (show : Y → X) (o : Option Y) (xs : List X) → option_map show o ≡ find p xs → is_some o ≡ list_any p xs
  any_found show None xs is = ap is_some is ∙ found_any xs
  any_found show (Some y) xs is = ap is_some is ∙ found_any xs

module _ {K V : Type 0} where
  key_found : (test : K → Bool) (es : List (K × V)) → lookup_key test es ≡ option_map (λ e. e.0) (find (λ e. test e.0) es)
  key_found test [] = refl
  key_found test (e ∷ es) = by (test e.0) (key_found test es)
    where
      by : (b : Bool) → lookup_key test es ≡ option_map (λ d. d.0) (find (λ d. test d.0) es) → cond b (Some e.0) (lookup_key test es) ≡ option_map (λ d. d.0) (cond b (Some e) (find (λ d. test d.0) es))
      by true h = refl
      by false h = h

  value_found : (test : K → Bool) (es : List (K × V)) → lookup test es ≡ option_map (λ e. e.1) (find (λ e. test e.0) es)
  value_found test [] = refl
  value_found test (e ∷ es) = by (test e.0) (value_found test es)
    where
      by : (b : Bool) → lookup test es ≡ option_map (λ d. d.1) (find (λ d. test d.0) es) → cond b (Some e.1) (lookup test es) ≡ option_map (λ d. d.1) (cond b (Some e) (find (λ d. test d.0) es))
      by true h = refl
      by false h = h

  both : (a b : Option (K × V)) → option_map (λ e. e.0) a ≡ option_map (λ e. e.0) b → option_map (λ e. e.1) a ≡ option_map (λ e. e.1) b → a ≡ b
  both None None k v = refl
  both None (Some x) k v = cc
  both (Some x) None k v = cc
  both (Some x) (Some y) k v =
      let first : x.0 ≡ y.0 = cc in
      let second : x.1 ≡ y.1 = cc in
      ap (λ a. Some (a, x.1)) first ∙ ap (λ b. Some (y.0, b)) second

  pub key_shown : (o : Option (Bor K × Bor V)) → option_map {T = K × V} (λ e. e.0) (option_map (λ found. (found.0.now, found.1.now)) o) ≡ option_map (λ p. p.0.now) o
  key_shown None = refl
  key_shown (Some p) = refl

  pub value_shown : (o : Option (Bor K × Bor V)) → option_map {T = K × V} (λ e. e.1) (option_map (λ found. (found.0.now, found.1.now)) o) ≡ option_map (λ p. p.1.now) o
  value_shown None = refl
  value_shown (Some p) = refl

  -- a pair whose key and value were looked up is the one that a walk finds
  pub pair_found : (test : K → Bool) (es : List (K × V)) (pair : Option (K × V))
      → option_map (λ e. e.0) pair ≡ lookup_key test es → option_map (λ e. e.1) pair ≡ lookup test es → pair ≡ find (λ e. test e.0) es
  pair_found test es pair k v = both pair (find (λ e. test e.0) es) (k ∙ key_found test es) (v ∙ value_found test es)

-- neither above nor equal is below
below : (o : Ordering) → is_gt o ≡ false → is_eq o ≡ false → o ≡ Less
below Less g e = refl
below Equal g e = cc
below Greater g e = cc

module _ {K V M : Type 0} {R : K → K → Ordering} (order : IsTotalOrder R) (C : M → M → Ordering) (marks : V → List M) where
  -- a whole ledger notes a key at a mark where the row at the key bears it
  pub noted_bears : (ledger : List (M × Keys K)) (rows : List (K × V)) → Counts R C ledger (λ m q. times_at C marks m (lookup (is_at (R q)) rows))
      → (m : M) (q : K) → is_some (noted R C ledger m q) ≡ bears C marks m (lookup (is_at (R q)) rows)
  noted_bears ledger rows known m q = ap is_some (known m q) ∙ by (lookup (is_at (R q)) rows)
    where
      by : (o : Option V) → is_some (nonzero (times_at C marks m o)) ≡ bears C marks m o
      by None = refl
      by (Some row) = counted (is_at (C m)) (marks row)

  module _ (m : M) (key : K) where
    first_at : (v : V) (es : List (K × V)) → IsStrictlySortedBy R (keys_of es) → lookup (is_at (R key)) es ≡ Some v → is_among C m (marks v) ≡ true
        → ((i : ℕ) (e : K × V) → slice_get es i ≡ Some e → is_among C m (marks e.1) ≡ true → is_gt (R key e.0) ≡ false)
        → find (λ e. is_at (R key) e.0) es ≡ first_bearer C marks m es
    first_at v [] rising here borne least = refl
    first_at v (e ∷ es) rising here borne least =
        by (is_at (R key) e.0) (is_among C m (marks e.1)) refl refl
        (λ past. first_at v es (sorted_tail R e.0 (keys_of es) rising) past borne (λ i x at. least (suc i) x at))
      where
        absent : R key e.0 ≡ Less → lookup (is_at (R key)) (e ∷ es) ≡ None
        absent less = lookup-none (is_at (R key)) (e ∷ es) (none_below_head order key e es rising less)

        by : (a b : Bool) → is_at (R key) e.0 ≡ a → is_among C m (marks e.1) ≡ b
            → (lookup (is_at (R key)) es ≡ Some v → find (λ d. is_at (R key) d.0) es ≡ first_bearer C marks m es)
            → cond a (Some e) (find (λ d. is_at (R key) d.0) es) ≡ cond b (Some e) (first_bearer C marks m es)
        by true true at is rest = refl
        by true false at is rest =
            let same : Some e.1 ≡ Some v = ap (λ x. cond x (Some e.1) (lookup (is_at (R key)) es)) (sym at) ∙ here in
            let one : e.1 ≡ v = cc in
            let wrong : false ≡ true = sym is ∙ ap (λ x. is_among C m (marks x)) one ∙ borne in
            cc
        by false true at is rest =
            let wrong : None ≡ Some v = sym (absent (below (R key e.0) (least zero e refl is) at)) ∙ here in
            cc
        by false false at is rest = rest (ap (λ x. cond x (Some e.1) (lookup (is_at (R key)) es)) (sym at) ∙ here)

    -- the least key that a ledger notes is that of the first row that bears the mark
    pub first_is : (ledger : List (M × Keys K)) (rows : List (K × V)) → IsStrictlySortedBy R (keys_of rows)
        → Counts R C ledger (λ m q. times_at C marks m (lookup (is_at (R q)) rows))
        → IsSome (noted R C ledger m key) → ((q : K) → IsSome (noted R C ledger m q) → is_gt (R key q) ≡ false)
        → find (λ e. is_at (R key) e.0) rows ≡ first_bearer C marks m rows
    first_is ledger rows rising known here least =
        by (lookup (is_at (R key)) rows) refl (sym (noted_bears ledger rows known m key) ∙ here)
      where
        first : (i : ℕ) (e : K × V) → slice_get rows i ≡ Some e → is_among C m (marks e.1) ≡ true → is_gt (R key e.0) ≡ false
        first i e at borne =
            let there : lookup (is_at (R e.0)) rows ≡ Some e.1 = lookup_from_place (eq_by_cmp_equiv order) rows i e.0 e.1 (IsDistinct-from_sorted R (keys_of rows) rising) at in
            least e.0 (noted_bears ledger rows known m e.0 ∙ ap (bears C marks m) there ∙ borne)

        by : (o : Option V) → lookup (is_at (R key)) rows ≡ o → bears C marks m o ≡ true → find (λ e. is_at (R key) e.0) rows ≡ first_bearer C marks m rows
        by None is borne = cc
        by (Some v) is borne = first_at v rows rising is borne first

  -- where a ledger notes no key, no row bears the mark
  pub none_is : (m : M) (ledger : List (M × Keys K)) (rows : List (K × V)) → IsStrictlySortedBy R (keys_of rows)
      → Counts R C ledger (λ m q. times_at C marks m (lookup (is_at (R q)) rows))
      → ((q : K) → noted R C ledger m q ≡ None) → None ≡ first_bearer C marks m rows
  none_is m ledger rows rising known none =
      sym (found_none (λ e. is_among C m (marks e.1)) rows
      (λ i e at.
      let there : lookup (is_at (R e.0)) rows ≡ Some e.1 = lookup_from_place (eq_by_cmp_equiv order) rows i e.0 e.1 (IsDistinct-from_sorted R (keys_of rows) rising) at in
      sym (ap (bears C marks m) there) ∙ sym (noted_bears ledger rows known m e.0) ∙ ap is_some (none e.0)))
