-- Facts of each entry of a table, and the numbers of a list that one more number joins.
use Rattle.std.proofs.Common.{◌≡◌, Less, Equal, Greater, Ordering, ℕ, ◌<◌, Bool, true, false, cond, List, [], ◌∷◌, ◌++◌, refl, ap, sym, ◌∙◌, arith}
use Rattle.std.specs.Prelude.{◌==◌, ◌||◌, nat_eq, nat_lt}
use Rattle.std.specs.List.{AllByRecursion, IsDistinct, list_any}
use Rattle.std.specs.Ordering.{nat_cmp, match_ordering}
use Rattle.std.proofs.lemmas.Bool.{ne_eqb, eqb-true, le-ltb}
use Rattle.ge_collections.specs.Changed.{change_value}
use Rattle.ge_collections.specs.Keyed.{put_number}
use Rattle.ge_model_jobs.specs.Soundness.{is_under}

module _ {X : Type 0} (P : X → Type 0) where
  -- what holds of the entries of two lists holds of those of both together
  pub all_append : (xs ys : List X) → AllByRecursion P xs → AllByRecursion P ys → AllByRecursion P (xs ++ ys)
  all_append [] ys a b = b
  all_append (x ∷ xs) ys a b = (a.0, all_append xs ys a.1 b)

  -- a fact that follows from another one of each entry
  pub all_weaker : (Q : X → Type 0) → ((x : X) → P x → Q x) → (xs : List X) → AllByRecursion P xs → AllByRecursion Q xs
  all_weaker Q step [] a = tt
  all_weaker Q step (x ∷ xs) a = (step x a.0, all_weaker Q step xs a.1)

module _ {X : Type 0} (P : ℕ × X → Type 0) where
  -- a change in place keeps what it keeps of each entry
  pub all_changed : (test : ℕ → Bool) (f : X → X) → ((e : ℕ × X) → P e → P (e.0, f e.1)) → (es : List (ℕ × X)) → AllByRecursion P es → AllByRecursion P (change_value test f es)
  all_changed test f step [] a = tt
  all_changed test f step (e ∷ es) a = by (test e.0) (all_changed test f step es a.1)
    where
      by : (b : Bool) → AllByRecursion P (change_value test f es) → AllByRecursion P (cond b ((e.0, f e.1) ∷ es) (e ∷ change_value test f es))
      by true rest = (step e a.0, a.1)
      by false rest = (a.0, rest)

  -- a value put into a table, of which the fact holds under each key
  pub all_put : (k : ℕ) (v : X) → ((key : ℕ) → P (key, v)) → (es : List (ℕ × X)) → AllByRecursion P es → AllByRecursion P (put_number es k v)
  all_put k v fact [] a = (fact k, tt)
  all_put k v fact (e ∷ es) a = by (nat_cmp k e.0) (all_put k v fact es a.1)
    where
      by : (o : Ordering) → AllByRecursion P (put_number es k v) → AllByRecursion P (match_ordering o ((k, v) ∷ e ∷ es) ((e.0, v) ∷ es) (e ∷ put_number es k v))
      by Less rest = (fact k, a)
      by Equal rest = (fact e.0, a.1)
      by Greater rest = (a.0, rest)

-- `||` of three, by where the brackets stand
or_moved : (a b c : Bool) → (a || (b || c)) ≡ ((a || b) || c)
or_moved true b c = refl
or_moved false b c = refl

-- `||` the other way round
or_turned : (a b : Bool) → (a || b) ≡ (b || a)
or_turned true true = refl
or_turned true false = refl
or_turned false true = refl
or_turned false false = refl

-- what holds already may be said once more
or_twice : (a b c : Bool) → a ≡ c → (a || b) ≡ ((a || b) || c)
or_twice true b c e = refl
or_twice false true c e = refl
or_twice false false c e = e

module _ {X : Type 0} where
  -- a value under a key above all others goes behind them
  pub put_last : (k : ℕ) (v : X) (es : List (ℕ × X)) → AllByRecursion (λ e. e.0 < k) es → put_number es k v ≡ es ++ (k, v) ∷ []
  put_last k v [] a = refl
  put_last k v (e ∷ es) a =
      let above : nat_lt k e.0 ≡ false = le-ltb k e.0 (omega (arith, a.0)) in
      let other : (k == e.0) ≡ false = ne_eqb k e.0 (λ h. omega (arith, a.0)) in
      ap (λ b. match_ordering (cond b Less (cond (k == e.0) Equal Greater)) ((k, v) ∷ e ∷ es) ((e.0, v) ∷ es) (e ∷ put_number es k v)) above
      ∙ ap (λ b. match_ordering (cond b Equal Greater) ((k, v) ∷ e ∷ es) ((e.0, v) ∷ es) (e ∷ put_number es k v)) other
      ∙ ap (λ r. e ∷ r) (put_last k v es a.1)

  -- the keys of a table with one more
  pub under_put : (n k : ℕ) (v : X) (es : List (ℕ × X)) → list_any (is_under n) (put_number es k v) ≡ (list_any (is_under n) es || n == k)
  under_put n k v [] = or_turned (n == k) false
  under_put n k v (e ∷ es) = by (nat_lt k e.0) (k == e.0) refl (under_put n k v es)
    where
      by : (lt eq : Bool) → (k == e.0) ≡ eq → list_any (is_under n) (put_number es k v) ≡ (list_any (is_under n) es || n == k)
          → list_any (is_under n) (match_ordering (cond lt Less (cond eq Equal Greater)) ((k, v) ∷ e ∷ es) ((e.0, v) ∷ es) (e ∷ put_number es k v)) ≡ ((n == e.0 || list_any (is_under n) es) || n == k)
      by true eq same rest = or_turned (n == k) (n == e.0 || list_any (is_under n) es)
      by false true same rest = or_twice (n == e.0) (list_any (is_under n) es) (n == k) (ap (λ x. n == x) (sym (eqb-true k e.0 same)))
      by false false same rest = ap (λ b. n == e.0 || b) rest ∙ or_moved (n == e.0) (list_any (is_under n) es) (n == k)

-- the numbers ys are the numbers xs, or with s at some place
pub data IsJoined (s : ℕ) : List ℕ → List ℕ → Type 0 where
  same : {xs : List ℕ} → IsJoined s xs xs
  here : {xs : List ℕ} → IsJoined s xs (s ∷ xs)
  behind : {x : ℕ} {xs ys : List ℕ} → IsJoined s xs ys → IsJoined s (x ∷ xs) (x ∷ ys)

-- a fact of each of the numbers and of the one that joins
pub joined_all : (P : ℕ → Type 0) {s : ℕ} {xs ys : List ℕ} → IsJoined s xs ys → P s → AllByRecursion P xs → AllByRecursion P ys
joined_all P same p a = a
joined_all P here p a = (p, a)
joined_all P (behind j) p a = (a.0, joined_all P j p a.1)

-- numbers that differ still do when a greater one joins
pub joined_distinct : {s : ℕ} {xs ys : List ℕ} → IsJoined s xs ys → AllByRecursion (λ x. x < s) xs → IsDistinct nat_eq xs → IsDistinct nat_eq ys
unfolding IsDistinct
joined_distinct same below d = d
joined_distinct {s = s} (here {xs = xs}) below d = (all_weaker (λ x. x < s) (λ x. nat_eq s x ≡ false) (λ x less. ne_eqb s x (λ e. omega arith)) xs below, d)
joined_distinct {s = s} (behind {x = x} j) below d = (joined_all (λ y. nat_eq x y ≡ false) j (ne_eqb x s (λ e. omega (arith, below.0))) d.0, joined_distinct j below.1 d.1)

-- other numbers before and behind
pub joined_after : {s : ℕ} {xs ys : List ℕ} (zs : List ℕ) → IsJoined s xs ys → IsJoined s (zs ++ xs) (zs ++ ys)
joined_after [] j = j
joined_after (z ∷ zs) j = behind (joined_after zs j)

pub joined_before : {s : ℕ} {xs ys : List ℕ} (zs : List ℕ) → IsJoined s xs ys → IsJoined s (xs ++ zs) (ys ++ zs)
joined_before zs same = same
joined_before zs here = here
joined_before zs (behind j) = behind (joined_before zs j)
