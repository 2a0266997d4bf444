-- Counts by name, after one more is counted.
use Rattle.std.proofs.Common.{◌≡◌, ℕ, ◌+◌, Bool, true, false, cond, List, Option, Some, refl, sym, ap, ◌∙◌, unwrap_or, arith, ◌<◌, length, take, get_or, [], ◌∷◌}
use mathlib.Core.Bool.{true≢false}
use Rattle.std.proofs.lemmas.Bool.{eqb-true}
use Rattle.std.specs.BTreeMap.{is_at}
use Rattle.std.specs.Map.{lookup}
use Rattle.std.specs.Ordering.{is_eq, match_ordering}
use Rattle.std.specs.declared.cmp.Ordering.{Ordering}
use Rattle.std.specs.declared.cmp.Ordering.TheVariants.{Less, Equal, Greater}
use Rattle.std.proofs.lemmas.Map.Text.{is_eq-slice_cmp}
use Rattle.std.proofs.lemmas.Map.Lookups.{exact_bytes}
use Rattle.std.proofs.lemmas.Slice.Eq.{bytes_eq-Decides}
use Rattle.std.specs.Prelude.{zero, suc, ◌==◌, filter_map, not, ◌&&◌, refl as same}
use Rattle.std.specs.List.{count_by}
use Rattle.std.proofs.lemmas.List.{take_more}
use Rattle.std.proofs.lemmas.List.Elements.{filter_map-append}
use Rattle.std.proofs.lemmas.List.Sums.{sum_by-append}
use Rattle.ge_collections.specs.Keyed.{text_eq, text_cmp, at_text, put_text}
use Rattle.ge_model_rows.specs.Pieces.{is_empty}
use Rattle.ge_tickets.specs.Counted.{count_at, is_named}

equal : (o : Ordering) → is_eq o ≡ true → o ≡ Equal
equal Less e = absurd (true≢false (sym e))
equal Equal e = refl
equal Greater e = absurd (true≢false (sym e))

-- a look-up after one more pair was put in
put_text-at : {X : Type 0} (rows : List (List ℕ × X)) (k q : List ℕ) (v : X) → at_text (put_text rows k v) q ≡ cond (is_eq (text_cmp q k)) (Some v) (at_text rows q)
put_text-at [] k q v = refl
put_text-at {X} (row ∷ rows) k q v = by (text_cmp k row.0) same (put_text-at rows k q v)
  where
    twice : (b : Bool) (o : Option X) → cond b (Some v) o ≡ cond b (Some v) (cond b (Some row.1) o)
    twice true o = refl
    twice false o = refl

    apart : (b : Bool) → is_eq (text_cmp q row.0) ≡ b → (d : Bool) → is_eq (text_cmp q k) ≡ d → is_eq (text_cmp k row.0) ≡ false
        → cond b (Some row.1) (cond d (Some v) (at_text rows q)) ≡ cond d (Some v) (cond b (Some row.1) (at_text rows q))
    apart true at true there other = absurd (true≢false (sym (ap (λ (n : List ℕ). is_eq (text_cmp n row.0)) (sym (exact_bytes q k (equal (text_cmp q k) there))) ∙ at) ∙ other))
    apart true at false there other = refl
    apart false at true there other = refl
    apart false at false there other = refl

    by : (o : Ordering) → text_cmp k row.0 ≡ o → at_text (put_text rows k v) q ≡ cond (is_eq (text_cmp q k)) (Some v) (at_text rows q)
        → lookup (is_at (text_cmp q)) (match_ordering o ((k, v) ∷ row ∷ rows) ((row.0, v) ∷ rows) (row ∷ put_text rows k v)) ≡ cond (is_eq (text_cmp q k)) (Some v) (cond (is_eq (text_cmp q row.0)) (Some row.1) (at_text rows q))
    by Less is later = refl
    by Equal is later =
        twice (is_eq (text_cmp q row.0)) (at_text rows q)
        ∙ ap (λ (n : List ℕ). cond (is_eq (text_cmp q n)) (Some v) (cond (is_eq (text_cmp q row.0)) (Some row.1) (at_text rows q))) (sym (exact_bytes k row.0 is))
    by Greater is later =
        ap (λ (o : Option X). cond (is_eq (text_cmp q row.0)) (Some row.1) o) later ∙ apart (is_eq (text_cmp q row.0)) same (is_eq (text_cmp q k)) same (ap is_eq is)

text_eq-turned : (a b : List ℕ) → text_eq a b ≡ text_eq b a
text_eq-turned a b = by (text_eq a b) same (text_eq b a) same
  where
    by : (x : Bool) → text_eq a b ≡ x → (y : Bool) → text_eq b a ≡ y → x ≡ y
    by true f true g = refl
    by true f false g = sym ((bytes_eq-Decides b a).1 (sym ((bytes_eq-Decides a b).0 f))) ∙ g
    by false f true g = sym f ∙ (bytes_eq-Decides a b).1 (sym ((bytes_eq-Decides b a).0 g))
    by false f false g = refl

pub raised : (old new : List (List ℕ × ℕ)) (name key : List ℕ) (n more : ℕ) → key ≡ name → n ≡ count_at old name → more ≡ n + 1 → new ≡ put_text old key more
    → (q : List ℕ) → count_at new q ≡ count_at old q + cond (text_eq name q) 1 0
raised old new name key n more is had next put q =
    ap (λ (v : Option ℕ). unwrap_or v 0) (ap (λ (rows : List (List ℕ × ℕ)). at_text rows q) put ∙ put_text-at old key q more ∙ ap (λ k. cond (is_eq (text_cmp q k)) (Some more) (at_text old q)) is
    ∙ ap (λ b. cond b (Some more) (at_text old q)) (is_eq-slice_cmp q name ∙ text_eq-turned q name))
    ∙ by (text_eq name q) same
  where
    by : (alike : Bool) → text_eq name q ≡ alike → unwrap_or (cond alike (Some more) (at_text old q)) 0 ≡ count_at old q + cond alike 1 0
    by true is-same =
        let same-name : name ≡ q = (bytes_eq-Decides name q).0 is-same in
        let there : n ≡ count_at old q = had ∙ ap (λ k. count_at old k) same-name in
        omega (arith, next, there)
    by false is-same = omega arith

-- one more of a list's numbers is counted
pub counted_more : {X Y : Type 0} (h : X → Option Y) (p : Y → Bool) (xs : List X) (i : ℕ) (d : X) (old new : ℕ) → i < length xs → old ≡ count_by p (filter_map h (take i xs))
    → new ≡ old + count_by p (filter_map h (get_or xs i d ∷ [])) → new ≡ count_by p (filter_map h (take (i + 1) xs))
counted_more {X = X} {Y = Y} h p xs i d old new lt so_far next =
    next ∙ ap (λ n. n + count_by p (filter_map h (get_or xs i d ∷ []))) so_far
    ∙ sym (ap (λ (ys : List Y). count_by p ys) (filter_map-append h (take i xs) (get_or xs i d ∷ [])) ∙ sum_by-append (λ y. cond (p y) 1 0) (filter_map h (take i xs)) (filter_map h (get_or xs i d ∷ [])))
    ∙ sym (ap (λ (ys : List X). count_by p (filter_map h ys)) (take_more xs i d lt))

filled : (n : ℕ) → (suc n == 0) ≡ false
filled n = by (suc n == 0) refl
  where
    is_suc : ℕ → Bool
    is_suc zero = false
    is_suc (suc m) = true

    by : (b : Bool) → (suc n == 0) ≡ b → b ≡ false
    by true is = absurd (true≢false (ap is_suc (eqb-true (suc n) 0 is)))
    by false is = refl

-- the empty name is no project, so nothing more is counted
pub none_named : (counts : List (List ℕ × ℕ)) (project : List ℕ) → is_empty project ≡ true → (q : List ℕ) → count_at counts q ≡ count_at counts q + cond (is_named q project) 1 0
none_named counts [] empty [] = omega arith
none_named counts [] empty (b ∷ bytes) = by (not (is_empty (b ∷ bytes)))
  where
    by : (x : Bool) → count_at counts (b ∷ bytes) ≡ count_at counts (b ∷ bytes) + cond (x && false) 1 0
    by true = omega arith
    by false = omega arith
none_named counts (b ∷ bytes) empty q = absurd (true≢false (sym empty ∙ filled (length bytes)))

-- of another name one more is
pub one_named : (old new : List (List ℕ × ℕ)) (project : List ℕ) → is_empty project ≡ false → ((q : List ℕ) → count_at new q ≡ count_at old q + cond (text_eq project q) 1 0)
    → (q : List ℕ) → count_at new q ≡ count_at old q + cond (is_named q project) 1 0
one_named old new [] named each q = absurd (true≢false named)
one_named old new (b ∷ bytes) named each [] = each []
one_named old new (b ∷ bytes) named each (d ∷ digits) =
    each (d ∷ digits) ∙ ap (λ (x : Bool). count_at old (d ∷ digits) + cond (not x && text_eq (b ∷ bytes) (d ∷ digits)) 1 0) (sym (filled (length digits)))
