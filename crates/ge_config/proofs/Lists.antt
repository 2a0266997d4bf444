-- Tests of lists: of one and the other, of two lists in either order, and texts that come twice.
use Rattle.std.proofs.Common.{◌≡◌, ℕ, Bool, true, false, cond, not, ◌&&◌, ◌||◌, List, [], ◌∷◌, ◌++◌, refl, sym, ap, ◌∙◌, true≢false}
use Rattle.std.specs.List.{list_any, list_all}
use Rattle.std.specs.Cmp.Lexicographic.{nat_list_eq_equiv, same_text}
use Rattle.std.proofs.lemmas.List.Folds.{list_any-append}
use Rattle.ge_collections.specs.Keyed.{text_eq}
use Rattle.ge_model_rows.specs.Pieces.{is_one_of, with_text}

pub or_true : (b : Bool) → (b || true) ≡ true
or_true true = refl
or_true false = refl

pub or_false : (b : Bool) → (b || false) ≡ b
or_false true = refl
or_false false = refl

pub or_joined : (a b c : Bool) → (a || b || c) ≡ (a || (b || c))
or_joined true b c = refl
or_joined false b c = refl

and_joined : (a b c : Bool) → (a && b && c) ≡ (a && (b && c))
and_joined true b c = refl
and_joined false b c = refl

-- of four, the first two and the last two, or each other one
or_crossed : (a b c d : Bool) → (a || b || (c || d)) ≡ (a || c || (b || d))
or_crossed true b c d = refl
or_crossed false true c d = sym (or_true c)
or_crossed false false c d = refl

module _ {A : Type 0} where
  pub any_same : (p q : A → Bool) → ((x : A) → p x ≡ q x) → (xs : List A) → list_any p xs ≡ list_any q xs
  any_same p q each [] = refl
  any_same p q each (x ∷ xs) = ap (λ (b : Bool). b || list_any p xs) (each x) ∙ ap (λ (b : Bool). q x || b) (any_same p q each xs)

  -- one test or another
  pub any_or : (p q : A → Bool) (xs : List A) → list_any (λ x. p x || q x) xs ≡ (list_any p xs || list_any q xs)
  any_or p q [] = refl
  any_or p q (x ∷ xs) = ap (λ (b : Bool). p x || q x || b) (any_or p q xs) ∙ or_crossed (p x) (q x) (list_any p xs) (list_any q xs)

  pub any_never : (xs : List A) → list_any (λ x. false) xs ≡ false
  any_never [] = refl
  any_never (x ∷ xs) = any_never xs

-- of two lists, either may be walked in the other
pub any_swap : {A B : Type 0} (p : A → B → Bool) (xs : List A) (ys : List B) → list_any (λ x. list_any (p x) ys) xs ≡ list_any (λ y. list_any (λ x. p x y) xs) ys
any_swap p [] ys = sym (any_never ys)
any_swap p (x ∷ xs) ys =
    ap (λ (b : Bool). list_any (p x) ys || b) (any_swap p xs ys) ∙ sym (any_or (p x) (λ y. list_any (λ x. p x y) xs) ys)

-- a text that is among others passes no test that none of these passes
pub passed_among : (p : List ℕ → Bool) (texts : List (List ℕ)) (text : List ℕ) → is_one_of text texts ≡ true → (list_any p texts || p text) ≡ list_any p texts
passed_among p [] text there = absurd (true≢false (sym there))
passed_among p (first ∷ texts) text there = by (text_eq text first) refl there (passed_among p texts text)
  where
    twice : (a b : Bool) → (a || b || a) ≡ (a || b)
    twice true b = refl
    twice false true = refl
    twice false false = refl

    by : (same : Bool) → text_eq text first ≡ same → (same || is_one_of text texts) ≡ true → (is_one_of text texts ≡ true → (list_any p texts || p text) ≡ list_any p texts)
        → (p first || list_any p texts || p text) ≡ (p first || list_any p texts)
    by true is later rest = ap (λ (t : List ℕ). p first || list_any p texts || p t) (same_text text first (sym is)) ∙ twice (p first) (list_any p texts)
    by false is later rest = or_joined (p first) (list_any p texts) (p text) ∙ ap (λ (b : Bool). p first || b) (rest later)

-- a text put to others that may be there
pub passed_with : (p : List ℕ → Bool) (texts : List (List ℕ)) (text : List ℕ) → list_any p (with_text texts text) ≡ (list_any p texts || p text)
passed_with p texts text = by (is_one_of text texts) refl
  where
    by : (there : Bool) → is_one_of text texts ≡ there → list_any p (cond there texts (texts ++ text ∷ [])) ≡ (list_any p texts || p text)
    by true is = sym (passed_among p texts text is)
    by false is = list_any-append p texts (text ∷ []) ∙ ap (λ (b : Bool). list_any p texts || b) (or_false (p text))
