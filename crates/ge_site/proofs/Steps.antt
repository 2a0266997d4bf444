-- How many steps are left: a group that is gone into is met, and brings a step for each of its entries and one back.
use Rattle.std.proofs.Common.{◌<◌, IfSome, MatchOption, ◌≡◌, ◌≤◌, ℕ, ◌+◌, Bool, true, false, cond, ◌||◌, List, [], ◌∷◌, ◌++◌, length, Option, None, Some, unwrap_or, refl, ap, ◌∙◌, sym, subst, arith, nat_eq, if◌then◌else◌}
use Rattle.std.proofs.lemmas.Bool.{and_parts, and_from, eqb-true, eq-eqb}
use Rattle.std.proofs.lemmas.List.Folds.{list_any-append}
use Rattle.std.proofs.lemmas.Map.Text.{is_eq-slice_cmp}
use Rattle.std.specs.BTreeMap.{is_at}
use Rattle.std.specs.Map.{lookup}
use Rattle.ge_collections.specs.Keyed.{at_text, text_cmp, text_eq}
use Rattle.ge_model_rows.specs.Pieces.{is_one_of, with_text}
use Rattle.ge_model_rows.specs.Groups.{Walk, meets_group}
use Rattle.ge_site.specs.declared.way.Place.{Place}
use Rattle.ge_site.specs.Walks.{steps_of_unmet, steps_back, steps_left}

texts_equal : (a b : List ℕ) → text_eq a b ≡ true → a ≡ b
texts_equal [] [] e = refl
texts_equal [] (y ∷ ys) e = cc
texts_equal (x ∷ xs) [] e = cc
texts_equal (x ∷ xs) (y ∷ ys) e =
    let parts = and_parts (nat_eq x y) (text_eq xs ys) e in
    let head = eqb-true x y parts.0 in
    let rest = texts_equal xs ys parts.1 in
    cc

text_same : (a : List ℕ) → text_eq a a ≡ true
text_same [] = refl
text_same (x ∷ xs) = and_from (nat_eq x x) (text_eq xs xs) (eq-eqb x x refl) (text_same xs)

pub steps_back_last : (way : List (List ℕ × List (List ℕ) × ℕ)) (name : List ℕ) (entries : List (List ℕ)) (depth : ℕ) → steps_back (way ++ (name, entries, depth) ∷ []) ≡ steps_back way + (1 + length entries)
steps_back_last [] name entries depth = omega arith
steps_back_last (g ∷ way) name entries depth = let rest = steps_back_last way name entries depth in omega (arith, rest)

one_more : (met : List (List ℕ)) (name text : List ℕ) → is_one_of text (met ++ name ∷ []) ≡ (is_one_of text met || is_one_of text (name ∷ []))
one_more met name text = list_any-append (text_eq text) met (name ∷ [])

no_more : (was is : Bool) (n x y : ℕ) → x ≤ y → (if was || is then 0 else n) + x ≤ (if was then 0 else n) + y
no_more true is n x y less = omega (arith, less)
no_more false true n x y less = omega (arith, less)
no_more false false n x y less = omega (arith, less)

-- one more that is met brings no steps
fewer : (table : List (List ℕ × List (List ℕ))) (met : List (List ℕ)) (name : List ℕ) → steps_of_unmet table (met ++ name ∷ []) ≤ steps_of_unmet table met
fewer [] met name = omega arith
fewer (row ∷ table) met name =
    subst (λ t. (if t then 0 else 1 + length row.1) + steps_of_unmet table (met ++ name ∷ []) ≤ steps_of_unmet (row ∷ table) met) (sym (one_more met name row.0))
    (no_more (is_one_of row.0 met) (is_one_of row.0 (name ∷ [])) (1 + length row.1) _ _ (fewer table met name))

no_more_and : (was is : Bool) (n x y m : ℕ) → x + m ≤ y → (if was || is then 0 else n) + x + m ≤ (if was then 0 else n) + y
no_more_and true is n x y m less = omega (arith, less)
no_more_and false true n x y m less = omega (arith, less)
no_more_and false false n x y m less = omega (arith, less)

-- a group that is met takes its own steps out
met_first : (table : List (List ℕ × List (List ℕ))) (met : List (List ℕ)) (name : List ℕ) (entries : List (List ℕ)) → at_text table name ≡ Some entries → is_one_of name met ≡ false
    → steps_of_unmet table (met ++ name ∷ []) + (1 + length entries) ≤ steps_of_unmet table met
met_first [] met name entries there unmet = cc
met_first (row ∷ table) met name entries there unmet = by (is_at (text_cmp name) row.0) refl there (λ later. met_first table met name entries later unmet)
  where
    by : (here : Bool) → is_at (text_cmp name) row.0 ≡ here → cond here (Some row.1) (lookup (is_at (text_cmp name)) table) ≡ Some entries
        → (at_text table name ≡ Some entries → steps_of_unmet table (met ++ name ∷ []) + (1 + length entries) ≤ steps_of_unmet table met)
        → steps_of_unmet (row ∷ table) (met ++ name ∷ []) + (1 + length entries) ≤ steps_of_unmet (row ∷ table) met
    by true is found later =
        let same : name ≡ row.0 = texts_equal name row.0 (sym (is_eq-slice_cmp name row.0) ∙ is) in
        let unmet_here : is_one_of row.0 met ≡ false = ap (λ t. is_one_of t met) (sym same) ∙ unmet in
        let named : is_one_of row.0 (name ∷ []) ≡ true = subst (λ t. is_one_of t (name ∷ []) ≡ true) same (ap (λ b. b || false) (text_same name)) in
        let met_now : is_one_of row.0 (met ++ name ∷ []) ≡ true = one_more met name row.0 ∙ ap (λ t. is_one_of row.0 met || t) named ∙ ap (λ t. t || true) unmet_here in
        let size : length row.1 ≡ length entries = ap (λ o. length (unwrap_or o [])) found in
        let rest = fewer table met name in
        rw met_now (rw unmet_here (omega (arith, size, rest)))
    by false is found later =
        subst (λ t. (if t then 0 else 1 + length row.1) + steps_of_unmet table (met ++ name ∷ []) + (1 + length entries) ≤ steps_of_unmet (row ∷ table) met) (sym (one_more met name row.0))
        (no_more_and (is_one_of row.0 met) (is_one_of row.0 (name ∷ [])) (1 + length row.1) _ _ (1 + length entries) (later found))

-- no step more is left behind a group that is gone into
pub steps_after : (table : List (List ℕ × List (List ℕ))) (way : List (List ℕ × List (List ℕ) × ℕ)) (behind : List (List ℕ)) (depth : ℕ) (walk : Walk) (name : List ℕ) (entries : List (List ℕ))
    → at_text table name ≡ Some entries → is_one_of name walk.groups ≡ false
    → steps_left table (way ++ (name, behind, depth) ∷ []) entries (meets_group walk name) ≤ steps_left table way behind walk
steps_after table way behind depth walk name entries there unmet =
    let met : with_text walk.groups name ≡ walk.groups ++ name ∷ [] = ap (λ t. if t then walk.groups else walk.groups ++ name ∷ []) unmet in
    let steps : steps_of_unmet table (with_text walk.groups name) ≡ steps_of_unmet table (walk.groups ++ name ∷ []) = ap (steps_of_unmet table) met in
    let taken = met_first table walk.groups name entries there unmet in
    let back = steps_back_last way name behind depth in
    omega (arith, steps, taken, back)

-- a step back is a step less
pub fewer_back : (table : List (List ℕ × List (List ℕ))) (way new : List (List ℕ × List (List ℕ) × ℕ)) (entries : List (List ℕ)) (walk : Walk) (behind : Option Place) → length entries ≡ 0
    → IfSome behind (λ next. (name : List ℕ) × (way ≡ new ++ (name, next.entries.now, next.depth) ∷ []))
    → MatchOption behind Unit (λ next. steps_left table new next.entries.now walk < steps_left table way entries walk)
fewer_back table way new entries walk None over last = tt
fewer_back table way new entries walk (Some next) over last =
    let back : steps_back way ≡ steps_back new + (1 + length next.entries.now) = ap steps_back last.1 ∙ steps_back_last new last.0 next.entries.now next.depth in
    omega (arith, back)
