-- Whether something comes twice, met from the left with what was seen.
use Rattle.std.proofs.Common.{◌≡◌, ℕ, Bool, true, false, cond, not, ◌&&◌, ◌||◌, List, [], ◌∷◌, ◌++◌, refl, sym, ap, ◌∙◌}
use Rattle.std.specs.Prelude.{◌==◌}
use Rattle.std.specs.List.{list_any, list_all}
use Rattle.std.specs.Cmp.{nat_eq_equiv}
use Rattle.std.specs.Cmp.Lexicographic.{nat_list_eq_equiv}
use Rattle.std.proofs.lemmas.List.Folds.{list_any-append}
use Rattle.ge_collections.specs.Keyed.{text_eq}
use Rattle.ge_model_config.specs.Complexes.{are_distinct}
use Rattle.ge_model_config.specs.Shares.{are_different}
use Rattle.ge_config.proofs.Lists.{or_false}

module _ {T : Type 0} (same : T → T → Bool) where
  abbrev pub among : T → List T → Bool
  among item items = list_any (same item) items

  abbrev pub with_new : List T → T → List T
  with_new items item = cond (among item items) items (items ++ item ∷ [])

  -- whether none of these comes twice, or is among those seen
  abbrev pub are_new : List T → List T → Bool
  are_new seen [] = true
  are_new seen (item ∷ items) = not (among item seen) && are_new (with_new seen item) items

  abbrev differ : List T → Bool
  differ [] = true
  differ (item ∷ items) = not (among item items) && differ items

  abbrev apart : List T → List T → Bool
  apart seen items = list_all (λ item. not (among item seen)) items

  module _ (symmetric : (x y : T) → same x y ≡ same y x) where
    crossed : (a b c d : Bool) → (not (a || b) && (c && not d)) ≡ (not a && c && not (b || d))
    crossed true b c d = refl
    crossed false true c d = sym (never c)
      where
        never : (c : Bool) → (c && false) ≡ false
        never true = refl
        never false = refl
    crossed false false c d = refl

    apart_more : (seen : List T) (item : T) (items : List T) → apart (seen ++ item ∷ []) items ≡ (apart seen items && not (among item items))
    apart_more seen item [] = refl
    apart_more seen item (x ∷ items) =
        ap (λ (b : Bool). not b && apart (seen ++ item ∷ []) items)
        (list_any-append (same x) seen (item ∷ []) ∙ ap (λ (b : Bool). among x seen || b) (or_false (same x item) ∙ symmetric x item))
        ∙ ap (λ (b : Bool). not (among x seen || same item x) && b) (apart_more seen item items)
        ∙ crossed (among x seen) (same item x) (apart seen items) (among item items)

    joined : (a b c : Bool) → (a && b && c) ≡ (a && (b && c))
    joined true b c = refl
    joined false b c = refl

    are_new_all : (seen items : List T) → are_new seen items ≡ (apart seen items && differ items)
    are_new_all seen [] = refl
    are_new_all seen (item ∷ items) = by (among item seen) (are_new_all (seen ++ item ∷ []) items)
      where
        by : (there : Bool) → are_new (seen ++ item ∷ []) items ≡ (apart (seen ++ item ∷ []) items && differ items)
            → (not there && are_new (cond there seen (seen ++ item ∷ [])) items) ≡ (not there && apart seen items && (not (among item items) && differ items))
        by true rest = refl
        by false rest =
            rest ∙ ap (λ (b : Bool). b && differ items) (apart_more seen item items)
            ∙ joined (apart seen items) (not (among item items)) (differ items)

    nothing_seen : (items : List T) → apart [] items ≡ true
    nothing_seen [] = refl
    nothing_seen (item ∷ items) = nothing_seen items

    all_new : (items : List T) → are_new [] items ≡ differ items
    all_new items = are_new_all [] items ∙ ap (λ (b : Bool). b && differ items) (nothing_seen items)

-- ---- texts, and numbers

distinct_is : (texts : List (List ℕ)) → differ text_eq texts ≡ are_distinct texts
distinct_is [] = refl
distinct_is (text ∷ texts) = ap (λ (b : Bool). not (among text_eq text texts) && b) (distinct_is texts)

pub new_texts : (texts : List (List ℕ)) → are_new text_eq [] texts ≡ are_distinct texts
new_texts texts = all_new text_eq nat_list_eq_equiv.symm texts ∙ distinct_is texts

-- whether a number is the other
abbrev pub is_id : ℕ → ℕ → Bool
is_id id other = other == id

different_is : (ids : List ℕ) → differ is_id ids ≡ are_different ids
different_is [] = refl
different_is (id ∷ ids) = ap (λ (b : Bool). not (among is_id id ids) && b) (different_is ids)

pub new_ids : (ids : List ℕ) → are_new is_id [] ids ≡ are_different ids
new_ids ids = all_new is_id (λ x y. nat_eq_equiv.symm y x) ids ∙ different_is ids

-- a number among others, the other way round
pub same_ids : (id : ℕ) (ids : List ℕ) → list_any (λ other. id == other) ids ≡ list_any (λ other. other == id) ids
same_ids id [] = refl
same_ids id (other ∷ ids) = ap (λ (b : Bool). b || list_any (λ other. id == other) ids) (nat_eq_equiv.symm id other) ∙ ap (λ (b : Bool). (other == id) || b) (same_ids id ids)
