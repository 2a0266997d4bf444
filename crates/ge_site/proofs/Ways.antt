-- The way as it is kept, by names that are lent, as the list that contracts see.
use Rattle.std.proofs.Common.{◌≡◌, ℕ, Bool, true, false, cond, ◌||◌, List, [], ◌∷◌, ◌++◌, map, nat_eq, refl, ap, ◌∙◌, Option, Some, None, is_some, true≢false}
use Rattle.std.proofs.lemmas.List.{map-append}
use Rattle.std.specs.Borrow.{Bor}
use Rattle.std.specs.Map.{lookup}
use Rattle.std.specs.Cmp.Lexicographic.{pointwise}
use Rattle.indexmap.specs.IndexMap.{IndexMap, insert_entry}
use Rattle.indexmap.proofs.CallerLemmas.{insert_entry-new}
use Rattle.ge_model_rows.specs.Pieces.{is_one_of}
use Rattle.ge_site.specs.Walks.{names_on}
use Rattle.ge_site.specs.declared.way.Place.{Place}

abbrev step_shown : Bor (List ℕ) × Place → List ℕ × List (List ℕ) × ℕ
step_shown g = (g.0.now, g.1.entries.now, g.1.depth)

-- the way leads through a group where the group's name is among its names
pub on_way : (name : List ℕ) (groups : List (Bor (List ℕ) × Place)) → is_some (lookup (λ k. pointwise nat_eq name k.now) groups) ≡ is_one_of name (names_on (map step_shown groups))
on_way name [] = refl
on_way name (g ∷ groups) = by (pointwise nat_eq name g.0.now) (on_way name groups)
  where
    by : (here : Bool) → is_some (lookup (λ k. pointwise nat_eq name k.now) groups) ≡ is_one_of name (names_on (map step_shown groups))
        → is_some (cond here (Some g.1) (lookup (λ k. pointwise nat_eq name k.now) groups)) ≡ (here || is_one_of name (names_on (map step_shown groups)))
    by true later = refl
    by false later = later

none_there : {X : Type 0} (found : Option X) → is_some found ≡ false → found ≡ None
none_there None is = refl
none_there (Some x) is = absurd (true≢false is)

-- a group that isn't on the way goes to its end
module _ {S : Type 0} (groups : IndexMap (Bor (List ℕ)) Place S) where
  pub put_on_way : (new : List (Bor (List ℕ) × Place)) (name : Bor (List ℕ)) (behind : Place) (way : List (List ℕ × List (List ℕ) × ℕ)) → map step_shown groups.entries ≡ way
      → is_one_of name.now (names_on way) ≡ false → new ≡ insert_entry (λ k q. pointwise nat_eq k.now q.now) groups.entries name behind
      → map step_shown new ≡ way ++ (name.now, behind.entries.now, behind.depth) ∷ []
  put_on_way new name behind way shown absent put =
      let no : is_some (lookup (λ k. pointwise nat_eq name.now k.now) groups.entries) ≡ false = on_way name.now groups.entries ∙ ap (λ w. is_one_of name.now (names_on w)) shown ∙ absent in
      ap (map step_shown) (put ∙ insert_entry-new (λ k q. pointwise nat_eq k.now q.now) groups name behind (none_there _ no))
      ∙ map-append step_shown groups.entries ((name, behind) ∷ []) ∙ ap (λ w. w ++ (name.now, behind.entries.now, behind.depth) ∷ []) shown
