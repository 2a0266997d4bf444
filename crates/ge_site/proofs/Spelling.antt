-- The members of every group, put into a table in the order of its names.
use Rattle.std.proofs.Common.{◌≡◌, ℕ, List, [], ◌∷◌, ◌++◌, map, refl, ap, subst, sym, ◌∙◌, append_assoc}
use Rattle.std.proofs.lemmas.Cmp.{nat_list_cmp_total}
use Rattle.std.proofs.lemmas.List.{append-nil}
use Rattle.std.specs.declared.cmp.Ordering.TheVariants.{Less}
use Rattle.std.specs.List.{AllByRecursion}
use Rattle.std.specs.List.Sorted.{IsStrictlySortedBy}
use Rattle.std.specs.Ordering.{match_ordering, ordering_reverse}
use Rattle.std.specs.Map.{keys_of}
use Rattle.ge_collections.specs.Keyed.{text_cmp, put_text}

at_middle : {X : Type 0} (P : List ℕ → Type 0) (table : List (List ℕ × X)) (name : List ℕ) (row : X) (rest : List (List ℕ × X)) → AllByRecursion P (keys_of (table ++ (name, row) ∷ rest)) → P name
at_middle P [] name row rest each = each.0
at_middle P (e ∷ table) name row rest each = at_middle P table name row rest each.1

-- a name above those of a table goes behind them
put_last : {X : Type 0} (table : List (List ℕ × X)) (name : List ℕ) (row : X) (rest : List (List ℕ × X)) → IsStrictlySortedBy text_cmp (keys_of (table ++ (name, row) ∷ rest)) → put_text table name row ≡ table ++ (name, row) ∷ []
unfolding IsStrictlySortedBy
put_last [] name row rest rising = refl
put_last (e ∷ table) name row rest rising =
    ap (λ o. match_ordering o ((name, row) ∷ e ∷ table) ((e.0, row) ∷ table) (e ∷ put_text table name row))
    (nat_list_cmp_total.antisymm name e.0 ∙ ap ordering_reverse (at_middle (λ q. text_cmp e.0 q ≡ Less) table name row rest rising.0))
    ∙ ap (λ r. e ∷ r) (put_last table name row rest rising.1)

module _ (spelled : List ℕ → List (List ℕ)) where
  keys_spelled : (names : List (List ℕ)) → keys_of (map (λ name. (name, spelled name)) names) ≡ names
  keys_spelled [] = refl
  keys_spelled (name ∷ names) = ap (λ r. name ∷ r) (keys_spelled names)

  -- one more group is spelled out: those so far and those that are left are all
  pub spelled_more : (all : List (List ℕ)) (so_far after : List (List ℕ × List (List ℕ))) (left rest : List (List ℕ)) (name : List ℕ) → IsStrictlySortedBy text_cmp all
      → so_far ++ map (λ name. (name, spelled name)) left ≡ map (λ name. (name, spelled name)) all → left ≡ name ∷ rest → after ≡ put_text so_far name (spelled name)
      → after ++ map (λ name. (name, spelled name)) rest ≡ map (λ name. (name, spelled name)) all
  spelled_more all so_far after left rest name rising joined next more =
      let others : List (List ℕ × List (List ℕ)) = map (λ name. (name, spelled name)) rest in
      let whole : so_far ++ (name, spelled name) ∷ others ≡ map (λ name. (name, spelled name)) all = ap (λ l. so_far ++ map (λ name. (name, spelled name)) l) (sym next) ∙ joined in
      let above : IsStrictlySortedBy text_cmp (keys_of (so_far ++ (name, spelled name) ∷ others)) = subst (IsStrictlySortedBy text_cmp) (sym (ap keys_of whole ∙ keys_spelled all)) rising in
      let last : after ≡ so_far ++ (name, spelled name) ∷ [] = more ∙ put_last so_far name (spelled name) others above in
      ap (λ r. r ++ others) last ∙ append_assoc so_far ((name, spelled name) ∷ []) others ∙ whole

  by_name : (groups : List (List ℕ × List (List ℕ))) → map {B = List ℕ × List (List ℕ)} (λ name. (name, spelled name)) (keys_of groups) ≡ map {B = List ℕ × List (List ℕ)} (λ group. (group.0, spelled group.0)) groups
  by_name [] = refl
  by_name (group ∷ groups) = ap (λ r. (group.0, spelled group.0) ∷ r) (by_name groups)

  -- where none is left, all are spelled out
  pub all_spelled : (groups so_far : List (List ℕ × List (List ℕ))) (left : List (List ℕ)) → left ≡ [] → so_far ++ map (λ name. (name, spelled name)) left ≡ map (λ name. (name, spelled name)) (keys_of groups)
      → so_far ≡ map (λ group. (group.0, spelled group.0)) groups
  all_spelled groups so_far left over joined = sym (append-nil so_far) ∙ ap (λ l. so_far ++ map (λ name. (name, spelled name)) l) (sym over) ∙ joined ∙ by_name groups
