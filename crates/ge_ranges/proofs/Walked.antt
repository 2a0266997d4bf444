-- Two sets walked side by side: a turn, and where one of them ends.
use Rattle.std.proofs.Common.{◌≡◌, ℕ, suc, ◌-◌, ◌<◌, ◌&&◌, Bool, true, List, [], ◌∷◌, ◌++◌, refl, sym, ap, ◌∙◌, arith, append-nil}
use Rattle.std.specs.Prelude.{Option, Some, None}
use Rattle.ge_model_rows.specs.TaskRows.{TaskSpan}
use Rattle.ge_model_rows.specs.Sets.{kept, merged}
use Rattle.std.specs.Option.{option_to_list}
use Rattle.std.proofs.lemmas.List.Folds.{list_all-append}
use Rattle.ge_ranges.specs.Forming.{formed_from, parted, has_second, have_seconds}

-- the list that was parted
abbrev back : {T : Type 0} → Option (T × List T) → List T
back None = []
back (Some (item, items)) = item ∷ items

whole : {T : Type 0} (xs : List T) → back (parted xs) ≡ xs
whole [] = refl
whole (x ∷ xs) = refl

pub is_parted : {T : Type 0} (xs rest : List T) (x : T) → Some (x, rest) ≡ parted xs → x ∷ rest ≡ xs
is_parted xs rest x is = ap back is ∙ whole xs

pub is_none : {T : Type 0} (xs : List T) → None ≡ parted xs → [] ≡ xs
is_none xs is = ap back is ∙ whole xs

-- what was parted from spans that have their seconds
pub seconds_left : (part : Option TaskSpan) (behind rest : List TaskSpan) (s : TaskSpan) → Some (s, rest) ≡ parted (option_to_list part ++ behind)
    → have_seconds (option_to_list part) ≡ true → have_seconds behind ≡ true → (has_second s ≡ true) × (have_seconds rest ≡ true)
seconds_left part behind rest s is one two =
    both (has_second s) (have_seconds rest)
    (ap have_seconds (is_parted (option_to_list part ++ behind) rest s is) ∙ list_all-append has_second (option_to_list part) behind
    ∙ (λ i. one i && two i))
  where
    both : (a b : Bool) → (a && b) ≡ true → (a ≡ true) × (b ≡ true)
    both a b h = grind arith

module _ (a b c : Bool) (turns : ℕ) (some : 0 < turns) (left right : List TaskSpan) (total : List TaskSpan) (done : List TaskSpan) (run : Option TaskSpan)
    (so_far : done ++ formed_from run (merged a b c turns left right) ≡ total) where
  one_more : turns ≡ suc (turns - 1)
  one_more = omega arith

  -- a turn of the walk
  pub turned : (s t : TaskSpan) (spans others : List TaskSpan) → Some (s, spans) ≡ parted left → Some (t, others) ≡ parted right
      → (after : List TaskSpan) (next : Option TaskSpan) (new_left new_right : List TaskSpan)
      → after ++ formed_from next (merged a b c (turns - 1) new_left new_right) ≡ done ++ formed_from run (merged a b c (suc (turns - 1)) (s ∷ spans) (t ∷ others))
      → after ++ formed_from next (merged a b c (turns - 1) new_left new_right) ≡ total
  turned s t spans others one two after next new_left new_right is =
      is ∙ (λ i. done ++ formed_from run (merged a b c (sym one_more i) (is_parted left spans s one i) (is_parted right others t two i))) ∙ so_far

  -- the first set ends
  pub first_ends : None ≡ parted left → (after : List TaskSpan) (next : Option TaskSpan)
      → ((rest : List TaskSpan) → after ++ formed_from next rest ≡ done ++ formed_from run (kept c right ++ rest))
      → after ++ formed_from next [] ≡ total
  first_ends ends after next is =
      is [] ∙ ap (λ xs. done ++ formed_from run xs) (append-nil (kept c right))
      ∙ (λ i. done ++ formed_from run (merged a b c (sym one_more i) (is_none left ends i) right)) ∙ so_far

  -- the second set ends
  pub second_ends : (s : TaskSpan) (spans : List TaskSpan) → Some (s, spans) ≡ parted left → None ≡ parted right → (after : List TaskSpan) (next : Option TaskSpan)
      → ((rest : List TaskSpan) → after ++ formed_from next rest ≡ done ++ formed_from run (kept a left ++ rest))
      → after ++ formed_from next [] ≡ total
  second_ends s spans one ends after next is =
      is [] ∙ ap (λ xs. done ++ formed_from run xs) (append-nil (kept a left))
      ∙ ap (λ xs. done ++ formed_from run (kept a xs)) (sym (is_parted left spans s one))
      ∙ (λ i. done ++ formed_from run (merged a b c (sym one_more i) (is_parted left spans s one i) (is_none right ends i))) ∙ so_far
