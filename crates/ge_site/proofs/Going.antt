-- A group that is gone into: what comes of it is what the model's walk through the group gives.
use Rattle.std.proofs.Common.{length, arith, Option, None, IfSome, IfNone, MatchOption, ◌≡◌, ℕ, suc, Bool, true, false, true≢false, List, [], ◌∷◌, ◌++◌, fold, Some, refl, ap, ◌∙◌, sym, append_assoc}
use Rattle.std.proofs.lemmas.List.{map-append, append-nil}
use Rattle.ge_collections.specs.Keyed.{at_text}
use Rattle.ge_model_rows.specs.Pieces.{is_one_of}
use Rattle.ge_model_rows.specs.Groups.{Walk, is_group, meets_group, through_entry, through_group}
use Rattle.ge_site.specs.declared.way.Place.{Place}
use Rattle.ge_site.specs.Walks.{names_on, gone_back, outcome}

otherwise : (t : Bool) → t ≡ false → (here there : Walk) → elim t [ true ↦ here | false ↦ there ] ≡ there
otherwise true is here there = absurd (true≢false is)
otherwise false is here there = refl

module _ (table : List (List ℕ × List (List ℕ))) where
  -- the last of a way is gone back first
  pub gone_back_last : (before : List (List ℕ)) (way : List (List ℕ × List (List ℕ) × ℕ)) (name : List ℕ) (entries : List (List ℕ)) (depth : ℕ) (walk : Walk)
      → gone_back table before (way ++ (name, entries, depth) ∷ []) walk ≡ gone_back table before way (fold (through_entry (through_group depth table (before ++ names_on way))) walk entries)
  gone_back_last before [] name entries depth walk = ap (λ on. fold (through_entry (through_group depth table on)) walk entries) (sym (append-nil before))
  gone_back_last before (g ∷ way) name entries depth walk =
      ap (λ w. fold (through_entry (through_group g.2 table before)) w g.1)
      (gone_back_last (before ++ g.0 ∷ []) way name entries depth walk
      ∙ ap (λ on. gone_back table (before ++ g.0 ∷ []) way (fold (through_entry (through_group depth table on)) walk entries)) (append_assoc before (g.0 ∷ []) (names_on way)))

  -- a group that is there, off the way and not yet met, is walked through entry by entry
  gone_into : (on : List (List ℕ)) (walk : Walk) (name : List ℕ) (entries : List (List ℕ)) (deeper : ℕ) → at_text table name ≡ Some entries → is_one_of name on ≡ false
      → is_one_of name walk.groups ≡ false → through_group (suc deeper) table on walk name ≡ fold (through_entry (through_group deeper table (on ++ name ∷ []))) (meets_group walk name) entries
  gone_into on walk name entries deeper there off unmet = rw (there, through_group) (otherwise (is_one_of name on) off _ _ ∙ otherwise (is_one_of name walk.groups) unmet _ _)

  pub comes_of : (way : List (List ℕ × List (List ℕ) × ℕ)) (behind : List (List ℕ)) (depth : ℕ) (walk : Walk) (name : List ℕ) (entries : List (List ℕ)) (deeper : ℕ) → at_text table name ≡ Some entries
      → is_one_of name (names_on way) ≡ false → is_one_of name walk.groups ≡ false
      → outcome table (way ++ (name, behind, depth) ∷ []) entries deeper (meets_group walk name) ≡ outcome table way behind depth (through_group (suc deeper) table (names_on way) walk name)
  comes_of way behind depth walk name entries deeper there off unmet =
      ap (λ on. gone_back table [] (way ++ (name, behind, depth) ∷ []) (fold (through_entry (through_group deeper table on)) (meets_group walk name) entries)) (map-append (λ g. g.0) way ((name, behind, depth) ∷ []))
      ∙ gone_back_last [] way name behind depth (fold (through_entry (through_group deeper table (names_on way ++ name ∷ []))) (meets_group walk name) entries)
      ∙ ap (λ w. outcome table way behind depth w) (sym (gone_into (names_on way) walk name entries deeper there off unmet))

chosen : (t : Bool) → t ≡ true → (here there : Walk) → elim t [ true ↦ here | false ↦ there ] ≡ here
chosen true is here there = refl
chosen false is here there = absurd (true≢false (sym is))

-- an entry that names a group is gone into, one group deeper
pub taken_deeper : (table : List (List ℕ × List (List ℕ))) (on : List (List ℕ)) (walk : Walk) (entry : List ℕ) (depth deeper : ℕ) → is_group entry ≡ true → depth ≡ suc deeper
    → through_entry (through_group depth table on) walk entry ≡ through_group (suc deeper) table on walk entry
taken_deeper table on walk entry depth deeper group deep = chosen (is_group entry) group _ _ ∙ ap (λ d. through_group d table on walk entry) deep

empty : (entries : List (List ℕ)) → length entries ≡ 0 → entries ≡ []
empty [] none = refl
empty (entry ∷ entries) none = absurd (omega (arith, none))

-- where no entry is left, what comes of the walk is what comes of it behind the last group of the way
pub went_back : (table : List (List ℕ × List (List ℕ))) (way new : List (List ℕ × List (List ℕ) × ℕ)) (entries : List (List ℕ)) (depth : ℕ) (walk : Walk) (behind : Option Place) → length entries ≡ 0
    → IfSome behind (λ next. (name : List ℕ) × (way ≡ new ++ (name, next.entries.now, next.depth) ∷ [])) → IfNone behind (way ≡ [])
    → MatchOption behind (walk ≡ outcome table way entries depth walk) (λ next. outcome table new next.entries.now next.depth walk ≡ outcome table way entries depth walk)
went_back table way new entries depth walk None over last none = ap (λ w. outcome table w [] depth walk) (sym none) ∙ ap (λ es. outcome table way es depth walk) (sym (empty entries over))
went_back table way new entries depth walk (Some next) over last none =
    sym (gone_back_last table [] new last.0 next.entries.now next.depth walk) ∙ ap (λ w. gone_back table [] w walk) (sym last.1) ∙ ap (λ es. outcome table way es depth walk) (sym (empty entries over))
