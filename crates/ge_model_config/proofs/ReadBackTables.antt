-- Tables by name after a row is put in: which names they have, in which order, and that putting it in again changes nothing.
use Rattle.std.proofs.Common.{◌≡◌, ℕ, Bool, true, false, cond, List, [], ◌∷◌, ◌++◌, is_some, Some, refl, sym, ap, ◌∙◌, Ordering, Less, Equal, Greater}
use Rattle.std.specs.BTreeMap.{is_at}
use Rattle.std.specs.List.{list_all}
use Rattle.std.specs.Map.{keys_of}
use Rattle.std.specs.Ordering.{is_eq, match_ordering, ordering_reverse}
use Rattle.std.proofs.lemmas.Bool.{and_parts, and_from, true≢false}
use Rattle.std.proofs.lemmas.Cmp.{tied_itself, nat_list_cmp_total}
use Rattle.ge_collections.specs.Keyed.{text_cmp, at_text, put_text, drop_text}
use Rattle.ge_model_config.specs.Cited.{has_name}

same_text : (name : List ℕ) → text_cmp name name ≡ Equal
same_text name = tied_itself nat_list_cmp_total name

module _ {X : Type 0} where
  first_read : (name other : List ℕ) (row : X) (rows : List (List ℕ × X)) → text_cmp name other ≡ Equal → at_text ((other, row) ∷ rows) name ≡ Some row
  first_read name other row rows is = ap (λ z. cond (is_eq z) (Some row) (at_text rows name)) is

  behind_named : (name : List ℕ) (row : List ℕ × X) (rows : List (List ℕ × X)) → has_name rows name ≡ true → has_name (row ∷ rows) name ≡ true
  behind_named name row rows there = by (is_at (text_cmp name) row.0)
    where
      by : (here : Bool) → is_some (cond here (Some row.1) (at_text rows name)) ≡ true
      by true = refl
      by false = there

  -- what is put in is there
  pub put_read : (table : List (List ℕ × X)) (name : List ℕ) (row : X) → at_text (put_text table name row) name ≡ Some row
  put_read [] name row = first_read name name row [] (same_text name)
  put_read (first ∷ rows) name row = by (text_cmp name first.0) refl (put_read rows name row)
    where
      by : (order : Ordering) → text_cmp name first.0 ≡ order → at_text (put_text rows name row) name ≡ Some row
          → at_text (match_ordering order ((name, row) ∷ first ∷ rows) ((first.0, row) ∷ rows) (first ∷ put_text rows name row)) name ≡ Some row
      by Less is again = first_read name name row (first ∷ rows) (same_text name)
      by Equal is again = first_read name first.0 row rows is
      by Greater is again = ap (λ z. cond (is_eq z) (Some first.1) (at_text (put_text rows name row) name)) is ∙ again

  pub put_there : (table : List (List ℕ × X)) (name : List ℕ) (row : X) → has_name (put_text table name row) name ≡ true
  put_there table name row = ap is_some (put_read table name row)

  -- and what was there stays
  pub put_keeps : (table : List (List ℕ × X)) (name other : List ℕ) (row : X) → has_name table other ≡ true → has_name (put_text table name row) other ≡ true
  put_keeps [] name other row there = absurd (true≢false (sym there))
  put_keeps (first ∷ rows) name other row there = by (text_cmp name first.0) (put_keeps rows name other row)
    where
      replaced : (here : Bool) → is_some (cond here (Some first.1) (at_text rows other)) ≡ true → is_some (cond here (Some row) (at_text rows other)) ≡ true
      replaced true h = refl
      replaced false h = h

      later : (here : Bool) → is_some (cond here (Some first.1) (at_text rows other)) ≡ true → (has_name rows other ≡ true → has_name (put_text rows name row) other ≡ true)
          → is_some (cond here (Some first.1) (at_text (put_text rows name row) other)) ≡ true
      later true h again = refl
      later false h again = again h

      by : (order : Ordering) → (has_name rows other ≡ true → has_name (put_text rows name row) other ≡ true)
          → has_name (match_ordering order ((name, row) ∷ first ∷ rows) ((first.0, row) ∷ rows) (first ∷ put_text rows name row)) other ≡ true
      by Less again = behind_named other (name, row) (first ∷ rows) there
      by Equal again = replaced (is_at (text_cmp other) first.0) there
      by Greater again = later (is_at (text_cmp other) first.0) there again

  -- what is put in twice is put in once
  pub put_again : (table : List (List ℕ × X)) (name : List ℕ) (row : X) → put_text (put_text table name row) name row ≡ put_text table name row
  put_again [] name row = ap (λ z. match_ordering z ((name, row) ∷ (name, row) ∷ []) ((name, row) ∷ []) ((name, row) ∷ (name, row) ∷ [])) (same_text name)
  put_again (first ∷ rows) name row = by (text_cmp name first.0) refl (put_again rows name row)
    where
      by : (order : Ordering) → text_cmp name first.0 ≡ order → put_text (put_text rows name row) name row ≡ put_text rows name row
          → put_text (match_ordering order ((name, row) ∷ first ∷ rows) ((first.0, row) ∷ rows) (first ∷ put_text rows name row)) name row
          ≡ match_ordering order ((name, row) ∷ first ∷ rows) ((first.0, row) ∷ rows) (first ∷ put_text rows name row)
      by Less is again = ap (λ z. match_ordering z ((name, row) ∷ (name, row) ∷ first ∷ rows) ((name, row) ∷ first ∷ rows) ((name, row) ∷ put_text (first ∷ rows) name row)) (same_text name)
      by Equal is again = ap (λ z. match_ordering z ((name, row) ∷ (first.0, row) ∷ rows) ((first.0, row) ∷ rows) ((first.0, row) ∷ put_text rows name row)) is
      by Greater is again =
          ap (λ z. match_ordering z ((name, row) ∷ first ∷ put_text rows name row) ((first.0, row) ∷ put_text rows name row) (first ∷ put_text (put_text rows name row) name row)) is
          ∙ ap (λ z. first ∷ z) again

  -- a table whose names pass a test has such names alone after one is put in that passes it, and after one is taken out
  pub put_passes : (test : List ℕ → Bool) (table : List (List ℕ × X)) (name : List ℕ) (row : X) → test name ≡ true → list_all test (keys_of table) ≡ true
      → list_all test (keys_of (put_text table name row)) ≡ true
  put_passes test [] name row fits all = and_from (test name) true fits refl
  put_passes test (first ∷ rows) name row fits all = by (text_cmp name first.0) (put_passes test rows name row fits parts.1)
    where
      parts : (test first.0 ≡ true) × (list_all test (keys_of rows) ≡ true)
      parts = and_parts (test first.0) (list_all test (keys_of rows)) all

      by : (order : Ordering) → list_all test (keys_of (put_text rows name row)) ≡ true
          → list_all test (keys_of (match_ordering order ((name, row) ∷ first ∷ rows) ((first.0, row) ∷ rows) (first ∷ put_text rows name row))) ≡ true
      by Less again = and_from (test name) (list_all test (keys_of (first ∷ rows))) fits all
      by Equal again = all
      by Greater again = and_from (test first.0) (list_all test (keys_of (put_text rows name row))) parts.0 again

  pub drop_passes : (test : List ℕ → Bool) (table : List (List ℕ × X)) (name : List ℕ) → list_all test (keys_of table) ≡ true → list_all test (keys_of (drop_text table name)) ≡ true
  drop_passes test [] name all = refl
  drop_passes test (first ∷ rows) name all = by (is_at (text_cmp name) first.0) (drop_passes test rows name parts.1)
    where
      parts : (test first.0 ≡ true) × (list_all test (keys_of rows) ≡ true)
      parts = and_parts (test first.0) (list_all test (keys_of rows)) all

      by : (here : Bool) → list_all test (keys_of (drop_text rows name)) ≡ true → list_all test (keys_of (cond here rows (first ∷ drop_text rows name))) ≡ true
      by true again = parts.1
      by false again = and_from (test first.0) (list_all test (keys_of (drop_text rows name))) parts.0 again

-- ---- tables by rising name

-- names that are all above one
abbrev pub AllAbove : {X : Type 0} → List ℕ → List (List ℕ × X) → Type 0
AllAbove name [] = Unit {0}
AllAbove name (row ∷ rows) = (text_cmp name row.0 ≡ Less) × AllAbove name rows

abbrev pub Rises : {X : Type 0} → List (List ℕ × X) → Type 0
Rises [] = Unit {0}
Rises (row ∷ rows) = AllAbove row.0 rows × Rises rows

pub above_put : {X : Type 0} (low name : List ℕ) (value : X) (rows : List (List ℕ × X)) → text_cmp low name ≡ Less → AllAbove low rows → AllAbove low (put_text rows name value)
above_put low name value [] first all = (first, tt)
above_put low name value (row ∷ rows) first (above, all) = by (text_cmp name row.0) (above_put low name value rows first all)
  where
    by : (order : Ordering) → AllAbove low (put_text rows name value) → AllAbove low (match_ordering order ((name, value) ∷ row ∷ rows) ((row.0, value) ∷ rows) (row ∷ put_text rows name value))
    by Less again = (first, (above, all))
    by Equal again = (above, all)
    by Greater again = (above, again)

pub above_more : {X : Type 0} (low name : List ℕ) (rows : List (List ℕ × X)) → text_cmp low name ≡ Less → AllAbove name rows → AllAbove low rows
above_more low name [] first all = tt
above_more low name (row ∷ rows) first (above, all) = (nat_list_cmp_total.trans low name row.0 first above, above_more low name rows first all)

-- what is put in above all names goes behind them
above_middle : {X : Type 0} (low : List ℕ) (front : List (List ℕ × X)) (row : List ℕ × X) (rows : List (List ℕ × X)) → AllAbove low (front ++ row ∷ rows) → text_cmp low row.0 ≡ Less
above_middle low [] row rows all = all.0
above_middle low (first ∷ front) row rows all = above_middle low front row rows all.1

pub put_behind : {X : Type 0} (front : List (List ℕ × X)) (row : List ℕ × X) (rows : List (List ℕ × X)) → Rises (front ++ row ∷ rows) → put_text front row.0 row.1 ≡ front ++ row ∷ []
put_behind [] row rows all = refl
put_behind (first ∷ front) row rows (above, all) =
    ap (λ order. match_ordering order (row ∷ first ∷ front) ((first.0, row.1) ∷ front) (first ∷ put_text front row.0 row.1))
    (nat_list_cmp_total.antisymm row.0 first.0 ∙ ap ordering_reverse (above_middle first.0 front row rows above))
    ∙ ap (λ z. first ∷ z) (put_behind front row rows all)

-- a row of a table is what the table has at its name
pub at_middle : {X : Type 0} (front : List (List ℕ × X)) (row : List ℕ × X) (rows : List (List ℕ × X)) → Rises (front ++ row ∷ rows) → at_text (front ++ row ∷ rows) row.0 ≡ Some row.1
at_middle [] row rows all = first_read row.0 row.0 row.1 rows (same_text row.0)
at_middle (first ∷ front) row rows (above, all) =
    ap (λ order. cond (is_eq order) (Some first.1) (at_text (front ++ row ∷ rows) row.0)) (nat_list_cmp_total.antisymm row.0 first.0 ∙ ap ordering_reverse (above_middle first.0 front row rows above))
    ∙ at_middle front row rows all
