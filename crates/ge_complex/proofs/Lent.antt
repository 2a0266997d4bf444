-- What is lent at a shortcut, after one more row.
use Rattle.std.proofs.Common.{◌≡◌, ℕ, refl, sym, ap, ◌∙◌, true≢false}
use Rattle.std.specs.Prelude.{Bool, true, false, cond, List, [], ◌∷◌, ◌++◌, map, find, Option, Some, None, refl as same}
use Rattle.std.specs.BTreeMap.{insert_entry, is_at}
use Rattle.std.specs.Map.{lookup}
use Rattle.std.specs.Map.Iter.{deref_pair}
use Rattle.std.specs.Option.{option_or, option_map}
use Rattle.std.specs.Ordering.{is_eq, match_ordering}
use Rattle.std.specs.declared.cmp.Ordering.{Ordering}
use Rattle.std.specs.declared.cmp.Ordering.TheVariants.{Less, Equal, Greater}
use Rattle.std.proofs.lemmas.Map.Lookups.{CmpEqualImpliesEq, exact_bytes}
use Rattle.ge_collections.specs.Keyed.{text_cmp, text_eq, put_text}
use Rattle.std.specs.Cmp.Lexicographic.{nat_list_eq_equiv, texts_ties}
use denote.Ref.{Bor}
use Rattle.ge_model_rows.specs.ValueRows.{ComplexDef}
use Rattle.ge_complex.specs.ByShortcut.{Lent, lent_rows, lent_at, first_with, first_else}

equal : (o : Ordering) → is_eq o ≡ true → o ≡ Equal
equal Less e = absurd (true≢false (sym e))
equal Equal e = refl
equal Greater e = absurd (true≢false (sym e))

-- a look-up after one more pair was put in, where keys that rank alike are equal
put_in : {K X : Type 0} (cmp : K → K → Ordering) → CmpEqualImpliesEq cmp → (rows : List (K × X)) (k q : K) (v : X)
    → lookup (is_at (cmp q)) (insert_entry cmp rows k v) ≡ cond (is_eq (cmp q k)) (Some v) (lookup (is_at (cmp q)) rows)
put_in cmp exact [] k q v = refl
put_in {K} {X} cmp exact (row ∷ rows) k q v = by (cmp k row.0) same (put_in cmp exact rows k q v)
  where
    twice : (b : Bool) (o : Option X) → cond b (Some v) o ≡ cond b (Some v) (cond b (Some row.1) o)
    twice true o = refl
    twice false o = refl

    apart : (b : Bool) → is_eq (cmp q row.0) ≡ b → (d : Bool) → is_eq (cmp q k) ≡ d → is_eq (cmp k row.0) ≡ false
        → cond b (Some row.1) (cond d (Some v) (lookup (is_at (cmp q)) rows)) ≡ cond d (Some v) (cond b (Some row.1) (lookup (is_at (cmp q)) rows))
    apart true at true there other = absurd (true≢false (sym (ap (λ (n : K). is_eq (cmp n row.0)) (sym (exact q k (equal (cmp q k) there))) ∙ at) ∙ other))
    apart true at false there other = refl
    apart false at true there other = refl
    apart false at false there other = refl

    by : (o : Ordering) → cmp k row.0 ≡ o → lookup (is_at (cmp q)) (insert_entry cmp rows k v) ≡ cond (is_eq (cmp q k)) (Some v) (lookup (is_at (cmp q)) rows)
        → lookup (is_at (cmp q)) (match_ordering o ((k, v) ∷ row ∷ rows) ((row.0, v) ∷ rows) (row ∷ insert_entry cmp rows k v))
        ≡ cond (is_eq (cmp q k)) (Some v) (cond (is_eq (cmp q row.0)) (Some row.1) (lookup (is_at (cmp q)) rows))
    by Less is later = refl
    by Equal is later =
        twice (is_eq (cmp q row.0)) (lookup (is_at (cmp q)) rows)
        ∙ ap (λ (n : K). cond (is_eq (cmp q n)) (Some v) (cond (is_eq (cmp q row.0)) (Some row.1) (lookup (is_at (cmp q)) rows))) (sym (exact k row.0 is))
    by Greater is later =
        ap (λ (o : Option X). cond (is_eq (cmp q row.0)) (Some row.1) o) later ∙ apart (is_eq (cmp q row.0)) same (is_eq (cmp q k)) same (ap is_eq is)

abbrev by_text : Bor (List ℕ) → Bor (List ℕ) → Ordering
by_text x y = text_cmp x.now y.now

lent_put : (es : List Lent) (k : Bor (List ℕ)) (v : Bor (List ℕ) × Bor ComplexDef) → lent_rows (insert_entry by_text es k v) ≡ put_text (lent_rows es) k.now (deref_pair v)
lent_put [] k v = refl
lent_put (e ∷ es) k v = by (text_cmp k.now e.0.now) (lent_put es k v)
  where
    by : (o : Ordering) → lent_rows (insert_entry by_text es k v) ≡ put_text (lent_rows es) k.now (deref_pair v)
        → lent_rows (match_ordering o ((k, v) ∷ e ∷ es) ((e.0, v) ∷ es) (e ∷ insert_entry by_text es k v))
        ≡ match_ordering o ((k.now, deref_pair v) ∷ lent_rows (e ∷ es)) ((e.0.now, deref_pair v) ∷ lent_rows es) ((e.0.now, deref_pair e.1) ∷ put_text (lent_rows es) k.now (deref_pair v))
    by Less h = refl
    by Equal h = refl
    by Greater h = ap (λ (r : List (List ℕ × (List ℕ × ComplexDef))). (e.0.now, deref_pair e.1) ∷ r) h

pub lent_at_put : (es new : List Lent) (k : Bor (List ℕ)) (v : Bor (List ℕ) × Bor ComplexDef) (text word : List ℕ) → k.now ≡ text → new ≡ insert_entry by_text es k v
    → lent_at new word ≡ cond (is_at (text_cmp word) text) (Some (deref_pair v)) (lent_at es word)
lent_at_put es new k v text word key is =
    ap (λ (s : List Lent). lent_at s word) is ∙ ap (λ (s : List (List ℕ × (List ℕ × ComplexDef))). lookup (is_at (text_cmp word)) s) (lent_put es k v)
    ∙ put_in text_cmp exact_bytes (lent_rows es) k.now word (deref_pair v)
    ∙ ap (λ (t : List ℕ). cond (is_at (text_cmp word) t) (Some (deref_pair v)) (lent_at es word)) key

pub lent_found : (es : List Lent) (word : List ℕ) → option_map deref_pair (lookup (λ k. is_at (text_cmp word) k.now) es) ≡ lent_at es word
lent_found [] word = refl
lent_found (e ∷ es) word = by (is_at (text_cmp word) e.0.now) (lent_found es word)
  where
    by : (b : Bool) → option_map deref_pair (lookup (λ k. is_at (text_cmp word) k.now) es) ≡ lent_at es word
        → option_map deref_pair (cond b (Some e.1) (lookup (λ k. is_at (text_cmp word) k.now) es)) ≡ cond b (Some (deref_pair e.1)) (lent_at es word)
    by true h = refl
    by false h = h

same_text : (text word : List ℕ) → is_at (text_cmp word) text ≡ text_eq text word
same_text text word = sym (texts_ties word text) ∙ nat_list_eq_equiv.symm word text

-- the first of a list that has one more at its end
first_else_last : (rows : List (List ℕ × ComplexDef)) (row : List ℕ × ComplexDef) (word : List ℕ) (other : Option (List ℕ × ComplexDef))
    → first_else (rows ++ row ∷ []) word other ≡ first_else rows word (cond (text_eq row.1.shortcut word) (Some row) other)
first_else_last [] row word other = by (text_eq row.1.shortcut word)
  where
    by : (b : Bool) → option_or (cond b (Some row) None) other ≡ cond b (Some row) other
    by true = refl
    by false = refl
first_else_last (first ∷ rows) row word other = by (text_eq first.1.shortcut word) (first_else_last rows row word other)
  where
    by : (b : Bool) → first_else (rows ++ row ∷ []) word other ≡ first_else rows word (cond (text_eq row.1.shortcut word) (Some row) other)
        → option_or (cond b (Some first) (first_with (rows ++ row ∷ []) word)) other ≡ option_or (cond b (Some first) (first_with rows word)) (cond (text_eq row.1.shortcut word) (Some row) other)
    by true h = refl
    by false h = h

-- the last row of what is left is put into the index
pub turned : (before after : List (List ℕ × ComplexDef)) (name : List ℕ) (row : ComplexDef) (word : List ℕ) (old new whole : Option (List ℕ × ComplexDef)) → before ≡ after ++ (name, row) ∷ []
    → new ≡ cond (is_at (text_cmp word) row.shortcut) (Some (name, row)) old → first_else before word old ≡ whole → first_else after word new ≡ whole
turned before after name row word old new whole is put so_far =
    ap (first_else after word) (put ∙ ap (λ (b : Bool). cond b (Some (name, row)) old) (same_text row.shortcut word))
    ∙ sym (first_else_last after (name, row) word old) ∙ ap (λ (rows : List (List ℕ × ComplexDef)). first_else rows word old) (sym is) ∙ so_far
