-- The opening table of complexes is one that is printed as it is read; a table that is put in place of itself is refused for nothing.
use Rattle.std.proofs.Common.{◌≡◌, ℕ, ◌^◌, ◌&&◌, ◌||◌, Bool, true, false, not, nat_lt, List, [], ◌∷◌, ◌++◌, flat_map, Some, refl, sym, ap, ◌∙◌, Ordering, Less, Equal, Greater, is_lt, subst, append_assoc}
use Rattle.std.proofs.lemmas.Bool.{and_parts, ltb-true, true≢false}
use Rattle.ge_base.specs.declared.refusal.Refusal.TheVariants.{InUse}
use Rattle.ge_collections.specs.Keyed.{text_cmp}
use Rattle.ge_model_rows.specs.ClusterRows.{Cluster, opening_cluster}
use Rattle.ge_model_rows.specs.ValueRows.{Value, Amount, Word, Kind, ComplexDef, infinity}
use Rattle.ge_model_grammar.specs.Names.{is_name}
use Rattle.ge_model_rows.specs.Faults.{when}
use Rattle.ge_model_rows.specs.Complexes.{opening_complexes, is_consumed}
use Rattle.ge_model_config.specs.Columns.{is_same_kind}
use Rattle.ge_model_config.specs.Complexes.{fits_use, breaks_use, use_faults}
use Rattle.ge_model_config.specs.Used.{rule_where, is_complex_used}
use Rattle.ge_model_config.specs.Cited.{has_name}
use Rattle.ge_model_config.proofs.ReadBackSettings.{is_up_to}
use Rattle.ge_model_config.proofs.ReadBackTables.{AllAbove, Rises, at_middle}
use Rattle.ge_model_config.proofs.ReadBackValues.{FitsKind}
use Rattle.ge_model_config.proofs.ReadBackRows.{IsComplex}
use Rattle.ge_model_config.proofs.ReadBackComplexes.{AreComplexes, IsTable, complexes_rise}

-- ---- the opening table, by a test that computes

fits_amount : Value → Bool
fits_amount (Amount n) = nat_lt n (2 ^ 48)
fits_amount _ = false

fits_empty : Value → Bool
fits_empty (Word []) = true
fits_empty _ = false

-- amounts, and no words
fits_plainly : Kind → Value → Bool
fits_plainly Kind.Int value = fits_amount value
fits_plainly Kind.Time value = fits_amount value
fits_plainly Kind.Memory value = fits_amount value
fits_plainly Kind.Double value = fits_amount value
fits_plainly Kind.Bool value = false
fits_plainly _ value = fits_empty value

is_complex : List ℕ → ComplexDef → Bool
is_complex name d = is_name name && is_name d.shortcut && fits_plainly d.kind d.fallback && is_up_to infinity d.urgency && fits_use name d.kind d.relop d.consumable

is_below : List ℕ → List (List ℕ × ComplexDef) → Bool
is_below low [] = true
is_below low (row ∷ rows) = is_lt (text_cmp low row.0) && is_below low rows

are_complexes : List (List ℕ × ComplexDef) → Bool
are_complexes [] = true
are_complexes (row ∷ rows) = is_complex row.0 row.1 && is_below row.0 rows && are_complexes rows

amount_fits : (k : Kind) (value : Value) → fits_plainly k value ≡ true → FitsKind k value
unfolding fits_amount fits_empty fits_plainly
amount_fits Kind.Int (Amount n) h = ltb-true n (2 ^ 48) h
amount_fits Kind.Time (Amount n) h = ltb-true n (2 ^ 48) h
amount_fits Kind.Memory (Amount n) h = ltb-true n (2 ^ 48) h
amount_fits Kind.Double (Amount n) h = ltb-true n (2 ^ 48) h
amount_fits Kind.Str (Word []) h = tt
amount_fits Kind.CStr (Word []) h = tt
amount_fits Kind.ReStr (Word []) h = tt
amount_fits Kind.Host (Word []) h = tt
amount_fits Kind.Str (Word (b ∷ word)) h = absurd (true≢false (sym h))
amount_fits Kind.CStr (Word (b ∷ word)) h = absurd (true≢false (sym h))
amount_fits Kind.ReStr (Word (b ∷ word)) h = absurd (true≢false (sym h))
amount_fits Kind.Host (Word (b ∷ word)) h = absurd (true≢false (sym h))
amount_fits Kind.Bool value h = absurd (true≢false (sym h))
amount_fits _ _ h = absurd (true≢false (sym h))

complex_is : (name : List ℕ) (d : ComplexDef) → is_complex name d ≡ true → IsComplex name d
unfolding is_complex
complex_is name d h =
    let five = and_parts (is_name name && is_name d.shortcut && fits_plainly d.kind d.fallback && is_up_to infinity d.urgency) (fits_use name d.kind d.relop d.consumable) h in
    let four = and_parts (is_name name && is_name d.shortcut && fits_plainly d.kind d.fallback) (is_up_to infinity d.urgency) five.0 in
    let three = and_parts (is_name name && is_name d.shortcut) (fits_plainly d.kind d.fallback) four.0 in
    let two = and_parts (is_name name) (is_name d.shortcut) three.0 in
    record { named = two.0; short = two.1; fallback = amount_fits d.kind d.fallback three.1; urgency = four.1; compared = five.1 }

is_less : (order : Ordering) → is_lt order ≡ true → order ≡ Less
is_less Less h = refl
is_less Equal h = absurd (true≢false (sym h))
is_less Greater h = absurd (true≢false (sym h))

below_all : (low : List ℕ) (rows : List (List ℕ × ComplexDef)) → is_below low rows ≡ true → AllAbove low rows
unfolding is_below
below_all low [] h = tt
below_all low (row ∷ rows) h =
    let parts = and_parts (is_lt (text_cmp low row.0)) (is_below low rows) h in (is_less (text_cmp low row.0) parts.0, below_all low rows parts.1)

complexes_are : (rows : List (List ℕ × ComplexDef)) → are_complexes rows ≡ true → AreComplexes rows
unfolding are_complexes
complexes_are [] h = tt
complexes_are (row ∷ rows) h =
    let parts = and_parts (is_complex row.0 row.1 && is_below row.0 rows) (are_complexes rows) h in
    let first = and_parts (is_complex row.0 row.1) (is_below row.0 rows) parts.0 in
    (complex_is row.0 row.1 first.0, below_all row.0 rows first.1, complexes_are rows parts.1)

pub opening_rows : AreComplexes opening_cluster.complexes
unfolding opening_cluster opening_complexes are_complexes is_complex is_below fits_plainly fits_amount fits_empty
opening_rows = complexes_are opening_complexes refl

-- ---- a table in place of itself

same_kind : (k : Kind) → is_same_kind k k ≡ true
same_kind Kind.Int = refl
same_kind Kind.Time = refl
same_kind Kind.Memory = refl
same_kind Kind.Double = refl
same_kind Kind.Bool = refl
same_kind Kind.Str = refl
same_kind Kind.CStr = refl
same_kind Kind.ReStr = refl
same_kind Kind.Host = refl

-- a complex that stays breaks no use
keeps_use : (c : Cluster) (name : List ℕ) (d : ComplexDef) → breaks_use c name d (Some d) ≡ false
keeps_use c name d = ap (λ z. not z || (is_consumed d.consumable && not (is_consumed d.consumable) && rule_where c (λ rule. has_name rule.limits name))) (same_kind d.kind) ∙ by (is_consumed d.consumable) (rule_where c (λ rule. has_name rule.limits name))
  where
    by : (consumed limited : Bool) → (false || (consumed && not consumed && limited)) ≡ false
    by true limited = refl
    by false limited = refl

used_still : (c : Cluster) (front rows : List (List ℕ × ComplexDef)) → Rises (front ++ rows) → flat_map (use_faults c (front ++ rows)) rows ≡ []
used_still c front [] all = refl
used_still c front (row ∷ rows) all =
    λ i. here i ++ subst (λ table. Rises table → flat_map (use_faults c table) rows ≡ []) (append_assoc front (row ∷ []) rows) (used_still c (front ++ row ∷ []) rows) all i
  where
    here : use_faults c (front ++ row ∷ rows) row ≡ []
    here =
        ap (λ new. when (breaks_use c row.0 row.1 new && is_complex_used c row.0) InUse) (at_middle front row rows all)
        ∙ ap (λ z. when (z && is_complex_used c row.0) InUse) (keeps_use c row.0 row.1)

-- a table that was read is one in the cluster that has it, too
pub table_still : (c other : Cluster) (table : List (List ℕ × ComplexDef)) → other.complexes ≡ table → IsTable c table → IsTable other table
table_still c other table same is = record {
  rows = is.rows;
  words = is.words;
  used = ap (flat_map (use_faults other table)) same ∙ used_still other [] table (complexes_rise table is.rows);
  few = is.few;
}
