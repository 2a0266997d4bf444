-- What is asked for beside slots adds nothing where no complex beside slots does.
use Rattle.std.proofs.Common.{◌≡◌, refl, ap, sym, ◌∙◌, arith, true≢false}
use Rattle.std.specs.Prelude.{ℕ, Bool, true, false, cond, not, ◌&&◌, ◌||◌, ◌==◌, if◌then◌else◌, List, [], ◌∷◌, fold, codes, Option, Some, None, refl as same}
use Rattle.std.specs.BTreeMap.{is_at}
use Rattle.std.specs.List.{list_any}
use Rattle.std.specs.Map.{lookup}
use Rattle.std.specs.Ordering.{is_eq}
use Rattle.std.specs.declared.cmp.Ordering.{Ordering}
use Rattle.std.specs.declared.cmp.Ordering.TheVariants.{Less, Equal, Greater}
use Rattle.std.proofs.lemmas.Map.Lookups.{exact_bytes}
use Rattle.std.proofs.lemmas.Map.Views.{exact_unsigned_eq}
use Rattle.ge_base.specs.Fixed.{cut_sum, cut_product}
use Rattle.ge_collections.specs.Keyed.{text_cmp}
use Rattle.ge_model_rows.specs.ClusterRows.{Cluster}
use Rattle.ge_model_rows.specs.ValueRows.{Value, Amount, Flag, Word, Kind, ComplexDef}
use Rattle.ge_model_order.specs.Urgency.{in_ones, value_urgency, resource_urgency}
use Rattle.ge_order.specs.Standings.{AreUnits, adds_beside, others_add, others_urgency, with_other}
use Rattle.ge_order.specs.declared.asked.Units.{Units}

pub neither : (a b : Bool) → (a || b) ≡ false → (a ≡ false) × (b ≡ false)
neither true b none = absurd (true≢false none)
neither false b none = (refl, none)

-- of a row that adds nothing beside slots, and isn't that of slots
unweighed : (urgency : ℕ) (is_slots : Bool) → is_slots ≡ false → (not (urgency == 0) && not is_slots) ≡ false → urgency ≡ 0
unweighed urgency is_slots other none =
    exact_unsigned_eq urgency 0 (by (urgency == 0) (ap (λ b. not (urgency == 0) && not b) (sym other) ∙ none))
  where
    by : (b : Bool) → (not b && true) ≡ false → b ≡ true
    by true fact = refl
    by false fact = absurd (true≢false fact)

cut_none : (n : ℕ) → cut_product 0 n ≡ 0
cut_none n = omega arith

none_in_ones : (kind : Kind) → in_ones kind 0 ≡ 0
none_in_ones Kind.Double = refl
none_in_ones _ = refl

nothing_of : (complex : ComplexDef) (slots : ℕ) (value : Value) → complex.urgency ≡ 0 → value_urgency complex slots value ≡ 0
nothing_of complex slots (Amount amount) none =
    ap (λ urgency. in_ones complex.kind (cut_product (cut_product urgency slots) amount)) none
    ∙ ap (λ product. in_ones complex.kind (cut_product product amount)) (cut_none slots)
    ∙ ap (in_ones complex.kind) (cut_none amount) ∙ none_in_ones complex.kind
nothing_of complex slots (Flag flag) none = none
nothing_of complex slots (Word word) none = none

abbrev of_row : ℕ → Value → Option ComplexDef → ℕ
of_row slots value found = elim found [ None ↦ 0 | Some complex ↦ value_urgency complex slots value ]

module _ (slots : ℕ) (name : List ℕ) (value : Value) (other : is_at (text_cmp (codes "slots")) name ≡ false) where
  -- the complex of a name that isn't slots
  nothing_at : (rows : List (List ℕ × ComplexDef)) → list_any adds_beside rows ≡ false → of_row slots value (lookup (is_at (text_cmp name)) rows) ≡ 0
  nothing_at [] none = refl
  nothing_at (row ∷ rows) none =
      let parts = neither (adds_beside row) (list_any adds_beside rows) none in
      by (text_cmp name row.0) same parts.0 (nothing_at rows parts.1)
    where
      by : (o : Ordering) → text_cmp name row.0 ≡ o → adds_beside row ≡ false → of_row slots value (lookup (is_at (text_cmp name)) rows) ≡ 0
          → of_row slots value (cond (is_eq o) (Some row.1) (lookup (is_at (text_cmp name)) rows)) ≡ 0
      by Less is here later = later
      by Equal is here later =
          nothing_of row.1 slots value (unweighed row.1.urgency (is_at (text_cmp (codes "slots")) row.0) (ap (λ key. is_at (text_cmp (codes "slots")) key) (sym (exact_bytes name row.0 is)) ∙ other) here)
      by Greater is here later = later

module _ (c : Cluster) (slots : ℕ) (none : others_add c ≡ false) where
  nothing_more : (asked : List ℕ × Value) → with_other c slots 0 asked ≡ 0
  nothing_more asked = by (is_at (text_cmp (codes "slots")) asked.0) same
    where
      by : (here : Bool) → is_at (text_cmp (codes "slots")) asked.0 ≡ here → (if here then 0 else cut_sum 0 (resource_urgency c slots asked)) ≡ 0
      by true is = refl
      by false is = ap (cut_sum 0) (nothing_at slots asked.0 asked.1 is c.complexes none)

  nothing_in : (asked : List (List ℕ × Value)) → 0 ≡ others_urgency c slots asked
  nothing_in [] = refl
  nothing_in (row ∷ rows) = nothing_in rows ∙ ap (λ total. fold (with_other c slots) total rows) (sym (nothing_more row))

pub nothing_beside : (c : Cluster) (units : Units) (slots : ℕ) (asked : List (List ℕ × Value)) → units.others ≡ false → AreUnits c units → 0 ≡ others_urgency c slots asked
nothing_beside c units slots asked none are = nothing_in c slots (sym are.others ∙ none) asked
