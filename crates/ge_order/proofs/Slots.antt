-- A request for slots in the sum over all requested resources: it may be added at the end.
use Rattle.std.proofs.Common.{◌≡◌, refl, ap, sym, ◌∙◌, arith, subst}
use Rattle.std.specs.Prelude.{ℕ, if◌then◌else◌, List, [], ◌∷◌, fold, codes, refl as same}
use Rattle.std.specs.BTreeMap.{insert_entry, is_at}
use Rattle.std.specs.List.{AllByRecursion}
use Rattle.std.specs.List.Sorted.{IsStrictlySortedBy}
use Rattle.std.specs.Map.{keys_of}
use Rattle.std.specs.Option.{option_copied}
use Rattle.std.specs.Ordering.{is_eq, match_ordering}
use Rattle.std.specs.declared.cmp.Ordering.{Ordering}
use Rattle.std.specs.declared.cmp.Ordering.TheVariants.{Less, Equal, Greater}
use Rattle.std.proofs.lemmas.Cmp.{nat_list_cmp_total}
use Rattle.std.proofs.lemmas.Map.Lookups.{exact_bytes}
use Rattle.ge_base.specs.Fixed.{cut_sum}
use Rattle.ge_collections.specs.Keyed.{text_cmp}
use Rattle.ge_model_rows.specs.ClusterRows.{Cluster}
use Rattle.ge_model_rows.specs.ValueRows.{Value, Amount}
use Rattle.ge_model_order.specs.Amounts.{cut_total}
use Rattle.ge_model_order.specs.Urgency.{resource_urgency, with_slots}
use Rattle.ge_order.specs.Standings.{AreUnits, others_urgency, slot_urgency}
use Rattle.ge_order.specs.declared.asked.Units.{Units}
use Rattle.ge_order.proofs.Rising.{below_all}

-- the order of two parts doesn't matter
exchanged : (a b c : ℕ) → cut_sum (cut_sum a b) c ≡ cut_sum (cut_sum a c) b
exchanged a b c = omega arith

module _ {X : Type 0} (f : List ℕ × X → ℕ) (k : List ℕ) where
  abbrev added : ℕ → List ℕ × X → ℕ
  added total row = cut_sum total (f row)

  abbrev added_other : ℕ → List ℕ × X → ℕ
  added_other total row = if is_at (text_cmp k) row.0 then total else cut_sum total (f row)

  added_before : (rows : List (List ℕ × X)) (t n : ℕ) → fold added (cut_sum t n) rows ≡ cut_sum (fold added t rows) n
  added_before [] t n = refl
  added_before (row ∷ rows) t n = ap (λ total. fold added total rows) (exchanged t n (f row)) ∙ added_before rows (cut_sum t (f row)) n

  -- behind a key that k isn't above there is no k
  all_others : (rows : List (List ℕ × X)) (t : ℕ) → AllByRecursion (λ y. text_cmp k y ≡ Less) (keys_of rows) → fold added_other t rows ≡ fold added t rows
  all_others [] t all = refl
  all_others (row ∷ rows) t all = ap (λ o. fold added_other (if is_eq o then t else cut_sum t (f row)) rows) all.0 ∙ all_others rows (cut_sum t (f row)) all.1

  -- a row put in at k is added to the rows with other keys
  put_in : (rows : List (List ℕ × X)) (v : X) (t n : ℕ) → f (k, v) ≡ n → ((other : List ℕ) → text_cmp k other ≡ Equal → f (other, v) ≡ n)
      → IsStrictlySortedBy text_cmp (keys_of rows) → cut_sum (fold added_other t rows) n ≡ fold added t (insert_entry text_cmp rows k v)
  unfolding IsStrictlySortedBy
  put_in [] v t n is alike sorted = ap (cut_sum t) (sym is)
  put_in (row ∷ rows) v t n is alike sorted = by (text_cmp k row.0) same (λ total. put_in rows v total n is alike sorted.1)
    where
      by : (o : Ordering) → text_cmp k row.0 ≡ o → ((total : ℕ) → cut_sum (fold added_other total rows) n ≡ fold added total (insert_entry text_cmp rows k v))
          → cut_sum (fold added_other (if is_eq o then t else cut_sum t (f row)) rows) n
          ≡ fold added t (match_ordering o ((k, v) ∷ row ∷ rows) ((row.0, v) ∷ rows) (row ∷ insert_entry text_cmp rows k v))
      by Less less later =
          ap (λ total. cut_sum total n) (all_others rows (cut_sum t (f row)) (below_all nat_list_cmp_total (keys_of rows) k row.0 less sorted.0))
          ∙ sym (added_before rows (cut_sum t (f row)) n) ∙ ap (λ total. fold added total rows) (exchanged t (f row) n ∙ ap (λ m. cut_sum (cut_sum t m) (f row)) (sym is))
      by Equal equal later =
          ap (λ total. cut_sum total n) (all_others rows t (above equal rows sorted.0))
          ∙ sym (added_before rows t n) ∙ ap (λ m. fold added (cut_sum t m) rows) (sym (alike row.0 equal))
        where
          above : text_cmp k row.0 ≡ Equal → (others : List (List ℕ × X)) → AllByRecursion (λ y. text_cmp row.0 y ≡ Less) (keys_of others) → AllByRecursion (λ y. text_cmp k y ≡ Less) (keys_of others)
          above e others all = subst (λ key. AllByRecursion (λ y. text_cmp key y ≡ Less) (keys_of others)) (sym (exact_bytes k row.0 e)) all
      by Greater greater later = later (cut_sum t (f row))

pub slots_apart : (c : Cluster) (slots : ℕ) (asked : List (List ℕ × Value)) (units : Units) → IsStrictlySortedBy text_cmp (keys_of asked)
    → AreUnits c units → cut_sum (others_urgency c slots asked) (slot_urgency slots (option_copied units.slots)) ≡ cut_total (resource_urgency c slots) (with_slots asked)
slots_apart c slots asked units sorted are =
    put_in (resource_urgency c slots) (codes "slots") asked (Amount 1) 0 (slot_urgency slots (option_copied units.slots)) (ap (slot_urgency slots) (sym are.slots))
    (λ other e. ap (λ (name : List ℕ). resource_urgency c slots (name, Amount 1)) (sym (exact_bytes (codes "slots") other e)) ∙ ap (slot_urgency slots) (sym are.slots)) sorted
