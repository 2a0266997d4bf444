-- A walk over a table by name, each row of which is found at its name: a rule set, or a value, which says how much there is.
use Rattle.std.proofs.Common.{◌≡◌, ℕ, cond, List, [], ◌∷◌, Some, fold, sym, ap, subst, ◌∙◌}
use Rattle.std.specs.List.{AllByRecursion}
use Rattle.std.specs.List.Sorted.{IsStrictlySortedBy}
use Rattle.std.specs.Map.{keys_of}
use Rattle.std.specs.Ordering.{is_eq, ordering_reverse}
use Rattle.std.specs.declared.cmp.Ordering.TheVariants.{Less}
use Rattle.std.proofs.lemmas.Cmp.{eq_by_cmp_equiv, nat_list_cmp_total}
use Rattle.std.proofs.lemmas.Bool.{cond-false}
use Rattle.ge_collections.specs.Keyed.{text_cmp, text_eq, at_text}
use Rattle.ge_model_rows.specs.Queues.{attr_at, slots_at}
use Rattle.ge_model_rows.specs.ClusterRows.{Cluster}
use Rattle.ge_model_rows.specs.HostRows.{HostRow, Groups, InstanceId}
use Rattle.ge_model_rows.specs.QueueRows.{QueueRow}
use Rattle.ge_model_rows.specs.ScheduleRows.{LimitId, Host, Global}
use Rattle.ge_model_rows.specs.ValueRows.{Value}
use Rattle.ge_model_place.specs.Limits.{amount_or_none, capacity_in, capacity_of, capacity_on}
use Rattle.ge_model_place.specs.Opening.{slots_name, global_name}
use Rattle.ge_capacities.specs.Found.{HasAmount, HasOtherAmount}

-- in rows whose names rise each is found at its name
pub found_each : {V : Type 0} (rows : List (List ℕ × V)) → IsStrictlySortedBy text_cmp (keys_of rows) → AllByRecursion (λ e. at_text rows e.0 ≡ Some e.1) rows
unfolding IsStrictlySortedBy
found_each [] rising = tt
found_each {V} (row ∷ rows) rising =
    (ap (λ b. cond b (Some row.1) (at_text rows row.0)) ((eq_by_cmp_equiv nat_list_cmp_total).refl row.0), further rows rising.0 (found_each rows rising.1))
  where
    further : (more : List (List ℕ × V)) → AllByRecursion (λ key. text_cmp row.0 key ≡ Less) (keys_of more) → AllByRecursion (λ e. at_text rows e.0 ≡ Some e.1) more
        → AllByRecursion (λ e. at_text (row ∷ rows) e.0 ≡ Some e.1) more
    further [] above all = tt
    further (e ∷ more) above all =
        (ap (λ o. cond (is_eq o) (Some row.1) (at_text rows e.0)) (nat_list_cmp_total.antisymm e.0 row.0 ∙ ap ordering_reverse above.0) ∙ all.0, further more above.1 all.1)

-- a walk over no rows counts nothing
pub none_counted : {A V : Type 0} (more : A → List ℕ → A) (found : A) (rows : List (List ℕ × V)) → rows ≡ [] → fold more found (keys_of rows) ≡ found
none_counted {A} {V} more found rows none = ap (λ (es : List (List ℕ × V)). fold more found (keys_of es)) none

pub none_rise : {V : Type 0} (rows : List (List ℕ × V)) → rows ≡ [] → IsStrictlySortedBy text_cmp (keys_of rows)
unfolding IsStrictlySortedBy
none_rise {V} rows none = subst (λ (es : List (List ℕ × V)). IsStrictlySortedBy text_cmp (keys_of es)) (sym none) tt

-- so each row of a walk that begins is found
pub rising_found : {V : Type 0} (rows entries : List (List ℕ × V)) → entries ≡ rows → IsStrictlySortedBy text_cmp (keys_of rows) → AllByRecursion (λ e. at_text rows e.0 ≡ Some e.1) entries
rising_found {V} rows entries is rising = subst (λ (es : List (List ℕ × V)). AllByRecursion (λ e. at_text rows e.0 ≡ Some e.1) es) (sym is) (found_each rows rising)

module _ {V : Type 0} {P Q : List ℕ × V → Type 0} where
  each_weaker : ((e : List ℕ × V) → P e → Q e) → (rows : List (List ℕ × V)) → AllByRecursion P rows → AllByRecursion Q rows
  each_weaker weaker [] all = tt
  each_weaker weaker (row ∷ rows) all = (weaker row all.0, each_weaker weaker rows all.1)

module _ (c : Cluster) (groups : Groups) where
  -- a host has as much of a limit as the value at hand
  has_each : (limit : List ℕ → LimitId) (row : HostRow) → ((n : List ℕ) → capacity_of c groups (limit n) ≡ capacity_on n (Some row)) → (entries : List (List ℕ × Value)) → entries ≡ row.values
      → IsStrictlySortedBy text_cmp (keys_of row.values) → AllByRecursion (HasAmount c groups limit) entries
  has_each limit row there entries is rising = each_weaker (λ e found. there e.0 ∙ ap amount_or_none found) entries (rising_found row.values entries is rising)

  pub has_host : (host : List ℕ) (row : HostRow) → at_text c.hosts host ≡ Some row → (entries : List (List ℕ × Value)) → entries ≡ row.values → IsStrictlySortedBy text_cmp (keys_of row.values)
      → AllByRecursion (HasAmount c groups (Host host)) entries
  has_host host row there = has_each (Host host) row (λ n. ap (capacity_on n) there)

  pub has_all : (row : HostRow) → at_text c.hosts global_name ≡ Some row → (entries : List (List ℕ × Value)) → entries ≡ row.values → IsStrictlySortedBy text_cmp (keys_of row.values)
      → AllByRecursion (HasAmount c groups Global) entries
  has_all row there = has_each Global row (λ n. ap (capacity_on n) there)

  pub has_instance : (at : InstanceId) (queue : QueueRow) → at_text c.queues at.queue ≡ Some queue → (entries : List (List ℕ × Value)) → entries ≡ attr_at queue.values groups at.host
      → IsStrictlySortedBy text_cmp (keys_of (attr_at queue.values groups at.host)) → AllByRecursion (HasOtherAmount c groups at) entries
  has_instance at queue there entries is rising =
      let values = attr_at queue.values groups at.host in
      each_weaker (λ e found other. ap (capacity_in groups at e.0) there ∙ cond-false (text_eq e.0 slots_name) (slots_at queue groups at.host) (amount_or_none (at_text values e.0)) other ∙ ap amount_or_none found)
      entries (rising_found values entries is rising)
