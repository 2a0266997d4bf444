-- The least that jobs of the table ask of a name.
use Rattle.std.proofs.Common.{◌≡◌, ℕ, ◌-◌, ◌^◌, ◌≤◌, inl, inr, Bool, true, false, cond, min, List, [], ◌∷◌, fold, Option, Some, None, is_some, unwrap_or, refl, sym, subst, ap, ◌∙◌, arith}
use Rattle.std.specs.Prelude.{nat_lt}
use Rattle.std.specs.List.{list_all}
use Rattle.std.specs.BTreeMap.{is_at}
use Rattle.std.specs.Ordering.{nat_cmp}
use Rattle.std.proofs.lemmas.Bool.{cases_Bool, or_cases, and_parts, cond-true, cond-false, cond_both, true≢false, ltb-false}
use Rattle.std.proofs.lemmas.Map.Text.{is_eq-slice_cmp}
use Rattle.ge_collections.specs.Changed.{ChangesAt}
use Rattle.ge_collections.specs.Keyed.{text_eq, text_cmp, at_text, at_number}
use Rattle.ge_job_index.specs.declared.short_row.ShortRow.{ShortRow}
use Rattle.ge_capacities.specs.Found.{amount_or_default}
use Rattle.ge_capacities.proofs.Gathered.{asked_is}
use Rattle.ge_model_rows.specs.ClusterRows.{Cluster}
use Rattle.ge_model_rows.specs.JobRows.{Job}
use Rattle.ge_model_rows.specs.ValueRows.{Value, ComplexDef}
use Rattle.ge_model_rows.specs.Complexes.{complex_at, is_consumable}
use Rattle.ge_model_rows.specs.Pieces.{is_one_of}
use Rattle.ge_model_place.specs.Limits.{greatest_demand, per_slot}
use Rattle.ge_model_place.specs.Opening.{slots_name}
use Rattle.ge_model_place.proofs.Same.{texts_equal}
use Rattle.ge_rows.specs.Asked.{amount_in, is_time, least_amount}
use Rattle.ge_rows.specs.JobShort.{job_facts}
use Rattle.ge_rows.specs.declared.labels.JobFacts.{JobFacts}
use Rattle.ge_attempts.specs.Amounts.{asks_itself, TellFacts, amount_at, lesser_asked, unasked, IsLeastOf, IsLeast, number_in, AreLeast}
use Rattle.ge_attempts.specs.Closing.{asked_by_all}
use Rattle.ge_attempts.proofs.Closed.{each_asks}
use Rattle.ge_attempts.proofs.Facts.{same_number, least_of_name}

module _ (complex : ComplexDef) (name : List ℕ) (jobs : List (ℕ × Job)) where
  abbrev step : ℕ → ℕ × ShortRow JobFacts → ℕ
  step = lesser_asked complex name jobs

  step_down : (least : ℕ) (row : ℕ × ShortRow JobFacts) → step least row ≤ least
  step_down least row =
      cond_both (nat_lt row.1.facts.least least) (min least (amount_at complex name jobs row.0)) least (λ n. n ≤ least) (λ _. omega arith) (λ _. omega arith)

  down : (rows : List (ℕ × ShortRow JobFacts)) (least : ℕ) → fold step least rows ≤ least
  down [] least = omega arith
  down (row ∷ rows) least =
      let less = down rows (step least row) in
      let first = step_down least row in omega (arith, less, first)

  -- one that is looked up, or that asks less of nothing
  module _ (first number : ℕ) (own : ShortRow JobFacts) (bound : min first own.facts.least ≤ amount_at complex name jobs number) where
    at_it : (least : ℕ) → least ≤ first → step least (number, own) ≤ amount_at complex name jobs number
    at_it least below =
        cond_both (nat_lt own.facts.least least) (min least (amount_at complex name jobs number)) least (λ n. n ≤ amount_at complex name jobs number)
        (λ _. omega arith)
        (λ e. let not_less = ltb-false own.facts.least least e in omega (arith, below, bound, not_less))

    within : (rows : List (ℕ × ShortRow JobFacts)) (least : ℕ) → least ≤ first → at_number rows number ≡ Some own → fold step least rows ≤ amount_at complex name jobs number
    within [] least below there = absurd cc
    within (row ∷ rows) least below there = let first_step = step_down least row in
        here (is_at (nat_cmp number) row.0) refl there (within rows (step least row) (omega (arith, first_step, below)))
      where
        here : (same : Bool) → is_at (nat_cmp number) row.0 ≡ same → cond same (Some row.1) (at_number rows number) ≡ Some own
            → (at_number rows number ≡ Some own → fold step (step least row) rows ≤ amount_at complex name jobs number) → fold step (step least row) rows ≤ amount_at complex name jobs number
        here true is found others =
            let it : row.1 ≡ own = cc in
            let less = down rows (step least row) in
            let key : row.0 ≡ number = sym (same_number number row.0 is) in
            let lower : step least row ≤ amount_at complex name jobs number = subst (λ (e : ℕ × ShortRow JobFacts). step least e ≤ amount_at complex name jobs number) (λ i. (sym key i, sym it i)) (at_it least below) in
            omega (arith, less, lower)
        here false is found others = others found

  -- what short rows tell is no more than any job asks
  pub least_known : (rows : List (ℕ × ShortRow JobFacts)) (names : List (List ℕ)) (least : ℕ) → (is_one_of name names ≡ true → list_all (asks_itself name) jobs ≡ true) → TellFacts jobs rows → is_time name ≡ false → least ≡ fold step (unasked complex name names) rows → IsLeastOf complex name jobs least
  least_known rows names least each_asks_it told timeless is number job there =
      let own = told number job there in
      let asks : amount_at complex name jobs number ≡ amount_or_default complex (at_text job.request.asked name) =
      ap (λ (found : Option Job). elim found as (λ found. ℕ) [ None ↦ 0 | Some j ↦ amount_or_default complex (at_text j.request.asked name) ]) there in
      let bound = fits own.0 own.2 (at_text job.request.asked name) refl in
      let low = within (unasked complex name names) number own.0 (let asks_so = asks in omega (arith, asks_so, bound)) rows (unasked complex name names) (omega arith) own.1 in
      omega (arith, low, asks, is)
    where
      fits : (row : ShortRow JobFacts) → row.facts ≡ job_facts job → (found : Option Value) → at_text job.request.asked name ≡ found
          → min (unasked complex name names) row.facts.least ≤ amount_or_default complex (at_text job.request.asked name)
      fits row facts (Some value) asked =
          let less = least_of_name name timeless job.request.asked (2 ^ 64 - 1) value asked in
          let same : row.facts.least ≡ least_amount job.request.asked = ap (λ (f : JobFacts). f.least) facts in
          let amount : amount_or_default complex (at_text job.request.asked name) ≡ amount_in value = ap (amount_or_default complex) asked in
          omega (arith, less, same, amount)
      fits row facts None unnamed =
          let amount : amount_or_default complex (at_text job.request.asked name) ≡ amount_in complex.fallback = ap (amount_or_default complex) unnamed in
          let first : unasked complex name names ≡ amount_in complex.fallback =
          elim (cases_Bool (is_one_of name names)) [
            | inl named ↦ absurd (true≢false (sym (each_asks name jobs number job (each_asks_it named) there) ∙ ap is_some unnamed))
            | inr other ↦ cond-false (is_one_of name names) greatest_demand (amount_in complex.fallback) other
          ] in
          omega (arith, amount, first)

module _ (c : Cluster) (name : List ℕ) where
  -- each job asks for a name of some for which each does
  pub named_asked : (names : List (List ℕ)) → list_all (asked_by_all c) names ≡ true → is_one_of name names ≡ true → list_all (asks_itself name) c.jobs ≡ true
  named_asked [] all named = absurd (true≢false (sym named))
  named_asked (other ∷ names) all named =
      let parts = and_parts (asked_by_all c other) (list_all (asked_by_all c) names) all in
      elim (or_cases (text_eq name other) (is_one_of name names) named) [
        | inl same ↦ (and_parts (is_consumable c name) (list_all (asks_itself name) c.jobs) (ap (asked_by_all c) (texts_equal name other same) ∙ parts.0)).1
        | inr further ↦ named_asked names parts.1 further
      ]

  pub least_of_slots : text_eq name slots_name ≡ true → IsLeast c name 1
  least_of_slots slots job there =
      let one : per_slot c job name ≡ 1 = cond-true _ _ _ slots in omega (arith, one)

  pub least_of_consumable : (complex : ComplexDef) (least : ℕ) → text_eq name slots_name ≡ false → is_consumable c name ≡ true → complex_at c name ≡ Some complex → least ≤ greatest_demand → IsLeastOf complex name c.jobs least → IsLeast c name least
  least_of_consumable complex least other consumable found cut within job there =
      let asks : per_slot c job name ≡ amount_or_default complex (at_text job.request.asked name) =
      cond-false _ _ _ other ∙ cond-true _ _ _ consumable ∙ asked_is c name complex (at_text job.request.asked name) found in
      let each = within there.number job there.there in
      omega (arith, asks, cut, each)

module _ (c : Cluster) where
  -- nothing is known yet
  pub none_least : (amounts : List (List ℕ × ℕ)) → amounts ≡ [] → AreLeast c amounts
  none_least amounts is name job there =
      let none : number_in amounts name ≡ 0 = ap (λ (xs : List (List ℕ × ℕ)). number_in xs name) is in omega (arith, none)

  -- one more is known
  pub more_least : (old new : List (List ℕ × ℕ)) (name key : List ℕ) (least : ℕ) → key ≡ name → AreLeast c old → IsLeast c name least → ChangesAt text_cmp key (λ _. Some least) old new → AreLeast c new
  more_least old new name key least same were is changes q job there =
      subst (λ n. n ≤ min (per_slot c job q) greatest_demand)
      (sym (ap (λ (v : Option ℕ). unwrap_or v 0) (changes q)
      ∙ ap (λ (b : Bool). unwrap_or (cond b (Some least) (at_text old q)) 0) (is_eq-slice_cmp key q)))
      (here (text_eq key q) refl)
    where
      here : (alike : Bool) → text_eq key q ≡ alike → unwrap_or (cond alike (Some least) (at_text old q)) 0 ≤ min (per_slot c job q) greatest_demand
      here true e = subst (λ n. least ≤ min (per_slot c job n) greatest_demand) (sym same ∙ texts_equal key q e) (is job there)
      here false e = were q job there
