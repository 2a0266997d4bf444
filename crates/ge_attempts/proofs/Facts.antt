-- What short rows tell of what jobs ask for.
use Rattle.std.proofs.Common.{◌≡◌, ℕ, ◌-◌, ◌^◌, ◌≤◌, Bool, true, false, cond, min, List, [], ◌∷◌, fold, Option, Some, None, refl, sym, subst, ap, ◌∙◌, arith}
use Rattle.std.specs.Prelude.{codes, option_map}
use Rattle.std.specs.BTreeMap.{is_at}
use Rattle.std.specs.Ordering.{nat_cmp}
use Rattle.std.proofs.lemmas.Bool.{cond-true, cond-false, cond_both}
use Rattle.std.proofs.lemmas.Map.Text.{is_eq-slice_cmp}
use Rattle.ge_collections.specs.Keyed.{at_text, at_number, text_cmp}
use Rattle.ge_job_index.specs.Short.{AreShort, short_of}
use Rattle.ge_job_index.specs.declared.short_row.ShortRow.{ShortRow}
use Rattle.ge_model_rows.specs.JobRows.{Job}
use Rattle.ge_model_rows.specs.ValueRows.{Value}
use Rattle.ge_model_place.specs.Windows.{least_asked}
use Rattle.ge_model_place.proofs.Same.{texts_equal}
use Rattle.ge_rows.specs.Asked.{amount_in, is_time, shorter_time, shortest_time, lesser_amount}
use Rattle.ge_rows.specs.JobShort.{job_facts, job_labels}
use Rattle.ge_rows.specs.declared.labels.JobFacts.{JobFacts}
use Rattle.ge_rows.specs.contracts.labels.JobLabelOrd.TheImpl.{cmp-value as by_label}
use Rattle.ge_attempts.specs.Amounts.{TellFacts}

module _ (jobs : List (ℕ × Job)) (rows : List (ℕ × ShortRow JobFacts)) (bound : ℕ) (are : AreShort nat_cmp by_label.it job_labels job_facts rows bound jobs) where
  pub facts_told : TellFacts jobs rows
  facts_told number job there =
      (short_of job_labels job_facts are.0 job, are.1.found number ∙ ap (λ found. option_map (short_of job_labels job_facts are.0) found) there, refl)

pub same_number : (n m : ℕ) → is_at (nat_cmp n) m ≡ true → n ≡ m
same_number n m e = grind arith

same_text : (name other : List ℕ) → is_at (text_cmp name) other ≡ true → name ≡ other
same_text name other e = texts_equal name other (sym (is_eq-slice_cmp name other) ∙ e)

-- the least of what rows have is no more than what each has
module _ {X : Type 0} (f : X → ℕ) where
  abbrev pub lesser : ℕ → ℕ × X → ℕ
  lesser least row = min least (f row.1)

  pub no_more : (rows : List (ℕ × X)) (least : ℕ) → fold lesser least rows ≤ least
  no_more [] least = omega arith
  no_more (row ∷ rows) least = let less = no_more rows (lesser least row) in omega (arith, less)

  pub no_more_than_each : (rows : List (ℕ × X)) (least number : ℕ) (x : X) → at_number rows number ≡ Some x → fold lesser least rows ≤ f x
  no_more_than_each [] least number x there = absurd cc
  no_more_than_each (row ∷ rows) least number x there = here (is_at (nat_cmp number) row.0) there (no_more_than_each rows (lesser least row) number x)
    where
      here : (same : Bool) → cond same (Some row.1) (at_number rows number) ≡ Some x → (at_number rows number ≡ Some x → fold lesser (lesser least row) rows ≤ f x)
          → fold lesser (lesser least row) rows ≤ f x
      here true is others =
          let own : row.1 ≡ x = cc in
          let less = no_more rows (lesser least row) in subst (λ (y : X). fold lesser (lesser least row) rows ≤ f y) own (omega (arith, less))
      here false is others = others is

-- what is asked for of a name that is that of a time lasts no shorter than the shortest time
module _ (name : List ℕ) (timely : is_time name ≡ true) where
  no_longer : (asked : List (List ℕ × Value)) (shortest : ℕ) → fold shorter_time shortest asked ≤ shortest
  no_longer [] shortest = omega arith
  no_longer (row ∷ rows) shortest =
      let less = no_longer rows (shorter_time shortest row) in
      cond_both (is_time row.0) (min shortest (amount_in row.1)) shortest (λ n. fold shorter_time n rows ≤ n → fold shorter_time n rows ≤ shortest)
      (λ _ fits. omega (arith, fits)) (λ _ fits. fits) less

  pub shortest_of : (asked : List (List ℕ × Value)) (shortest : ℕ) (value : Value) → at_text asked name ≡ Some value → fold shorter_time shortest asked ≤ amount_in value
  shortest_of [] shortest value there = absurd cc
  shortest_of (row ∷ rows) shortest value there = here (is_at (text_cmp name) row.0) refl there (shortest_of rows (shorter_time shortest row) value)
    where
      here : (same : Bool) → is_at (text_cmp name) row.0 ≡ same → cond same (Some row.1) (at_text rows name) ≡ Some value
          → (at_text rows name ≡ Some value → fold shorter_time (shorter_time shortest row) rows ≤ amount_in value) → fold shorter_time (shorter_time shortest row) rows ≤ amount_in value
      here true is found others =
          let own : row.1 ≡ value = cc in
          let a_time : is_time row.0 ≡ true = ap is_time (sym (same_text name row.0 is)) ∙ timely in
          let step : shorter_time shortest row ≡ min shortest (amount_in row.1) = cond-true (is_time row.0) (min shortest (amount_in row.1)) shortest a_time in
          let less = no_longer rows (shorter_time shortest row) in
          subst (λ (v : Value). fold shorter_time (shorter_time shortest row) rows ≤ amount_in v) own (omega (arith, less, step))
      here false is found others = others found

-- no task of a job is booked for less than the shortest time, or the default
pub shortest_lasts : (asked : List (List ℕ × Value)) (default : ℕ) → min (shortest_time asked) default ≤ least_asked (at_text asked (codes "h_rt")) (at_text asked (codes "s_rt")) default
shortest_lasts asked default = by (at_text asked (codes "h_rt")) (at_text asked (codes "s_rt")) refl refl
  where
    by : (hard soft : Option Value) → at_text asked (codes "h_rt") ≡ hard → at_text asked (codes "s_rt") ≡ soft → min (shortest_time asked) default ≤ least_asked hard soft default
    by None None is_hard is_soft = omega arith
    by (Some hard) None is_hard is_soft = let less = shortest_of (codes "h_rt") refl asked (2 ^ 32 - 1) hard is_hard in omega (arith, less)
    by None (Some soft) is_hard is_soft = let less = shortest_of (codes "s_rt") refl asked (2 ^ 32 - 1) soft is_soft in omega (arith, less)
    by (Some hard) (Some soft) is_hard is_soft =
        let less = shortest_of (codes "h_rt") refl asked (2 ^ 32 - 1) hard is_hard in
        let also = shortest_of (codes "s_rt") refl asked (2 ^ 32 - 1) soft is_soft in omega (arith, less, also)

-- what is asked for of a name that isn't that of a time is no less than the least amount
module _ (name : List ℕ) (timeless : is_time name ≡ false) where
  no_greater : (asked : List (List ℕ × Value)) (least : ℕ) → fold lesser_amount least asked ≤ least
  no_greater [] least = omega arith
  no_greater (row ∷ rows) least =
      let less = no_greater rows (lesser_amount least row) in
      cond_both (is_time row.0) least (min least (amount_in row.1)) (λ n. fold lesser_amount n rows ≤ n → fold lesser_amount n rows ≤ least)
      (λ _ fits. fits) (λ _ fits. omega (arith, fits)) less

  pub least_of_name : (asked : List (List ℕ × Value)) (least : ℕ) (value : Value) → at_text asked name ≡ Some value → fold lesser_amount least asked ≤ amount_in value
  least_of_name [] least value there = absurd cc
  least_of_name (row ∷ rows) least value there = here (is_at (text_cmp name) row.0) refl there (least_of_name rows (lesser_amount least row) value)
    where
      here : (same : Bool) → is_at (text_cmp name) row.0 ≡ same → cond same (Some row.1) (at_text rows name) ≡ Some value
          → (at_text rows name ≡ Some value → fold lesser_amount (lesser_amount least row) rows ≤ amount_in value) → fold lesser_amount (lesser_amount least row) rows ≤ amount_in value
      here true is found others =
          let own : row.1 ≡ value = cc in
          let no_time : is_time row.0 ≡ false = ap is_time (sym (same_text name row.0 is)) ∙ timeless in
          let step : lesser_amount least row ≡ min least (amount_in row.1) = cond-false (is_time row.0) least (min least (amount_in row.1)) no_time in
          let less = no_greater rows (lesser_amount least row) in
          subst (λ (v : Value). fold lesser_amount (lesser_amount least row) rows ≤ amount_in v) own (omega (arith, less, step))
      here false is found others = others found
