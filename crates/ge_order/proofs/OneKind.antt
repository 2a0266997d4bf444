-- Jobs of one kind ask alike, and short rows tell what is known of jobs.
use Rattle.std.proofs.Common.{◌≡◌, ◌<◌, ℕ, Bool, true, false, cond, List, [], ◌∷◌, Option, Some, None, refl, sym, ap, ◌∙◌, map, length, get_or, replicate}
use Rattle.std.specs.Prelude.{All, IfSome, slice_set, refl as same}
use Rattle.std.specs.BTreeMap.{is_at}
use Rattle.std.specs.List.Sorted.{IsStrictlySortedBy}
use Rattle.std.specs.Map.{keys_of, values_of}
use Rattle.std.specs.Ordering.{nat_cmp}
use Rattle.std.specs.Option.{option_map}
use Rattle.std.proofs.lemmas.List.Elements.{All-head, All-tail, All-get_or, All-set, All-replicate}
use Rattle.ge_collections.specs.Keyed.{at_number, text_cmp}
use Rattle.ge_job_index.specs.Short.{AreShort, short_of}
use Rattle.ge_job_index.specs.declared.short_row.ShortRow.{ShortRow}
use Rattle.ge_model_rows.specs.ClusterRows.{Cluster}
use Rattle.ge_model_rows.specs.JobRows.{Job}
use Rattle.ge_model_jobs.proofs.SameKind.{one_kind}
use Rattle.ge_model_order.specs.Urgency.{resources_urgency, urgency_of}
use Rattle.ge_rows.specs.JobShort.{job_facts, job_labels}
use Rattle.ge_rows.specs.Orderly.{IsOrderlyJob}
use Rattle.ge_rows.specs.declared.labels.JobFacts.{JobFacts}
use Rattle.ge_rows.specs.contracts.labels.JobLabelOrd.TheImpl.{cmp-value as by_label}
use Rattle.ge_order.specs.Kinds.{kind_in, asked_of, SameAsked, AreAsked, IsAsked, TellJobs, urgent_by, told_standing}
use Rattle.ge_order.specs.Standings.{standing_of, urgent_of}
use Rattle.ge_order.specs.declared.standing.Standing.{Standing}
use Rattle.ge_order.specs.declared.standing.Urgent.{Urgent}

abbrev IsNamed : Job → Type 0
IsNamed job = IsStrictlySortedBy text_cmp (keys_of job.request.asked)

-- what the job under a number asks for stands by name
named_at : (jobs : List (ℕ × Job)) (number : ℕ) → All IsOrderlyJob (values_of jobs) → IfSome (at_number jobs number) IsNamed
named_at [] number all = tt
named_at (row ∷ rows) number all =
    by (is_at (nat_cmp number) row.0) (named_at rows number (All-tail IsOrderlyJob row.1 (values_of rows) all))
  where
    by : (here : Bool) → IfSome (at_number rows number) IsNamed → IfSome (cond here (Some row.1) (at_number rows number)) IsNamed
    by true later = (All-head IsOrderlyJob row.1 (values_of rows) all).3
    by false later = later

module _ (c : Cluster) (rows : List (ℕ × ShortRow JobFacts)) (bound : ℕ) (are : AreShort nat_cmp by_label.it job_labels job_facts rows bound c.jobs) where
  none_there : (number kind : ℕ) → at_number c.jobs number ≡ None → kind_in rows number ≡ Some kind → ◌≡◌ {A = Option ℕ} None (Some kind)
  none_there number kind none short =
      ap (λ found. option_map (λ s. s.third) (option_map (short_of job_labels job_facts are.0) found)) (sym none)
      ∙ ap (λ row. option_map (λ s. s.third) row) (sym (are.1.found number)) ∙ short

  same_asked : SameAsked c rows
  same_asked first second kind one two = by (at_number c.jobs first) same (at_number c.jobs second) same
    where
      by : (a : Option Job) → at_number c.jobs first ≡ a → (b : Option Job) → at_number c.jobs second ≡ b → asked_of c first ≡ asked_of c second
      by None is_a b is_b = absurd (let never : ◌≡◌ {A = Option ℕ} None (Some kind) = none_there first kind is_a one in cc)
      by (Some a) is_a None is_b = absurd (let never : ◌≡◌ {A = Option ℕ} None (Some kind) = none_there second kind is_b two in cc)
      by (Some a) is_a (Some b) is_b =
          let kinds = one_kind c.jobs rows bound are first second kind a b is_a is_b one two in
          ap (λ o. elim o as (λ (o : Option Job). ℕ) [ None ↦ 0 | Some job ↦ resources_urgency c job.request ]) is_a
          ∙ ap (λ k. resources_urgency c k.request) kinds
          ∙ ap (λ o. elim o as (λ (o : Option Job). ℕ) [ None ↦ 0 | Some job ↦ resources_urgency c job.request ]) (sym is_b)

  same_facts : (number : ℕ) → option_map (λ row. row.facts) (at_number rows number) ≡ option_map job_facts (at_number c.jobs number)
  same_facts number = ap (λ row. option_map (λ r. r.facts) row) (are.1.found number) ∙ by (at_number c.jobs number)
    where
      by : (o : Option Job) → option_map (λ r. r.facts) (option_map (short_of job_labels job_facts are.0) o) ≡ option_map job_facts o
      by None = refl
      by (Some job) = refl

  -- the short rows of jobs tell of them
  pub rows_tell : All IsOrderlyJob (values_of c.jobs) → TellJobs c rows
  rows_tell orderly = record {
    alike = same_asked;
    facts = same_facts;
    named = λ number. named_at c.jobs number orderly;
  }

module _ (c : Cluster) (rows : List (ℕ × ShortRow JobFacts)) where
  pub none_last : (last : Option (ℕ × ℕ)) → last ≡ None → IsAsked c rows last
  none_last last none kind asked told = absurd (let never : ◌≡◌ {A = Option (ℕ × ℕ)} None (Some (kind, asked)) = sym none ∙ told in cc)

  -- what is known of the kind of a job is known of all jobs of that kind
  pub last_more : (last : Option (ℕ × ℕ)) (kind asked number : ℕ) → SameAsked c rows → kind_in rows number ≡ Some kind → asked ≡ asked_of c number → last ≡ Some (kind, asked) → IsAsked c rows last
  last_more last kind asked number alike here is kept other found told q of_kind =
      let same_pair : ◌≡◌ {A = ℕ × ℕ} (kind, asked) (other, found) = ap (λ (o : Option (ℕ × ℕ)). elim o as (λ (o : Option (ℕ × ℕ)). ℕ × ℕ) [ None ↦ (kind, asked) | Some pair ↦ pair ]) (sym kept ∙ told) in
      sym (ap (λ (p : ℕ × ℕ). p.1) same_pair) ∙ is ∙ alike number q kind here (of_kind ∙ ap (λ (p : ℕ × ℕ). Some p.0) (sym same_pair))

  -- what is kept at a place is so
  pub kept_at : (kinds : List (Option (ℕ × ℕ))) (other : Option (ℕ × ℕ)) (place kind asked number : ℕ) → AreAsked c rows kinds → place < length kinds → get_or kinds place other ≡ Some (kind, asked) → kind_in rows number ≡ Some kind
      → asked ≡ asked_of c number
  kept_at kinds other place kind asked number are within told here = All-get_or (IsAsked c rows) kinds place other within are kind asked told number here

  -- and still is with another one
  pub kept_more : (kinds : List (Option (ℕ × ℕ))) (place kind asked number : ℕ) → SameAsked c rows → AreAsked c rows kinds → kind_in rows number ≡ Some kind → asked ≡ asked_of c number
      → AreAsked c rows (slice_set kinds place (Some (kind, asked)))
  kept_more kinds place kind asked number alike are here is = All-set (IsAsked c rows) kinds place (Some (kind, asked)) (last_more (Some (kind, asked)) kind asked number alike here is refl) are

  pub none_asked : (places : ℕ) → AreAsked c rows (replicate places None)
  none_asked places = All-replicate (IsAsked c rows) places None (none_last None refl)

  pub kind_of_row : (number : ℕ) (row : ShortRow JobFacts) → at_number rows number ≡ Some row → kind_in rows number ≡ Some row.third
  kind_of_row number row there = ap (λ found. option_map (λ r. r.third) found) there

  module _ (now number : ℕ) where
    pub told_none : at_number rows number ≡ None → record { job = number; urgent = None } ≡ told_standing c rows now number
    told_none none = ap (λ found. record { job = number; urgent = option_map (λ row. urgent_by c now (asked_of c number) row.facts) found }) (sym none)

    pub told_some : (row : ShortRow JobFacts) (asked : ℕ) (urgent : Urgent) → at_number rows number ≡ Some row → asked ≡ asked_of c number → urgent ≡ urgent_by c now asked row.facts
        → record { job = number; urgent = Some urgent } ≡ told_standing c rows now number
    told_some row asked urgent there is found =
        (λ i. record { job = number; urgent = Some (found i) })
        ∙ (λ i. record { job = number; urgent = Some (urgent_by c now (is i) row.facts) })
        ∙ ap (λ (o : Option (ShortRow JobFacts)). record { job = number; urgent = option_map (λ r. urgent_by c now (asked_of c number) r.facts) o }) (sym there)

  module _ (now number : ℕ) where
    -- what is known of the job by its short row, by the facts in it, by its row, and by what its request adds
    abbrev by_short : Option (ShortRow JobFacts) → Standing
    by_short found = record { job = number; urgent = option_map (λ row. urgent_by c now (asked_of c number) row.facts) found }

    abbrev by_facts : Option JobFacts → Standing
    by_facts found = record { job = number; urgent = option_map (λ f. urgent_by c now (asked_of c number) f) found }

    abbrev by_row : Option Job → Standing
    by_row found = record { job = number; urgent = option_map (urgent_of c now) found }

    abbrev by_asked : Job → ℕ → Standing
    by_asked job asked = record { job = number; urgent = Some (urgent_by c now asked (job_facts job)) }

    facts_of : (found : Option (ShortRow JobFacts)) → by_short found ≡ by_facts (option_map (λ row. row.facts) found)
    facts_of None = refl
    facts_of (Some row) = refl

    row_of : (found : Option Job) → at_number c.jobs number ≡ found → by_facts (option_map job_facts found) ≡ by_row found
    unfolding urgency_of
    row_of None is = refl
    row_of (Some job) is =
        ap (by_asked job) (ap (λ o. elim o as (λ (o : Option Job). ℕ) [ None ↦ 0 | Some row ↦ resources_urgency c row.request ]) is)

    one_told : TellJobs c rows → told_standing c rows now number ≡ standing_of c now number
    one_told tell = facts_of (at_number rows number) ∙ ap by_facts (tell.facts number) ∙ row_of (at_number c.jobs number) same

  pub all_told : (now : ℕ) (numbers : List ℕ) → TellJobs c rows → map (told_standing c rows now) numbers ≡ map (standing_of c now) numbers
  all_told now numbers tell = λ i. map (λ number. one_told now number tell i) numbers
