-- What is asked of each complex by itself, asked of all of them at once.
use Rattle.std.proofs.Common.{◌≡◌, ℕ, Bool, true, false, cond, not, ◌&&◌, ◌||◌, List, [], ◌∷◌, refl, sym, ap, ◌∙◌}
use Rattle.std.specs.Prelude.{Option, Some, None, fold, flat_map, is_some}
use Rattle.std.specs.List.{list_any}
use Rattle.std.specs.Map.{keys_of, lookup}
use Rattle.std.specs.BTreeMap.{is_at}
use Rattle.std.specs.Cmp.Lexicographic.{nat_list_eq_equiv, texts_ties}
use Rattle.ge_collections.specs.Keyed.{text_cmp, text_eq, at_text}
use Rattle.ge_model_rows.specs.ClusterRows.{Cluster}
use Rattle.ge_model_rows.specs.QueueRows.{Attr, QueueRow}
use Rattle.ge_model_rows.specs.ValueRows.{Value, ComplexDef}
use Rattle.ge_model_rows.specs.Pieces.{is_one_of, with_text}
use Rattle.ge_model_rows.specs.Complexes.{is_consumed, opening_complexes}
use Rattle.ge_model_config.specs.Cited.{has_name}
use Rattle.ge_model_config.specs.Columns.{is_same_kind}
use Rattle.ge_model_config.specs.Complexes.{breaks_use, use_faults}
use Rattle.ge_model_config.specs.Used.{attr_where, queue_where, rule_where, job_where, advance_where, is_complex_used}
use Rattle.ge_config.specs.declared.uses.Harm.{Harm}
use Rattle.ge_config.specs.declared.uses.Harm.TheVariants.{Lost, Freed}
use Rattle.ge_config.specs.Uses.{is_harmed, with_harmed, harmed_names, has_some, host_has_some, queue_has_some, set_has_some, rules_have_some, is_some_used}
use Rattle.ge_base.specs.declared.refusal.Refusal.{Refusal}
use Rattle.ge_base.specs.declared.refusal.Refusal.TheVariants.{InUse}
use Rattle.ge_model_rows.specs.Faults.{when, after_faults}
use Rattle.ge_config.proofs.Noted.{each_noted}
use Rattle.ge_config.proofs.Lists.{or_true, or_false, or_joined, any_same, any_or, any_swap, passed_with}

module _ {X : Type 0} where
  -- a name that a table has is one of its keys
  has_key : (name : List ℕ) (table : List (List ℕ × X)) → list_any (λ key. text_eq key name) (keys_of table) ≡ has_name table name
  has_key name [] = refl
  has_key name (row ∷ table) =
      ap (λ (b : Bool). b || list_any (λ key. text_eq key name) (keys_of table)) (nat_list_eq_equiv.symm row.0 name ∙ texts_ties name row.0)
      ∙ ap (λ (b : Bool). is_at (text_cmp name) row.0 || b) (has_key name table) ∙ by (is_at (text_cmp name) row.0)
    where
      by : (here : Bool) → (here || is_some (at_text table name)) ≡ is_some (cond here (Some row.1) (at_text table name))
      by true = refl
      by false = refl

  -- the keys among names, and the names among keys
  pub has_key_among : (names : List (List ℕ)) (table : List (List ℕ × X)) → list_any (λ key. is_one_of key names) (keys_of table) ≡ has_some names table
  has_key_among names table =
      any_swap (λ key name. text_eq key name) (keys_of table) names
      ∙ any_same (λ name. list_any (λ key. text_eq key name) (keys_of table)) (has_name table) (λ name. has_key name table) names

-- ---- each place by itself

attr_some : (names : List (List ℕ)) (attr : Attr (List (List ℕ × Value))) → list_any (λ name. attr_where (λ table. has_name table name) attr) names ≡ attr_where (has_some names) attr
attr_some names attr =
    any_or (λ name. has_name attr.plain name) (λ name. list_any (λ o. has_name o.1 name) attr.overrides) names
    ∙ ap (λ (b : Bool). has_some names attr.plain || b) (any_swap (λ name o. has_name o.1 name) names attr.overrides)

hosts_some : (c : Cluster) (names : List (List ℕ))
    → list_any (λ name. list_any (λ host. has_name host.1.values name || has_name host.1.load name) c.hosts) names ≡ list_any (host_has_some names) c.hosts
hosts_some c names =
    any_swap (λ name host. has_name host.1.values name || has_name host.1.load name) names c.hosts
    ∙ any_same (λ host. list_any (λ name. has_name host.1.values name || has_name host.1.load name) names) (host_has_some names)
    (λ host. any_or (has_name host.1.values) (has_name host.1.load) names) c.hosts

queues_some : (c : Cluster) (names : List (List ℕ))
    → list_any (λ name. queue_where c (λ q. attr_where (λ table. has_name table name) q.values || attr_where (λ table. has_name table name) q.thresholds)) names
    ≡ list_any (queue_has_some names) c.queues
queues_some c names =
    any_swap (λ name q. attr_where (λ table. has_name table name) q.1.values || attr_where (λ table. has_name table name) q.1.thresholds) names c.queues
    ∙ any_same (λ q. list_any (λ name. attr_where (λ table. has_name table name) q.1.values || attr_where (λ table. has_name table name) q.1.thresholds) names)
    (queue_has_some names) each c.queues
  where
    each : (q : List ℕ × QueueRow) → list_any (λ name. attr_where (λ table. has_name table name) q.1.values || attr_where (λ table. has_name table name) q.1.thresholds) names ≡ queue_has_some names q
    each q =
        any_or (λ name. attr_where (λ table. has_name table name) q.1.values) (λ name. attr_where (λ table. has_name table name) q.1.thresholds) names
        ∙ ap (λ (b : Bool). b || list_any (λ name. attr_where (λ table. has_name table name) q.1.thresholds) names) (attr_some names q.1.values)
        ∙ ap (λ (b : Bool). attr_where (has_some names) q.1.values || b) (attr_some names q.1.thresholds)

pub rules_some : (c : Cluster) (names : List (List ℕ)) → list_any (λ name. rule_where c (λ rule. has_name rule.limits name)) names ≡ rules_have_some c names
rules_some c names =
    any_swap (λ name set. list_any (λ rule. has_name rule.limits name) set.1.rules) names c.quotas
    ∙ any_same (λ set. list_any (λ name. list_any (λ rule. has_name rule.limits name) set.1.rules) names) (set_has_some names)
    (λ set. any_swap (λ name rule. has_name rule.limits name) names set.1.rules) c.quotas

jobs_some : (c : Cluster) (names : List (List ℕ))
    → list_any (λ name. job_where c (λ job. has_name job.request.asked name)) names ≡ list_any (λ job. has_some names job.1.request.asked) c.jobs
jobs_some c names = any_swap (λ name job. has_name job.1.request.asked name) names c.jobs

advances_some : (c : Cluster) (names : List (List ℕ))
    → list_any (λ name. advance_where c (λ booked. has_name booked.request.asked name)) names ≡ list_any (λ booked. has_some names booked.1.request.asked) c.advances
advances_some c names = any_swap (λ name booked. has_name booked.1.request.asked name) names c.advances

formula_some : (formula : List ℕ) (names : List (List ℕ)) → list_any (λ name. text_eq name formula) names ≡ is_one_of formula names
formula_some formula names = any_same (λ name. text_eq name formula) (text_eq formula) (λ name. nat_list_eq_equiv.symm name formula) names

-- ---- all places

seven : {A : Type 0} (p q r s t u v : A → Bool) (xs : List A)
    → list_any (λ x. p x || q x || r x || s x || t x || u x || v x) xs
    ≡ (list_any p xs || list_any q xs || list_any r xs || list_any s xs || list_any t xs || list_any u xs || list_any v xs)
seven p q r s t u v xs =
    any_or (λ x. p x || q x || r x || s x || t x || u x) v xs
    ∙ ap (λ (b : Bool). b || list_any v xs) (any_or (λ x. p x || q x || r x || s x || t x) u xs)
    ∙ ap (λ (b : Bool). b || list_any u xs || list_any v xs) (any_or (λ x. p x || q x || r x || s x) t xs)
    ∙ ap (λ (b : Bool). b || list_any t xs || list_any u xs || list_any v xs) (any_or (λ x. p x || q x || r x) s xs)
    ∙ ap (λ (b : Bool). b || list_any s xs || list_any t xs || list_any u xs || list_any v xs) (any_or (λ x. p x || q x) r xs)
    ∙ ap (λ (b : Bool). b || list_any r xs || list_any s xs || list_any t xs || list_any u xs || list_any v xs) (any_or p q xs)

-- seven that are equal one by one
of_seven : {a b c d e f g a' b' c' d' e' f' g' : Bool} → a ≡ a' → b ≡ b' → c ≡ c' → d ≡ d' → e ≡ e' → f ≡ f' → g ≡ g'
    → (a || b || c || d || e || f || g) ≡ (a' || b' || c' || d' || e' || f' || g')
of_seven a b c d e f g = λ i. a i || b i || c i || d i || e i || f i || g i

-- whether one of several complexes is used
pub some_used : (c : Cluster) (names : List (List ℕ)) → is_some_used c names ≡ list_any (is_complex_used c) names
some_used c names =
    sym (seven (has_name opening_complexes) (λ name. text_eq name c.sched.load_formula)
    (λ name. list_any (λ host. has_name host.1.values name || has_name host.1.load name) c.hosts)
    (λ name. queue_where c (λ q. attr_where (λ table. has_name table name) q.values || attr_where (λ table. has_name table name) q.thresholds))
    (λ name. rule_where c (λ rule. has_name rule.limits name))
    (λ name. job_where c (λ job. has_name job.request.asked name))
    (λ name. advance_where c (λ booked. has_name booked.request.asked name)) names
    ∙ of_seven refl (formula_some c.sched.load_formula names) (hosts_some c names) (queues_some c names) (rules_some c names) (jobs_some c names) (advances_some c names))

-- ---- the complexes that a new table does harm

with_one : (p : List ℕ → Bool) (names : List (List ℕ)) (name : List ℕ) (does : Bool) → list_any p (cond does (with_text names name) names) ≡ (list_any p names || (does && p name))
with_one p names name true = passed_with p names name
with_one p names name false = sym (or_false (list_any p names))

any_harmed : (p : List ℕ → Bool) (harm : Harm) (table : List (List ℕ × ComplexDef)) (names : List (List ℕ)) (rows : List (List ℕ × ComplexDef))
    → list_any p (fold (with_harmed harm table) names rows) ≡ (list_any p names || list_any (λ row. is_harmed harm row.1 (at_text table row.0) && p row.0) rows)
any_harmed p harm table names [] = sym (or_false (list_any p names))
any_harmed p harm table names (row ∷ rows) =
    let does = is_harmed harm row.1 (at_text table row.0) in
    let rest = list_any (λ row. is_harmed harm row.1 (at_text table row.0) && p row.0) rows in
    any_harmed p harm table (with_harmed harm table names row) rows
    ∙ ap (λ (b : Bool). b || rest) (with_one p names row.0 does) ∙ or_joined (list_any p names) (does && p row.0) rest

-- a complex that a rule limits is used
limited : (a b c d e : Bool) → c ≡ true → (a || b || c || d || e) ≡ true
limited a b c d e is = ap (λ (t : Bool). a || b || t || d || e) is ∙ ap (λ (t : Bool). t || d || e) (or_true (a || b))

broken_by : (other freed rule used : Bool) → (rule ≡ true → used ≡ true) → ((other || freed && rule) && used) ≡ (other && used || freed && rule)
broken_by true freed true used so = so refl ∙ sym (ap (λ (t : Bool). t || freed && true) (so refl))
broken_by true freed false used so = sym (ap (λ (t : Bool). used || t) (none freed) ∙ or_false used)
  where
    none : (b : Bool) → (b && false) ≡ false
    none true = refl
    none false = refl
broken_by false true true used so = so refl
broken_by false true false used so = refl
broken_by false false rule used so = refl

breaks_row : (c : Cluster) (name : List ℕ) (old : ComplexDef) (new : Option ComplexDef)
    → (breaks_use c name old new && is_complex_used c name)
    ≡ (is_harmed Lost old new && is_complex_used c name || is_harmed Freed old new && rule_where c (λ rule. has_name rule.limits name))
breaks_row c name old None = sym (or_false (is_complex_used c name))
breaks_row c name old (Some new) =
    broken_by (not (is_same_kind old.kind new.kind)) (is_consumed old.consumable && not (is_consumed new.consumable)) (rule_where c (λ rule. has_name rule.limits name))
    (is_complex_used c name)
    (limited
    (has_name opening_complexes name || text_eq name c.sched.load_formula || list_any (λ host. has_name host.1.values name || has_name host.1.load name) c.hosts)
    (queue_where c (λ q. attr_where (λ table. has_name table name) q.values || attr_where (λ table. has_name table name) q.thresholds))
    (rule_where c (λ rule. has_name rule.limits name))
    (job_where c (λ job. has_name job.request.asked name))
    (advance_where c (λ booked. has_name booked.request.asked name)))

breaks_some : (c : Cluster) (table rows : List (List ℕ × ComplexDef))
    → list_any (λ row. breaks_use c row.0 row.1 (at_text table row.0) && is_complex_used c row.0) rows
    ≡ (list_any (is_complex_used c) (harmed_names Lost table rows) || rules_have_some c (harmed_names Freed table rows))
breaks_some c table rows =
    let limits : List ℕ → Bool = λ name. rule_where c (λ rule. has_name rule.limits name) in
    let lost = list_any (λ row. is_harmed Lost row.1 (at_text table row.0) && is_complex_used c row.0) rows in
    any_same (λ row. breaks_use c row.0 row.1 (at_text table row.0) && is_complex_used c row.0)
    (λ row. is_harmed Lost row.1 (at_text table row.0) && is_complex_used c row.0 || is_harmed Freed row.1 (at_text table row.0) && limits row.0)
    (λ row. breaks_row c row.0 row.1 (at_text table row.0)) rows
    ∙ any_or (λ row. is_harmed Lost row.1 (at_text table row.0) && is_complex_used c row.0) (λ row. is_harmed Freed row.1 (at_text table row.0) && limits row.0) rows
    ∙ ap (λ (b : Bool). lost || b) (sym (any_harmed limits Freed table [] rows) ∙ rules_some c (harmed_names Freed table rows))
    ∙ ap (λ (b : Bool). b || rules_have_some c (harmed_names Freed table rows)) (sym (any_harmed (is_complex_used c) Lost table [] rows))

-- what a new table breaks is noted once
pub uses_noted : (c : Cluster) (table : List (List ℕ × ComplexDef)) (old : Option Refusal)
    → after_faults old (flat_map (use_faults c table) c.complexes)
    ≡ after_faults old (when (list_any (is_complex_used c) (harmed_names Lost table c.complexes) || rules_have_some c (harmed_names Freed table c.complexes)) InUse)
uses_noted c table old =
    each_noted (λ row. breaks_use c row.0 row.1 (at_text table row.0) && is_complex_used c row.0) InUse old c.complexes
    ∙ ap (λ (b : Bool). after_faults old (when b InUse)) (breaks_some c table c.complexes)
