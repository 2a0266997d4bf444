-- Whether anything names one of some complexes: asked of all of them at once, so that each place is walked once.
use Rattle.std.specs.Prelude.{ℕ, Bool, true, false, not, ◌&&◌, ◌||◌, if◌then◌else◌, List, [], ◌∷◌, fold, Option, Some, None}
use Rattle.std.specs.List.{list_any}
use Rattle.ge_collections.specs.Keyed.{at_text}
use Rattle.ge_model_rows.specs.ClusterRows.{Cluster}
use Rattle.ge_model_rows.specs.HostRows.{HostRow}
use Rattle.ge_model_rows.specs.QueueRows.{QueueRow}
use Rattle.ge_model_rows.specs.QuotaRows.{QuotaRow}
use Rattle.ge_model_rows.specs.ValueRows.{ComplexDef}
use Rattle.ge_model_rows.specs.Pieces.{is_one_of, with_text}
use Rattle.ge_model_rows.specs.Complexes.{is_consumed, opening_complexes}
use Rattle.ge_model_config.specs.Cited.{has_name}
use Rattle.ge_model_config.specs.Columns.{is_same_kind}
use Rattle.ge_model_config.specs.Used.{attr_where}
use Rattle.ge_config.specs.declared.uses.Harm.{Harm}
use Rattle.ge_config.specs.declared.uses.Harm.TheVariants.{Lost, Freed}

-- whether a complex is taken away or changes in type, or stops being a consumable, in what the new table has in its place
abbrev pub is_harmed : Harm → ComplexDef → Option ComplexDef → Bool
is_harmed Lost old None = true
is_harmed Lost old (Some new) = not (is_same_kind old.kind new.kind)
is_harmed Freed old None = false
is_harmed Freed old (Some new) = is_consumed old.consumable && not (is_consumed new.consumable)

-- names with that of one more row, if the new table does it this harm
abbrev pub with_harmed : Harm → List (List ℕ × ComplexDef) → List (List ℕ) → List ℕ × ComplexDef → List (List ℕ)
with_harmed harm table names row = if is_harmed harm row.1 (at_text table row.0) then with_text names row.0 else names

-- the names of the rows that a new table does this harm
abbrev pub harmed_names : Harm → List (List ℕ × ComplexDef) → List (List ℕ × ComplexDef) → List (List ℕ)
harmed_names harm table rows = fold (with_harmed harm table) [] rows

-- whether a table has one of these names
abbrev pub has_some : {X : Type 0} → List (List ℕ) → List (List ℕ × X) → Bool
has_some names table = list_any (has_name table) names

-- whether a host does, in its values or its load
abbrev pub host_has_some : List (List ℕ) → List ℕ × HostRow → Bool
host_has_some names host = has_some names host.1.values || has_some names host.1.load

-- whether a queue does, in its values or its thresholds
abbrev pub queue_has_some : List (List ℕ) → List ℕ × QueueRow → Bool
queue_has_some names q = attr_where (has_some names) q.1.values || attr_where (has_some names) q.1.thresholds

-- whether a rule of a rule set limits one of them
abbrev pub set_has_some : List (List ℕ) → List ℕ × QuotaRow → Bool
set_has_some names set = list_any (λ rule. has_some names rule.limits) set.1.rules

-- whether a rule of some rule set does
abbrev pub rules_have_some : Cluster → List (List ℕ) → Bool
rules_have_some c names = list_any (set_has_some names) c.quotas

-- whether one of them is used
abbrev pub is_some_used : Cluster → List (List ℕ) → Bool
is_some_used c names =
    has_some names opening_complexes || is_one_of c.sched.load_formula names
    || list_any (host_has_some names) c.hosts
    || list_any (queue_has_some names) c.queues
    || rules_have_some c names
    || list_any (λ job. has_some names job.1.request.asked) c.jobs
    || list_any (λ booked. has_some names booked.1.request.asked) c.advances
