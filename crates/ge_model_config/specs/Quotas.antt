-- Rule sets read from a body and printed (sge_resource_quota).
use Rattle.std.specs.Prelude.{ℕ, Bool, true, false, not, ◌||◌, ◌==◌, nat_lt, if◌then◌else◌, List, [], ◌∷◌, ◌++◌, length, map, flat_map, fold, Option, Some, None, codes}
use Rattle.ge_collections.specs.Keyed.{text_eq, put_text}
use Rattle.ge_base.specs.declared.refusal.Refusal.TheVariants.{BadValue, Limit}
use Rattle.ge_limits.specs.Limits as limit
use Rattle.ge_model_rows.specs.ClusterRows.{Cluster}
use Rattle.ge_model_rows.specs.EntryRows.{Item, ObjectKind}
use Rattle.ge_model_rows.specs.QuotaRows.{Rule, Filter, QuotaRow}
use Rattle.ge_model_rows.specs.ValueRows.{Value, Kind, ComplexDef, Amount}
use Rattle.ge_model_grammar.specs.Names.{is_name}
use Rattle.ge_model_rows.specs.Faults.{when}
use Rattle.ge_model_rows.specs.Pieces.{joined_by}
use Rattle.ge_model_rows.specs.Values.{value_of, amount_in, flag_text}
use Rattle.ge_model_rows.specs.Complexes.{is_consumable}
use Rattle.ge_model_grammar.specs.declared.RuleLine.{RuleLine}
use Rattle.ge_model_config.specs.Cited.{Read, given, none_text, cited, has_name, printed_attribute}
use Rattle.ge_model_config.specs.Pairs.{pair_read, values_text}
use Rattle.ge_model_config.specs.Named.{name_faults}

-- the elements of a filter, plain ones and those that take away
abbrev pub elements_of : Option Filter → List (List ℕ)
elements_of None = []
elements_of (Some filter) = filter.plain ++ filter.without

-- among users an at sign and a name is a user set, which has to be there; all else is a pattern
abbrev pub is_known_user : Cluster → List ℕ → Bool
is_known_user c [] = true
is_known_user c (b ∷ name) = not (b == 64) || has_name c.sets name

-- among hosts an at sign and a name is a host group, which has to be there
abbrev pub is_known_host : Cluster → List ℕ → Bool
is_known_host c [] = true
is_known_host c (b ∷ name) = not (b == 64) || has_name c.groups (b ∷ name)

-- a rule limits consumables
abbrev pub consumable_fits : Cluster → List ℕ → ComplexDef → Bool
consumable_fits c name complex = is_consumable c name

-- a table with the limit of a resource, where it could be read: of one that comes twice the last counts
abbrev pub put_limit : List (List ℕ × ℕ) → Option (List ℕ × Value) → List (List ℕ × ℕ)
put_limit table None = table
put_limit table (Some pair) = put_text table pair.0 (amount_in pair.1)

-- one more resource beside those that were read
abbrev pub with_rule_limit : Cluster → Read (List (List ℕ × ℕ)) → List ℕ × List ℕ → Read (List (List ℕ × ℕ))
with_rule_limit c limits pair =
    let limit = pair_read c (consumable_fits c) pair in
    (put_limit limits.0 limit.0, limits.1 ++ limit.1)

-- a rule may have no name
abbrev pub is_rule_name : List ℕ → Bool
is_rule_name [] = true
is_rule_name (b ∷ name) = is_name (b ∷ name)

-- a rule: its name, its filters and what it limits
abbrev pub rule_read : Cluster → RuleLine → Read Rule
rule_read c line =
    let limits = fold (with_rule_limit c) ([], []) line.limits in (
      record {
        name = line.name;
        users = line.users;
        projects = line.projects;
        pes = line.pes;
        queues = line.queues;
        hosts = line.hosts;
        limits = limits.0;
      },
      when (not (is_rule_name line.name)) BadValue ++ cited (is_known_user c) (elements_of line.users) ++ cited (is_known_host c) (elements_of line.hosts) ++ limits.1,
    )

-- whether a rule set counts
abbrev pub enabled_of : Option Value → Read Bool
enabled_of (Some (Value.Flag enabled)) = (enabled, [])
enabled_of _ = (false, BadValue ∷ [])

-- a description of NONE is none
abbrev pub description_of : List ℕ → List ℕ
description_of text = if text_eq text none_text then [] else text

-- a rule set
unfoldable pub quota_item : Cluster → Bool → List (List ℕ × List ℕ) → List RuleLine → Read Item
quota_item c adding values lines =
    let name = given values (codes "name") [] in
    let enabled = enabled_of (value_of Kind.Bool (given values (codes "enabled") (codes "FALSE"))) in
    let rules = map (rule_read c) lines in (
      Item.Quota name (record {
        description = description_of (given values (codes "description") none_text);
        enabled = enabled.0;
        rules = map (λ rule. rule.0) rules;
      }),
      name_faults ObjectKind.Quota limit.rule_sets c.quotas adding name ++ enabled.1 ++ flat_map (λ rule. rule.1) rules ++ when (nat_lt limit.rules (length lines)) Limit,
    )

-- ---- printed

-- the plain elements, then those that take away
abbrev pub elements_text : Filter → List ℕ
elements_text filter = joined_by (codes ",") (filter.plain ++ map (λ element. codes "!" ++ element) filter.without)

-- a filter, in braces or without
abbrev pub filter_text : Filter → List ℕ
filter_text filter = if filter.braces then codes "{" ++ elements_text filter ++ codes "}" else elements_text filter

-- a filter behind its name; nothing where the rule has none
abbrev pub filter_part : List ℕ → Option Filter → List ℕ
filter_part name None = []
filter_part name (Some filter) = codes " " ++ name ++ codes " " ++ filter_text filter

-- the name of a rule, if it has one
abbrev pub name_part : List ℕ → List ℕ
name_part [] = []
name_part (b ∷ name) = codes " name " ++ b ∷ name

-- what a rule limits, by name
abbrev pub limits_text : Cluster → List (List ℕ × ℕ) → List ℕ
limits_text c limits = values_text c (map (λ limit. (limit.0, Amount limit.1)) limits)

-- sge_resource_quota
abbrev pub rule_line : Cluster → Rule → List ℕ
rule_line c rule =
    codes "limit" ++ name_part rule.name ++ filter_part (codes "users") rule.users ++ filter_part (codes "projects") rule.projects
    ++ filter_part (codes "pes") rule.pes ++ filter_part (codes "queues") rule.queues ++ filter_part (codes "hosts") rule.hosts
    ++ codes " to " ++ limits_text c rule.limits

-- no description is NONE
abbrev pub description_text : List ℕ → List ℕ
description_text [] = none_text
description_text (b ∷ text) = b ∷ text

-- a rule set: its lines between braces (sge_resource_quota)
abbrev pub quota_lines : Cluster → List ℕ → QuotaRow → List (List ℕ)
quota_lines c name set =
    codes "{" ∷ printed_attribute (codes "name") name
    ∷ printed_attribute (codes "description") (description_text set.description)
    ∷ printed_attribute (codes "enabled") (flag_text set.enabled)
    ∷ map (rule_line c) set.rules ++ codes "}" ∷ []
