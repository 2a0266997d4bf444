-- Resource quotas: the first rule that matches, its key, and the limits that it sets.
use Rattle.std.specs.Prelude.{ℕ, ◌+◌, ◌-◌, ◌^◌, ◌==◌, Bool, true, false, not, ◌&&◌, ◌||◌, if◌then◌else◌, min, List, [], ◌∷◌, map, flat_map, Option, Some, None}
use Rattle.std.specs.List.{list_any}
use Rattle.ge_collections.specs.Keyed.{at_text}
use Rattle.ge_model_rows.specs.Access.{in_user_set}
use Rattle.ge_model_rows.specs.Groups.{group_has}
use Rattle.ge_model_text.specs.Pattern.{pattern_covers}
use Rattle.ge_model_rows.specs.Pieces.{is_empty}
use Rattle.ge_model_rows.specs.ClusterRows.{Cluster}
use Rattle.ge_model_rows.specs.HostRows.{Groups}
use Rattle.ge_model_rows.specs.QuotaRows.{QuotaRow, Rule, Filter}
use Rattle.ge_model_rows.specs.ScheduleRows.{QuotaKey}

-- who asks, and where: what a rule's filters look at; project and PE are empty where there is none
pub record Who : Type 0 where
  pub user : List ℕ
  pub group : List ℕ
  pub project : List ℕ
  pub pe : List ℕ
  pub queue : List ℕ
  pub host : List ℕ

-- whether an element of a filter names a user: a pattern, or @ and a user set that has the user
abbrev pub names_user : Cluster → Who → List ℕ → Bool
names_user c who [] = false
names_user c who (b ∷ name) = if b == 64 then in_user_set c name who.user who.group else pattern_covers (b ∷ name) who.user

-- whether an element names a host: a pattern, or a group of hosts that has it
abbrev pub names_host : Groups → List ℕ → List ℕ → Bool
names_host groups host [] = false
names_host groups host (b ∷ name) = if b == 64 then group_has groups (b ∷ name) host else pattern_covers (b ∷ name) host

-- whether an element names a project, a PE or a queue
abbrev pub names : List ℕ → List ℕ → Bool
names name element = pattern_covers element name

-- whether one of these elements names the name; an empty name is named by none
abbrev pub names_one : (List ℕ → Bool) → List ℕ → List (List ℕ) → Bool
names_one test name elements = not (is_empty name) && list_any test elements

-- whether a filter admits a name: one of its plain elements names it, or there is none, and none of those after ! does
abbrev pub filter_admits : (List ℕ → Bool) → List ℕ → Filter → Bool
filter_admits test name filter = (is_empty filter.plain || names_one test name filter.plain) && not (names_one test name filter.without)

-- a filter that is missing admits all
abbrev pub admits_name : (List ℕ → Bool) → List ℕ → Option Filter → Bool
admits_name test name None = true
admits_name test name (Some filter) = filter_admits test name filter

-- whether a rule matches: each of its filters admits
abbrev pub rule_matches : Cluster → Groups → Who → Rule → Bool
rule_matches c groups who rule =
    admits_name (names_user c who) who.user rule.users && admits_name (names who.project) who.project rule.projects && admits_name (names who.pe) who.pe rule.pes
    && admits_name (names who.queue) who.queue rule.queues && admits_name (names_host groups who.host) who.host rule.hosts

-- the first of these rules that matches, with its number, which is counted from this one on
abbrev pub rule_from : Cluster → Groups → Who → ℕ → List Rule → Option (ℕ × Rule)
rule_from c groups who number [] = None
rule_from c groups who number (rule ∷ rules) = elim (rule_matches c groups who rule) [ true ↦ Some (number, rule) | false ↦ rule_from c groups who (number + 1) rules ]

-- the first rule of a rule set that matches; one that isn't enabled has none
abbrev pub rule_of : Cluster → Groups → Who → QuotaRow → Option (ℕ × Rule)
rule_of c groups who row = if row.enabled then rule_from c groups who 1 row.rules else None

abbrev pub rule_of_row : Cluster → Groups → Who → Option QuotaRow → Option (ℕ × Rule)
rule_of_row c groups who None = None
rule_of_row c groups who (Some row) = rule_of c groups who row

-- the first rule of an enabled rule set that matches, with its number from 1: sge_resource_quota
abbrev pub first_rule : Cluster → Groups → List ℕ → Who → Option (ℕ × Rule)
first_rule c groups set who = rule_of_row c groups who (at_text c.quotas set)

-- a filter in braces keeps each name apart, any other counts all of its names as one
abbrev pub kept_name : Option Filter → List ℕ → List ℕ
kept_name None name = []
kept_name (Some filter) name = if filter.braces then name else []

-- what a rule of a set counts a resource by
abbrev pub rule_key : List ℕ → Who → List ℕ → ℕ × Rule → QuotaKey
rule_key set who resource rule = record {
  set = set;
  rule = min rule.0 (2 ^ 32 - 1);
  user = kept_name rule.1.users who.user;
  project = kept_name rule.1.projects who.project;
  pe = kept_name rule.1.pes who.pe;
  queue = kept_name rule.1.queues who.queue;
  host = kept_name rule.1.hosts who.host;
  resource = resource;
}

abbrev pub key_with : List ℕ → Who → Option (ℕ × Rule) → Option QuotaKey
key_with set who None = None
key_with set who (Some rule) = Some (rule_key set who [] rule)

-- its key: what its filters in braces name; the resource is empty
unfoldable pub key_of : Cluster → Groups → List ℕ → Who → Option QuotaKey
key_of c groups set who = key_with set who (first_rule c groups set who)

abbrev pub keys_with : List ℕ → Who → Option (ℕ × Rule) → List QuotaKey
keys_with set who None = []
keys_with set who (Some rule) = map (λ limit. rule_key set who limit.0 rule) rule.1.limits

-- the keys of one rule set, one for each resource that the first rule names
abbrev pub keys_of_set : Cluster → Groups → Who → List ℕ × QuotaRow → List QuotaKey
keys_of_set c groups who set = keys_with set.0 who (rule_of c groups who set.1)

-- the keys that who asks is counted by, by the name of the set, then of the resource
abbrev pub quota_keys : Cluster → Groups → Who → List QuotaKey
quota_keys c groups who = flat_map (keys_of_set c groups who) c.quotas
