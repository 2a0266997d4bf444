-- No refusal of a plan is want of memory: that one is told where an event found no memory, and nowhere else.
use Rattle.std.proofs.Common.{ℕ, not, Bool, true, false, if◌then◌else◌, List, [], ◌∷◌, ◌++◌, map, flat_map, fold, Option, Some, None}
use Rattle.ge_base.specs.declared.refusal.Refusal.{Refusal}
use Rattle.ge_base.specs.declared.refusal.Refusal.TheVariants.{Syntax, NoSuchObject, NotPermitted, Exists, InUse, BadValue, NotRequestable, Cycle, Limit, StaleReport, NoMemory}
use Rattle.ge_model_rows.specs.ClusterRows.{Cluster, plain_attr, limit_names}
use Rattle.ge_model_rows.specs.EntryRows.{ObjectKind}
use Rattle.ge_model_rows.specs.PeopleRows.{ShareNode}
use Rattle.ge_model_rows.specs.QueueRows.{Attr}
use Rattle.ge_model_rows.specs.ValueRows.{Value, Kind, ComplexDef, infinity}
use Rattle.ge_model_rows.specs.Faults.{when}
use Rattle.ge_model_config.specs.Named.{name_faults, absent_faults}
use Rattle.std.specs.Prelude.{codes}
use Rattle.ge_collections.specs.Keyed.{text_eq}
use Rattle.ge_model_config.specs.Cited.{Read, amount_within, cited, is_host_or_group, has_name, names_read, number_read}
use Rattle.ge_model_config.specs.Complexes.{complexes_item, row_faults, use_faults}
use Rattle.ge_model_config.specs.Environments.{allocation_read, assumed_read, pe_item}
use Rattle.ge_model_config.specs.Groups.{group_item}
use Rattle.ge_model_config.specs.Hosts.{host_item}
use Rattle.ge_model_config.specs.People.{project_item, user_item}
use Rattle.ge_model_config.specs.UserSets.{set_item}
use Rattle.ge_model_config.specs.Overrides.{attr_read, attr_with, filled, override_read, overrides_of, plain_part}
use Rattle.ge_model_config.specs.Pairs.{any_fits, item_read, number_fits, pair_read, value_for, values_read, with_pair}
use Rattle.ge_model_config.specs.Queues.{limit_kind, limits_read, queue_item, queue_read, with_queue_limit as queue_limit}
use Rattle.ge_model_config.specs.Quotas.{consumable_fits, enabled_of, quota_item, rule_read, with_rule_limit as rule_limit}
use Rattle.ge_model_config.specs.Reading.{item_of}
use Rattle.ge_model_config.specs.Settings.{formula_faults, formula_read, is_weight, sched_item, setting, sort_read, weight_read, weights_read, with_weight_item}
use Rattle.ge_model_config.specs.Shares.{nodes_below, depth_faults, goes_round, is_deep, is_project_line, line_faults, node_faults, scopes_differ, shares_item, tree_faults}
use Rattle.ge_model_grammar.specs.declared.Body.{Body}
use Rattle.ge_model_grammar.specs.declared.Body.TheVariants.{Attributes, RuleSet, Nodes, ComplexRows}
use Rattle.ge_model_grammar.specs.declared.ComplexLine.{ComplexLine}
use Rattle.ge_model_grammar.specs.declared.NodeLines.{NodeLines}
use Rattle.ge_model_grammar.specs.declared.RuleLine.{RuleLine}
use Rattle.ge_model_grammar.specs.Bodies.{attribute_in}
use Rattle.ge_model_rows.specs.Complexes.{complex_at}
use Rattle.ge_model_rows.specs.Pieces.{before_byte, behind_byte, has_byte, list_items, trimmed}
use Rattle.ge_model_rows.specs.Values.{amount_in, value_of}
use Rattle.std.specs.Int.{is_in_range}

-- a refusal that isn't want of memory
abbrev pub IsTold : Refusal → Type 0
IsTold NoMemory = ⊥
IsTold _ = Unit {0}

abbrev pub AllTold : List Refusal → Type 0
AllTold [] = Unit {0}
AllTold (r ∷ faults) = IsTold r × AllTold faults

pub record AreTold (faults : List Refusal) : Type 0 where
  pub all : AllTold faults

joined : (xs ys : List Refusal) → AllTold xs → AllTold ys → AllTold (xs ++ ys)
joined [] ys all more = more
joined (x ∷ xs) ys all more = (all.0, joined xs ys all.1 more)

pub both : (xs ys : List Refusal) → AreTold xs → AreTold ys → AreTold (xs ++ ys)
both xs ys one two = record { all = joined xs ys one.all two.all }

pub none : AreTold []
none = record { all = tt }

when_told : (b : Bool) (r : Refusal) → IsTold r → AllTold (when b r)
when_told true r told = (told, tt)
when_told false r told = tt

pub bad : (b : Bool) → AreTold (when b BadValue)
bad b = record { all = when_told b BadValue tt }

pub absent : (b : Bool) → AreTold (when b NoSuchObject)
absent b = record { all = when_told b NoSuchObject tt }

pub there : (b : Bool) → AreTold (when b Exists)
there b = record { all = when_told b Exists tt }

pub over : (b : Bool) → AreTold (when b Limit)
over b = record { all = when_told b Limit tt }

pub forbidden : (b : Bool) → AreTold (when b NotPermitted)
forbidden b = record { all = when_told b NotPermitted tt }

pub used : (b : Bool) → AreTold (when b InUse)
used b = record { all = when_told b InUse tt }

pub round : (b : Bool) → AreTold (when b Cycle)
round b = record { all = when_told b Cycle tt }

pub stale : (b : Bool) → AreTold (when b StaleReport)
stale b = record { all = when_told b StaleReport tt }

pub unasked : (b : Bool) → AreTold (when b NotRequestable)
unasked b = record { all = when_told b NotRequestable tt }

pub one : (r : Refusal) → IsTold r → AreTold (r ∷ [])
one r told = record { all = (told, tt) }

pub either : (b : Bool) (xs ys : List Refusal) → AreTold xs → AreTold ys → AreTold (if b then xs else ys)
either true xs ys left right = left
either false xs ys left right = right

pub each : {X : Type 0} (f : X → List Refusal) → ((x : X) → AreTold (f x)) → (xs : List X) → AreTold (flat_map f xs)
each f told [] = none
each f told (x ∷ xs) = both (f x) (flat_map f xs) (told x) (each f told xs)

-- ---- parts of bodies

pick : {T : Type 0} (b : Bool) (x y : Read T) → AreTold x.1 → AreTold y.1 → AreTold (if b then x else y).1
pick true x y left right = left
pick false x y left right = right

each_read : {X T : Type 0} (f : X → Read T) → ((x : X) → AreTold (f x).1) → (xs : List X) → AreTold (flat_map (λ o. o.1) (map f xs))
each_read f told [] = none
each_read f told (x ∷ xs) = both (f x).1 (flat_map (λ o. o.1) (map f xs)) (told x) (each_read f told xs)

pub folded : {A T : Type 0} (f : Read T → A → Read T) → ((so_far : Read T) (a : A) → AreTold so_far.1 → AreTold (f so_far a).1) → (xs : List A) (so_far : Read T) → AreTold so_far.1 → AreTold (fold f so_far xs).1
folded f told [] so_far here = here
folded f told (x ∷ xs) so_far here = folded f told xs (f so_far x) (told so_far x here)

name_told : {X : Type 0} (kind : ObjectKind) (most : ℕ) (table : List (List ℕ × X)) (adding : Bool) (name : List ℕ) → AreTold (name_faults kind most table adding name)
name_told kind most table true name = search (both, bad, absent, there, over, forbidden, used, round, stale, unasked, none)
name_told kind most table false name = search (both, bad, absent, there, over, forbidden, used, round, stale, unasked, none)

absent_told : (kind : ObjectKind) (values : List (List ℕ × List ℕ)) → AreTold (absent_faults kind values)
absent_told kind values = bad _

amount_told : (low high : ℕ) (value : Option Value) → AreTold (amount_within low high value).1
amount_told low high None = one BadValue tt
amount_told low high (Some value) = pick (is_in_range low high (amount_in value)) (amount_in value, []) (low, BadValue ∷ []) none (one BadValue tt)

number_told : (k : Kind) (low high : ℕ) (text : List ℕ) → AreTold (number_read k low high text).1
number_told k low high text = amount_told low high (value_of k text)

names_told : (known : List ℕ → Bool) (text : List ℕ) → AreTold (names_read known text).1
names_told known text = absent _

module _ {T : Type 0} (c : Cluster) (fallback : T) (read : List ℕ → Read T) (told : (text : List ℕ) → AreTold (read text).1) where
  filled_told : (text : List ℕ) → AreTold (filled fallback read text).1
  filled_told [] = one BadValue tt
  filled_told (b ∷ text) = told (b ∷ text)

  override_told : (pair : List ℕ × List ℕ) → AreTold (override_read c fallback read pair).1
  override_told pair = both (cited (is_host_or_group c) (pair.0 ∷ [])) (filled fallback read pair.1).1 (absent _) (filled_told pair.1)

  attr_with_told : (plain : List ℕ) (pairs : Option (List (List ℕ × List ℕ))) → AreTold (attr_with c fallback read plain pairs).1
  attr_with_told plain None = one BadValue tt
  attr_with_told plain (Some pairs) =
      both (filled fallback read plain).1 (flat_map (λ o. o.1) (map (override_read c fallback read) pairs)) (filled_told plain) (each_read (override_read c fallback read) override_told pairs)

module _ {T : Type 0} (c : Cluster) (values : List (List ℕ × List ℕ)) (attribute : List ℕ) (read : List ℕ → Read T) (told : (text : List ℕ) → AreTold (read text).1) where
  attr_told : (fallback : Attr T) → AreTold (attr_read c values attribute fallback read).1
  attr_told fallback = by (attribute_in values attribute)
    where
      by : (given : Option (List ℕ))
          → AreTold (elim given as (λ o. Read (Attr T)) [ None ↦ (fallback, []) | Some text ↦ attr_with c fallback.plain read (trimmed (plain_part text)) (overrides_of text) ]).1
      by None = none
      by (Some text) = attr_with_told c fallback.plain read told (trimmed (plain_part text)) (overrides_of text)

  setting_told : (fallback : T) → AreTold (setting values attribute fallback read).1
  setting_told fallback = by (attribute_in values attribute)
    where
      by : (given : Option (List ℕ)) → AreTold (elim given as (λ o. Read T) [ None ↦ (fallback, []) | Some text ↦ read text ]).1
      by None = none
      by (Some text) = told text

value_told : (fits : List ℕ → ComplexDef → Bool) (name text : List ℕ) (complex : Option ComplexDef) → AreTold (value_for fits name text complex).1
value_told fits name text None = one NoSuchObject tt
value_told fits name text (Some complex) = search (both, bad, absent, there, over, forbidden, used, round, stale, unasked, none)

pair_told : (c : Cluster) (fits : List ℕ → ComplexDef → Bool) (pair : List ℕ × List ℕ) → AreTold (pair_read c fits pair).1
pair_told c fits pair = value_told fits pair.0 pair.1 (complex_at c pair.0)

item_told : (c : Cluster) (fits : List ℕ → ComplexDef → Bool) (item : List ℕ) → AreTold (item_read c fits item).1
item_told c fits item = pick (has_byte 61 item) (pair_read c fits (before_byte 61 item, behind_byte 61 item)) (None, BadValue ∷ []) (pair_told c fits (before_byte 61 item, behind_byte 61 item)) (one BadValue tt)

values_told : (c : Cluster) (fits : List ℕ → ComplexDef → Bool) (text : List ℕ) → AreTold (values_read c fits text).1
values_told c fits text = folded (with_pair c fits) (λ so_far item told. both so_far.1 (item_read c fits item).1 told (item_told c fits item)) (list_items text) ([], []) none

-- ---- objects

host_told : (c : Cluster) (adding : Bool) (values : List (List ℕ × List ℕ)) → AreTold (host_item c adding values).1
unfolding host_item
host_told c adding values = search (both, bad, absent, there, over, forbidden, used, round, stale, unasked, none, name_told, absent_told, values_told)

group_told : (c : Cluster) (adding : Bool) (values : List (List ℕ × List ℕ)) → AreTold (group_item c adding values).1
unfolding group_item
group_told c adding values = search (both, bad, absent, there, over, forbidden, used, round, stale, unasked, none, name_told)

allocation_told : (text : List ℕ) → AreTold (allocation_read text).1
allocation_told text =
    pick (text_eq text (codes "$pe_slots")) _ _ none (pick (text_eq text (codes "$fill_up")) _ _ none (pick (text_eq text (codes "$round_robin")) _ _ none (number_told Kind.Int 1 1000000 text)))

assumed_told : (text : List ℕ) → AreTold (assumed_read text).1
assumed_told text =
    pick (text_eq text (codes "min")) _ _ none (pick (text_eq text (codes "max")) _ _ none (pick (text_eq text (codes "avg")) _ _ none (number_told Kind.Int 1 1000000 text)))

pe_told : (c : Cluster) (adding : Bool) (values : List (List ℕ × List ℕ)) → AreTold (pe_item c adding values).1
unfolding pe_item
pe_told c adding values = search (both, bad, absent, there, over, forbidden, used, round, stale, unasked, none, name_told, number_told, allocation_told, assumed_told) depth 30 fits 20000

set_told : (c : Cluster) (adding : Bool) (values : List (List ℕ × List ℕ)) → AreTold (set_item c adding values).1
unfolding set_item
set_told c adding values = search (both, bad, absent, there, over, forbidden, used, round, stale, unasked, none, name_told)

user_told : (c : Cluster) (adding : Bool) (values : List (List ℕ × List ℕ)) → AreTold (user_item c adding values).1
unfolding user_item
user_told c adding values = search (both, bad, absent, there, over, forbidden, used, round, stale, unasked, none, name_told, number_told)

project_told : (c : Cluster) (adding : Bool) (values : List (List ℕ × List ℕ)) → AreTold (project_item c adding values).1
unfolding project_item
project_told c adding values = search (both, bad, absent, there, over, forbidden, used, round, stale, unasked, none, name_told, number_told)

limits_told : (c : Cluster) (values : List (List ℕ × List ℕ)) → AreTold (limits_read c values).1
limits_told c values =
    folded (queue_limit c values) (λ so_far name told. both so_far.1 (attr_read c values name (plain_attr infinity) (number_read (limit_kind name) 0 infinity)).1 told
    (attr_told c values name (number_read (limit_kind name) 0 infinity) (number_told (limit_kind name) 0 infinity) (plain_attr infinity))) limit_names ([], []) none

queue_told : (c : Cluster) (values : List (List ℕ × List ℕ)) → AreTold (queue_read c values).1
unfolding queue_read
queue_told c values =
    let number = λ (name : List ℕ). attr_told c values name (number_read Kind.Int 0 infinity) (number_told Kind.Int 0 infinity) in
    let sets = λ (name : List ℕ). attr_told c values name (names_read (has_name c.sets)) (names_told (has_name c.sets)) in
    let projects = λ (name : List ℕ). attr_told c values name (names_read (has_name c.projects)) (names_told (has_name c.projects)) in
    let pes = attr_told c values (codes "pe_list") (names_read (has_name c.pes)) (names_told (has_name c.pes)) in
    let thresholds = attr_told c values (codes "load_thresholds") (values_read c number_fits) (values_told c number_fits) in
    let amounts = attr_told c values (codes "complex_values") (values_read c any_fits) (values_told c any_fits) in
    search (both, bad, absent, there, over, forbidden, used, round, stale, unasked, none, number, sets, projects, pes, thresholds, amounts, limits_told) depth 30 fits 20000

queue_item_told : (c : Cluster) (adding : Bool) (values : List (List ℕ × List ℕ)) → AreTold (queue_item c adding values).1
unfolding queue_item
queue_item_told c adding values = search (both, bad, absent, there, over, forbidden, used, round, stale, unasked, none, name_told, absent_told, queue_told)

-- ---- tables

row_told : (c : Cluster) (line : ComplexLine) → AreTold (row_faults c line)
row_told c line = search (both, bad, absent, there, over, forbidden, used, round, stale, unasked, none, number_told) depth 30 fits 20000

use_told : (c : Cluster) (table : List (List ℕ × ComplexDef)) (old : List ℕ × ComplexDef) → AreTold (use_faults c table old)
use_told c table old = used _

complexes_told : (c : Cluster) (adding : Bool) (lines : List ComplexLine) → AreTold (complexes_item c adding lines).1
unfolding complexes_item
complexes_told c adding lines =
    let rows = each (row_faults c) (row_told c) in
    let uses = λ (table : List (List ℕ × ComplexDef)). each (use_faults c table) (use_told c table) in
    search (both, bad, absent, there, over, forbidden, used, round, stale, unasked, none, rows, uses)

rule_limits_told : (c : Cluster) (line : RuleLine) → AreTold (fold (rule_limit c) ([], []) line.limits).1
rule_limits_told c line = folded (rule_limit c) (λ so_far pair told. both so_far.1 (pair_read c (consumable_fits c) pair).1 told (pair_told c (consumable_fits c) pair)) line.limits ([], []) none

rule_told : (c : Cluster) (line : RuleLine) → AreTold (rule_read c line).1
rule_told c line = search (both, bad, absent, there, over, forbidden, used, round, stale, unasked, none, rule_limits_told) depth 12

enabled_told : (value : Option Value) → AreTold (enabled_of value).1
enabled_told (Some (Value.Flag enabled)) = none
enabled_told _ = one BadValue tt

quota_told : (c : Cluster) (adding : Bool) (values : List (List ℕ × List ℕ)) (lines : List RuleLine) → AreTold (quota_item c adding values lines).1
unfolding quota_item
quota_told c adding values lines = let rules = each_read (rule_read c) (rule_told c) in search (both, bad, absent, there, over, forbidden, used, round, stale, unasked, none, name_told, enabled_told, rules)

sort_told : (text : List ℕ) → AreTold (sort_read text).1
sort_told text = pick (text_eq text (codes "load")) _ _ none (pick (text_eq text (codes "seqno")) _ _ none (one BadValue tt))

formula_told : (complex : Option ComplexDef) → AreTold (formula_faults complex)
formula_told None = one NoSuchObject tt
formula_told (Some complex) = bad _

weights_told : (text : List ℕ) → AreTold (weights_read text).1
weights_told text =
    folded with_weight_item (λ so_far item told. both (so_far.1 ++ when (not (is_weight item)) BadValue) (weight_read item).1 (both so_far.1 (when (not (is_weight item)) BadValue) told (bad _))
    (number_told Kind.Double 0 infinity (behind_byte 61 item))) (list_items text) ([], []) none

sched_told : (c : Cluster) (values : List (List ℕ × List ℕ)) → AreTold (sched_item c values).1
unfolding sched_item
sched_told c values =
    let number = λ (name : List ℕ) (k : Kind) (high : ℕ). setting_told c values name (number_read k 0 high) (number_told k 0 high) in
    let sort = setting_told c values (codes "queue_sort_method") sort_read sort_told in
    let formula = setting_told c values (codes "load_formula") (formula_read c) (λ text. formula_told (complex_at c text)) in
    let weights = setting_told c values (codes "usage_weight_list") weights_read weights_told in
    search (both, bad, absent, there, over, forbidden, used, round, stale, unasked, none, number, sort, formula, weights) depth 30 fits 20000

project_line_told : (c : Cluster) (lines : NodeLines) → AreTold (if is_project_line lines then cited (has_name c.projects) (lines.name ∷ []) else [])
project_line_told c lines = either (is_project_line lines) (cited (has_name c.projects) (lines.name ∷ [])) [] (absent _) none

line_told : (c : Cluster) (lines : NodeLines) → AreTold (line_faults c lines)
line_told c lines = search (both, bad, absent, there, over, forbidden, used, round, stale, unasked, none, number_told, project_line_told) depth 12

depth_told : (table : List (ℕ × ShareNode)) → AreTold (depth_faults table)
depth_told table = by (goes_round table (nodes_below table 0))
  where
    by : (b : Bool) → AreTold (elim b as (λ x. List Refusal) [ true ↦ Cycle ∷ [] | false ↦ when (is_deep table) Limit ])
    by true = one Cycle tt
    by false = over _

tree_told : (table : List (ℕ × ShareNode)) (owned : List ℕ) (faults : List Refusal) → AreTold faults → AreTold (tree_faults table owned faults)
tree_told table owned [] told = by (scopes_differ table owned)
  where
    by : (b : Bool) → AreTold (elim b as (λ x. List Refusal) [ true ↦ depth_faults table | false ↦ BadValue ∷ [] ])
    by true = depth_told table
    by false = one BadValue tt
tree_told table owned (fault ∷ faults) told = told

node_told : (nodes : List NodeLines) (table : List (ℕ × ShareNode)) (owned : List ℕ) → AreTold (node_faults nodes table owned)
node_told nodes table owned = search (both, bad, absent, there, over, forbidden, used, round, stale, unasked, none)

nodes_told : (c : Cluster) (nodes : List NodeLines) (table : List (ℕ × ShareNode)) (owned : List ℕ) → AreTold (tree_faults table owned (flat_map (line_faults c) nodes ++ node_faults nodes table owned))
nodes_told c nodes table owned =
    tree_told table owned (flat_map (line_faults c) nodes ++ node_faults nodes table owned)
    (both (flat_map (line_faults c) nodes) (node_faults nodes table owned) (each (line_faults c) (line_told c) nodes) (node_told nodes table owned))

shares_told : (c : Cluster) (adding : Bool) (nodes : List NodeLines) → AreTold (shares_item c adding nodes).1
unfolding shares_item
shares_told c adding nodes = search (both, bad, absent, there, over, forbidden, used, round, stale, unasked, none, nodes_told) depth 12

pub item_of_told : (c : Cluster) (kind : ObjectKind) (adding : Bool) (body : Body) → AreTold (item_of c kind adding body).1
unfolding item_of
item_of_told c ObjectKind.Host adding (Attributes values) = host_told c adding values
item_of_told c ObjectKind.Group adding (Attributes values) = group_told c adding values
item_of_told c ObjectKind.Queue adding (Attributes values) = queue_item_told c adding values
item_of_told c ObjectKind.Pe adding (Attributes values) = pe_told c adding values
item_of_told c ObjectKind.Set adding (Attributes values) = set_told c adding values
item_of_told c ObjectKind.User adding (Attributes values) = user_told c adding values
item_of_told c ObjectKind.Project adding (Attributes values) = project_told c adding values
item_of_told c ObjectKind.Sched adding (Attributes values) = sched_told c values
item_of_told c ObjectKind.Quota adding (RuleSet values rules) = quota_told c adding values rules
item_of_told c ObjectKind.Shares adding (Nodes nodes) = shares_told c adding nodes
item_of_told c ObjectKind.Complexes adding (ComplexRows rows) = complexes_told c adding rows
item_of_told c _ adding _ = one Syntax tt
