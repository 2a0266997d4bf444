-- Items printed: qconf -s and its kin. The lines of each kind stand in the file of its manual page.
use Rattle.std.specs.Prelude.{ℕ, List, [], ◌∷◌, map, flat_map, Option, Some, codes}
use Rattle.std.specs.Option.{option_map}
use Rattle.ge_collections.specs.Keyed.{at_text}
use Rattle.ge_model_rows.specs.ClusterRows.{Cluster}
use Rattle.ge_model_rows.specs.EntryRows.{Item, ObjectKind}
use Rattle.ge_model_rows.specs.Pieces.{list_text}
use Rattle.ge_model_config.specs.Cited.{printed_attribute}
use Rattle.ge_model_config.specs.Pairs.{values_text}
use Rattle.ge_model_config.specs.Queues.{queue_lines}
use Rattle.ge_model_config.specs.Environments.{pe_lines}
use Rattle.ge_model_config.specs.People.{user_lines, project_lines}
use Rattle.ge_model_config.specs.Settings.{sched_lines}
use Rattle.ge_model_config.specs.Quotas.{quota_lines}
use Rattle.ge_model_config.specs.Complexes.{printed_complex}
use Rattle.ge_model_config.specs.Shares.{node_lines}

-- the printed lines of an item: each attribute in the order of its manual page, a blank and its value
unfoldable pub printed : Cluster → Item → List (List ℕ)
printed c (Item.Complexes table) = map printed_complex table
printed c (Item.Host name values) = printed_attribute (codes "hostname") name ∷ printed_attribute (codes "complex_values") (values_text c values) ∷ []
printed c (Item.Group name hosts) = printed_attribute (codes "group_name") name ∷ printed_attribute (codes "hostlist") (list_text hosts) ∷ []
printed c (Item.Queue name queue) = queue_lines c name queue
printed c (Item.Pe name pe) = pe_lines name pe
printed c (Item.Quota name set) = quota_lines c name set
printed c (Item.Set name entries) = printed_attribute (codes "name") name ∷ printed_attribute (codes "entries") (list_text entries) ∷ []
printed c (Item.User name user) = user_lines name user
printed c (Item.Project name project) = project_lines name project
printed c (Item.Shares nodes) = flat_map node_lines nodes
printed c (Item.Sched settings) = sched_lines settings
printed c (Item.Managers names) = names
printed c (Item.Operators names) = names

-- the item that is there under a name; the tables, the settings and the lists of managers and operators are there under any
unfoldable pub item_at : Cluster → ObjectKind → List ℕ → Option Item
item_at c ObjectKind.Complexes name = Some (Item.Complexes c.complexes)
item_at c ObjectKind.Host name = option_map (λ host. Item.Host name host.values) (at_text c.hosts name)
item_at c ObjectKind.Group name = option_map (Item.Group name) (at_text c.groups name)
item_at c ObjectKind.Queue name = option_map (Item.Queue name) (at_text c.queues name)
item_at c ObjectKind.Pe name = option_map (Item.Pe name) (at_text c.pes name)
item_at c ObjectKind.Quota name = option_map (Item.Quota name) (at_text c.quotas name)
item_at c ObjectKind.Set name = option_map (Item.Set name) (at_text c.sets name)
item_at c ObjectKind.User name = option_map (Item.User name) (at_text c.users name)
item_at c ObjectKind.Project name = option_map (Item.Project name) (at_text c.projects name)
item_at c ObjectKind.Shares name = Some (Item.Shares c.shares)
item_at c ObjectKind.Sched name = Some (Item.Sched c.sched)
item_at c ObjectKind.Managers name = Some (Item.Managers c.managers)
item_at c ObjectKind.Operators name = Some (Item.Operators c.operators)
