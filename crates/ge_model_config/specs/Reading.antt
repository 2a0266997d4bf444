-- Bodies read: the item, what refuses it, and what a text is answered with.
use Rattle.std.specs.Prelude.{ℕ, Bool, List, [], ◌∷◌, Some, None, Result, Err}
use Rattle.ge_model_grammar.specs.declared.Body.{Body}
use Rattle.ge_model_grammar.specs.declared.Body.TheVariants.{Attributes, RuleSet, Nodes, ComplexRows}
use Rattle.ge_model_grammar.specs.Bodies.{body_of}
use Rattle.ge_model_rows.specs.ClusterRows.{Cluster, default_queue, default_sched}
use Rattle.ge_model_rows.specs.EntryRows.{Item, Managers, ObjectKind}
use Rattle.ge_base.specs.declared.refusal.Refusal.{Refusal}
use Rattle.ge_base.specs.declared.refusal.Refusal.TheVariants.{Syntax}
use Rattle.ge_model_rows.specs.Complexes.{opening_complexes}
use Rattle.ge_model_rows.specs.Groups.{has_loop}
use Rattle.ge_model_config.specs.Cited.{answered}
use Rattle.ge_model_config.specs.Queues.{queue_item, queue_read}
use Rattle.ge_model_config.specs.Hosts.{host_item}
use Rattle.ge_model_config.specs.Groups.{group_item}
use Rattle.ge_model_config.specs.Environments.{pe_item}
use Rattle.ge_model_config.specs.UserSets.{set_item}
use Rattle.ge_model_config.specs.People.{user_item, project_item}
use Rattle.ge_model_config.specs.Settings.{sched_item}
use Rattle.ge_model_config.specs.Quotas.{quota_item}
use Rattle.ge_model_config.specs.Complexes.{complexes_item}
use Rattle.ge_model_config.specs.Shares.{shares_item}

-- the item that a body of a kind makes of a cluster, added or in place of one that is there, with the refusals whose
-- conditions hold; a body of another kind is off the grammar, and managers and operators have no body
unfoldable pub item_of : Cluster → ObjectKind → Bool → Body → Item × List Refusal
item_of c ObjectKind.Host adding (Attributes values) = host_item c adding values
item_of c ObjectKind.Group adding (Attributes values) = group_item c adding values
item_of c ObjectKind.Queue adding (Attributes values) = queue_item c adding values
item_of c ObjectKind.Pe adding (Attributes values) = pe_item c adding values
item_of c ObjectKind.Set adding (Attributes values) = set_item c adding values
item_of c ObjectKind.User adding (Attributes values) = user_item c adding values
item_of c ObjectKind.Project adding (Attributes values) = project_item c adding values
item_of c ObjectKind.Sched adding (Attributes values) = sched_item c values
item_of c ObjectKind.Quota adding (RuleSet values rules) = quota_item c adding values rules
item_of c ObjectKind.Shares adding (Nodes nodes) = shares_item c adding nodes
item_of c ObjectKind.Complexes adding (ComplexRows rows) = complexes_item c adding rows
item_of c _ adding _ = (Managers [], Syntax ∷ [])

-- what the text of a body makes, added or in place of what is there; off the grammar it is a syntax error
unfoldable pub body_read : Cluster → ObjectKind → Bool → List ℕ → Result Item Refusal
body_read c kind adding text = elim (body_of kind text) [ None ↦ Err Syntax | Some body ↦ answered (item_of c kind adding body) ]

-- what a row opens that computes what a body makes: each kind's reader, and what these open
unfoldable pub items_of_bodies : Unit {0}
unfolding item_of host_item group_item pe_item set_item user_item project_item queue_item queue_read sched_item quota_item complexes_item shares_item has_loop opening_complexes default_queue default_sched
items_of_bodies = tt
