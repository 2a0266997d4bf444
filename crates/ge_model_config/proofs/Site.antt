-- The cluster that the rows read bodies over, and what they ask.
use Rattle.std.specs.Prelude.{◌≡◌, ℕ, Bool, true, List, [], ◌∷◌, map, fold, Option, Some, None, codes}
use Rattle.std.specs.Fmt.{digits}
use Rattle.ge_collections.specs.Keyed.{put_text}
use Rattle.ge_base.specs.declared.refusal.Refusal.{Refusal}
use Rattle.ge_base.specs.declared.refusal.Refusal.TheVariants.{Syntax}
use Rattle.ge_model_rows.specs.ClusterRows.{Cluster, opening_cluster, default_queue, default_sched}
use Rattle.ge_model_rows.specs.EntryRows.{Item, ObjectKind}
use Rattle.ge_model_rows.specs.Faults.{first_fault}
use Rattle.ge_model_rows.specs.Pieces.{joined_by}
use Rattle.ge_model_rows.specs.Complexes.{opening, opening_complexes}
use Rattle.ge_model_grammar.specs.declared.Body.{Body}
use Rattle.ge_model_grammar.specs.Bodies.{body_of, grammar_of_bodies}
use Rattle.ge_model_config.specs.Reading.{item_of, items_of_bodies}
use Rattle.ge_model_config.specs.Printing.{printed, item_at}

-- what a body makes of a cluster
unfoldable pub read_over : Cluster → ObjectKind → Bool → Body → Item × List Refusal
unfolding items_of_bodies digits
read_over c kind adding body = item_of c kind adding body

-- a table of a cluster with what an item puts there
abbrev pub with_item : Cluster → Item → Cluster
with_item c (Item.Complexes table) = record c { complexes = table }
with_item c (Item.Host name values) = record c { hosts = put_text c.hosts name (record { values = values; load = [] }) }
with_item c (Item.Group name hosts) = record c { groups = put_text c.groups name hosts }
with_item c (Item.Queue name queue) = record c { queues = put_text c.queues name queue }
with_item c (Item.Pe name pe) = record c { pes = put_text c.pes name pe }
with_item c (Item.Quota name set) = record c { quotas = put_text c.quotas name set }
with_item c (Item.Set name entries) = record c { sets = put_text c.sets name entries }
with_item c (Item.User name user) = record c { users = put_text c.users name user }
with_item c (Item.Project name project) = record c { projects = put_text c.projects name project }
with_item c (Item.Shares nodes) = record c { shares = nodes }
with_item c (Item.Sched settings) = record c { sched = settings }
with_item c (Item.Managers names) = record c { managers = names }
with_item c (Item.Operators names) = record c { operators = names }

-- a cluster with a body added
unfoldable pub with_body : Cluster → ObjectKind × List ℕ → Cluster
unfolding grammar_of_bodies read_over
with_body c added = elim (body_of added.0 added.1) [ None ↦ c | Some body ↦ with_item c (read_over c added.0 true body).0 ]

-- the refusal that answers a body
unfoldable pub answer : Cluster → ObjectKind → Bool → List ℕ → Option Refusal
unfolding grammar_of_bodies read_over
answer c kind adding text = elim (body_of kind text) [ None ↦ Some Syntax | Some body ↦ first_fault (read_over c kind adding body).1 ]

-- that bodies are answered so, each beside its refusal
abbrev pub Answers : Cluster → ObjectKind → Bool → List (List ℕ × Option Refusal) → Type 0
Answers c kind adding rows = map (λ row. answer c kind adding row.0) rows ≡ map (λ row. row.1) rows

-- the lines of a body as it is printed once it is read
unfoldable pub reprinted : Cluster → ObjectKind → Bool → List ℕ → List ℕ
unfolding grammar_of_bodies read_over printed
reprinted c kind adding text = elim (body_of kind text) [ None ↦ [] | Some body ↦ joined_by (codes "\n") (printed c (read_over c kind adding body).0) ]

-- the item that a text makes, with its refusals
unfoldable pub item_from : Cluster → ObjectKind → List ℕ → Item × List Refusal
unfolding grammar_of_bodies read_over
item_from c kind text = elim (body_of kind text) [ None ↦ (Item.Managers [], Syntax ∷ []) | Some body ↦ read_over c kind true body ]

-- that the printed lines of texts make the items that the texts make
abbrev pub ReadBack : Cluster → ObjectKind → List (List ℕ) → Type 0
ReadBack c kind texts = map (λ text. item_from c kind (reprinted c kind true text)) texts ≡ map (item_from c kind) texts

-- the lines of what is there
unfoldable pub shown : Cluster → ObjectKind → List ℕ → List ℕ
unfolding printed item_at digits
shown c kind name = elim (item_at c kind name) [ None ↦ [] | Some thing ↦ joined_by (codes "\n") (printed c thing) ]

-- the opening cluster
unfoldable pub first : Cluster
unfolding opening opening_cluster opening_complexes default_queue default_sched
first = opening

-- three hosts in two groups, a consumable and one to be asked for, a user set, a project, a parallel environment, a queue with overrides and a rule set
unfoldable pub site : Cluster
unfolding first with_body
site = fold with_body first (
    (ObjectKind.Complexes, codes "mem mem MEMORY <= YES YES 1G 0\ngpu gpu BOOL == FORCED NO 0 0")
    ∷ (ObjectKind.Host, codes "hostname n1\ncomplex_values mem=8G")
    ∷ (ObjectKind.Host, codes "hostname n2\ncomplex_values mem=8G")
    ∷ (ObjectKind.Host, codes "hostname n3\ncomplex_values mem=4G")
    ∷ (ObjectKind.Group, codes "group_name @big\nhostlist n1 n2")
    ∷ (ObjectKind.Group, codes "group_name @all\nhostlist @big n3")
    ∷ (ObjectKind.Set, codes "name dev\nentries ann @staff")
    ∷ (ObjectKind.Project, codes "name web\nacl dev")
    ∷ (ObjectKind.Pe, codes "pe_name smp\nslots 100\nallocation_rule $pe_slots")
    ∷ (ObjectKind.Queue, codes "qname long.q\nhostlist @big n3\nslots 2,[@big=4]\npe_list smp\nuser_lists dev\nprojects NONE,[n1=web]")
    ∷ (ObjectKind.Quota, codes "{\nname per_user\nenabled TRUE\nlimit users {*} to slots=6,mem=2G\nlimit users @dev hosts @all to slots=4\n}")
    ∷ [])
