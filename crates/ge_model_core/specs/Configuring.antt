-- The plans of qconf.
use Rattle.std.specs.Prelude.{ℕ, Bool, true, false, not, ◌&&◌, nat_le, if◌then◌else◌, List, [], ◌∷◌, ◌++◌, length, Option, Some, None}
use Rattle.std.specs.List.{list_all}
use Rattle.ge_base.specs.declared.refusal.Refusal.{Refusal}
use Rattle.ge_base.specs.declared.refusal.Refusal.TheVariants.{Syntax, NoSuchObject, NotPermitted, Exists, InUse, Limit}
use Rattle.ge_collections.specs.Keyed.{text_eq}
use Rattle.ge_limits.specs.Limits as limit
use Rattle.ge_model_rows.specs.ClusterRows.{Cluster}
use Rattle.ge_model_rows.specs.EntryRows.{Put, Drop, Item, ObjectKind, Key}
use Rattle.ge_model_rows.specs.EventRows.{Event, Planned}
use Rattle.ge_model_core.specs.Refusals.{refused}
use Rattle.ge_model_rows.specs.Faults.{when}
use Rattle.ge_model_rows.specs.Pieces.{is_one_of}
use Rattle.ge_model_rows.specs.Access.{is_manager}
use Rattle.ge_model_grammar.specs.declared.Body.{Body}
use Rattle.ge_model_grammar.specs.Bodies.{body_of}
use Rattle.ge_model_config.specs.Reading.{item_of}
use Rattle.ge_model_config.specs.Used.{is_there, is_used}
use Rattle.ge_model_config.specs.Printing.{printed, item_at}
use Rattle.ge_model_core.specs.Answers.{changed, shown, done_lines, unless_faulty}

-- only managers configure
abbrev pub manager_faults : Cluster → Event → List Refusal
manager_faults c e = when (not (is_manager c e.user)) NotPermitted

abbrev pub put : Cluster → Event → Item × List Refusal → Planned
put c e read = unless_faulty (manager_faults c e ++ read.1) (changed e (Put read.0) done_lines)

-- a body that isn't in its grammar is no command
abbrev pub body_plan_of : Cluster → Event → ObjectKind → Bool → Option Body → Planned
body_plan_of c e kind adding None = refused Syntax
body_plan_of c e kind adding (Some body) = put c e (item_of c kind adding body)

unfoldable pub body_plan : Cluster → Event → ObjectKind → Bool → List ℕ → Planned
body_plan c e kind adding text = body_plan_of c e kind adding (body_of kind text)

-- a list of managers or operators has each name once, and at most 1,024 of them
abbrev pub enlist_faults : List (List ℕ) → List ℕ → List Refusal
enlist_faults names name = if is_one_of name names then Exists ∷ [] else when (nat_le limit.managers (length names)) Limit

abbrev pub enlisted : List (List ℕ) → List ℕ → List (List ℕ)
enlisted names name = names ++ name ∷ []

-- qconf -am and -ao: the name at the end of the list
abbrev pub add_plan : Cluster → Event → ObjectKind → List ℕ → Planned
add_plan c e ObjectKind.Managers name = put c e (Item.Managers (enlisted c.managers name), enlist_faults c.managers name)
add_plan c e ObjectKind.Operators name = put c e (Item.Operators (enlisted c.operators name), enlist_faults c.operators name)
add_plan c e other text = body_plan c e other true text

abbrev pub modify_plan : Cluster → Event → ObjectKind → List ℕ → Planned
modify_plan c e kind text = body_plan c e kind false text

-- somebody remains who may manage
abbrev pub delist_faults : Bool → List (List ℕ) → List ℕ → List Refusal
delist_faults needed names name =
    if is_one_of name names then when (needed && list_all (text_eq name) names) InUse else NoSuchObject ∷ []

abbrev pub object_faults : Cluster → ObjectKind → List ℕ → List Refusal
object_faults c kind name = if is_there c kind name then when (is_used c kind name) InUse else NoSuchObject ∷ []

-- an object that is deleted is there and isn't used; the share tree may always go
abbrev pub remove_faults : Cluster → ObjectKind → List ℕ → List Refusal
remove_faults c ObjectKind.Managers name = delist_faults true c.managers name
remove_faults c ObjectKind.Operators name = delist_faults false c.operators name
remove_faults c ObjectKind.Shares name = []
remove_faults c kind name = object_faults c kind name

unfoldable pub remove_plan : Cluster → Event → Key → Planned
remove_plan c e key = unless_faulty (manager_faults c e ++ remove_faults c key.kind key.name) (changed e (Drop key) done_lines)

abbrev pub print_plan_of : Cluster → Option Item → Planned
print_plan_of c None = refused NoSuchObject
print_plan_of c (Some item) = shown (printed c item)

unfoldable pub print_plan : Cluster → Key → Planned
print_plan c key = print_plan_of c (item_at c key.kind key.name)
