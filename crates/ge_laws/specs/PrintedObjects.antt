-- Configured objects as they are printed and read: qconf -s, -A and -M.
use Rattle.std.specs.Prelude.{◌≡◌, ℕ, Bool, true, false, if◌then◌else◌, List, [], ◌∷◌, ◌++◌, Some, codes}
use Rattle.std.specs.List.{list_all}
use Rattle.std.specs.Map.{keys_of}
use Rattle.ge_model_rows.specs.ClusterRows.{Cluster, opening_cluster, default_sched}
use Rattle.ge_model_rows.specs.EntryRows.{Put, Item, ObjectKind}
use Rattle.ge_model_rows.specs.EventRows.{Event}
use Rattle.ge_model_rows.specs.ValueRows.{Value}
use Rattle.ge_model_grammar.specs.Names.{is_name}
use Rattle.ge_model_rows.specs.Complexes.{complex_at}
use Rattle.ge_model_rows.specs.Pieces.{joined_by}
use Rattle.ge_model_grammar.specs.declared.Body.{Body}
use Rattle.ge_model_grammar.specs.Bodies.{body_of}
use Rattle.ge_model_grammar.specs.Configuring.{is_group_name}
use Rattle.ge_model_grammar.specs.Lines.{ends_in}
use Rattle.ge_model_config.specs.Printing.{printed as printed_lines}
use Rattle.ge_model_config.specs.Pairs.{values_text}
use Rattle.ge_model_config.specs.Reading.{item_of}
use Rattle.ge_model_config.specs.Settings.{formula_faults}
use Rattle.ge_model_jobs.specs.Configuring.{with_item}
use Rattle.ge_model_core.specs.Answers.{changed, done_lines, shown, unless_faulty}
use Rattle.ge_model_core.specs.Configuring.{manager_faults, modify_plan, print_plan}
use Rattle.ge_model_core.specs.Plan.{plan_of}
use Rattle.ge_model_core.specs.Trace.{cluster_after}

-- the cluster to which events lead from the opening one; a mark says for each whether it found the memory that it needed
abbrev pub reached : List Event → List Bool → Cluster
reached events marks = cluster_after plan_of opening_cluster events marks

-- the tables of a cluster have names alone, of the form that the manual asks for, and its complexes have the default load formula
pub record IsNamed (c : Cluster) : Type 0 where
  pub hosts : list_all is_name (keys_of c.hosts) ≡ true
  pub groups : list_all is_group_name (keys_of c.groups) ≡ true
  pub sets : list_all is_name (keys_of c.sets) ≡ true
  pub complexes : list_all is_name (keys_of c.complexes) ≡ true
  pub formula : formula_faults (complex_at c default_sched.load_formula) ≡ []

-- groups of hosts, user sets, users, projects and parallel environments
abbrev pub IsListed : ObjectKind → Type 0
IsListed ObjectKind.Group = Unit {0}
IsListed ObjectKind.Set = Unit {0}
IsListed ObjectKind.User = Unit {0}
IsListed ObjectKind.Project = Unit {0}
IsListed ObjectKind.Pe = Unit {0}
IsListed _ = ⊥

-- the printed lines of an object as one text, with a line feed behind the last or without
abbrev pub printed_text : Bool → Cluster → Item → List ℕ
printed_text ended c thing = joined_by (codes "\n") (printed_lines c thing ++ (if ended then [] ∷ [] else []))

-- a text is a body that is read as an object, added or changed, without a refusal
abbrev pub IsReadAs : Cluster → ObjectKind → Bool → List ℕ → Item → Type 0
IsReadAs c kind adding text thing = (body : Body) × (body_of kind text ≡ Some body) × (item_of c kind adding body ≡ (thing, []))

-- the last value of a host doesn't end with a backslash, which would join a line behind it
abbrev pub EndsPlainly : Cluster → List (List ℕ × Value) → Bool → Type 0
EndsPlainly c values ended = ended ≡ true → ends_in (codes "\\") (values_text c values) ≡ false

-- the name of an object; there is one table of complexes and one set of settings, without a name
abbrev pub name_of : Item → List ℕ
name_of (Item.Host name values) = name
name_of (Item.Group name hosts) = name
name_of (Item.Set name entries) = name
name_of (Item.User name user) = name
name_of (Item.Project name project) = name
name_of (Item.Pe name pe) = name
name_of _ = []

-- an object was put into a cluster at a moment. It is shown by its lines (qconf -s); these, given as a change (qconf -M), are accepted from a manager, with one line
-- "done", and put the object; and that leaves the cluster as it is
pub record IsShownAgain (moment : ℕ) (c : Cluster) (kind : ObjectKind) (thing : Item) (ended : Bool) : Type 0 where
  pub printed : print_plan (with_item moment c thing) (record { kind = kind; name = name_of thing }) ≡ shown (printed_lines (with_item moment c thing) thing)
  pub accepted : (e : Event) → modify_plan (with_item moment c thing) e kind (printed_text ended (with_item moment c thing) thing)
      ≡ unless_faulty (manager_faults (with_item moment c thing) e) (changed e (Put thing) done_lines)
  pub same : (later : ℕ) → with_item later (with_item moment c thing) thing ≡ with_item moment c thing
