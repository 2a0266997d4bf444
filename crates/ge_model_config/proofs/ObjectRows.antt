-- Bodies of hosts, groups, parallel environments, user sets, users, projects and settings, and what answers them.
use Rattle.std.specs.Prelude.{◌≡◌, Ok, Err, true, false, [], ◌∷◌, Some, None, codes, refl}
use Rattle.ge_base.specs.declared.refusal.Refusal.TheVariants.{Syntax, NoSuchObject, Exists, BadValue, Cycle}
use Rattle.ge_model_rows.specs.EntryRows.{Item, ObjectKind}
use Rattle.ge_model_grammar.specs.Bodies.{grammar_of_bodies}
use Rattle.ge_model_config.specs.Reading.{body_read, items_of_bodies}
use Rattle.ge_model_config.proofs.Site.{site, answer, Answers}

hosts_added : Answers site ObjectKind.Host true (
    (codes "hostname h5", None)
    ∷ (codes "hostname h5\ncomplex_values mem=1G, mem=2G ver=1", Some NoSuchObject)
    ∷ (codes "hostname n1", Some Exists)
    ∷ (codes "hostname a/b", Some BadValue)
    ∷ (codes "hostname h5\ncomplex_values nosuch=1", Some NoSuchObject)
    ∷ (codes "hostname h5\ncomplex_values mem=x,mem=2G", Some BadValue)
    ∷ (codes "hostname h5\ncomplex_values mem", Some BadValue)
    ∷ (codes "hostname h5\nuser_lists dev", Some BadValue)
    ∷ (codes "hostname h5\nuser_lists NONE\nprocessors 4", None)
    ∷ [])
unfolding answer site
hosts_added = refl

hosts_changed : Answers site ObjectKind.Host false (
    (codes "hostname h5", Some NoSuchObject)
    ∷ (codes "hostname a/b", Some NoSuchObject)
    ∷ [])
unfolding answer site
hosts_changed = refl

groups_added : Answers site ObjectKind.Group true (
    (codes "group_name @c\nhostlist @c", Some NoSuchObject)
    ∷ (codes "group_name @c\nhostlist n1 @big", None)
    ∷ (codes "group_name c", Some BadValue)
    ∷ (codes "group_name @big", Some Exists)
    ∷ (codes "group_name @c\nhostlist n1,,n2", Some NoSuchObject)
    ∷ (codes "group_name @c\nhostlist NONE", None)
    ∷ (codes "group_name @c\nhostlist n1 NONE", Some NoSuchObject)
    ∷ (codes "group_name @c\nhostlist global", None)
    ∷ [])
unfolding answer site
groups_added = refl

groups_changed : Answers site ObjectKind.Group false (
    (codes "group_name @big\nhostlist @big", Some Cycle)
    ∷ (codes "group_name @big\nhostlist n1 @all", Some Cycle)
    ∷ (codes "group_name @c", Some NoSuchObject)
    ∷ [])
unfolding answer site
groups_changed = refl

pes_added : Answers site ObjectKind.Pe true (
    (codes "pe_name mpi", None)
    ∷ (codes "pe_name smp", Some Exists)
    ∷ (codes "pe_name mpi\nslots 1.5", Some BadValue)
    ∷ (codes "pe_name mpi\nuser_lists nosuch", Some NoSuchObject)
    ∷ (codes "pe_name mpi\nallocation_rule 0", Some BadValue)
    ∷ (codes "pe_name mpi\nallocation_rule 1000000", None)
    ∷ (codes "pe_name mpi\nallocation_rule 1000001", Some BadValue)
    ∷ (codes "pe_name mpi\nallocation_rule $pe", Some BadValue)
    ∷ (codes "pe_name mpi\nurgency_slots min\nxuser_lists dev", None)
    ∷ (codes "pe_name mpi\nurgency_slots 0", Some BadValue)
    ∷ (codes "pe_name mpi\nslots -1", Some BadValue)
    ∷ [])
unfolding answer site
pes_added = refl

pes_changed : Answers site ObjectKind.Pe false (
    (codes "pe_name mpi", Some NoSuchObject)
    ∷ [])
unfolding answer site
pes_changed = refl

sets_added : Answers site ObjectKind.Set true (
    (codes "name x\nentries ann, @staff", None)
    ∷ (codes "name x\nentries a/b", Some BadValue)
    ∷ (codes "name x\nentries @", Some BadValue)
    ∷ (codes "name x\nentries ann,", Some BadValue)
    ∷ (codes "name dev", Some Exists)
    ∷ (codes "name x y", Some BadValue)
    ∷ [])
unfolding answer site
sets_added = refl

sets_changed : Answers site ObjectKind.Set false (
    (codes "name x", Some NoSuchObject)
    ∷ [])
unfolding answer site
sets_changed = refl

users_added : Answers site ObjectKind.User true (
    (codes "name ann\nfshare 4294967295", None)
    ∷ (codes "name ann\nfshare 4294967296", Some BadValue)
    ∷ (codes "name ann\noticket x", Some BadValue)
    ∷ (codes "name a:b", Some BadValue)
    ∷ [])
unfolding answer site
users_added = refl

users_changed : Answers site ObjectKind.User false (
    (codes "name ann", Some NoSuchObject)
    ∷ [])
unfolding answer site
users_changed = refl

projects_added : Answers site ObjectKind.Project true (
    (codes "name lab\nacl dev\noticket 7", None)
    ∷ (codes "name lab\nxacl nosuch", Some NoSuchObject)
    ∷ (codes "name web", Some Exists)
    ∷ (codes "name lab\nfshare 4294967296", Some BadValue)
    ∷ [])
unfolding answer site
projects_added = refl

projects_changed : Answers site ObjectKind.Project false (
    (codes "name lab", Some NoSuchObject)
    ∷ [])
unfolding answer site
projects_changed = refl

settings : Answers site ObjectKind.Sched false (
    (codes "max_reservation 4", None)
    ∷ (codes "load_formula nosuch", Some NoSuchObject)
    ∷ (codes "load_formula arch", Some BadValue)
    ∷ (codes "load_formula mem", None)
    ∷ (codes "halftime 1048576", Some BadValue)
    ∷ (codes "halftime 1048575", None)
    ∷ (codes "weight_tickets_share 1000000000", None)
    ∷ (codes "weight_tickets_functional 1000000001", Some BadValue)
    ∷ (codes "queue_sort_method Load", Some BadValue)
    ∷ (codes "usage_weight_list cpu", Some BadValue)
    ∷ (codes "usage_weight_list cpu=1,disk=2", Some BadValue)
    ∷ (codes "usage_weight_list NONE", None)
    ∷ (codes "weight_user 0.1234567", Some BadValue)
    ∷ (codes "schedule_interval 1:1", Some BadValue)
    ∷ (codes "policy_hierarchy OFS", None)
    ∷ [])
unfolding answer site
settings = refl

-- a body is answered with what it gives, or with its first refusal; off the grammar with a syntax error
a_set : body_read site ObjectKind.Set true (codes "name qa\nentries eve") ≡ Ok (Item.Set (codes "qa") (codes "eve" ∷ []))
unfolding body_read site items_of_bodies grammar_of_bodies
a_set = refl

a_refused_set : body_read site ObjectKind.Set true (codes "name dev\nentries @") ≡ Err Exists
unfolding body_read site items_of_bodies grammar_of_bodies
a_refused_set = refl

no_set : body_read site ObjectKind.Set true (codes "entries eve") ≡ Err Syntax
unfolding body_read site items_of_bodies grammar_of_bodies
no_set = refl
