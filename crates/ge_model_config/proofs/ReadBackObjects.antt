-- Printed groups, user sets, users, projects and parallel environments read back, and given as a change where they are they change nothing.
use Rattle.std.proofs.Common.{◌≡◌, ℕ, Bool, List, [], Some, ap, ◌∙◌}
use Rattle.ge_model_rows.specs.ClusterRows.{Cluster}
use Rattle.ge_model_rows.specs.EntryRows.{Item, ObjectKind}
use Rattle.ge_model_grammar.specs.declared.Body.{Body}
use Rattle.ge_model_grammar.specs.Bodies.{body_of}
use Rattle.ge_model_config.specs.Reading.{item_of}
use Rattle.ge_model_config.specs.Printing.{printed}
use Rattle.ge_model_config.proofs.ReadBackBodies.{text_of_lines}
use Rattle.ge_model_config.proofs.ReadBackNames.{HasNames}
use Rattle.ge_model_config.proofs.ReadBack.{IsRead, faults_of_name, ReadsBack}
use Rattle.ge_model_config.proofs.ReadBackGroups.{group_back, groups_read}
use Rattle.ge_model_config.proofs.ReadBackPeople.{set_back, sets_read, user_back, users_read, project_back, projects_read}
use Rattle.ge_model_config.proofs.ReadBackEnvironments.{environment_back, environments_read}

-- ---- what was read reads back

-- the kinds that are spoken of here
abbrev pub IsPrinted : ObjectKind → Type 0
IsPrinted ObjectKind.Group = Unit {0}
IsPrinted ObjectKind.Set = Unit {0}
IsPrinted ObjectKind.User = Unit {0}
IsPrinted ObjectKind.Project = Unit {0}
IsPrinted ObjectKind.Pe = Unit {0}
IsPrinted _ = ⊥

-- what a text of such a kind is read to without a refusal looks so, and its name isn't refused
pub object_read : (c : Cluster) (kind : ObjectKind) (adding : Bool) (text : List ℕ) (body : Body) (thing : Item) → IsPrinted kind → HasNames c → body_of kind text ≡ Some body
    → item_of c kind adding body ≡ (thing, []) → IsRead c kind thing × (faults_of_name c adding thing ≡ [])
object_read c ObjectKind.Group adding text body thing of names = groups_read c adding text body thing names
object_read c ObjectKind.Set adding text body thing of names = sets_read c adding text body thing
object_read c ObjectKind.User adding text body thing of names = users_read c adding text body thing
object_read c ObjectKind.Project adding text body thing of names = projects_read c adding text body thing names
object_read c ObjectKind.Pe adding text body thing of names = environments_read c adding text body thing names
object_read c _ adding text body thing of names = absurd of

-- and what looks so reads back
pub object_back : (c : Cluster) (kind : ObjectKind) (thing : Item) → IsRead c kind thing → (ended : Bool) → ReadsBack c kind thing ended
object_back c ObjectKind.Group (Item.Group name hosts) is = group_back c name hosts is
object_back c ObjectKind.Set (Item.Set name entries) is = set_back c name entries is
object_back c ObjectKind.User (Item.User name user) is = user_back c name user is
object_back c ObjectKind.Project (Item.Project name project) is = project_back c name project is
object_back c ObjectKind.Pe (Item.Pe name pe) is = environment_back c name pe is
object_back c _ _ is = absurd is

-- what was read without a refusal is given again by its printed lines, and without a refusal where it is read as it was
pub printed_reads_back : (c : Cluster) (kind : ObjectKind) (adding : Bool) (text : List ℕ) (body : Body) (thing : Item) → IsPrinted kind → HasNames c → body_of kind text ≡ Some body
    → item_of c kind adding body ≡ (thing, []) → (ended : Bool)
    → (again : Body) × (body_of kind (text_of_lines ended (printed c thing)) ≡ Some again) × (item_of c kind adding again ≡ (thing, [])) × ((other : Bool) → (item_of c kind other again).0 ≡ thing)
printed_reads_back c kind adding text body thing of names parsed is ended =
    let read = object_read c kind adding text body thing of names parsed is in
    let back = object_back c kind thing read.0 ended in
    (back.body, back.parsed, back.again adding ∙ ap (λ faults. (thing, faults)) read.1, λ other. ap (λ result. result.0) (back.again other))
