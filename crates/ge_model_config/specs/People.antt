-- Users and projects read from a body and printed (user, project).
use Rattle.std.specs.Prelude.{ℕ, ◌-◌, ◌^◌, Bool, List, [], ◌∷◌, ◌++◌, codes, decimal}
use Rattle.ge_limits.specs.Limits as limit
use Rattle.ge_model_rows.specs.ClusterRows.{Cluster}
use Rattle.ge_model_rows.specs.EntryRows.{Item, ObjectKind}
use Rattle.ge_model_rows.specs.PeopleRows.{UserRow, ProjectRow}
use Rattle.ge_model_rows.specs.ValueRows.{Kind}
use Rattle.ge_model_rows.specs.Pieces.{list_text}
use Rattle.ge_model_config.specs.Cited.{Read, given, none_text, number_read, names_read, has_name, printed_attribute}
use Rattle.ge_model_config.specs.Named.{name_faults}

-- tickets and shares are below 2^32, and 0 where a body leaves them out
abbrev pub tickets_read : List (List ℕ × List ℕ) → List ℕ → Read ℕ
tickets_read values attribute = number_read Kind.Int 0 (2 ^ 32 - 1) (given values attribute (codes "0"))

-- a user's tickets (user); there are at most 100,000
unfoldable pub user_item : Cluster → Bool → List (List ℕ × List ℕ) → Read Item
user_item c adding values =
    let name = given values (codes "name") [] in
    let fshare = tickets_read values (codes "fshare") in
    let oticket = tickets_read values (codes "oticket") in
    (Item.User name (record { fshare = fshare.0; oticket = oticket.0 }), name_faults ObjectKind.User limit.users c.users adding name ++ fshare.1 ++ oticket.1)

-- a project's tickets and who may use it (project); there are at most 10,000
unfoldable pub project_item : Cluster → Bool → List (List ℕ × List ℕ) → Read Item
project_item c adding values =
    let name = given values (codes "name") [] in
    let fshare = tickets_read values (codes "fshare") in
    let oticket = tickets_read values (codes "oticket") in
    let acl = names_read (has_name c.sets) (given values (codes "acl") none_text) in
    let xacl = names_read (has_name c.sets) (given values (codes "xacl") none_text) in (
      Item.Project name (record { fshare = fshare.0; oticket = oticket.0; acl = acl.0; xacl = xacl.0 }),
      name_faults ObjectKind.Project limit.projects c.projects adding name ++ fshare.1 ++ oticket.1 ++ acl.1 ++ xacl.1,
    )

-- project
abbrev pub project_lines : List ℕ → ProjectRow → List (List ℕ)
project_lines name project =
    printed_attribute (codes "name") name
    ∷ printed_attribute (codes "oticket") (decimal project.oticket)
    ∷ printed_attribute (codes "fshare") (decimal project.fshare)
    ∷ printed_attribute (codes "acl") (list_text project.acl)
    ∷ printed_attribute (codes "xacl") (list_text project.xacl)
    ∷ []

-- user
abbrev pub user_lines : List ℕ → UserRow → List (List ℕ)
user_lines name user =
    printed_attribute (codes "name") name ∷ printed_attribute (codes "oticket") (decimal user.oticket) ∷ printed_attribute (codes "fshare") (decimal user.fshare) ∷ []
