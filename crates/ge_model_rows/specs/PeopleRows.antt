-- Users, projects and the nodes of the share tree: user, project, share_tree.
pub use Rattle.ge_rows.specs.declared.people.UserRow.{UserRow}
pub use Rattle.ge_rows.specs.declared.people.ProjectRow.{ProjectRow}
pub use Rattle.ge_rows.specs.declared.people.ShareNode.{ShareNode}
