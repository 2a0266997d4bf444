-- User sets read from a body (access_list).
use Rattle.std.specs.Prelude.{ℕ, Bool, not, ◌||◌, List, [], ◌++◌, codes}
use Rattle.std.specs.List.{list_all}
use Rattle.ge_base.specs.declared.refusal.Refusal.TheVariants.{BadValue}
use Rattle.ge_limits.specs.Limits as limit
use Rattle.ge_model_rows.specs.ClusterRows.{Cluster}
use Rattle.ge_model_rows.specs.EntryRows.{Item, ObjectKind}
use Rattle.ge_model_grammar.specs.Names.{is_name}
use Rattle.ge_model_rows.specs.Faults.{when}
use Rattle.ge_model_rows.specs.Pieces.{list_items}
use Rattle.ge_model_grammar.specs.Configuring.{is_group_name}
use Rattle.ge_model_config.specs.Cited.{Read, given, none_text}
use Rattle.ge_model_config.specs.Named.{name_faults}

-- what a user set may have: a user, or an at sign and a user's group (access_list)
abbrev pub is_member_name : List ℕ → Bool
is_member_name entry = is_name entry || is_group_name entry

-- a user set; there are at most 1,024
unfoldable pub set_item : Cluster → Bool → List (List ℕ × List ℕ) → Read Item
set_item c adding values =
    let name = given values (codes "name") [] in
    let entries = list_items (given values (codes "entries") none_text) in
    (Item.Set name entries, name_faults ObjectKind.Set limit.user_sets c.sets adding name ++ when (not (list_all is_member_name entries)) BadValue)
