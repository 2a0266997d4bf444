-- Host groups read from a body (hostgroup).
use Rattle.std.specs.Prelude.{ℕ, Bool, List, [], ◌++◌, codes}
use Rattle.ge_collections.specs.Keyed.{put_text}
use Rattle.ge_base.specs.declared.refusal.Refusal.{Refusal}
use Rattle.ge_base.specs.declared.refusal.Refusal.TheVariants.{Cycle}
use Rattle.ge_limits.specs.Limits as limit
use Rattle.ge_model_rows.specs.ClusterRows.{Cluster}
use Rattle.ge_model_rows.specs.EntryRows.{Item, ObjectKind}
use Rattle.ge_model_rows.specs.Faults.{when}
use Rattle.ge_model_rows.specs.Groups.{has_loop}
use Rattle.ge_model_config.specs.Cited.{Read, given, none_text, names_read, is_host_or_group}
use Rattle.ge_model_config.specs.Named.{name_faults}

-- no group may reach itself, whatever else it reaches
abbrev pub loops_among : List (List ℕ × List (List ℕ)) → List Refusal
loops_among groups = when (has_loop groups) Cycle

-- a group of hosts and groups (hostgroup); there are at most 1,024
unfoldable pub group_item : Cluster → Bool → List (List ℕ × List ℕ) → Read Item
group_item c adding values =
    let name = given values (codes "group_name") [] in
    let hosts = names_read (is_host_or_group c) (given values (codes "hostlist") none_text) in
    (Item.Group name hosts.0, name_faults ObjectKind.Group limit.host_groups c.groups adding name ++ hosts.1 ++ loops_among (put_text c.groups name hosts.0))
