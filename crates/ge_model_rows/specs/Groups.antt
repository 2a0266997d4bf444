-- Groups of hosts and their members (hostgroup).
use Rattle.std.specs.Prelude.{ℕ, zero, suc, ◌==◌, Bool, true, false, List, [], ◌∷◌, ◌++◌, length, map, fold, flat_map, Option, Some, None, is_some, unwrap_or, Result, Ok, Err}
use Rattle.std.specs.Map.{keys_of}
use Rattle.std.specs.Option.{option_or}
use Rattle.ge_collections.specs.Keyed.{at_text}
use Rattle.ge_model_rows.specs.ClusterRows.{Cluster}
use Rattle.ge_model_rows.specs.HostRows.{Groups}
use Rattle.ge_model_rows.specs.declared.GroupFault.{GroupFault}
use Rattle.ge_model_rows.specs.declared.GroupFault.TheVariants.{NoSuch, Cycle}
use Rattle.ge_model_rows.specs.Pieces.{is_one_of, with_text}

-- whether an entry of a hostlist names a group: it begins with an at sign
abbrev pub is_group : List ℕ → Bool
is_group [] = false
is_group (b ∷ rest) = b == 64

-- what a walk through a group has met: the hosts and the groups, each once and in first-seen order, the first group
-- that is missing, and the first that reaches itself
pub record Walk : Type 0 where
  pub hosts : List (List ℕ)
  pub groups : List (List ℕ)
  pub missing : Option (List ℕ)
  pub cycle : Option (List ℕ)

abbrev pub before_walk : Walk
before_walk = record { hosts = []; groups = []; missing = None; cycle = None }

abbrev pub meets_host : Walk → List ℕ → Walk
meets_host walk host = record walk { hosts = with_text walk.hosts host }

abbrev pub meets_group : Walk → List ℕ → Walk
meets_group walk name = record walk { groups = with_text walk.groups name }

abbrev pub meets_missing : Walk → List ℕ → Walk
meets_missing walk name = record walk { missing = option_or walk.missing (Some name) }

abbrev pub meets_cycle : Walk → List ℕ → Walk
meets_cycle walk name = record walk { cycle = option_or walk.cycle (Some name) }

-- an entry of a hostlist: a group is walked through, a host is kept
abbrev pub through_entry : (Walk → List ℕ → Walk) → Walk → List ℕ → Walk
through_entry through walk entry = elim (is_group entry) [ true ↦ through walk entry | false ↦ meets_host walk entry ]

-- a walk through a group, depth first: the groups that the way leads through, in their order, the walk so far, the group. A
-- group on the way reaches itself, one that was met elsewhere has nothing new: so the entries of a group are read once, and
-- the way, which has each group once, is never longer than the table
abbrev pub through_group : ℕ → List (List ℕ × List (List ℕ)) → List (List ℕ) → Walk → List ℕ → Walk
through_group zero table way walk name = walk
through_group (suc depth) table way walk name =
    elim (at_text table name) [
      | None ↦ meets_missing walk name
      | Some entries ↦ elim (is_one_of name way) [
        | true ↦ meets_cycle walk name
        | false ↦ elim (is_one_of name walk.groups) [
          | true ↦ walk
          | false ↦ fold (through_entry (through_group depth table (way ++ name ∷ []))) (meets_group walk name) entries
        ]
      ]
    ]

-- what a walk has found: a missing group before one that reaches itself
abbrev pub found_by : Walk → Result (List (List ℕ)) GroupFault
found_by walk = elim walk.missing [
  | Some name ↦ Err (NoSuch name)
  | None ↦ elim walk.cycle [ Some name ↦ Err (Cycle name) | None ↦ Ok walk.hosts ]
]

-- one walk through groups and all that they reach, each group with what was met before
abbrev pub walk_over : List (List ℕ × List (List ℕ)) → List (List ℕ) → Walk
walk_over groups names = fold (through_group (suc (length groups)) groups []) before_walk names

-- the hosts of a group in first-seen order, each once; or the first fault, depth first, a missing group before a cycle
unfoldable pub members_of : List (List ℕ × List (List ℕ)) → List ℕ → Result (List (List ℕ)) GroupFault
members_of groups name = found_by (walk_over groups (name ∷ []))

-- whether any group reaches itself, whatever groups are missing: asked of one walk over all
unfoldable pub has_loop : List (List ℕ × List (List ℕ)) → Bool
has_loop groups = is_some (walk_over groups (keys_of groups)).cycle

-- none where there is a fault
abbrev pub members_or_none : Result (List (List ℕ)) GroupFault → List (List ℕ)
members_or_none (Ok hosts) = hosts
members_or_none (Err fault) = []

-- the members of every group; a group with a fault has none
unfoldable pub expanded : Cluster → Groups
expanded c = record { hosts = map (λ group. (group.0, members_or_none (members_of c.groups group.0))) c.groups }

-- the hosts that a group name stands for
abbrev pub hosts_of : Groups → List ℕ → List (List ℕ)
hosts_of groups name = unwrap_or (at_text groups.hosts name) []

-- the hosts that an entry of a hostlist stands for, and those of a whole hostlist, doubles kept
abbrev pub entry_hosts : Groups → List ℕ → List (List ℕ)
entry_hosts groups entry = elim (is_group entry) [ true ↦ hosts_of groups entry | false ↦ entry ∷ [] ]

abbrev pub hostlist_hosts : Groups → List (List ℕ) → List (List ℕ)
hostlist_hosts groups entries = flat_map (entry_hosts groups) entries

-- whether a host is in a group
abbrev pub group_has : Groups → List ℕ → List ℕ → Bool
group_has groups name host = is_one_of host (hosts_of groups name)
