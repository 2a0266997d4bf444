-- Worked rows of groups and their members, each by computation.
use Rattle.std.specs.Prelude.{◌≡◌, [], ◌∷◌, map, Ok, Err, true, false, codes, refl}
use Rattle.ge_model_rows.specs.ClusterRows.{Cluster, opening_cluster}
use Rattle.ge_model_rows.specs.declared.GroupFault.TheVariants.{NoSuch, Cycle}
use Rattle.ge_model_rows.specs.Groups.{members_of, has_loop, expanded, hosts_of, hostlist_hosts, group_has}

first_seen_order : members_of
    ((codes "@a", codes "h2" ∷ codes "@b" ∷ codes "h1" ∷ codes "h2" ∷ []) ∷ (codes "@b", codes "h3" ∷ codes "h1" ∷ codes "h2" ∷ []) ∷ []) (codes "@a")
    ≡ Ok (codes "h2" ∷ codes "h3" ∷ codes "h1" ∷ [])
unfolding members_of
first_seen_order = refl

-- two ways to one group are no cycle
two_ways : members_of
    ((codes "@a", codes "@b" ∷ codes "@c" ∷ []) ∷ (codes "@b", codes "@d" ∷ []) ∷ (codes "@c", codes "@d" ∷ codes "h9" ∷ []) ∷ (codes "@d", codes "h1" ∷ []) ∷ []) (codes "@a")
    ≡ Ok (codes "h1" ∷ codes "h9" ∷ [])
unfolding members_of
two_ways = refl

no_entries : members_of ((codes "@a", []) ∷ []) (codes "@a") ≡ Ok []
unfolding members_of
no_entries = refl

group_itself_is_missing : members_of [] (codes "@a") ≡ Err (NoSuch (codes "@a"))
unfolding members_of
group_itself_is_missing = refl

names_itself : members_of ((codes "@a", codes "h1" ∷ codes "@a" ∷ []) ∷ []) (codes "@a") ≡ Err (Cycle (codes "@a"))
unfolding members_of
names_itself = refl

-- a group is reached that reaches itself, and it isn't the one that is asked of
cycle_further_on : members_of ((codes "@a", codes "@b" ∷ []) ∷ (codes "@b", codes "@c" ∷ []) ∷ (codes "@c", codes "h1" ∷ codes "@b" ∷ codes "@c" ∷ []) ∷ []) (codes "@a")
    ≡ Err (Cycle (codes "@b"))
unfolding members_of
cycle_further_on = refl

-- the first that is met again, below one that is met again later
met_again_first : members_of ((codes "@a", codes "@b" ∷ []) ∷ (codes "@b", codes "@c" ∷ codes "@b" ∷ []) ∷ (codes "@c", codes "@c" ∷ []) ∷ []) (codes "@a")
    ≡ Err (Cycle (codes "@c"))
unfolding members_of
met_again_first = refl

-- loops, by one walk over all groups. A missing group hides none
loop_beside_missing : has_loop ((codes "@a", codes "@x" ∷ codes "@b" ∷ []) ∷ (codes "@b", codes "@b" ∷ []) ∷ []) ≡ true
unfolding has_loop
loop_beside_missing = refl

missing_alone : has_loop ((codes "@a", codes "@x" ∷ codes "@b" ∷ []) ∷ (codes "@b", codes "h1" ∷ []) ∷ []) ≡ false
unfolding has_loop
missing_alone = refl

-- two groups lead to a third, which was met by the first, and no way leads back
met_before : has_loop ((codes "@a", codes "@c" ∷ []) ∷ (codes "@b", codes "@c" ∷ codes "@a" ∷ []) ∷ (codes "@c", codes "h1" ∷ []) ∷ []) ≡ false
unfolding has_loop
met_before = refl

-- the first groups are sound, and the last two lead to one another
loop_of_the_last : has_loop ((codes "@a", codes "h1" ∷ []) ∷ (codes "@b", codes "@a" ∷ []) ∷ (codes "@c", codes "@a" ∷ codes "@d" ∷ []) ∷ (codes "@d", codes "@b" ∷ codes "@c" ∷ []) ∷ []) ≡ true
unfolding has_loop
loop_of_the_last = refl

-- a loop that an earlier group leads into is found from there
loop_further_on : has_loop ((codes "@a", codes "@b" ∷ []) ∷ (codes "@b", codes "@c" ∷ []) ∷ (codes "@c", codes "@b" ∷ []) ∷ []) ≡ true
unfolding has_loop
loop_further_on = refl

no_groups : has_loop [] ≡ false
unfolding has_loop
no_groups = refl

missing_before_cycle : members_of ((codes "@a", codes "@a" ∷ codes "@x" ∷ []) ∷ []) (codes "@a") ≡ Err (NoSuch (codes "@x"))
unfolding members_of
missing_before_cycle = refl

-- depth first: the group that is missing below the first entry comes before the second entry
first_missing : members_of ((codes "@a", codes "@b" ∷ codes "@y" ∷ []) ∷ (codes "@b", codes "h1" ∷ codes "@x" ∷ []) ∷ []) (codes "@a") ≡ Err (NoSuch (codes "@x"))
unfolding members_of
first_missing = refl

-- a way through all groups, and one step more
longest_way : members_of ((codes "@a", codes "@b" ∷ []) ∷ (codes "@b", codes "@c" ∷ []) ∷ (codes "@c", codes "@x" ∷ []) ∷ []) (codes "@a") ≡ Err (NoSuch (codes "@x"))
unfolding members_of
longest_way = refl

way_back : members_of ((codes "@a", codes "@b" ∷ []) ∷ (codes "@b", codes "@c" ∷ []) ∷ (codes "@c", codes "h1" ∷ codes "@a" ∷ []) ∷ []) (codes "@a") ≡ Err (Cycle (codes "@a"))
unfolding members_of
way_back = refl

-- a cluster with these groups: one is sound, one names a group that isn't there, one names itself
unfoldable grouped : Cluster
grouped = record opening_cluster {
  groups = (codes "@a", codes "h2" ∷ codes "h1" ∷ []) ∷ (codes "@b", codes "@a" ∷ codes "@x" ∷ []) ∷ (codes "@c", codes "h1" ∷ codes "@c" ∷ []) ∷ [];
}

faults_have_no_members : expanded grouped ≡ record { hosts = (codes "@a", codes "h2" ∷ codes "h1" ∷ []) ∷ (codes "@b", []) ∷ (codes "@c", []) ∷ [] }
unfolding grouped expanded members_of
faults_have_no_members = refl

missing_has_no_hosts : map (hosts_of (expanded grouped)) (codes "@a" ∷ codes "@x" ∷ []) ≡ (codes "h2" ∷ codes "h1" ∷ []) ∷ [] ∷ []
unfolding grouped expanded members_of
missing_has_no_hosts = refl

hosts_and_groups : hostlist_hosts (expanded grouped) (codes "h3" ∷ codes "@a" ∷ codes "@c" ∷ []) ≡ codes "h3" ∷ codes "h2" ∷ codes "h1" ∷ []
unfolding grouped expanded members_of
hosts_and_groups = refl

in_a_group_or_not : map (λ name. group_has (expanded grouped) name (codes "h1")) (codes "@a" ∷ codes "@c" ∷ codes "@x" ∷ []) ≡ true ∷ false ∷ false ∷ []
unfolding grouped expanded members_of
in_a_group_or_not = refl
