-- Worked rows of queues, levels and access, each by computation.
use Rattle.std.specs.Prelude.{◌≡◌, ℕ, ◌^◌, ◌-◌, List, [], ◌∷◌, map, Option, Some, None, true, false, codes, refl}
use Rattle.ge_model_rows.specs.ClusterRows.{Cluster, opening_cluster, default_queue, bare_host}
use Rattle.ge_model_rows.specs.ClusterRows.{plain_attr}
use Rattle.ge_model_rows.specs.HostRows.{Groups, InstanceId}
use Rattle.ge_model_rows.specs.QueueRows.{QueueRow}
use Rattle.ge_model_rows.specs.ValueRows.{Value, Amount, Word}
use Rattle.ge_model_rows.specs.Groups.{expanded, members_of}
use Rattle.ge_model_rows.specs.Queues.{attr_at, slots_at, limit_at, instances_of, resolved}
use Rattle.ge_model_rows.specs.Access.{is_manager, is_operator, in_user_set, may_use}

abbrev instance : List ℕ → List ℕ → InstanceId
instance queue host = record { queue = queue; host = host }

-- attributes at a host

-- h1 and h2 are in both groups
unfoldable both : Groups
both = record { hosts = (codes "@a", codes "h1" ∷ codes "h2" ∷ []) ∷ (codes "@b", codes "h1" ∷ codes "h2" ∷ codes "h4" ∷ []) ∷ [] }

-- slots 1,[@a=2],[@b=3],[h1=4],[h1=5]
unfoldable sliced : QueueRow
sliced = record default_queue {
  slots = record { plain = 1; overrides = (codes "@a", 2) ∷ (codes "@b", 3) ∷ (codes "h1", 4) ∷ (codes "h1", 5) ∷ [] };
}

host_before_group_before_plain : map (slots_at sliced both) (codes "h1" ∷ codes "h2" ∷ codes "h4" ∷ codes "h3" ∷ []) ≡ 4 ∷ 2 ∷ 3 ∷ 1 ∷ []
unfolding sliced both
host_before_group_before_plain = refl

missing_group_overrides_nothing : attr_at {T = ℕ} (record { plain = 1; overrides = (codes "@x", 2) ∷ [] }) both (codes "h1") ≡ 1
unfolding both
missing_group_overrides_nothing = refl

no_limit_and_no_such_limit : map (limit_at default_queue both (codes "h1")) (codes "h_rt" ∷ codes "slots" ∷ []) ≡ Some (2 ^ 48 - 1) ∷ None ∷ []
unfolding default_queue both
no_limit_and_no_such_limit = refl

-- a site: two queues, two hosts with a row, `global`, and a group

-- b.q of @g and hosts: seq_no, complex_values ver=5,[h2=ver=6], h_rt 60
unfoldable second : QueueRow
second = record default_queue {
  hosts = codes "h2" ∷ codes "@g" ∷ codes "h1" ∷ codes "h9" ∷ [];
  values = record { plain = (codes "ver", Amount 5) ∷ []; overrides = (codes "h2", (codes "ver", Amount 6) ∷ []) ∷ [] };
  limits = (codes "h_rt", plain_attr 60) ∷ [];
}

unfoldable first : QueueRow
first = record default_queue { hosts = codes "@x" ∷ codes "h3" ∷ codes "@g" ∷ [] }

unfoldable site : Cluster
site = record opening_cluster {
  hosts = (codes "global", record { values = (codes "lic", Amount 3) ∷ []; load = (codes "arch", Word (codes "any")) ∷ (codes "lic", Amount 9) ∷ [] })
      ∷ (codes "h1", record { values = (codes "arch", Word (codes "lx")) ∷ (codes "ver", Amount 1) ∷ []; load = (codes "arch", Word (codes "sol")) ∷ (codes "np_load_avg", Amount 500000) ∷ (codes "h_rt", Amount 7) ∷ [] })
      ∷ (codes "h2", bare_host) ∷ [];
  groups = (codes "@g", codes "h2" ∷ codes "h10" ∷ codes "h1" ∷ []) ∷ [];
  queues = (codes "a.q", first) ∷ (codes "b.q", second) ∷ [];
  managers = codes "root" ∷ [];
  operators = codes "op" ∷ [];
  sets = (codes "devs", codes "ann" ∷ codes "@staff" ∷ []) ∷ (codes "lab", codes "@lab" ∷ []) ∷ (codes "nobody", []) ∷ [];
}

-- by queue, then host in the order of bytes, each host once, also hosts without a row; a group that isn't there has none
instances_in_order : instances_of site (expanded site)
    ≡ instance (codes "a.q") (codes "h1") ∷ instance (codes "a.q") (codes "h10") ∷ instance (codes "a.q") (codes "h2") ∷ instance (codes "a.q") (codes "h3")
    ∷ instance (codes "b.q") (codes "h1") ∷ instance (codes "b.q") (codes "h10") ∷ instance (codes "b.q") (codes "h2") ∷ instance (codes "b.q") (codes "h9") ∷ []
unfolding instances_of expanded members_of site first second default_queue
instances_in_order = refl

-- levels

resolved_at : List ℕ → List ℕ → List (List ℕ) → List (Option Value)
resolved_at queue host names = map (resolved site (expanded site) (instance queue host)) names

-- complex_values before limits, these before the names of the instance, and these before the host
at_the_instance : resolved_at (codes "b.q") (codes "h1") (codes "ver" ∷ codes "h_rt" ∷ codes "qname" ∷ codes "hostname" ∷ [])
    ≡ Some (Amount 5) ∷ Some (Amount 60) ∷ Some (Word (codes "b.q")) ∷ Some (Word (codes "h1")) ∷ []
unfolding resolved_at resolved expanded members_of site first second default_queue
at_the_instance = refl

overridden_at_the_instance : resolved_at (codes "b.q") (codes "h2") (codes "ver" ∷ []) ≡ Some (Amount 6) ∷ []
unfolding resolved_at resolved expanded members_of site first second default_queue
overridden_at_the_instance = refl

-- a host's complex_values before its report
at_the_host : resolved_at (codes "a.q") (codes "h1") (codes "ver" ∷ codes "arch" ∷ codes "np_load_avg" ∷ []) ≡ Some (Amount 1) ∷ Some (Word (codes "lx")) ∷ Some (Amount 500000) ∷ []
unfolding resolved_at resolved expanded members_of site first second default_queue
at_the_host = refl

-- `global` last: its complex_values, then its report; a name at no level has no value
at_global : resolved_at (codes "a.q") (codes "h2") (codes "lic" ∷ codes "arch" ∷ codes "ver" ∷ []) ≡ Some (Amount 3) ∷ Some (Word (codes "any")) ∷ None ∷ []
unfolding resolved_at resolved expanded members_of site first second default_queue
at_global = refl

-- a queue that isn't there leaves the host and `global`
without_a_queue : resolved_at (codes "c.q") (codes "h1") (codes "qname" ∷ codes "arch" ∷ codes "h_rt" ∷ []) ≡ None ∷ Some (Word (codes "lx")) ∷ Some (Amount 7) ∷ []
unfolding resolved_at resolved expanded members_of site first second default_queue
without_a_queue = refl

without_a_host : resolved_at (codes "a.q") (codes "h3") (codes "hostname" ∷ codes "lic" ∷ codes "np_load_avg" ∷ []) ≡ Some (Word (codes "h3")) ∷ Some (Amount 3) ∷ None ∷ []
unfolding resolved_at resolved expanded members_of site first second default_queue
without_a_host = refl

-- access

managers_alone : map (is_manager site) (codes "root" ∷ codes "op" ∷ codes "ann" ∷ []) ≡ true ∷ false ∷ false ∷ []
unfolding site
managers_alone = refl

managers_too : map (is_operator site) (codes "root" ∷ codes "op" ∷ codes "ann" ∷ []) ≡ true ∷ true ∷ false ∷ []
unfolding site
managers_too = refl

by_name_or_by_group : map (λ user. in_user_set site (codes "devs") user (codes "lab")) (codes "ann" ∷ codes "bob" ∷ codes "staff" ∷ []) ≡ true ∷ false ∷ false ∷ []
unfolding site
by_name_or_by_group = refl

by_group : map (λ set. in_user_set site set (codes "bob") (codes "staff")) (codes "devs" ∷ codes "lab" ∷ codes "nosuch" ∷ []) ≡ true ∷ false ∷ false ∷ []
unfolding site
by_group = refl

no_lists_admit_all : may_use site [] [] (codes "bob") (codes "users") ≡ true
unfolding site
no_lists_admit_all = refl

one_of_the_lists : may_use site (codes "lab" ∷ codes "devs" ∷ []) [] (codes "bob") (codes "staff") ≡ true
unfolding site
one_of_the_lists = refl

empty_sets_admit_nobody : may_use site (codes "nobody" ∷ codes "nosuch" ∷ []) [] (codes "ann") (codes "staff") ≡ false
unfolding site
empty_sets_admit_nobody = refl

excluded_lists_win : may_use site (codes "devs" ∷ []) (codes "lab" ∷ []) (codes "ann") (codes "lab") ≡ false
unfolding site
excluded_lists_win = refl
