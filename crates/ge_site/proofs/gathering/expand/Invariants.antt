use Rattle.std.proofs.Common.{◌≡◌, map, ◌++◌}
use Rattle.std.specs.Map.{keys_of}
use Rattle.ge_model_rows.specs.Groups.{members_of, members_or_none}
use Rattle.ge_site.proofs.gathering.expand.Given as goal

abbrev pub invariant-loop-name : goal.invariant-loop-name
invariant-loop-name l =
    l.hosts ++ map (λ name. (name, members_or_none (members_of l.cluster.groups name))) l.name-iterator ≡ map (λ name. (name, members_or_none (members_of l.cluster.groups name))) (keys_of l.cluster.groups)
