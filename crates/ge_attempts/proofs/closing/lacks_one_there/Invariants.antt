use Rattle.std.proofs.Common.{◌≡◌, not, drop}
use Rattle.std.specs.List.{list_any}
use Rattle.ge_model_place.specs.Opening.{is_configured}
use Rattle.ge_attempts.proofs.closing.lacks_one_there.Given as goal

abbrev pub invariant-loop-name : goal.invariant-loop-name
invariant-loop-name l =
    list_any (λ name. not (is_configured l.at.cluster.now l.at.groups.now l.instance l.queue name)) (drop l.name-index l.names)
    ≡ list_any (λ name. not (is_configured l.at.cluster.now l.at.groups.now l.instance l.queue name)) l.names
