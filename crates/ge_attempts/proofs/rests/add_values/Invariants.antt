use Rattle.std.proofs.Common.{◌≡◌, ◌++◌, map, filter}
use Rattle.ge_model_place.specs.Limits.{consumables}
use Rattle.ge_model_rows.specs.ScheduleRows.{Host}
use Rattle.ge_model_rows.specs.Complexes.{is_consumable}
use Rattle.ge_attempts.specs.Amounts.{number_in}
use Rattle.ge_attempts.specs.Rests.{rest_of}
use Rattle.ge_attempts.proofs.rests.add_values.Given as goal

abbrev pub invariant-loop-name : goal.invariant-loop-name
invariant-loop-name l =
    l.rests ++ map (λ name. rest_of l.at.cluster.now l.at.groups.now l.at.moment l.booked (Host l.host name) (number_in l.amounts name)) (filter (is_consumable l.at.cluster.now) l.name-iterator)
    ≡ l.fn.rests ++ map (λ name. rest_of l.at.cluster.now l.at.groups.now l.at.moment l.booked (Host l.host name) (number_in l.amounts name)) (consumables l.at.cluster.now l.row.values)
