use Rattle.std.proofs.Common.{◌≡◌}
use Rattle.std.specs.List.{list_any}
use Rattle.ge_order.specs.Standings.{adds_beside}
use Rattle.ge_order.proofs.asked.others_add.Given as goal

abbrev pub invariant-loop-name : goal.invariant-loop-name
invariant-loop-name l = list_any adds_beside l.name-iterator ≡ list_any adds_beside l.c.complexes
