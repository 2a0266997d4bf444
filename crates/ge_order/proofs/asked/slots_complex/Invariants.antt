use Rattle.std.proofs.Common.{◌≡◌}
use Rattle.std.specs.Prelude.{codes}
use Rattle.std.specs.BTreeMap.{is_at}
use Rattle.std.specs.Map.{lookup}
use Rattle.ge_collections.specs.Keyed.{text_cmp}
use Rattle.ge_order.proofs.asked.slots_complex.Given as goal

abbrev pub invariant-loop-name : goal.invariant-loop-name
invariant-loop-name l = lookup (is_at (text_cmp (codes "slots"))) l.name-iterator ≡ lookup (is_at (text_cmp (codes "slots"))) l.c.complexes
