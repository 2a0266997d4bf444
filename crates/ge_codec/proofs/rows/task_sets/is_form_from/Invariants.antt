-- What is left is tested as all was.
use Rattle.std.proofs.Common.{◌≡◌, drop}
use Rattle.ge_model_rows.specs.TaskRows.{is_form_from}
use Rattle.ge_codec.proofs.rows.task_sets.is_form_from.Given as goal

abbrev pub invariant-loop-next : goal.invariant-loop-next
invariant-loop-next l = is_form_from l.last (drop l.next-index l.rest) ≡ is_form_from l.span l.rest
