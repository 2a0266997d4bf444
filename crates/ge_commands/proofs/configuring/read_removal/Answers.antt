use Rattle.std.proofs.Common.{◌≤◌, length, arith}
use Rattle.std.proofs.lemmas.Grind.{common_steps}
use Rattle.ge_commands.proofs.Removal.{removes_named}
use Rattle.ge_commands.proofs.configuring.read_removal.Goals as goal

pub returns-else-is_empty : goal.returns-else-is_empty
returns-else-is_empty c =
    let some : 1 ≤ length c.args.words.now = grind (arith, common_steps, c.if-is_empty.false, c.if-is_empty.ensures, c.is_empty.ensures) in
    removes_named c.args.word.now c.args.words.now c.removed_kind.result c.read_with_name.result some c.removed_kind.ensures c.read_with_name.ensures
