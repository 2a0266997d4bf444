use Rattle.std.proofs.Common.{◌≡◌, take}
use Rattle.ge_commands.specs.Lent.{texts}
use Rattle.ge_commands.proofs.wording.owned.Given as goal

abbrev pub invariant-loop-word : goal.invariant-loop-word
invariant-loop-word l = l.copy.items ≡ texts (take l.word-index l.lent)
