-- None of the programs so far has the number.
use Rattle.std.proofs.Common.{◌≡◌, drop}
use Rattle.ge_spawner.specs.Memory.{exit_among}
use Rattle.ge_spawner.proofs.memory.exit_among.Given as goal

abbrev pub invariant-loop-program : goal.invariant-loop-program
invariant-loop-program l = exit_among (drop l.program-index l.programs) l.id ≡ exit_among l.fn.programs l.fn.id
