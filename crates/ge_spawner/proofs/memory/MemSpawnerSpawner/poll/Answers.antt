use Rattle.ge_spawner.proofs.Known.{asked}
use Rattle.ge_spawner.proofs.memory.MemSpawnerSpawner.poll.Goals as goal

pub returns-clause-polled : goal.returns-clause-polled
returns-clause-polled c =
    asked c.args.self.now.programs.items c.args.self.now.kills.items c.args.id _ (rw c.as_slice.ensures.value at c.exit_among.ensures)
