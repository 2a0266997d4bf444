-- What a spawner in memory tells.
use Rattle.std.specs.Prelude.{ℕ, ◌==◌, List, map, Option, Some, if◌then◌else◌, [], ◌∷◌}
use Rattle.ge_spawner.specs.Spawning.{Begun, Ended, Told, vanished}
use Rattle.ge_spawner.specs.declared.memory.Program.{Program}
use Rattle.ge_spawner.specs.declared.memory.MemSpawner.{MemSpawner}

abbrev pub begun : Program → Begun
begun p = record { id = p.id; words = p.words }

abbrev pub ended : Program → Ended
ended p = record { id = p.id; exit = p.exit }

abbrev pub spawner_told : MemSpawner → Told
spawner_told s = record { starts = map begun s.programs.items; kills = s.kills.items; ends = map ended s.programs.items }

abbrev pub spawner_faults : MemSpawner → ℕ
spawner_faults s = s.faults

-- how the first of these programs that has a number ended; where none has it, that none was begun
abbrev pub exit_among : List Program → ℕ → Option ℕ
exit_among [] id = Some vanished
exit_among (p ∷ programs) id = if p.id == id then Some p.exit else exit_among programs id
