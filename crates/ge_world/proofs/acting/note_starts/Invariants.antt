use Rattle.std.proofs.Common.{◌≡◌, ◌++◌, drop}
use Rattle.ge_model_world.specs.Worlds.{starts_at}
use Rattle.ge_world.proofs.acting.note_starts.Given as goal

-- those so far, and those of the serials that are left
abbrev pub invariant-loop-serial : goal.invariant-loop-serial
invariant-loop-serial l = l.started ++ starts_at l.place (drop l.serial-index l.serials) ≡ l.fn.started ++ starts_at l.place l.serials
