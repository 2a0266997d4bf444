use Rattle.std.proofs.Common.{◌≡◌, ◌++◌, map, drop}
use Rattle.ge_model_world.specs.Worlds.{finish_by, gone}
use Rattle.ge_world.proofs.entering.note_finished.Given as goal

-- those so far, and those of the serials that are left
abbrev pub invariant-loop-serial : goal.invariant-loop-serial
invariant-loop-serial l = l.finished ++ map (finish_by l.is_end l.place) (gone (drop l.serial-index l.before) l.after) ≡ l.fn.finished ++ map (finish_by l.is_end l.place) (gone l.before l.after)
