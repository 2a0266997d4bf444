use Rattle.std.proofs.Common.{◌≡◌, take}
use Rattle.std.specs.Prelude.{flat_map}
use Rattle.ge_model_config.specs.Shares.{line_faults}
use Rattle.ge_model_rows.specs.Faults.{after_faults}
use Rattle.ge_config.proofs.share_lines.note_lines.Given as goal

abbrev pub invariant-loop-node : goal.invariant-loop-node
invariant-loop-node l = l.faults ≡ after_faults l.fn.faults (flat_map (line_faults l.c) (take l.node-index l.nodes))
