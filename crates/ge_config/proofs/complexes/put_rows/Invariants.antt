use Rattle.std.proofs.Common.{◌≡◌, drop}
use Rattle.std.specs.Prelude.{fold}
use Rattle.ge_model_config.specs.Complexes.{put_complex}
use Rattle.ge_config.proofs.complexes.put_rows.Given as goal

abbrev pub invariant-loop-line : goal.invariant-loop-line
invariant-loop-line l = fold (put_complex l.c) l.table (drop l.line-index l.lines) ≡ fold (put_complex l.c) l.fn.table l.lines
