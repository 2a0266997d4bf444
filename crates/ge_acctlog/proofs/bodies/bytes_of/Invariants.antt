-- The lines up to one are put.
use Rattle.std.proofs.Common.{◌≡◌, ◌≤◌, length, take, flat_map}
use Rattle.std.specs.Prelude.{IsTrue}
use Rattle.std.specs.List.{list_all}
use Rattle.ge_model_log.specs.Lines.{line_bytes, line_fits}
use Rattle.ge_acctlog.proofs.bodies.bytes_of.Given as goal

abbrev pub invariant-loop-line : goal.invariant-loop-line
invariant-loop-line l = record {
  body : l.body ≡ flat_map line_bytes (take l.line-index l.lines);
  fits : IsTrue (list_all line_fits (take l.line-index l.lines));
  long : l.line-index ≤ length l.body;
}
