-- What was filled so far came from the front of the source.
use Rattle.std.proofs.Common.{◌≡◌, ◌≤◌, ◌-◌, [], take, length}
use Rattle.ge_model_grammar.specs.Sources.{Moved}
use Rattle.ge_wire.proofs.filling.fill.Given as goal

abbrev pub invariant-filling : goal.invariant-filling
invariant-filling g l = record {
  moved : Moved (g.S.Source.rest l.fn.s) (g.S.Source.rest l.s) [] (take l.done l.buf);
  bound : l.done ≤ l.want;
  long : length l.buf ≡ length l.fn.buf;
  later : g.S.Source.read_faults l.fn.s ≤ g.S.Source.read_faults l.s;
  write_side : g.S.Source.write_side l.s ≡ g.S.Source.write_side l.fn.s;
}

abbrev pub decreases-filling : goal.decreases-filling
decreases-filling g l = l.want - l.done
