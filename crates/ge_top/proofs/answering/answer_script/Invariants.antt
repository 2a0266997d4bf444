-- What was read is answered.
use Rattle.std.proofs.Common.{◌≡◌, ◌-◌, ◌≤◌, ◌^◌, length}
use Rattle.std.specs.Prelude.{option_map}
use Rattle.ge_script.specs.Pieces.{given_count, total_count, coming, IsOver}
use Rattle.ge_top.specs.Holding.{with_held, HasGained}
use Rattle.ge_top.proofs.SoFar.{SoFar}
use Rattle.ge_top.proofs.answering.answer_script.Given as goal

abbrev pub invariant-events : goal.invariant-events
invariant-events g l = record {
  so_far : SoFar (g.S.Source.rest l.fn.input) (coming l.script (g.S.Source.rest l.input)) (g.K.Sink.written l.fn.output) (with_held (g.K.Sink.written l.output) l.held.items) l.cluster;
  gained : HasGained (g.K.Sink.written l.fn.output) (g.K.Sink.written l.output);
  over : IsOver l.script (g.S.Source.rest l.input);
  total : total_count l.script (g.S.Source.rest l.input) ≡ option_map length (g.S.Source.rest l.fn.input);
  read_later : g.S.Source.read_faults l.fn.input ≤ g.S.Source.read_faults l.input;
  later : g.K.Sink.write_faults l.fn.output ≤ g.K.Sink.write_faults l.output;
}

abbrev pub decreases-events : goal.decreases-events
decreases-events g l = 2 ^ 40 - given_count l.script
