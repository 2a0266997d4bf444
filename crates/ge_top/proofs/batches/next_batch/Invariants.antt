-- The events so far, and those that are to come.
use Rattle.std.proofs.Common.{◌≡◌, ◌+◌, ◌-◌, ◌≤◌, length}
use Rattle.ge_script.specs.Pieces.{coming, given_count, total_count, IsOver}
use Rattle.ge_top.specs.NextEvents.{GivesSome}
use Rattle.ge_top.proofs.batches.next_batch.Given as goal

abbrev pub invariant-taking : goal.invariant-taking
invariant-taking g l = record {
  gives : GivesSome (coming l.fn.script (g.S.Source.rest l.fn.input)) (coming l.script (g.S.Source.rest l.input)) l.events;
  few : length l.events ≤ l.most;
  goes_on : given_count l.fn.script + length l.events ≤ given_count l.script;
  over : IsOver l.script (g.S.Source.rest l.input);
  total : total_count l.script (g.S.Source.rest l.input) ≡ total_count l.fn.script (g.S.Source.rest l.fn.input);
  later : g.S.Source.read_faults l.fn.input ≤ g.S.Source.read_faults l.input;
}

abbrev pub decreases-taking : goal.decreases-taking
decreases-taking g l = l.most - length l.events
