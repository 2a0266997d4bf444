use Rattle.std.proofs.Common.{[], ◌-◌, ◌^◌, ◌≤◌, ◌<◌, vec_len}
use Rattle.ge_model_grammar.specs.Sources.{Moved}
use Rattle.ge_script.proofs.input.read_script.Given as goal

-- what was read, and what is left, are the script
abbrev pub invariant-reading : goal.invariant-reading
invariant-reading g l = record {
  moved : Moved (g.S.Source.rest l.fn.input) (g.S.Source.rest l.input) [] l.bytes.items;
  later : g.S.Source.read_faults l.fn.input ≤ g.S.Source.read_faults l.input;
  room : 0 < vec_len l.chunk;
}

abbrev pub decreases-reading : goal.decreases-reading
decreases-reading g l = 2 ^ 40 - vec_len l.bytes
