-- What came so far stands behind what stood before.
use Rattle.std.proofs.Common.{◌≡◌, ◌<◌, ◌≤◌, ◌-◌, take, vec_len}
use Rattle.ge_model_grammar.specs.Sources.{Moved}
use Rattle.ge_wire.proofs.filling.read_up_to.Given as goal

abbrev pub invariant-taking : goal.invariant-taking
invariant-taking g l = record {
  moved : Moved (g.S.Source.rest l.fn.s) (g.S.Source.rest l.s) l.fn.bytes.items l.bytes.items;
  kept : take (vec_len l.fn.bytes) l.bytes.items ≡ l.fn.bytes.items;
  longer : vec_len l.fn.bytes ≤ vec_len l.bytes;
  bound : vec_len l.bytes ≤ l.limit;
  room : vec_len l.bytes < l.limit → 0 < vec_len l.chunk;
  later : g.S.Source.read_faults l.fn.s ≤ g.S.Source.read_faults l.s;
  write_side : g.S.Source.write_side l.s ≡ g.S.Source.write_side l.fn.s;
}

abbrev pub decreases-taking : goal.decreases-taking
decreases-taking g l = l.limit - vec_len l.bytes
