use Rattle.std.proofs.Common.{◌≡◌, map, take}
use Rattle.ge_model_grammar.specs.Options.{name_byte}
use Rattle.ge_commands.proofs.naming.with_name_bytes.Given as goal

abbrev pub invariant-loop-b : goal.invariant-loop-b
invariant-loop-b l = l.name ≡ map name_byte (take l.b-index l.text)
