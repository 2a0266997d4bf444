use Rattle.std.proofs.Common.{◌≡◌, take, map}
use Rattle.ge_config.proofs.complexes.names_of_rows.Given as goal

abbrev pub invariant-loop-line : goal.invariant-loop-line
invariant-loop-line l = map (λ name. name.now) l.names.items ≡ map (λ line. line.name) (take l.line-index l.lines)
