use Rattle.std.proofs.Common.{◌≡◌, find}
use Rattle.ge_collections.specs.Keyed.{text_eq}
use Rattle.ge_complex.proofs.lookups.with_shortcut.Given as goal

abbrev pub invariant-loop-name : goal.invariant-loop-name
invariant-loop-name l = find (λ row. text_eq row.1.shortcut l.word) l.name-iterator ≡ find (λ row. text_eq row.1.shortcut l.word) l.c.complexes
