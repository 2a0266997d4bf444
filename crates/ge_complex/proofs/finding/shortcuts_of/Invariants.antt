use Rattle.std.proofs.Common.{◌≡◌, List, ℕ}
use Rattle.ge_complex.specs.ByShortcut.{lent_at, first_with, first_else}
use Rattle.ge_complex.proofs.finding.shortcuts_of.Given as goal

abbrev pub invariant-loop-name : goal.invariant-loop-name
invariant-loop-name l = (word : List ℕ) → first_else l.name-iterator.iter word (lent_at l.shortcuts.entries word) ≡ first_with l.rows word
