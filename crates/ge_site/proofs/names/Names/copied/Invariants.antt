use Rattle.std.proofs.Common.{◌≡◌, take, map}
use Rattle.ge_site.proofs.names.Names.copied.Given as goal

abbrev pub invariant-loop-text : goal.invariant-loop-text
invariant-loop-text l = l.copies ≡ map (λ text. text.now) (take l.text-index l.text-items)
