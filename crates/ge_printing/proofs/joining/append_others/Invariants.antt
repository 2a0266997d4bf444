use Rattle.std.proofs.Common.{◌≡◌, ◌++◌, take, map}
use Rattle.std.specs.Prelude.{flat_map}
use Rattle.ge_printing.proofs.joining.append_others.Given as goal

abbrev pub invariant-loop-word : goal.invariant-loop-word
invariant-loop-word l = l.line ≡ l.fn.line ++ flat_map (λ next. l.between ++ next) (map (λ word. word.now) (take l.word-index l.words))
