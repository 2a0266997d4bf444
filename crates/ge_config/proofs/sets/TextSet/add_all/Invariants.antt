use Rattle.std.proofs.Common.{◌≡◌, drop, map}
use Rattle.std.specs.Prelude.{fold}
use Rattle.ge_model_rows.specs.Pieces.{with_text}
use Rattle.ge_config.proofs.sets.TextSet.add_all.Given as goal

abbrev pub invariant-loop-text : goal.invariant-loop-text
invariant-loop-text l = fold with_text l.self (map (λ text. text.now) (drop l.text-index l.texts)) ≡ fold with_text l.fn.self (map (λ text. text.now) l.texts)
