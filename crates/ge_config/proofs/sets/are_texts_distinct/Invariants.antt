use Rattle.std.proofs.Common.{◌≡◌, drop, map}
use Rattle.ge_collections.specs.Keyed.{text_eq}
use Rattle.ge_model_config.specs.Complexes.{are_distinct}
use Rattle.ge_config.proofs.Distinct.{are_new}
use Rattle.ge_config.proofs.sets.are_texts_distinct.Given as goal

abbrev pub invariant-loop-text : goal.invariant-loop-text
invariant-loop-text l = are_new text_eq l.seen (map (λ text. text.now) (drop l.text-index l.texts)) ≡ are_distinct (map (λ text. text.now) l.texts)
