use Rattle.std.proofs.Common.{◌≡◌, map, take}
use Rattle.ge_model_rows.specs.SetText.{span_text}
use Rattle.ge_ranges.proofs.spelling.spell_spans.Given as goal

abbrev pub invariant-loop-span : goal.invariant-loop-span
invariant-loop-span l = l.texts ≡ map span_text (take l.span-index l.spans)
