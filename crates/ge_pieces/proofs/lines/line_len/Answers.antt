use Rattle.std.proofs.Common.{ap, ◌∙◌, ◌+◌, ℕ, length, min}
use Rattle.ge_model_grammar.proofs.FirstLine.{lines_of-first}
use Rattle.ge_pieces.proofs.lines.line_len.Goals as goal

pub returns-clause-first : goal.returns-clause-first
returns-clause-first c =
    lines_of-first _ _ c.requires (c.min.ensures ∙ ap (λ (n : ℕ). min (n + 1) (length c.args.bytes.now)) c.place_or_end.ensures.place)
