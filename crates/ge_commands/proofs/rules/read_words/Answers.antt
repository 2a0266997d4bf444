use Rattle.std.proofs.Common.{ℕ, List, ap, sym, ◌∙◌}
use Rattle.std.specs.Prelude.{codes}
use Rattle.ge_collections.specs.Keyed.{text_eq}
use Rattle.ge_commands.proofs.RuleWords.{nameless}
use Rattle.ge_commands.proofs.rules.read_words.Goals as goal

pub returns-else-is_word : goal.returns-else-is_word
returns-else-is_word c =
    rw (nameless c.args.words.now c.word-item.result c.in-len2-up.len_at_least c.word-item.is
    (sym (c.is_word.ensures ∙ ap (λ (t : List ℕ). text_eq t (codes "name")) c.bytes.ensures) ∙ c.if-is_word.false)) c.read_named-else-is_word.ensures
