use Rattle.std.proofs.Common.{◌≡◌, ap, ◌∙◌, List, ℕ}
use Rattle.std.specs.Option.{option_map}
use Rattle.std.specs.Map.Iter.{deref_pair}
use Rattle.ge_complex.specs.ByShortcut.{lent_at}
use Rattle.ge_complex.proofs.Lent.{lent_found}
use Rattle.ge_complex.proofs.finding.row_with.Goals as goal

pub returns : goal.returns
returns c = ap (option_map deref_pair) (c.copied.ensures ∙ c.get.ensures.value) ∙ lent_found c.args.shortcuts.now.entries c.bytes.result.now ∙ ap (lent_at c.args.shortcuts.now.entries) c.bytes.ensures
