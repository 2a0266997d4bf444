use Rattle.std.proofs.Common.{◌∙◌, ap}
use Rattle.ge_model_rows.specs.Pieces.{is_one_of}
use Rattle.ge_site.proofs.Kept.{among_lent}
use Rattle.ge_config.proofs.sets.TextSet.has.Goals as goal

pub returns : goal.returns
returns c = c.contains.ensures ∙ among_lent c.args.text.now c.self.inside.texts.keys ∙ ap (is_one_of c.args.text.now) c.self.view_is
