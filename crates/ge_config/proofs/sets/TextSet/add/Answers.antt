use Rattle.std.proofs.Common.{◌∙◌, ap, not}
use Rattle.ge_model_rows.specs.Pieces.{is_one_of}
use Rattle.ge_site.proofs.Kept.{among_lent, added_lent}
use Rattle.ge_config.proofs.sets.TextSet.add.Goals as goal

pub returns-clause-set : goal.returns-clause-set
returns-clause-set c = added_lent c.self.inside.texts.keys c.insert.new.self.keys c.args.text c.args.self.now c.self.view_is c.in_ok-added.ensures.keys

pub returns-clause-new : goal.returns-clause-new
returns-clause-new c =
    c.in_ok-added.ensures.added ∙ ap not (among_lent c.args.text.now c.self.inside.texts.keys ∙ ap (is_one_of c.args.text.now) c.self.view_is)
