use Rattle.std.proofs.Common.{◌∙◌, ap}
use Rattle.ge_model_rows.specs.Pieces.{is_one_of}
use Rattle.ge_site.specs.Walks.{names_on}
use Rattle.ge_site.proofs.Ways.{on_way}
use Rattle.ge_site.proofs.way.Way.has.Goals as goal

pub returns : goal.returns
returns c = c.contains_key.ensures ∙ on_way c.args.name.now c.self.inside.groups.entries ∙ ap (λ w. is_one_of c.args.name.now (names_on w)) c.self.view_is
