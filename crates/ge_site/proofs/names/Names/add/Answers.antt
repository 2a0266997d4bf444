use Rattle.ge_site.proofs.Kept.{added_lent}
use Rattle.ge_site.proofs.names.Names.add.Goals as goal

pub returns : goal.returns
returns c = added_lent c.self.inside.texts.keys c.insert.new.self.keys c.args.text c.args.self.now c.self.view_is c.in_ok-insert.ensures.keys
