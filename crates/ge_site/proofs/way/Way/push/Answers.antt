use Rattle.ge_site.proofs.Ways.{put_on_way}
use Rattle.ge_site.proofs.way.Way.push.Goals as goal

pub returns : goal.returns
returns c = put_on_way c.self.inside.groups c.insert.new.self.entries c.args.name c.args.behind c.args.self.now c.self.view_is c.requires c.in_ok-insert.ensures.entries
