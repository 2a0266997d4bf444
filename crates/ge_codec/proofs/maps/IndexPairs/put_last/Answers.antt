use Rattle.std.proofs.Common.{◌∙◌}
use Rattle.ge_codec.specs.Rising.{insert_entry-next}
use Rattle.ge_codec.proofs.maps.IndexPairs.put_last.Goals as goal

pub returns : goal.returns
returns g c = c.in_ok-insert.ensures.ok ∙ insert_entry-next g.met.K.Ord.total c.args.self.now c.args.key c.args.value c.len-count.ensures.rising c.requires
