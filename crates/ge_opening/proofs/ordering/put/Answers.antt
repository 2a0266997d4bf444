use Rattle.std.proofs.Common.{ap, ◌∙◌}
use Rattle.ge_opening.specs.Ranked.{all_ranked}
use Rattle.ge_opening.proofs.Ordered.{ranked_more}
use Rattle.ge_opening.proofs.ordering.put.Goals as goal

pub returns : goal.returns
returns c = ap all_ranked c.in_ok-insert.ensures.keys ∙ ranked_more c.args.ranks.now.keys c.args.rank
