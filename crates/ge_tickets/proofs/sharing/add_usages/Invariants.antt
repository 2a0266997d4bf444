use Rattle.std.proofs.Common.{◌≡◌, true, [], fold}
use Rattle.ge_model_order.specs.ShareTables.{raised_along}
use Rattle.ge_tickets.specs.Found.{line_by}
use Rattle.ge_tickets.specs.Listed.{with_usage_by}
use Rattle.ge_tickets.proofs.sharing.add_usages.Given as goal

abbrev pub invariant-loop-key : goal.invariant-loop-key
invariant-loop-key l = record {
  own : l.begun ≡ true → l.line ≡ line_by l.finder l.user l.project;
  summed : fold (with_usage_by l.now_epoch l.finder) (raised_along l.usage l.line l.sum) l.key-iterator ≡ fold (with_usage_by l.now_epoch l.finder) [] l.c.usage;
}
