use Rattle.std.proofs.Common.{◌≡◌, ◌++◌, drop}
use Rattle.ge_config.proofs.share_tree.push_all.Given as goal

abbrev pub invariant-loop-id : goal.invariant-loop-id
invariant-loop-id l = l.ids.items ++ drop l.id-index l.more ≡ l.fn.ids.items ++ l.more
