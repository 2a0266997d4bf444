use Rattle.std.proofs.Common.{◌≡◌, [], take, map}
use Rattle.std.specs.Prelude.{fold}
use Rattle.ge_model_config.specs.Requests.{with_asked}
use Rattle.ge_request.specs.Asked.{Holds}
use Rattle.ge_request.proofs.asking.add_items.Given as goal

abbrev pub invariant-loop-item : goal.invariant-loop-item
invariant-loop-item l = record {
  same : l.finder ≡ l.c;
  filled : Holds l.asked l.fn.faults l.faults (fold (with_asked l.c) (l.fn.asked, []) (map (λ item. item.now) (take l.item-index l.items)));
}
