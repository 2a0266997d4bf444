use Rattle.std.proofs.Common.{◌≡◌, ◌++◌, take, map}
use Rattle.ge_model_config.specs.Queues.{limit_line}
use Rattle.ge_printing.proofs.queues.put_limits.Given as goal

abbrev pub invariant-loop-name : goal.invariant-loop-name
invariant-loop-name l = l.lines ≡ l.fn.lines ++ map (limit_line l.limits) (map (λ name. name.now) (take l.name-index l.names))
