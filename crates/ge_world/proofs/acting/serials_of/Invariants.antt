use Rattle.std.proofs.Common.{◌≡◌, ◌++◌, map, drop}
use Rattle.ge_model_world.specs.Worlds.{order_serial}
use Rattle.ge_world.proofs.acting.serials_of.Given as goal

-- those so far, and those of the orders that are left
abbrev pub invariant-loop-order : goal.invariant-loop-order
invariant-loop-order l = l.serials ++ map order_serial (drop l.order-index l.orders) ≡ map order_serial l.orders
