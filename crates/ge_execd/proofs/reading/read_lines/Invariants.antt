use Rattle.std.proofs.Common.{◌≡◌, drop}
use Rattle.ge_execd.specs.Orders.{orders_from}
use Rattle.ge_execd.proofs.Turns.{onto_all}
use Rattle.ge_execd.proofs.reading.read_lines.Given as goal

-- the orders so far, before those of the lines that are left, are those of all lines
abbrev pub invariant-loop-line : goal.invariant-loop-line
invariant-loop-line l = record {
  place : l.place ≡ l.line-index;
  read : onto_all l.orders (orders_from l.last l.line-index (drop l.line-index l.lines)) ≡ orders_from 0 0 l.lines;
}
