use Rattle.std.proofs.Common.{◌≡◌, ◌-◌, take, fold}
use Rattle.ge_tickets.specs.Nodes.{lined}
use Rattle.ge_tickets.proofs.walking.+enter.Given as goal

abbrev pub decreases-enter : goal.decreases-enter
decreases-enter l = l.levels

abbrev pub invariant-loop-child : goal.invariant-loop-child
invariant-loop-child l = l.walk ≡ fold (lined (l.levels - 1) l.rows l.line l.below) l.initial.walk (take l.child-index l.children)
