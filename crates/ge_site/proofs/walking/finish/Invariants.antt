use Rattle.std.proofs.Common.{◌≡◌}
use Rattle.ge_site.specs.Walks.{outcome, steps_left}
use Rattle.ge_site.proofs.walking.finish.Given as goal

abbrev pub invariant-loop-next : goal.invariant-loop-next
invariant-loop-next l = outcome l.groups l.way l.place.entries.now l.place.depth l.seen ≡ outcome l.groups l.fn.way l.fn.start.entries.now l.fn.start.depth l.fn.seen

abbrev pub decreases-loop-next : goal.decreases-loop-next
decreases-loop-next l = steps_left l.groups l.way l.place.entries.now l.seen
