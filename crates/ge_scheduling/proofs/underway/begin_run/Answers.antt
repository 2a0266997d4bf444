use Rattle.std.proofs.Common.{map, subst, ap}
use Rattle.ge_model_place.specs.Running.{task_of}
use Rattle.ge_scheduling.specs.Passing.{Follows}
use Rattle.ge_scheduling.proofs.PartByPart.{first_made}
use Rattle.ge_scheduling.proofs.underway.begin_run.Goals as goal

pub returns-clause-under_way : goal.returns-clause-under_way
returns-clause-under_way c =
    let C = c.args.cluster.now in
    let basis = c.args.basis in
    let so_far = c.in_ok-so_far.so_far in
    let follows = subst
    (λ order. Follows C basis.groups order basis.moment c.kinds_of.result.now.entries so_far.booked so_far.decisions so_far.tally so_far.passed so_far.full so_far.room)
    c.items-2.ensures c.in_ok-so_far.ensures.follows in
    record {
      spelled = c.requires.spelled;
      ordered = c.requires.ordered;
      made = first_made C basis.groups basis.order basis.moment so_far.booked so_far.decisions c.in_ok-so_far.ensures.booked c.in_ok-so_far.ensures.decisions;
      tallied = follows.tallied;
      waits = follows.waits;
      left = follows.left;
    }

pub returns-clause-none : goal.returns-clause-none
returns-clause-none c = ap (map task_of) c.in_ok-so_far.ensures.decisions
