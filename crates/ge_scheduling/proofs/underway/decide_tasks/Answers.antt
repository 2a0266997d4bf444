use Rattle.std.proofs.Common.{◌≡◌, fold, subst}
use Rattle.ge_model_place.specs.Running.{decide}
use Rattle.ge_scheduling.specs.Passing.{Follows}
use Rattle.ge_scheduling.proofs.PartByPart.{more_tasks, still_made}
use Rattle.ge_scheduling.proofs.underway.decide_tasks.Goals as goal

pub returns-clause-under_way : goal.returns-clause-under_way
returns-clause-under_way c =
    let C = c.args.cluster.now in
    let run = c.args.run in
    let so_far = c.in_ok-so_far.so_far in
    let next = subst (λ order. (so_far.booked, so_far.decisions) ≡ fold (decide C run.groups order run.moment) (run.so_far.booked, run.so_far.decisions) c.args.tasks.now)
    c.items.ensures c.in_ok-so_far.ensures.decided in
    let follows = subst
    (λ order. Follows C run.groups order run.moment c.kinds_of.result.now.entries so_far.booked so_far.decisions so_far.tally so_far.passed so_far.full so_far.room)
    c.items.ensures c.in_ok-so_far.ensures.follows in
    record {
      spelled = c.requires.spelled;
      ordered = c.requires.ordered;
      made = still_made C run.groups run.order run.moment c.requires.spelled c.requires.ordered run.so_far.booked so_far.booked run.so_far.decisions so_far.decisions c.args.tasks.now c.requires.made next;
      tallied = follows.tallied;
      waits = follows.waits;
      left = follows.left;
    }

pub returns-clause-tasks : goal.returns-clause-tasks
returns-clause-tasks c =
    let C = c.args.cluster.now in
    let run = c.args.run in
    let so_far = c.in_ok-so_far.so_far in
    let next = subst (λ order. (so_far.booked, so_far.decisions) ≡ fold (decide C run.groups order run.moment) (run.so_far.booked, run.so_far.decisions) c.args.tasks.now)
    c.items.ensures c.in_ok-so_far.ensures.decided in
    more_tasks C run.groups run.order run.moment c.requires.spelled c.requires.ordered run.so_far.booked so_far.booked run.so_far.decisions so_far.decisions c.args.tasks.now c.requires.made next
