use Rattle.std.proofs.Common.{◌&&◌, ◌==◌}
use Rattle.std.specs.Prelude.{nat_lt}
use Rattle.std.proofs.lemmas.Bool.{and_right, le-ltb}
use Rattle.ge_scheduling.proofs.advancing.may_keep.Goals as goal

pub returns-then-all_are_kept : goal.returns-then-all_are_kept
returns-then-all_are_kept c = λ _ job there.
    let tally = c.args.so_far.now.tally in
    let most = c.args.at.now.cluster.now.sched.max_reservation in
    and_right (job.reserve && job.advance == 0) (nat_lt tally.reserved most) (le-ltb tally.reserved most (c.all_are_kept.ensures c.if-all_are_kept.true))
