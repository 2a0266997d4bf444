use Rattle.std.proofs.Common.{◌<◌, length, get_or, arith}
use Rattle.std.proofs.lemmas.List.{get_or_default}
use Rattle.std.proofs.lemmas.List.Edits.{map_over_more}
use Rattle.ge_attempts.specs.declared.rests.Rest.{Rest}
use Rattle.ge_attempts.specs.Rests.{renewed_rest}
use Rattle.ge_attempts.proofs.renewing.renew_rests.Goals as goal

pub loop-rest-preserved : goal.loop-rest-preserved
loop-rest-preserved c =
    let z : Rest = c.rest-item.result in
    let inside : c.loop-rest.rest-index < length c.loop-rest.rests = omega arith in
    let x : Rest = get_or c.loop-rest.rests c.loop-rest.rest-index z in
    rw c.left_then-most.ensures
    (map_over_more (renewed_rest c.args.at.now.moment c.args.booked.now) c.args.rests.now c.loop-rest.rests c.loop-rest.rest-index x c.loop-rest-test.true c.loop-rest.invariant
    (get_or_default c.loop-rest.rests c.loop-rest.rest-index z x inside))
