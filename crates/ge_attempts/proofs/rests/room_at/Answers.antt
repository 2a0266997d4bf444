use Rattle.std.proofs.Common.{◌≡◌, true, None, length, sym, subst}
use Rattle.std.specs.List.{list_all}
use Rattle.ge_attempts.specs.Closing.{asked_by_all}
use Rattle.ge_attempts.specs.Rests.{is_full, AreOpen}
use Rattle.ge_attempts.proofs.Remaining.{all_left}
use Rattle.ge_attempts.proofs.rests.room_at.Goals as goal

pub returns : goal.returns
returns c =
    let C = c.args.at.now.cluster.now in
    let now = c.args.at.now.moment in
    all_left C c.args.at.now.groups.now now c.args.booked.now c.in_ok-amounts.amounts c.in_ok-hosts.hosts.numbers c.items-2.result.now c.args.at.now.order.now c.in_ok-lefts.lefts c.in_ok-vacant.vacant c.in_ok-later.later c.in_ok-hosts.hosts c.len.result
    c.in_ok-amounts.ensures (subst (λ names. list_all (asked_by_all C) names ≡ true) (sym c.items-2.ensures) c.in_ok-names.ensures) c.in_ok-lefts.ensures
    (subst (λ lefts. AreOpen (is_full C now None) lefts (length lefts) 0 c.in_ok-vacant.vacant) c.items-3.ensures c.in_ok-vacant.ensures) c.len.ensures c.in_ok-later.ensures.long c.in_ok-later.ensures.none
