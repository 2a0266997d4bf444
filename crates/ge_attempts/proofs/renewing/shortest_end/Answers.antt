use Rattle.std.proofs.Common.{◌≡◌, ◌∙◌, ap, sym, subst, rules, max, min}
use Rattle.ge_model_place.specs.Bookings.{window_end}
use Rattle.ge_attempts.specs.Rests.{shortest_in, cut_at_advances, EndsNoSooner}
use Rattle.ge_attempts.proofs.Facts.{facts_told}
use Rattle.ge_attempts.proofs.Lasting.{ends_no_sooner}
use Rattle.ge_attempts.proofs.renewing.shortest_end.Goals as goal

pub returns : goal.returns
returns c =
    let C = c.args.at.now.cluster.now in
    let now = c.args.at.now.moment in
    let rows = c.in-Some.shorts.rows.now.entries in
    let shortest = c.min-shortest.result in
    let is : shortest ≡ min (shortest_in rows) C.sched.default_duration = search rules in
    let end : c.cut_at_advances.result ≡ cut_at_advances C.advances (window_end now (max shortest 1)) = search rules in
    subst (EndsNoSooner C now) (sym end) (ends_no_sooner C now rows shortest (facts_told C.jobs rows c.in-Some.shorts.bound c.in-Some.ensures) is)
