use Rattle.std.proofs.Common.{◌≡◌, ◌∙◌, ap, map}
use Rattle.ge_model_order.specs.Priority.{prios_of}
use Rattle.ge_model_order.specs.Tickets.{tickets_of}
use Rattle.ge_tickets.proofs.Own.{own_alone, told_same}
use Rattle.ge_order.specs.Alike.{candidates_in}
use Rattle.ge_order.specs.Repeated.{standing}
use Rattle.ge_order.specs.Standings.{standing_of}
use Rattle.ge_order.specs.Told.{chosen}
use Rattle.ge_order.proofs.OneKind.{rows_tell, all_told}
use Rattle.ge_order.proofs.Repeated.{prios_apart}
use Rattle.ge_order.proofs.Scaled.{prios_are}
use Rattle.ge_order.proofs.Told.{chosen_same}
use Rattle.ge_order.proofs.priority.own_prios.Goals as goal

pub returns : goal.returns
returns c =
    let C = c.args.c.now in
    let now = c.args.now in
    let shorts = c.in-Some.shorts in
    let rows = shorts.rows.now.entries in
    let jobs = chosen C now rows in
    let tell = rows_tell C rows shorts.bound c.in-Some.ensures c.orderly.ensures.rows in
    let found = c.in_ok-lots.field-0 in
    let candidates = candidates_in found.lots.items in
    let standings : map standing candidates ≡ map (standing_of C now) jobs = c.in_ok-lots.ensures.standings tell ∙ all_told C rows now jobs tell in
    let tickets : map (λ x. x.tickets) candidates ≡ tickets_of C jobs =
    c.in_ok-lots.ensures.tickets ∙ told_same C shorts.bound rows c.in-Some.ensures jobs
    ∙ own_alone C jobs (c.has_own_alone.ensures.alone c.if-not-has_own_alone.false) in
    let scale = c.in_ok-lots.ensures.scale in
    c.of_lots.ensures ∙ c.in_ok-lots-2.ensures
    ∙ prios_apart C.sched found.scale candidates
    ∙ prios_are C now jobs (map (λ x. x.tickets) candidates) (map standing candidates) found.scale standings scale.low scale.high scale.most
    ∙ ap (λ held. prios_of C jobs held now) tickets
    ∙ ap (λ numbers. prios_of C numbers (tickets_of C numbers) now) (chosen_same C now shorts.bound rows c.in-Some.ensures c.orderly.ensures.rising c.orderly.ensures.rows)
