use Rattle.std.proofs.Common.{◌&&◌, Bool, sym, ap, ◌∙◌}
use Rattle.std.specs.List.{list_all}
use Rattle.ge_model_place.specs.Opening.{admits_value, consumes_what_is, meets_forced}
use Rattle.ge_opening.proofs.Both.{all_both}
use Rattle.ge_opening.proofs.offering.offers.Goals as goal

pub returns-then-offers_each : goal.returns-then-offers_each
returns-then-offers_each c =
    let here = c.args.here.now in
    let forced : Bool = list_all (meets_forced here.cluster.now here.groups.now c.args.job.now here.at.now here.queue.now) here.cluster.now.complexes in
    let each = all_both (admits_value here.cluster.now here.groups.now here.at.now) (consumes_what_is here.cluster.now here.groups.now here.at.now here.queue.now) c.args.job.now.request.asked in
    c.meets_all_forced.ensures ∙ sym (ap (λ b. b && forced) (sym each ∙ sym c.offers_each.ensures ∙ c.if-offers_each.true))

pub returns-else-offers_each : goal.returns-else-offers_each
returns-else-offers_each c =
    let here = c.args.here.now in
    let forced : Bool = list_all (meets_forced here.cluster.now here.groups.now c.args.job.now here.at.now here.queue.now) here.cluster.now.complexes in
    let each = all_both (admits_value here.cluster.now here.groups.now here.at.now) (consumes_what_is here.cluster.now here.groups.now here.at.now here.queue.now) c.args.job.now.request.asked in
    c.if-offers_each.false ∙ sym (ap (λ b. b && forced) (sym each ∙ sym c.offers_each.ensures ∙ c.if-offers_each.false))
