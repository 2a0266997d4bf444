use Rattle.std.proofs.Common.{sym, ap, ◌∙◌, slice_set}
use Rattle.ge_model_place.specs.Limits.{with_more}
use Rattle.ge_capacities.specs.Counts.{counted_as}
use Rattle.ge_demands.proofs.Demanded.{found_there, pushed_there}
use Rattle.ge_demands.proofs.demanding.add_at.Goals as goal

pub returns-in-Some : goal.returns-in-Some
returns-in-Some c =
    let items = c.args.demands.now.items in
    let more = counted_as c.args.counted in
    let there = found_there c.args.slots more items c.in-Some.place c.index_mut.result.now (sym c.requires ∙ c.in-Some.is) in
    ap (slice_set items c.in-Some.place) (c.add_more.ensures ∙ ap (with_more c.args.slots more) c.index_mut.ensures.value) ∙ sym there

pub returns-in_ok-push-in-None : goal.returns-in_ok-push-in-None
returns-in_ok-push-in-None c =
    pushed_there c.args.slots (counted_as c.args.counted) c.args.demands.now.items c.push.new.self.items c.demand_of.result (sym c.requires ∙ c.in-None.is) c.demand_of.ensures c.in_ok-push-in-None.ensures.items
