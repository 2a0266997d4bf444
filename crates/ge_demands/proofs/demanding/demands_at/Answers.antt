use Rattle.std.proofs.Common.{sym, ap, ◌∙◌, map}
use Rattle.ge_model_place.specs.Limits.{demand_for}
use Rattle.ge_demands.proofs.Apart.{counted_apart}
use Rattle.ge_demands.proofs.demanding.demands_at.Goals as goal

pub returns : goal.returns
returns c =
    c.in_ok-demands.ensures ∙ ap (map (demand_for c.args.slots)) c.in_ok-limits.ensures
    ∙ sym (counted_apart c.args.slots c.args.cluster.now c.args.groups.now c.args.job.now c.args.at.now)
