use Rattle.std.proofs.Common.{sym, ap, ◌∙◌}
use Rattle.ge_model_config.specs.Overrides.{override_of, overrides_between}
use Rattle.ge_config.specs.Joined.{before_rest}
use Rattle.ge_config.proofs.OneMore.{one_more}
use Rattle.ge_config.proofs.overrides.read_between.Goals as goal

pub loop-text-preserved : goal.loop-text-preserved
loop-text-preserved c =
    one_more c.loop-text.pairs c.push.new.self c.in-Some.text.now c.in-Some.others.now c.in_ok-pair.pair (sym c.is_empty.ensures ∙ c.if-is_empty.false)
    (ap override_of (sym c.bytes-in-Some.ensures) ∙ c.in_ok-pair.ensures) c.in_ok-push.ensures.ok
    ∙ sym (ap (λ r. before_rest c.loop-text.pairs (overrides_between r)) c.in-Some.ensures.cases.0) ∙ c.loop-text.invariant
