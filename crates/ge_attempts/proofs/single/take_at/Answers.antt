use Rattle.std.proofs.Common.{Some, None, sym, ap, ◌∙◌}
use Rattle.std.proofs.lemmas.Bool.{cond-false}
use Rattle.ge_model_place.specs.Runs.{one_slot}
use Rattle.ge_model_place.proofs.First.{takes_one}
use Rattle.ge_attempts.specs.Rests.{are_short, comes_before}
use Rattle.ge_attempts.proofs.Remaining.{refused_short, refused_blocked}
use Rattle.ge_attempts.proofs.single.take_at.Goals as goal

pub returns-then-is_before : goal.returns-then-is_before
returns-then-is_before c =
    sym (cond-false (takes_one c.args.at.now.cluster.now c.args.at.now.groups.now c.args.job.now c.args.booked.now c.args.at.now.moment c.args.instance.now) (Some (one_slot c.args.instance.now)) None
    (refused_blocked c.args.at.now.cluster.now c.args.at.now.groups.now c.args.at.now.moment c.args.booked.now c.args.job.now c.args.instance.now c.requires.goes_on c.requires.free c.args.left.now
    c.requires.there c.requires.left
    (ap (λ until. comes_before c.args.left.now.blocked (Some until)) (sym c.requires.ends) ∙ sym c.is_before.ensures ∙ c.if-is_before.true)))

pub returns-then-are_short : goal.returns-then-are_short
returns-then-are_short c =
    sym (cond-false (takes_one c.args.at.now.cluster.now c.args.at.now.groups.now c.args.job.now c.args.booked.now c.args.at.now.moment c.args.instance.now) (Some (one_slot c.args.instance.now)) None
    (refused_short c.args.at.now.cluster.now c.args.at.now.groups.now c.args.at.now.moment c.args.booked.now c.args.job.now c.args.instance.now c.requires.goes_on c.requires.free c.args.left.now.rests c.args.asked.now
    c.requires.there c.requires.left.rests c.requires.asked
    (ap (λ asked. are_short asked c.args.left.now.rests) (sym c.items.ensures) ∙ ap (λ rests. are_short c.items.result.now rests) (sym c.items-2.ensures) ∙ sym c.are_short.ensures ∙ c.if-are_short.true)))
