use Rattle.std.proofs.Common.{sym, ap, ◌∙◌}
use Rattle.ge_attempts.specs.Rests.{are_short}
use Rattle.ge_attempts.proofs.Remaining.{refused_short, refused_shut}
use Rattle.ge_attempts.proofs.finding.may_take.Goals as goal

pub returns-then-are_short : goal.returns-then-are_short
returns-then-are_short c = λ _.
    refused_short c.args.at.now.cluster.now c.args.at.now.groups.now c.args.at.now.moment c.args._booked.now c.args.job.now c.args.instance.now c.requires.goes_on c.requires.free c.args.rests.now c.args.asked.now
    c.requires.there c.requires.left c.requires.asked
    (ap (λ asked. are_short asked c.args.rests.now) (sym c.items.ensures) ∙ ap (λ rests. are_short c.items.result.now rests) (sym c.items-2.ensures) ∙ sym c.are_short.ensures ∙ c.if-are_short.true)

pub returns : goal.returns
returns c = λ shut.
    refused_shut c.args.at.now.cluster.now c.args.at.now.groups.now c.args.at.now.moment c.args._booked.now c.args.job.now c.args.instance.now c.requires.goes_on c.requires.free (sym c.is_open_knowing.ensures ∙ shut)
