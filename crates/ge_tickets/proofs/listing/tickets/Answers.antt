use Rattle.std.proofs.Common.{◌∙◌, ap, map}
use Rattle.ge_tickets.specs.Own.{own_tickets}
use Rattle.ge_tickets.proofs.Own.{own_alone}
use Rattle.ge_tickets.proofs.listing.tickets.Goals as goal

pub returns-then-has_own_alone : goal.returns-then-has_own_alone
returns-then-has_own_alone c =
    c.in_ok-tickets.ensures ∙ ap (map (own_tickets c.args.c.now)) c.items.ensures ∙ own_alone c.args.c.now c.args.jobs.now (c.has_own_alone.ensures.alone c.if-has_own_alone.true)
