use Rattle.std.proofs.Common.{◌∙◌, ap, fold, sym}
use Rattle.ge_attempts.specs.Amounts.{lesser_asked}
use Rattle.ge_attempts.proofs.Facts.{facts_told}
use Rattle.ge_attempts.proofs.LeastAsked.{named_asked, least_known}
use Rattle.ge_attempts.proofs.amounts.least_asked.Goals as goal

pub returns-in-Some-clause-least : goal.returns-in-Some-clause-least
returns-in-Some-clause-least c =
    let C = c.args.cluster.now in
    let complex = c.args.complex.now in
    let name = c.args.name.now in
    let rows = c.in-Some.shorts.rows.now.entries in
    least_known complex name C.jobs rows c.args.names.now c.least_in_rows.result (named_asked C name c.args.names.now c.requires) (facts_told C.jobs rows c.in-Some.shorts.bound c.in-Some.ensures)
    (sym c.if-is_time.ensures) (c.least_in_rows.ensures ∙ ap (λ first. fold (lesser_asked complex name C.jobs) first rows) c.unasked-first.ensures)
