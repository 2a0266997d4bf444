use Rattle.std.proofs.Common.{◌∙◌, ap, drop, subst}
use Rattle.ge_spool.specs.Moments.{Since}
use Rattle.ge_acctlog.proofs.Moments.{quiet-tells}
use Rattle.ge_gridacct.specs.Fronts.{StandsBehind}
use Rattle.ge_gridacct.proofs.Flushed.{kept_front}
use Rattle.ge_gridacct.proofs.flushing.append_missing.Goals as goal

pub returns-in_err-append_all-clause-since : goal.returns-in_err-append_all-clause-since
returns-in_err-append_all-clause-since g c = λ bytes quiet.
    let old = g.E.Disk.told c.args.disk.now in
    let mid = g.E.Disk.told c.open.new.log in
    let new = g.E.Disk.told c.append_all.new.disk in
    let opened = c.in_ok-log.ensures.opened (quiet-tells old bytes quiet) in
    let compared = c.in_ok-front.ensures.rests opened.lines opened.rests in
    kept_front old mid new bytes c.args.lines.now opened.lines c.split_at.result.1.now _ quiet (c.in_ok-log.ensures.since bytes quiet) opened.stands
    ((c.in_ok-front.ensures.front opened.lines opened.rests).0 c.if-not-front.false)
    (c.split_at.ensures.back ∙ ap (λ n. drop n c.args.lines.now) (c.count.ensures ∙ compared.count))
    (subst (λ t. Since t new (StandsBehind opened.lines c.split_at.result.1.now)) c.holds_front.ensures.told (c.append_all.ensures.since opened.lines compared))

pub returns-clause-since : goal.returns-clause-since
returns-clause-since g c = λ bytes quiet.
    let old = g.E.Disk.told c.args.disk.now in
    let mid = g.E.Disk.told c.open.new.log in
    let new = g.E.Disk.told c.append_all.new.disk in
    let opened = c.in_ok-log.ensures.opened (quiet-tells old bytes quiet) in
    let compared = c.in_ok-front.ensures.rests opened.lines opened.rests in
    kept_front old mid new bytes c.args.lines.now opened.lines c.split_at.result.1.now _ quiet (c.in_ok-log.ensures.since bytes quiet) opened.stands
    ((c.in_ok-front.ensures.front opened.lines opened.rests).0 c.if-not-front.false)
    (c.split_at.ensures.back ∙ ap (λ n. drop n c.args.lines.now) (c.count.ensures ∙ compared.count))
    (subst (λ t. Since t new (StandsBehind opened.lines c.split_at.result.1.now)) c.holds_front.ensures.told (c.append_all.ensures.since opened.lines compared))
