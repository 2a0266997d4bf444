use Rattle.std.proofs.Common.{◌+◌, ◌∙◌, ⊎_elim, arith}
use Rattle.ge_model_journal.specs.Disk.{read_bytes}
use Rattle.ge_acctlog.proofs.Reached.{reached-next, reached-more, next-readable, told-size, told-body, no-lines}
use Rattle.ge_acctlog.proofs.reading.go_on.Goals as goal

-- the length of a record of a log at rest isn't wrong
pub returns-then-size-eq0-clause-right : goal.returns-then-size-eq0-clause-right
returns-then-size-eq0-clause-right g c = λ lines tells reached less.
    let told = g.D.Disk.told c.args.log.now in
    let next = reached-next c.args.reached.now (read_bytes told) lines c.args.end reached less in
    let size = told-size told c.args.reached.now.next c.in-Ok.size tells c.in-Ok.ensures.size in
    absurd (⊎_elim (λ none. omega (arith, none, next.2.some, size, next.2.head)) (λ past. omega (arith, past.1, next.2.within, size, next.2.head)) c.then-size-eq0.either)

-- nor is its body
pub returns-in_default-read-clause-right : goal.returns-in_default-read-clause-right
returns-in_default-read-clause-right g c = λ lines tells reached less.
    let told = g.D.Disk.told c.args.log.now in
    let next = reached-next c.args.reached.now (read_bytes told) lines c.args.end reached less in
    let size = told-size told c.args.reached.now.next c.in-Ok.size tells c.in-Ok.ensures.size in
    let body = c.in_ok-body.body.items in
    let is_body = told-body told (c.args.reached.now.next + 5) c.in-Ok.size body tells (rw c.size_at.ensures.told at c.in_ok-body.ensures.body) in
    absurd (next-readable c.args.reached.now (read_bytes told) next.0 lines c.args.end c.in-Ok.size body next.2 size is_body
    (rw c.as_slice.ensures.value at (no-lines c.in_ok-read.read _ _ c.in_default-read.not-Some c.in_ok-read.ensures)))

pub returns-clause-reached : goal.returns-clause-reached
returns-clause-reached g c = λ lines tells reached less.
    let told = g.D.Disk.told c.args.log.now in
    let next = reached-next c.args.reached.now (read_bytes told) lines c.args.end reached less in
    let size = told-size told c.args.reached.now.next c.in-Ok.size tells c.in-Ok.ensures.size in
    let body = c.in_ok-body.body.items in
    let is_body = told-body told (c.args.reached.now.next + 5) c.in-Ok.size body tells (rw c.size_at.ensures.told at c.in_ok-body.ensures.body) in
    let read = rw (c.as_slice.ensures.value, c.in-Some.is) at c.in_ok-read.ensures in
    reached-more c.args.reached.now _ (read_bytes told) next.0 lines c.args.end c.in-Ok.size body next.2 size is_body read.0 (next.1 ∙ omega (arith, c.len.ensures)) (omega (arith, c.from.ensures))
