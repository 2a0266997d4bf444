use Rattle.std.proofs.Common.{◌≡◌, ◌∙◌, sym, subst, arith, refl, Some}
use Rattle.std.specs.Prelude.{slice_get}
use Rattle.ge_model_journal.specs.Disk.{read_bytes}
use Rattle.ge_acctlog.proofs.Moments.{quiet-tells, rests-again}
use Rattle.ge_acctlog.proofs.Reached.{reached-line}
use Rattle.ge_acctlog.proofs.log.Log.read.Goals as goal

pub returns-clause-line : goal.returns-clause-line
returns-clause-line g c = λ lines rests.
    let told = g.D.Disk.told c.args.log.now in
    let tells = quiet-tells told (read_bytes told) rests.quiet in
    let back = c.go_back.ensures.reached (read_bytes told) lines c.args.self.now.end rests.stands rests.reached in
    let reached = c.reach.ensures.reached lines tells back (omega (arith, rests.count)) in
    let item = rw c.items-lines.ensures at c.index-lines-at.is in
    sym (subst (λ x. slice_get lines c.args.k ≡ Some x) (sym c.in_ok-line.ensures)
    (reached-line c.reach.new.reached (read_bytes told) lines c.args.self.now.end c.args.k c.index-lines-at.result reached c.reach.ensures.first c.in_ok-reach.ensures.here item))

pub returns-clause-rests : goal.returns-clause-rests
returns-clause-rests g c = λ lines rests.
    let told = g.D.Disk.told c.args.log.now in
    let tells = quiet-tells told (read_bytes told) rests.quiet in
    let back = c.go_back.ensures.reached (read_bytes told) lines c.args.self.now.end rests.stands rests.reached in
    let reached = c.reach.ensures.reached lines tells back (omega (arith, rests.count)) in
    rw c.reach.ensures.told (rests-again c.args.self.now _ told lines rests refl refl refl reached)

pub returns-clause-kept : goal.returns-clause-kept
returns-clause-kept g c = λ here.
    let back = c.go_back.ensures.kept here.0 in
    let still = c.reach.ensures.kept (rw back here.1) in
    (still.0 ∙ back, still.1)
