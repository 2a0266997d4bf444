use Rattle.std.proofs.Common.{sym, subst, refl, replicate}
use Rattle.ge_model_journal.specs.Disk.{Reads}
use Rattle.ge_spool.specs.Reads.{IsHeadOf}
use Rattle.ge_spool.proofs.Looking.{look-closed, look-head}
use Rattle.ge_spool.proofs.surveying.look.Goals as goal

pub returns-then-size-lt19-clause-head : goal.returns-then-size-lt19-clause-head
returns-then-size-lt19-clause-head g c =
    look-closed (g.D.Disk.told c.args.disk.now) c.in_ok-size.size c.in_ok-count.count (replicate 18 0) c.read_at.new.buf c.in_ok-size.ensures.length
    (subst (λ told. Reads told 0 c.in_ok-count.count (replicate 18 0) c.read_at.new.buf) c.len.ensures.told c.in_ok-count.ensures.read) refl c.then-size-lt19.either

pub returns-clause-head : goal.returns-clause-head
returns-clause-head g c =
    subst (λ h. IsHeadOf (g.D.Disk.told c.args.disk.now) c.in_ok-size.size h) (sym c.head_in-head.ensures.value)
    (look-head (g.D.Disk.told c.args.disk.now) c.in_ok-size.size c.in_ok-count.count (replicate 18 0) c.read_at.new.buf c.in_ok-size.ensures.length
    (subst (λ told. Reads told 0 c.in_ok-count.count (replicate 18 0) c.read_at.new.buf) c.len.ensures.told c.in_ok-count.ensures.read) refl
    c.read_at.auto.buf c.if-size-lt19.false c.if-count-lt18.false)
