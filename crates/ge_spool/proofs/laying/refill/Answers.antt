use Rattle.std.proofs.Common.{[], ◌∷◌}
use Rattle.ge_model_journal.specs.Disk.{overwritten}
use Rattle.ge_spool.specs.Moments.{Torn, since_both}
use Rattle.ge_spool.specs.Steps.{IsBehindImage}
use Rattle.ge_spool.proofs.laying.refill.Goals as goal

pub returns-in_err-write_behind-clause-since : goal.returns-in_err-write_behind-clause-since
returns-in_err-write_behind-clause-since g c = λ bytes quiet.
    rw c.if-close.true (since_both (g.D.Disk.told c.args.disk.now) (g.D.Disk.told c.lay.new.disk) (g.D.Disk.told c.write_behind.new.disk)
    (Torn 0 1 bytes) (IsBehindImage 0 c.args.piece.now (overwritten bytes 0 (0 ∷ [])))
    (c.lay.ensures.since bytes quiet) (c.write_behind.ensures.since _ (c.in_ok-lay.ensures.quiet bytes quiet)))

pub returns-then-close-clause-since : goal.returns-then-close-clause-since
returns-then-close-clause-since g c = λ bytes quiet.
    rw c.if-close.true (since_both (g.D.Disk.told c.args.disk.now) (g.D.Disk.told c.lay.new.disk) (g.D.Disk.told c.write_behind.new.disk)
    (Torn 0 1 bytes) (IsBehindImage 0 c.args.piece.now (overwritten bytes 0 (0 ∷ [])))
    (c.lay.ensures.since bytes quiet) (c.write_behind.ensures.since _ (c.in_ok-lay.ensures.quiet bytes quiet)))
