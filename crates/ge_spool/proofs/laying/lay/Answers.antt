use Rattle.ge_spool.specs.Moments.{since_failed, since_same, since_written, since_laid}
use Rattle.ge_spool.proofs.laying.lay.Goals as goal

pub returns-in_err-write_at-clause-since : goal.returns-in_err-write_at-clause-since
returns-in_err-write_at-clause-since g c = λ bytes quiet.
    since_failed (g.D.Disk.told c.args.disk.now) _ c.args.at c.args.piece.now bytes c.requires.within quiet c.in_err-write_at.ensures.failed

pub returns-in_err-sync-clause-since : goal.returns-in_err-sync-clause-since
returns-in_err-sync-clause-since g c = λ bytes quiet.
    since_same (g.D.Disk.told c.args.disk.now) _ _ _
    (since_written (g.D.Disk.told c.args.disk.now) _ c.args.at c.args.piece.now bytes c.requires.within quiet c.in_ok-write_at.ensures.written)
    c.in_err-sync.ensures.failed

pub returns-clause-since : goal.returns-clause-since
returns-clause-since g c = λ bytes quiet.
    since_laid (g.D.Disk.told c.args.disk.now) _ _ c.args.at c.args.piece.now bytes c.requires.within quiet c.in_ok-write_at.ensures.written c.in_ok-sync.ensures.synced
