use Rattle.std.proofs.Common.{◌+◌, length}
use Rattle.ge_model_journal.specs.Disk.{overwritten}
use Rattle.ge_spool.specs.Moments.{Torn, since_both}
use Rattle.ge_spool.proofs.laying.write_behind.Goals as goal

-- the piece alone, or then the gate
pub returns-in_err-lay-2-clause-since : goal.returns-in_err-lay-2-clause-since
returns-in_err-lay-2-clause-since g c = λ bytes quiet.
    since_both (g.D.Disk.told c.args.disk.now) (g.D.Disk.told c.lay.new.disk) (g.D.Disk.told c.lay-2.new.disk)
    (Torn (c.args.gate + 1) (length c.args.piece.now) bytes) (Torn c.args.gate 1 (overwritten bytes (c.args.gate + 1) c.args.piece.now))
    (c.lay.ensures.since bytes quiet) (c.lay-2.ensures.since _ (c.in_ok-lay.ensures.quiet bytes quiet))

pub returns-clause-since : goal.returns-clause-since
returns-clause-since g c = λ bytes quiet.
    since_both (g.D.Disk.told c.args.disk.now) (g.D.Disk.told c.lay.new.disk) (g.D.Disk.told c.lay-2.new.disk)
    (Torn (c.args.gate + 1) (length c.args.piece.now) bytes) (Torn c.args.gate 1 (overwritten bytes (c.args.gate + 1) c.args.piece.now))
    (c.lay.ensures.since bytes quiet) (c.lay-2.ensures.since _ (c.in_ok-lay.ensures.quiet bytes quiet))
