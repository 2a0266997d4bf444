use Rattle.std.proofs.Common.{sym}
use Rattle.ge_model_journal.specs.declared.Head.TheVariants.{Closed}
use Rattle.ge_model_journal.specs.Writing.{padded}
use Rattle.ge_spool.specs.Moments.{since_weaker, since_join}
use Rattle.ge_spool.specs.Opening.{IsPadImage, IsFreshImage}
use Rattle.ge_spool.specs.Steps.{IsBehindImage}
use Rattle.ge_spool.proofs.ShortAreas.{quiet-head, fresh-pad, fresh-fill}
use Rattle.ge_spool.proofs.opening.make_first.Goals as goal

pub returns-in_err-pad-clause-since_a : goal.returns-in_err-pad-clause-since_a
returns-in_err-pad-clause-since_a g c = λ bytes quiet.
    let closed = sym (quiet-head (g.D.Disk.told c.args.a.now) bytes c.args.size_a Closed quiet c.requires.closed_a) in
    let padding = since_weaker (g.D.Disk.told c.args.a.now) (g.D.Disk.told c.pad.new.disk) (IsPadImage bytes) IsFreshImage (c.pad.ensures.since bytes quiet)
    (λ image h. fresh-pad bytes image closed h) in
    padding

pub returns-in_err-pad-2-clause-since_a : goal.returns-in_err-pad-2-clause-since_a
returns-in_err-pad-2-clause-since_a g c = λ bytes quiet.
    let closed = sym (quiet-head (g.D.Disk.told c.args.a.now) bytes c.args.size_a Closed quiet c.requires.closed_a) in
    let padding = since_weaker (g.D.Disk.told c.args.a.now) (g.D.Disk.told c.pad.new.disk) (IsPadImage bytes) IsFreshImage (c.pad.ensures.since bytes quiet)
    (λ image h. fresh-pad bytes image closed h) in
    padding

pub returns-in_err-write_behind-clause-since_a : goal.returns-in_err-write_behind-clause-since_a
returns-in_err-write_behind-clause-since_a g c = λ bytes quiet.
    let closed = sym (quiet-head (g.D.Disk.told c.args.a.now) bytes c.args.size_a Closed quiet c.requires.closed_a) in
    let padding = since_weaker (g.D.Disk.told c.args.a.now) (g.D.Disk.told c.pad.new.disk) (IsPadImage bytes) IsFreshImage (c.pad.ensures.since bytes quiet)
    (λ image h. fresh-pad bytes image closed h) in
    since_join (g.D.Disk.told c.args.a.now) (g.D.Disk.told c.pad.new.disk) (g.D.Disk.told c.write_behind.new.disk) IsFreshImage padding
    (since_weaker (g.D.Disk.told c.pad.new.disk) (g.D.Disk.told c.write_behind.new.disk) (IsBehindImage 0 c.args.piece.now (padded bytes)) IsFreshImage
    (c.write_behind.ensures.since (padded bytes) (c.in_ok-pad.ensures.quiet bytes quiet))
    (λ image h. fresh-fill bytes image c.args.piece.now closed c.requires.is_piece h))

pub returns-clause-since_a : goal.returns-clause-since_a
returns-clause-since_a g c = λ bytes quiet.
    let closed = sym (quiet-head (g.D.Disk.told c.args.a.now) bytes c.args.size_a Closed quiet c.requires.closed_a) in
    let padding = since_weaker (g.D.Disk.told c.args.a.now) (g.D.Disk.told c.pad.new.disk) (IsPadImage bytes) IsFreshImage (c.pad.ensures.since bytes quiet)
    (λ image h. fresh-pad bytes image closed h) in
    since_join (g.D.Disk.told c.args.a.now) (g.D.Disk.told c.pad.new.disk) (g.D.Disk.told c.write_behind.new.disk) IsFreshImage padding
    (since_weaker (g.D.Disk.told c.pad.new.disk) (g.D.Disk.told c.write_behind.new.disk) (IsBehindImage 0 c.args.piece.now (padded bytes)) IsFreshImage
    (c.write_behind.ensures.since (padded bytes) (c.in_ok-pad.ensures.quiet bytes quiet))
    (λ image h. fresh-fill bytes image c.args.piece.now closed c.requires.is_piece h))
