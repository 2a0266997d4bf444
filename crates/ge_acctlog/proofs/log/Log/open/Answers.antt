use Rattle.std.proofs.Common.{◌≡◌, ◌∙◌, sym, false, refl}
use Rattle.std.specs.Result.{is_err}
use Rattle.ge_model_journal.specs.Disk.{read_bytes, told_synced}
use Rattle.ge_spool.proofs.Settling.{from-ok}
use Rattle.ge_acctlog.proofs.Moments.{quiet-synced, since-synced, tells-quiet, quiet-all, since-closed, opened-rests}
use Rattle.ge_acctlog.proofs.log.Log.open.Goals as goal

pub returns-in_err-bytes-clause-since : goal.returns-in_err-bytes-clause-since
returns-in_err-bytes-clause-since g c = λ bytes quiet.
    let told = g.D.Disk.told c.args.log.now in
    let sound : is_err c.sync.result ≡ false = sym c.is_err.ensures.value ∙ c.if-is_err.false in
    since-synced told (g.D.Disk.told c.read_all.new.disk) bytes quiet (c.read_all.ensures.told ∙ from-ok c.sync.result _ sound c.sync.ensures.synced)

pub returns-in_err-count-clause-since : goal.returns-in_err-count-clause-since
returns-in_err-count-clause-since g c = λ bytes quiet.
    let told = g.D.Disk.told c.args.log.now in
    let sound : is_err c.sync.result ≡ false = sym c.is_err.ensures.value ∙ c.if-is_err.false in
    since-synced told (g.D.Disk.told c.read_all.new.disk) bytes quiet (c.read_all.ensures.told ∙ from-ok c.sync.result _ sound c.sync.ensures.synced)

pub returns-then-is_err-2-clause-since : goal.returns-then-is_err-2-clause-since
returns-then-is_err-2-clause-since g c = λ bytes quiet.
    let told = g.D.Disk.told c.args.log.now in
    let mid = g.D.Disk.told c.read_all.new.disk in
    let sound : is_err c.sync.result ≡ false = sym c.is_err.ensures.value ∙ c.if-is_err.false in
    let synced : g.D.Disk.told c.sync.new.self ≡ told_synced told = from-ok c.sync.result _ sound c.sync.ensures.synced in
    let is : c.in_ok-bytes.bytes.items ≡ bytes = quiet-all (g.D.Disk.told c.sync.new.self) bytes c.in_ok-bytes.bytes.items
    (quiet-synced told (g.D.Disk.told c.sync.new.self) bytes quiet synced) c.in_ok-bytes.ensures.read in
    let counted = rw (c.as_slice.ensures.value, is) at c.in_ok-count.ensures.counted in
    let closing = rw (c.as_slice-2.ensures.value, is) at c.close.ensures.since in
    since-closed told mid (g.D.Disk.told c.close.new.disk) bytes counted.0 _ quiet (c.read_all.ensures.told ∙ synced) counted.1
    (closing (quiet-synced told mid bytes quiet (c.read_all.ensures.told ∙ synced)))

pub returns-clause-since : goal.returns-clause-since
returns-clause-since g c = λ bytes quiet.
    let told = g.D.Disk.told c.args.log.now in
    let mid = g.D.Disk.told c.read_all.new.disk in
    let sound : is_err c.sync.result ≡ false = sym c.is_err.ensures.value ∙ c.if-is_err.false in
    let synced : g.D.Disk.told c.sync.new.self ≡ told_synced told = from-ok c.sync.result _ sound c.sync.ensures.synced in
    let is : c.in_ok-bytes.bytes.items ≡ bytes = quiet-all (g.D.Disk.told c.sync.new.self) bytes c.in_ok-bytes.bytes.items
    (quiet-synced told (g.D.Disk.told c.sync.new.self) bytes quiet synced) c.in_ok-bytes.ensures.read in
    let counted = rw (c.as_slice.ensures.value, is) at c.in_ok-count.ensures.counted in
    let closing = rw (c.as_slice-2.ensures.value, is) at c.close.ensures.since in
    since-closed told mid (g.D.Disk.told c.close.new.disk) bytes counted.0 _ quiet (c.read_all.ensures.told ∙ synced) counted.1
    (closing (quiet-synced told mid bytes quiet (c.read_all.ensures.told ∙ synced)))

pub returns-clause-opened : goal.returns-clause-opened
returns-clause-opened g c = λ tells.
    let told = g.D.Disk.told c.args.log.now in
    let mid = g.D.Disk.told c.read_all.new.disk in
    let sound : is_err c.sync.result ≡ false = sym c.is_err.ensures.value ∙ c.if-is_err.false in
    let synced : g.D.Disk.told c.sync.new.self ≡ told_synced told = from-ok c.sync.result _ sound c.sync.ensures.synced in
    let is : c.in_ok-bytes.bytes.items ≡ read_bytes told = quiet-all (g.D.Disk.told c.sync.new.self) (read_bytes told) c.in_ok-bytes.bytes.items
    (tells-quiet told (g.D.Disk.told c.sync.new.self) tells synced) c.in_ok-bytes.ensures.read in
    let counted = rw (c.as_slice.ensures.value, is) at c.in_ok-count.ensures.counted in
    let done : is_err c.close.result ≡ false = sym c.is_err-2.ensures.value ∙ c.if-is_err-2.false in
    let closed = rw (c.as_slice-2.ensures.value, is) at (from-ok c.close.result _ done c.close.ensures.quiet) in
    opened-rests _ (g.D.Disk.told c.close.new.disk) (read_bytes told) counted.0 refl counted.2 c.start.ensures counted.1
    (closed (tells-quiet told mid tells (c.read_all.ensures.told ∙ synced)))
