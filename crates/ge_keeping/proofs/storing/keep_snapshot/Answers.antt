use Rattle.std.proofs.Common.{◌≡◌, inl, subst}
use Rattle.ge_model_journal.specs.Journal.{compacted, IsOneOf}
use Rattle.ge_spool.specs.Settled.{IsSettled, is_dead}
use Rattle.ge_spool.proofs.Settling.{still-moments}
use Rattle.ge_spool.specs.Bytes.{snapshot_of}
use Rattle.ge_keeping.proofs.Stops.{stores-snapshot, untouched-as}
use Rattle.ge_keeping.proofs.storing.keep_snapshot.Goals as goal

pub returns-in_err-bytes-clause-any_moment : goal.returns-in_err-bytes-clause-any_moment
returns-in_err-bytes-clause-any_moment g c = λ state settled image_a image_b of_a of_b.
    inl (still-moments c.args.spool.now _ _ state settled image_a image_b of_a of_b)

pub returns-in-Ok-clause-done : goal.returns-in-Ok-clause-done
returns-in-Ok-clause-done g c = λ state settled.
    subst (λ bytes. IsSettled c.compact.new.self (g.D.Disk.told c.compact.new.a) (g.D.Disk.told c.compact.new.b) (compacted state bytes)) c.in_ok-bytes.ensures.snapshot
    (c.in-Ok.ensures.done state settled)

pub returns-in-Ok-clause-any_moment : goal.returns-in-Ok-clause-any_moment
returns-in-Ok-clause-any_moment g c = λ state settled image_a image_b of_a of_b.
    subst (λ bytes. IsOneOf state (compacted state bytes) image_a image_b) c.in_ok-bytes.ensures.snapshot
    (c.compact.ensures.any_moment state settled image_a image_b of_a of_b)

pub returns-clause-answer : goal.returns-clause-answer
returns-clause-answer g c =
    stores-snapshot c.in-Err.fault c.fault_of.result (is_dead c.args.spool.now) (snapshot_of c.in_ok-bytes.bytes) c.args.snapshot.now _
    c.requires.alive c.in-Err.ensures.answer c.fault_of.ensures c.in_ok-bytes.ensures.snapshot

pub returns-clause-untouched : goal.returns-clause-untouched
returns-clause-untouched g c =
    untouched-as c.in-Err.fault c.fault_of.result (c.compact.new.self ≡ c.args.spool.now) (c.compact.new.a ≡ c.args.a.now) (c.compact.new.b ≡ c.args.b.now)
    c.in-Err.ensures.untouched c.fault_of.ensures
