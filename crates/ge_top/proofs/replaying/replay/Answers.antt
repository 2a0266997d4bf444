use Rattle.ge_top.proofs.Replayed.{replay-done, replay-stopped, replay-unread, replay-long, replay-cut, replay-no-memory}
use Rattle.ge_top.proofs.replaying.replay.Goals as goal

pub returns-in-Ok : goal.returns-in-Ok
returns-in-Ok g c = replay-done _ _ _ _ _ _ _ _ _ _ c.in-Ok.ensures.all c.in-Ok.ensures.below

pub returns-in-Err-Stopped : goal.returns-in-Err-Stopped
returns-in-Err-Stopped g c =
    replay-stopped _ _ _ _ _ _ _ _ _ _ c.in-Err-Stopped.stop _ c.status_of_stop.ensures (rw c.in-Err-Stopped.field-0-is at c.in-Err-Stopped.ensures.part)
    (rw c.in-Err-Stopped.field-0-is at c.in-Err-Stopped.ensures.below) (rw c.in-Err-Stopped.field-0-is at c.in-Err-Stopped.ensures.full) _ _
    (rw c.in-Err-Stopped.field-0-is at c.in-Err-Stopped.ensures.blames)

pub returns-in-Err-Read : goal.returns-in-Err-Read
returns-in-Err-Read g c =
    replay-unread _ _ _ _ _ _ _ _ _ _ (rw c.in-Err-Read.field-0-is at c.in-Err-Read.ensures.part) (rw c.in-Err-Read.field-0-is at c.in-Err-Read.ensures.blames)

pub returns-in-Err-Long : goal.returns-in-Err-Long
returns-in-Err-Long g c =
    replay-long _ _ _ _ _ _ _ _ _ _ (rw c.in-Err-Long.field-0-is at c.in-Err-Long.ensures.part) (rw c.in-Err-Long.field-0-is at c.in-Err-Long.ensures.long)

pub returns-in-Err-Write : goal.returns-in-Err-Write
returns-in-Err-Write g c =
    replay-cut _ _ _ _ _ _ _ _ _ _ (rw c.in-Err-Write.field-0-is at c.in-Err-Write.ensures.cut) (rw c.in-Err-Write.field-0-is at c.in-Err-Write.ensures.below)
    (rw c.in-Err-Write.field-0-is at c.in-Err-Write.ensures.blames)

pub returns-in-Err-Memory : goal.returns-in-Err-Memory
returns-in-Err-Memory g c = replay-no-memory _ _ _ _ _ _ _ _ _ _ (rw c.in-Err-Memory.field-0-is at c.in-Err-Memory.ensures.part)
