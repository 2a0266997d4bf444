use Rattle.std.proofs.Common.{inl}
use Rattle.ge_spool.proofs.Settling.{still-moments}
use Rattle.ge_master.proofs.storing.store_snapshot.Goals as goal

pub returns-in_err-snapshot-clause-any_moment : goal.returns-in_err-snapshot-clause-any_moment
returns-in_err-snapshot-clause-any_moment g c = λ state settled image_a image_b of_a of_b.
    inl (still-moments c.args.spool.now _ _ state settled image_a image_b of_a of_b)
