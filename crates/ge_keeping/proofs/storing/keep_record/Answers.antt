use Rattle.std.proofs.Common.{inl}
use Rattle.ge_spool.proofs.Settling.{still-moments}
use Rattle.ge_keeping.proofs.storing.keep_record.Goals as goal

pub returns-then-end-gt-AREA_BYTES-clause-any_moment : goal.returns-then-end-gt-AREA_BYTES-clause-any_moment
returns-then-end-gt-AREA_BYTES-clause-any_moment g c = λ state settled image_a image_b of_a of_b.
    inl (still-moments c.args.spool.now _ _ state settled image_a image_b of_a of_b)

pub returns-in_err-bytes-clause-any_moment : goal.returns-in_err-bytes-clause-any_moment
returns-in_err-bytes-clause-any_moment g c = λ state settled image_a image_b of_a of_b.
    inl (still-moments c.args.spool.now _ _ state settled image_a image_b of_a of_b)
