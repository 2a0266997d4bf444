use Rattle.std.proofs.Common.{arith}
use Rattle.ge_master.proofs.ReadBack.{HasApplied-none, HasApplied-last, HasApplied-next, HasApplied-bad, reads-on, smaller}
use Rattle.ge_master.proofs.reading.apply_record.Goals as goal

pub entries-init : goal.entries-init
entries-init c = record { inside = omega arith; applied = HasApplied-none c.args.format c.args.cluster.now c.args.bytes.now }

pub returns-then-end-bytes : goal.returns-then-end-bytes
returns-then-end-bytes c =
    let next = rw c.in-Ok-Some.field-0-is at c.in-Ok-Some.ensures.applied in
    HasApplied-last c.args.format c.args.cluster.now c.args.bytes.now c.entries.at c.entries.cluster c.apply_next.new.cluster next.0 c.in-Ok-Some.end c.entries.invariant.applied c.entries.invariant.inside
    next.1 next.2 c.if-end-bytes.true

pub entries-smaller : goal.entries-smaller
entries-smaller c =
    let next = rw c.in-Ok-Some.field-0-is at c.in-Ok-Some.ensures.applied in
    smaller _ _ _ (reads-on c.args.format c.args.bytes.now c.entries.at next.0 c.in-Ok-Some.end (λ k. omega (arith, c.type_inv.bytes k)) c.entries.invariant.inside next.1)
    (rw c.in-Ok-Some.field-0-is at c.in-Ok-Some.ensures.within)

pub entries-preserved : goal.entries-preserved
entries-preserved c =
    let next = rw c.in-Ok-Some.field-0-is at c.in-Ok-Some.ensures.applied in
    record {
      inside = rw c.in-Ok-Some.field-0-is at c.in-Ok-Some.ensures.within;
      applied = HasApplied-next c.args.format c.args.cluster.now c.args.bytes.now c.entries.at c.entries.cluster c.apply_next.new.cluster next.0 c.in-Ok-Some.end c.entries.invariant.applied
          (λ k. omega (arith, c.type_inv.bytes k)) c.entries.invariant.inside next.1 next.2 c.if-end-bytes.false;
    }

pub returns-in-Ok-None : goal.returns-in-Ok-None
returns-in-Ok-None c =
    let none = rw c.in-Ok-None.field-0-is at c.in-Ok-None.ensures.applied in
    HasApplied-bad c.args.format c.args.cluster.now c.args.bytes.now c.entries.at c.entries.cluster none.0 c.entries.invariant.applied c.entries.invariant.inside none.1
