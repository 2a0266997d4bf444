use Rattle.std.proofs.Common.{◌∙◌, sym, ap, arith, [], ◌∷◌, length, length-append, Some}
use Rattle.ge_acctlog.proofs.Lines.{taken-none, taken-last, taken-next, taken-bad, reads-on, smaller}
use Rattle.ge_acctlog.proofs.bodies.lines_of.Goals as goal

pub walk-init : goal.walk-init
walk-init c = record { inside = omega arith; taken = rw c.new-lines.ensures (taken-none c.args.bytes.now) }

pub returns-then-end-bytes : goal.returns-then-end-bytes
returns-then-end-bytes c =
    let read = rw c.in-Ok-Some.field-0-is at c.in-Ok-Some.ensures.read in
    let found = c.in-Ok-Some.found in
    let on = reads-on c.args.bytes.now c.walk.at found.0 found.1 (λ k. omega (arith, c.type_inv.bytes k)) c.walk.invariant.inside read in
    let pushed = c.in_ok-push-in-Ok-Some.ensures.ok in (
      taken-last c.args.bytes.now c.walk.at c.walk.lines found.0 found.1 c.walk.invariant.taken c.walk.invariant.inside read c.if-end-bytes.true ∙ ap Some (sym pushed),
      omega (arith, ap length pushed, length-append c.walk.lines (found.0 ∷ [])),
      omega (arith, ap length pushed, length-append c.walk.lines (found.0 ∷ []), c.walk.invariant.taken.few, on, c.if-end-bytes.true),
    )

pub walk-smaller : goal.walk-smaller
walk-smaller c =
    let read = rw c.in-Ok-Some.field-0-is at c.in-Ok-Some.ensures.read in
    smaller _ _ _ (reads-on c.args.bytes.now c.walk.at c.in-Ok-Some.found.0 c.in-Ok-Some.found.1 (λ k. omega (arith, c.type_inv.bytes k)) c.walk.invariant.inside read)
    (rw c.in-Ok-Some.field-0-is at c.in-Ok-Some.ensures.within)

pub walk-preserved : goal.walk-preserved
walk-preserved c =
    let read = rw c.in-Ok-Some.field-0-is at c.in-Ok-Some.ensures.read in
    let found = c.in-Ok-Some.found in
    record {
      inside = rw c.in-Ok-Some.field-0-is at c.in-Ok-Some.ensures.within;
      taken = rw c.in_ok-push-in-Ok-Some.ensures.ok (taken-next c.args.bytes.now c.walk.at c.walk.lines found.0 found.1 c.walk.invariant.taken (λ k. omega (arith, c.type_inv.bytes k))
          c.walk.invariant.inside read c.if-end-bytes.false);
    }

pub returns-in-Ok-None : goal.returns-in-Ok-None
returns-in-Ok-None c =
    let none = rw c.in-Ok-None.field-0-is at c.in-Ok-None.ensures.read in
    taken-bad c.args.bytes.now c.walk.at c.walk.lines none.0 c.walk.invariant.taken c.walk.invariant.inside none.1
