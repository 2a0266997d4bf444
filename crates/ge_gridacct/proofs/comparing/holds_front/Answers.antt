use Rattle.std.specs.Prelude.{slice_get}
use Rattle.std.proofs.Common.{◌≡◌, ◌∙◌, sym, ap, get_or, Some, refl, arith}
use Rattle.ge_gridacct.proofs.Fronts.{alike_more}
use Rattle.ge_gridacct.proofs.comparing.holds_front.Goals as goal

pub lines-preserved : goal.lines-preserved
lines-preserved g c =
    let line = c.in-Ok-Some.line in
    let same : line ≡ c.index-lines-k.result = c.if-not-is_same.ensures.0 refl in
    record {
      alike = λ held logged.
          let read : slice_get held c.lines.k ≡ Some line = sym (rw c.in-Ok-Some.field-0-is at (c.in-Ok-Some.ensures.line held (c.lines.invariant.rests held logged))) in
          alike_more held c.args.lines.now c.lines.k line (c.lines.invariant.alike held logged) read (omega (arith, c.if-k-lines.false))
          (ap (λ x. get_or c.args.lines.now c.lines.k x) same ∙ sym c.index-lines-k.is ∙ sym same);
      rests = λ held logged. c.in-Ok-Some.ensures.rests held (c.lines.invariant.rests held logged);
      same = (c.read.ensures.same.0 ∙ c.lines.invariant.same.0, c.read.ensures.same.1 ∙ c.lines.invariant.same.1, c.read.ensures.same.2 ∙ c.lines.invariant.same.2);
      told = c.read.ensures.told ∙ c.lines.invariant.told;
      faults = omega (arith, c.read.ensures.faults, c.lines.invariant.faults);
      within = omega (arith, c.if-k-lines.false);
    }
