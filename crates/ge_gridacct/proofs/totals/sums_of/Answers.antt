use Rattle.std.specs.Prelude.{slice_get}
use Rattle.std.proofs.Common.{◌≡◌, ◌∙◌, ◌+◌, sym, ap, subst, take, Some, arith}
use Rattle.ge_listing.specs.Sums.{AreSums}
use Rattle.ge_gridacct.specs.Sums.{counted}
use Rattle.ge_listing.specs.declared.summing.Sums.{Sums}
use Rattle.ge_gridacct.proofs.Accounts.{counted_more, counted_less}
use Rattle.ge_gridacct.proofs.totals.sums_of.Goals.{then-counts, else-counts}
use Rattle.ge_gridacct.proofs.totals.sums_of.Goals as goal

pub lines-preserved : goal.lines-preserved
lines-preserved g c =
    let line = c.in-Ok-Some.line in
    let counted_ = c.in-Ok-Some.ensures.counted in
    record {
      sums = λ lines logged.
          let read : slice_get lines c.lines.k ≡ Some line = sym (rw c.in-Ok-Some.field-0-is at (c.in-Ok-Some.ensures.line lines (c.lines.invariant.rests lines logged))) in
          elim c.if-counts.branch [
            | then-counts w ↦ subst (λ (s : Sums). AreSums s (counted c.args.all c.args.name.now (take (c.lines.k + 1) lines))) (sym w.sums-is)
                (subst (λ ls. AreSums w.with_line-sums.result ls) (sym (counted_more c.args.all c.args.name.now lines c.lines.k line read (sym c.counts.ensures ∙ w.if-counts.true)))
                (w.with_line-sums.ensures.sums (counted c.args.all c.args.name.now (take c.lines.k lines)) (c.lines.invariant.sums lines logged)))
            | else-counts w ↦ subst (λ (s : Sums). AreSums s (counted c.args.all c.args.name.now (take (c.lines.k + 1) lines))) (sym w.sums-is)
                (subst (λ ls. AreSums c.lines.sums ls) (sym (counted_less c.args.all c.args.name.now lines c.lines.k line read (sym c.counts.ensures ∙ w.if-counts.false)))
                (c.lines.invariant.sums lines logged))
          ];
      rests = λ held logged. c.in-Ok-Some.ensures.rests held (c.lines.invariant.rests held logged);
      same = (c.read.ensures.same.0 ∙ c.lines.invariant.same.0, c.read.ensures.same.1 ∙ c.lines.invariant.same.1, c.read.ensures.same.2 ∙ c.lines.invariant.same.2);
      told = c.read.ensures.told ∙ c.lines.invariant.told;
      faults = omega (arith, c.read.ensures.faults, c.lines.invariant.faults);
      few = elim c.if-counts.branch [
        | then-counts w ↦ omega (arith, ap (λ (s : Sums). s.count) w.sums-is, w.with_line-sums.ensures.count, c.lines.invariant.few)
        | else-counts w ↦ omega (arith, ap (λ (s : Sums). s.count) w.sums-is, c.lines.invariant.few)
      ];
      within = omega (arith, rw c.in-Ok-Some.field-0-is at c.in-Ok-Some.ensures.counted, c.read.ensures.same.1);
    }
