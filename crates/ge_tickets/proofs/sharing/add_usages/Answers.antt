use Rattle.std.proofs.Common.{◌≡◌, sym, ap, ◌∙◌, fold}
use Rattle.ge_base.specs.Fixed.{cut_sum}
use Rattle.ge_model_order.specs.ShareTables.{raised_along}
use Rattle.ge_tickets.specs.Found.{line_by}
use Rattle.ge_tickets.specs.Listed.{with_usage_by}
use Rattle.ge_tickets.proofs.Summed.{summed_more}
use Rattle.ge_tickets.proofs.sharing.add_usages.Goals as goal

pub loop-key-preserved-then-is_of : goal.loop-key-preserved-then-is_of
loop-key-preserved-then-is_of c =
    let held = c.is_of.ensures c.if-is_of.true in
    let epoch = c.args.now_epoch in
    let finder = c.args.finder.now in
    let at = c.loop-key in
    let rest = c.next.new.self in
    let own : at.line.now ≡ line_by finder c.in-Some.key.now.0 c.in-Some.key.now.1 = at.invariant.own held.0 ∙ (λ i. line_by finder (held.1 i) (held.2 i)) in
    record {
      own = at.invariant.own;
      summed =
          ap (λ sum. fold (with_usage_by epoch finder) (raised_along at.usage at.line.now sum) rest) (c.sum_of-sum.ensures ∙ ap (λ more. cut_sum at.sum more) c.decay-more.ensures)
          ∙ sym (summed_more epoch finder at.usage at.line.now at.sum c.in-Some.key.now c.in-Some.amount.now rest own)
          ∙ ap (λ rows. fold (with_usage_by epoch finder) (raised_along at.usage at.line.now at.sum) rows) (sym c.in-Some.ensures.steps)
          ∙ at.invariant.summed;
    }
