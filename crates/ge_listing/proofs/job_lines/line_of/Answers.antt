use Rattle.std.proofs.Common.{◌≡◌, [], ◌∷◌, IfOk, decimal, subst}
use Rattle.ge_model_report.specs.Grants.{worded}
use Rattle.ge_listing.proofs.job_lines.line_of.Goals as goal

pub returns : goal.returns
returns c =
    let shown = c.args.shown.now in
    subst (λ text. IfOk c.join_columns.result (λ line. line ≡ text))
    (λ i. worded (
    decimal (c.from.ensures i) ∷ c.bytes.ensures i ∷ c.bytes-2.ensures i ∷ shown.state.now ∷ decimal (c.from-2.ensures i) ∷ shown.queue.now ∷ decimal shown.slots ∷ shown.tasks.now
    ∷ []))
    c.join_columns.ensures
