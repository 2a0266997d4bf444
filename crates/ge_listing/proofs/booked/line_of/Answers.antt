use Rattle.std.proofs.Common.{◌≡◌, [], ◌∷◌, IfOk, decimal, subst, ap, ◌∙◌}
use Rattle.ge_model_report.specs.Grants.{granted_slots, worded}
use Rattle.ge_listing.proofs.booked.line_of.Goals as goal

pub returns : goal.returns
returns c =
    subst (λ text. IfOk c.join_columns.result (λ line. line ≡ text))
    (λ i. worded (
    decimal (c.from.ensures i) ∷ c.bytes.ensures i ∷ c.bytes-2.ensures i ∷ c.state_at.ensures i ∷ decimal (c.from-2.ensures i)
    ∷ decimal (c.from-3.ensures i) ∷ decimal ((c.slots_of.ensures ∙ ap (λ grants. granted_slots grants) c.items.ensures) i) ∷ []))
    c.join_columns.ensures
