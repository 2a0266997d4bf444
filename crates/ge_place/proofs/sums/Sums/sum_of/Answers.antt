use Rattle.std.proofs.Common.{◌≡◌, Some, None, sym, ap, ◌∙◌}
use Rattle.std.specs.Map.{lookup}
use Rattle.std.specs.Prelude.{unwrap_or}
use Rattle.ge_model_place.specs.Bookings.{same_limit}
use Rattle.ge_place.specs.Shared.{shown}
use Rattle.ge_place.proofs.Summing.{shown_at}
use Rattle.ge_place.proofs.sums.Sums.sum_of.Goals as goal

pub returns-in-Some : goal.returns-in-Some
returns-in-Some c =
    let rows = c.self.inside.rows.entries in
    let found : lookup (same_limit c.args.limit.now.value) (shown rows) ≡ Some c.in-Some.sum.now = sym (shown_at c.args.limit.now.value rows) ∙ sym c.in-Some.ensures.value in
    rw (← c.self.view_is) (sym (ap (λ o. unwrap_or o 0) found))

pub returns-in-None : goal.returns-in-None
returns-in-None c =
    let rows = c.self.inside.rows.entries in
    let found : lookup (same_limit c.args.limit.now.value) (shown rows) ≡ None = sym (shown_at c.args.limit.now.value rows) ∙ sym c.in-None.ensures.value in
    rw (← c.self.view_is) (sym (ap (λ o. unwrap_or o 0) found))
