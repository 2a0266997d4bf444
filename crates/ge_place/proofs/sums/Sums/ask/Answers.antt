use Rattle.std.proofs.Common.{ap, ◌∙◌, arith}
use Rattle.std.specs.BTreeMap.Entry.{map_with_value}
use Rattle.std.specs.Prelude.{unwrap_or}
use Rattle.ge_place.proofs.Summing.{sum_grown}
use Rattle.ge_place.proofs.sums.Sums.ask.Goals as goal

pub returns : goal.returns
returns c =
    let sum = c.saturating_add.result in
    λ other.
    let p = sum_grown c.args.limit.now c.in_ok-limit.limit c.args.amount c.or_insert-sum.result.now sum c.self.inside.rows.entries (map_with_value c.in_ok-entry.entry sum).entries c.args.self.now
    c.in_ok-limit.ensures.cases c.self.view_is (c.or_insert-sum.ensures.value ∙ ap (λ o. unwrap_or o 0) c.in_ok-entry.ensures.value) (omega (arith, c.saturating_add.ensures)) (c.in_ok-entry.ensures.update.0 sum).0 other in
    grind (arith, p)
