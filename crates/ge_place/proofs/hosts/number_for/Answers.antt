use Rattle.std.proofs.Common.{ap, ◌∙◌, arith}
use Rattle.std.specs.Prelude.{unwrap_or}
use Rattle.ge_place.proofs.hosts.number_for.Goals as goal

pub returns-clause-number : goal.returns-clause-number
returns-clause-number c = c.or_insert-number.ensures.value ∙ ap (λ o. unwrap_or o c.args.next) c.in_ok-entry.ensures.value

pub returns-clause-kept : goal.returns-clause-kept
returns-clause-kept c = λ name.
    let p = (c.in_ok-entry.ensures.update.0 c.or_insert-number.result.now).0 (record { ref_ptr = (0, 0); now = name }) in
    grind (arith, p)
