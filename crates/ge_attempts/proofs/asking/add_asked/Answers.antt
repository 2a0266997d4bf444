use Rattle.std.proofs.Common.{All, filter, sym, subst}
use Rattle.std.proofs.lemmas.List.Elements.{All-append, All-filter}
use Rattle.ge_capacities.specs.declared.counting.Counted.{Counted}
use Rattle.ge_attempts.specs.Common.{IsAsked}
use Rattle.ge_attempts.specs.Rests.{is_of}
use Rattle.ge_attempts.proofs.asking.add_asked.Goals as goal

pub returns : goal.returns
returns c =
    let P : Counted → Type 0 = IsAsked c.args.at.now.cluster.now c.args.at.now.groups.now c.args.job.now in
    let named = λ (more : Counted). is_of more.limit c.args.name.now in
    subst (λ limits. All P limits) (sym c.in_ok-add_all_named.ensures)
    (All-append P c.args.asked.now (filter named c.in_ok-limits.limits) c.requires (All-filter named P c.in_ok-limits.limits c.in_ok-limits.ensures))
