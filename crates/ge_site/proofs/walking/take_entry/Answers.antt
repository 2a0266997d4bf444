use Rattle.std.proofs.Common.{◌≡◌, ◌∙◌, true, suc, sym, ap, subst, arith, IfOk}
use Rattle.ge_model_rows.specs.Groups.{is_group}
use Rattle.ge_site.specs.Walks.{names_on, outcome}
use Rattle.ge_site.proofs.Going.{taken_deeper}
use Rattle.ge_site.proofs.walking.take_entry.Goals as goal

pub returns-in-Some-clause-comes : goal.returns-in-Some-clause-comes
returns-in-Some-clause-comes c =
    let place = c.args.place in
    let group : is_group c.args.entry.now ≡ true = ap is_group (sym c.bytes.ensures) ∙ sym c.is_a_group.ensures ∙ c.if-is_a_group.true in
    let there = c.in-Some.ensures in
    let deep : place.depth ≡ suc c.in-Some.deeper = omega (arith, there.0, there.1) in
    subst (λ w. IfOk c.enter.result (λ next. outcome c.args.groups.now c.enter.new.way next.entries.now next.depth c.enter.new.seen ≡ outcome c.args.groups.now c.args.way.now place.entries.now place.depth w))
    (sym (taken_deeper c.args.groups.now (names_on c.args.way.now) c.args.seen.now c.args.entry.now place.depth c.in-Some.deeper group deep)) c.enter.ensures.comes
