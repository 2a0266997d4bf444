use Rattle.std.proofs.Common.{◌==◌, sym, ◌∙◌}
use Rattle.std.proofs.lemmas.Bool.{false_from_ne_true, eqb-true, eq-eqb}
use Rattle.ge_attempts.proofs.Looked.{found_inside, found_now, found_later}
use Rattle.ge_attempts.proofs.looking.found_at.Goals as goal

pub returns-then-is_inside : goal.returns-then-is_inside
returns-then-is_inside c =
    found_inside c.args.look.now.booked.now c.args.look.now.from c.args.look.now.asked.now c.args.at.now.moment c.args.look.now.until c.args.rests.now c.args.known (sym c.is_inside.ensures ∙ c.if-is_inside.true) c.requires

pub returns-then-is_now : goal.returns-then-is_now
returns-then-is_now c =
    found_now c.args.look.now.booked.now c.args.look.now.from c.args.look.now.asked.now c.args.at.now.moment c.args.look.now.until c.args.rests.now c.found_now.result (eq-eqb c.args.look.now.from c.args.at.now.moment c.if-is_now.true) c.found_now.ensures

pub returns : goal.returns
returns c =
    let later = false_from_ne_true (c.args.look.now.from == c.args.at.now.moment) (λ e. c.if-is_now.false (eqb-true c.args.look.now.from c.args.at.now.moment e)) in
    found_later c.args.look.now.booked.now c.args.look.now.from c.args.look.now.asked.now c.args.at.now.moment c.args.look.now.until c.args.rests.now c.found_then.result later c.found_then.ensures
