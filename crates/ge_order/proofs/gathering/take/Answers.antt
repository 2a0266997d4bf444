use Rattle.std.proofs.Common.{◌≡◌, ◌++◌, ◌∙◌, append_assoc, ap, map, sym, Option, Some, IfSome, option_to_list, subst}
use Rattle.ge_order.specs.Alike.{candidates_in, opened_in, urged_in}
use Rattle.ge_order.specs.Repeated.{IsWithin, Knows, candidate_of, urged_by}
use Rattle.ge_order.specs.declared.repeating.Urged.{Urged}
use Rattle.ge_order.proofs.OneKind.{kind_of_row}
use Rattle.ge_order.proofs.gathering.take.Goals as goal

pub returns-in-Some : goal.returns-in-Some
returns-in-Some c =
    let before = c.args.gathering.now in
    let number = c.args.number in
    let row = c.args.row.now in
    let joined = c.in_ok-urgency.ensures in
    let like = subst (λ found. IfSome found (λ urgency. urged_in before.last ≡ Some (urged_by row urgency))) c.in-Some.is joined.like in
    let one = subst (λ found. opened_in c.join_last.new.last ≡ opened_in before.last ++ map (candidate_of number row) (option_to_list found)) c.in-Some.is joined.list in
    record {
      taken = record {
        list = ap (λ others. candidates_in before.lots.items ++ others) one ∙ sym (append_assoc (candidates_in before.lots.items) (opened_in before.last) _);
        bounds = λ within. within _ like;
        within = λ within. subst (λ (last : Option Urged). IsWithin before.bounds last) (sym joined.same) within;
      };
      told = λ rows units there tell knows. (
        knows.alike _ like number (kind_of_row c.args.c.now rows number row there),
        subst (λ (last : Option Urged). Knows c.args.c.now rows c.args.now before.kinds last) (sym joined.same) knows,
      );
    }
