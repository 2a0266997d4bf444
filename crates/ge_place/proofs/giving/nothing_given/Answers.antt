use Rattle.std.proofs.Common.{◌≡◌, [], length, sym, subst, ap, ◌∙◌}
use Rattle.ge_model_place.specs.Placement.{slots_given}
use Rattle.ge_place.specs.Spots.{cells_with, no_slots_at}
use Rattle.ge_place.specs.Sums.{AreTold}
use Rattle.ge_place.proofs.Cells.{none_long, none_given}
use Rattle.ge_place.proofs.Summing.{told_none}
use Rattle.ge_place.proofs.giving.nothing_given.Goals as goal

pub returns-clause-kept : goal.returns-clause-kept
returns-clause-kept c =
    let spots = c.args.spots.now in
    let slots : c.in_ok-slots.slots ≡ no_slots_at spots = c.in_ok-slots.ensures in
    record {
      long = ap (λ ss. length ss) slots ∙ none_long spots;
      told = subst (λ sums. AreTold [] sums (cells_with spots c.in_ok-slots.slots)) (sym c.new.ensures) (subst (λ ss. AreTold [] [] (cells_with spots ss)) (sym slots) (told_none spots));
      count = ap (λ ss. slots_given (cells_with spots ss)) slots ∙ none_given spots;
    }
