use Rattle.std.proofs.Common.{List, ap, ◌∙◌, subst}
use Rattle.ge_model_grammar.specs.Shapes.{Shape, read_options}
use Rattle.ge_commands.specs.declared.shapes.Taker.TheVariants.{Reservation}
use Rattle.ge_commands.specs.Lent.{texts, GivesAs}
use Rattle.ge_commands.specs.Shown.{known_in, all_shown}
use Rattle.ge_commands.proofs.KnownOptions.{of_reservations}
use Rattle.ge_commands.proofs.reading.read_reservation_options.Goals as goal

pub returns : goal.returns
returns c =
    subst (λ (known : List Shape). GivesAs (λ front. (all_shown front.0.items, texts front.1.now)) c.read_front.result (read_options known (texts c.args.words.now)))
    (ap (λ (table : List Shape). known_in Reservation table) c.reservation_shapes.ensures ∙ of_reservations) c.read_front.ensures
