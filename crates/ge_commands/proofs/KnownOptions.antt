-- The options that a command takes.
use Rattle.std.proofs.Common.{◌≡◌, refl}
use Rattle.ge_model_grammar.specs.Shapes.{shapes, qsub_shapes, qalter_shapes, qrsub_shapes}
use Rattle.ge_commands.specs.declared.shapes.Taker.TheVariants.{Submission, Alteration, Reservation}
use Rattle.ge_commands.specs.Shown.{known_in}

pub of_submissions : known_in Submission shapes ≡ qsub_shapes
of_submissions = refl

pub of_alterations : known_in Alteration shapes ≡ qalter_shapes
of_alterations = refl

pub of_reservations : known_in Reservation qrsub_shapes ≡ qrsub_shapes
of_reservations = refl
