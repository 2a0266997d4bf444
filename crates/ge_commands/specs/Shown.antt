-- The options and the ranges of the code, and those of the grammar that they stand for.
use Rattle.std.specs.Prelude.{ℕ, Bool, true, false, not, codes, List, [], ◌∷◌, ◌++◌, map, filter, Option, Some, None}
use Rattle.std.specs.Option.{option_to_list}
use Rattle.ge_model_rows.specs.TaskRows.{TaskSpan}
use Rattle.ge_model_rows.specs.Pieces.{is_one_of}
use Rattle.ge_model_grammar.specs.declared.Effect.TheVariants.{Replaces, Adds, Idle}
use Rattle.ge_model_grammar.specs.Options.{Given}
use Rattle.ge_model_grammar.specs.Shapes.{Shape}
use Rattle.ge_commands.specs.declared.shapes.OptionShape.{OptionShape}
use Rattle.ge_commands.specs.declared.shapes.Taker.{Taker}
use Rattle.ge_commands.specs.declared.shapes.Taker.TheVariants.{Submission, Alteration, Reservation}
use Rattle.ge_commands.specs.declared.reading.GivenOption.{GivenOption}
use Rattle.ge_commands.specs.declared.ranges.WideRange.{WideRange}
use Rattle.ge_commands.specs.Lent.{texts}

-- an option of a table
abbrev pub shape_shown : OptionShape → Shape
shape_shown s = record { name = s.word.now; forms = option_to_list s.first ++ option_to_list s.second; effect = s.counts_as }

-- whether a command takes an option of its table
abbrev pub takes : Taker → List ℕ → Bool
takes Submission name = not (is_one_of name (codes "-ot" ∷ []))
takes Alteration name = not (is_one_of name (codes "-t" ∷ codes "-h" ∷ codes "-ar" ∷ []))
takes Reservation name = true

-- the options of a table that a command takes
abbrev pub known_in : Taker → List Shape → List Shape
known_in taker table = filter (λ s. takes taker s.name) table

-- an option with its words
abbrev pub given_shown : GivenOption → List ℕ × List (List ℕ)
given_shown g = (g.word.now, texts (option_to_list g.first ++ option_to_list g.second))

-- options with their words
abbrev pub all_shown : List GivenOption → Given
all_shown given = map given_shown given

-- a range of numbers of any size
abbrev pub range_shown : WideRange → TaskSpan
range_shown r = record { first = r.low; last = r.high; step = r.by }

-- whether the words of all that are given of an option count
abbrev pub is_adding : Shape → Bool
is_adding s = elim s.effect [ Replaces ↦ false | Adds ↦ true | Idle ↦ false ]
