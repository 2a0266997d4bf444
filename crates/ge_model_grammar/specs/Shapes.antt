-- The options of qsub, qalter and qrsub, and how they are read.
use Rattle.std.specs.Prelude.{ℕ, zero, suc, Bool, true, false, not, if◌then◌else◌, List, [], ◌∷◌, ◌++◌, length, take, filter, filter_map, find, fold, Option, Some, None, option_map, unwrap_or, codes}
use Rattle.ge_rows.specs.Keyed.{text_eq}
use Rattle.ge_model_rows.specs.Pieces.{is_one_of}
use Rattle.ge_model_grammar.specs.declared.WordForm.{WordForm}
use Rattle.ge_model_grammar.specs.declared.WordForm.TheVariants.{JobName, Asked, Queues, Name, Slots, Tasks, Jobs, Signed, Digits, Answer, Account, Any}
use Rattle.ge_model_grammar.specs.declared.Effect.{Effect}
use Rattle.ge_model_grammar.specs.declared.Effect.TheVariants.{Replaces, Adds, Idle}
use Rattle.ge_model_grammar.specs.Lines.{begins_with}
use Rattle.ge_model_grammar.specs.Options.{Given}
use Rattle.ge_model_grammar.specs.Forms.{have_forms}

-- an option: its name, what its words must be, and what it counts for
pub record Shape : Type 0 where
  pub name : List ℕ
  pub forms : List WordForm
  pub effect : Effect

-- an option of a name, words and an effect
abbrev pub shape : List ℕ → List WordForm → Effect → Shape
shape name forms effect = record { name = name; forms = forms; effect = effect }

-- the options of jobs, in the order in which a command keeps them
abbrev pub shapes : List Shape
shapes =
    shape (codes "-N") (JobName ∷ []) Replaces
    ∷ shape (codes "-l") (Asked ∷ []) Adds
    ∷ shape (codes "-q") (Queues ∷ []) Replaces
    ∷ shape (codes "-pe") (Name ∷ Slots ∷ []) Replaces
    ∷ shape (codes "-t") (Tasks ∷ []) Replaces
    ∷ shape (codes "-hold_jid") (Jobs ∷ []) Replaces
    ∷ shape (codes "-hold_jid_ad") (Jobs ∷ []) Replaces
    ∷ shape (codes "-h") [] Replaces
    ∷ shape (codes "-p") (Signed ∷ []) Replaces
    ∷ shape (codes "-js") (Digits ∷ []) Replaces
    ∷ shape (codes "-a") (Digits ∷ []) Replaces
    ∷ shape (codes "-dl") (Digits ∷ []) Replaces
    ∷ shape (codes "-ot") (Digits ∷ []) Replaces
    ∷ shape (codes "-P") (Name ∷ []) Replaces
    ∷ shape (codes "-R") (Answer ∷ []) Replaces
    ∷ shape (codes "-A") (Account ∷ []) Replaces
    ∷ shape (codes "-ar") (Digits ∷ []) Replaces
    ∷ shape (codes "-cwd") [] Idle
    ∷ shape (codes "-V") [] Idle
    ∷ shape (codes "-hard") [] Idle
    ∷ shape (codes "-o") (Any ∷ []) Idle
    ∷ shape (codes "-e") (Any ∷ []) Idle
    ∷ shape (codes "-j") (Any ∷ []) Idle
    ∷ shape (codes "-S") (Any ∷ []) Idle
    ∷ shape (codes "-b") (Any ∷ []) Idle
    ∷ shape (codes "-r") (Any ∷ []) Idle
    ∷ shape (codes "-m") (Any ∷ []) Idle
    ∷ shape (codes "-M") (Any ∷ []) Idle
    ∷ shape (codes "-v") (Any ∷ []) Idle
    ∷ shape (codes "-wd") (Any ∷ []) Idle
    ∷ []

-- all options but these
abbrev pub shapes_without : List (List ℕ) → List Shape
shapes_without names = filter (λ s. not (is_one_of s.name names)) shapes

-- qsub takes all but -ot
abbrev pub qsub_shapes : List Shape
qsub_shapes = shapes_without (codes "-ot" ∷ [])

-- qalter takes all but -t, -h and -ar
abbrev pub qalter_shapes : List Shape
qalter_shapes = shapes_without (codes "-t" ∷ codes "-h" ∷ codes "-ar" ∷ [])

-- qrsub has its own: -a and -e are moments, -d is how long it lasts
abbrev pub qrsub_shapes : List Shape
qrsub_shapes =
    shape (codes "-N") (JobName ∷ []) Replaces
    ∷ shape (codes "-l") (Asked ∷ []) Adds
    ∷ shape (codes "-q") (Queues ∷ []) Replaces
    ∷ shape (codes "-pe") (Name ∷ Slots ∷ []) Replaces
    ∷ shape (codes "-a") (Digits ∷ []) Replaces
    ∷ shape (codes "-e") (Digits ∷ []) Replaces
    ∷ shape (codes "-d") (Any ∷ []) Replaces
    ∷ []

-- the option that a word names
abbrev pub shape_named : List Shape → List ℕ → Option Shape
shape_named known word = find (λ s. text_eq s.name word) known

-- an option's words, at the front of these, if they are as they must be
abbrev pub words_for : List (List ℕ) → Shape → Option (List (List ℕ))
words_for words s =
    let taken = take (length s.forms) words in if have_forms s.forms taken then Some taken else None

-- the words of the option that a word names, at the front of those behind it
abbrev pub words_behind : List Shape → List ℕ → List (List ℕ) → Option (List (List ℕ))
words_behind known word words = elim (shape_named known word) [ None ↦ None | Some s ↦ words_for words s ]

-- the options read so far and those at the front of words, of which the first `taken` belong to the last one read, and the
-- words behind them: the first that doesn't begin with - ends the options
abbrev pub options_from : List Shape → Given → ℕ → List (List ℕ) → Option (Given × List (List ℕ))
options_from known so_far taken [] = Some (so_far, [])
options_from known so_far (suc taken) (word ∷ words) = options_from known so_far taken words
options_from known so_far zero (word ∷ words) =
    elim (begins_with (codes "-") word) [
      | false ↦ Some (so_far, word ∷ words)
      | true ↦ elim (words_behind known word words) [
        | None ↦ None
        | Some given ↦ options_from known (so_far ++ (word, given) ∷ []) (length given) words
      ]
    ]

-- the options at the front of words as they are given, each with its words, and the words behind them
unfoldable pub read_options : List Shape → List (List ℕ) → Option (Given × List (List ℕ))
read_options known words = options_from known [] 0 words

-- the words of an option, after one more that was given
abbrev pub words_after : Shape → Option (List (List ℕ)) → List ℕ × List (List ℕ) → Option (List (List ℕ))
words_after s so_far given =
    if text_eq s.name given.0 then Some (elim s.effect [ Replaces ↦ given.1 | Adds ↦ unwrap_or so_far [] ++ given.1 | Idle ↦ given.1 ]) else so_far

-- the words that count of an option: the last ones given, or all where they add
abbrev pub words_in : Given → Shape → Option (List (List ℕ))
words_in given s = fold (words_after s) None given

-- whether an option has an effect
abbrev pub is_effective : Shape → Bool
is_effective s = elim s.effect [ Replaces ↦ true | Adds ↦ true | Idle ↦ false ]

-- an option with its words, where it is given
abbrev pub item_in : Given → Shape → Option (List ℕ × List (List ℕ))
item_in given s = option_map (λ words. (s.name, words)) (words_in given s)

-- the options of these that count, each once
abbrev pub merged_by : List Shape → Given → Given
merged_by known given = filter_map (item_in given) (filter is_effective known)

-- the options of a job that count, each once: those of the command line, given behind the script's, replace them
unfoldable pub merged_options : Given → Given
merged_options given = merged_by shapes given
