-- The words after the program's name, as lists of bytes.
use Rattle.std.specs.Prelude.{ℕ, ◌≤◌, not, ◌&&◌, ◌==◌, nat_le, if◌then◌else◌, List, [], ◌∷◌, slice_index, Option, Some, None, unwrap_or, codes}
use Rattle.std.specs.Option.{option_map}
use Rattle.ge_collections.specs.Keyed.{text_eq}
use Rattle.ge_model_rows.specs.Pieces.{is_digits, number_of}
use Rattle.ge_model_program.specs.declared.Word.{Word}
use Rattle.ge_model_program.specs.declared.Word.TheVariants.{Simulate, Replay, Serve, Status, Generate, Trial}

-- a decimal number from 1 to a greatest one, without sign or leading zero
abbrev pub number_to : ℕ → List ℕ → Option ℕ
number_to greatest text =
    if is_digits text && not (slice_index text 0 == 48) && nat_le 1 (number_of text) && nat_le (number_of text) greatest then Some (number_of text) else None

-- how many events a batch may have
abbrev pub batch_events : ℕ
batch_events = 1024

-- a batch has an event at least
abbrev pub HasEvents : Word → Type 0
HasEvents Simulate = Unit {0}
HasEvents (Replay batch) = 1 ≤ batch
HasEvents (Serve count) = Unit {0}
HasEvents Status = Unit {0}
HasEvents (Generate jobs) = Unit {0}
HasEvents (Trial jobs) = Unit {0}

-- what one word says
abbrev pub word_alone : List ℕ → Option Word
word_alone word =
    if text_eq word (codes "simulate") then Some Simulate
    else (if text_eq word (codes "replay") then Some (Replay 1)
    else (if text_eq word (codes "status") then Some Status else None))

-- the greatest port, and how many connections may be served
abbrev pub last_port : ℕ
last_port = 65535

abbrev pub served_connections : ℕ
served_connections = 1000000

-- what a word says where a port is named: the port is the door's, so it has no part in it
abbrev pub at_port : Option ℕ → Option Word → Option Word
at_port None word = None
at_port (Some port) word = word

abbrev pub word_at_port : List ℕ → List ℕ → Option Word
word_at_port port number = at_port (number_to last_port port) (option_map Serve (number_to served_connections number))

-- the port that the words name where connections are served, and 0 elsewhere
abbrev pub port_served : List ℕ → List ℕ → ℕ
port_served word port = if text_eq word (codes "serve") then unwrap_or (number_to last_port port) 0 else 0

abbrev pub port_in_words : List (List ℕ) → ℕ
port_in_words [] = 0
port_in_words (word ∷ []) = 0
port_in_words (word ∷ port ∷ []) = 0
port_in_words (word ∷ port ∷ number ∷ []) = port_served word port
port_in_words (word ∷ port ∷ number ∷ other ∷ others) = 0

-- what a word says with an option of it, or a port, and a number
abbrev pub word_with_number : List ℕ → List ℕ → List ℕ → Option Word
word_with_number word option number =
    if text_eq word (codes "serve") then word_at_port option number
    else (if text_eq word (codes "replay") && text_eq option (codes "-batch") then option_map Replay (number_to batch_events number) else None)

-- how many jobs a script that is made up may have
abbrev pub made_up_jobs : ℕ
made_up_jobs = 100000

-- what a word says with a number
abbrev pub word_with_jobs : List ℕ → List ℕ → Option Word
word_with_jobs word jobs =
    if text_eq word (codes "generate") then option_map Generate (number_to made_up_jobs jobs)
    else (if text_eq word (codes "trial") then option_map Trial (number_to made_up_jobs jobs) else None)

-- what the words say; other words are a faulty command line
abbrev pub word_of : List (List ℕ) → Option Word
word_of [] = None
word_of (word ∷ []) = word_alone word
word_of (word ∷ jobs ∷ []) = word_with_jobs word jobs
word_of (word ∷ option ∷ number ∷ []) = word_with_number word option number
word_of (word ∷ option ∷ number ∷ other ∷ others) = None
