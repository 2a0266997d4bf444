-- A script that is read in pieces: how much of it is read, and which events are to come.
use Rattle.std.specs.Prelude.{◌≡◌, ℕ, ◌+◌, ◌<◌, ◌≤◌, Bool, true, false, ◌&&◌, List, [], ◌∷◌, ◌++◌, length, drop, vec_len, Option, Some, None}
use Rattle.ge_limits.specs.Limits as limit
use Rattle.ge_rows.specs.declared.events.Event.{Event}
use Rattle.ge_model_grammar.specs.ScriptLines.{is_line_feed, is_header}
use Rattle.ge_model_grammar.specs.Events.{events_of}
use Rattle.ge_model_grammar.specs.Sources.{IsReadToEnd}
use Rattle.ge_script.specs.declared.pieces.Script.{Script}

-- whether a request ends with the first byte: a line feed with a header behind it
abbrev pub ends_request : List ℕ → Bool
ends_request [] = false
ends_request (b ∷ behind) = is_line_feed b && is_header behind

-- no request ends within the first bytes, and that can be told whatever follows: the two bytes behind each are there
abbrev pub HasPassed : ℕ → List ℕ → Type 0
HasPassed passed bytes = (k : ℕ) → k < passed → (k + 3 ≤ length bytes) × (ends_request (drop k bytes) ≡ false)

-- what was read and isn't given yet
abbrev pub held : Script → List ℕ
held s = drop s.start s.bytes.items

-- how many bytes were given, or let go since their request is too long whatever follows
abbrev pub given_count : Script → ℕ
given_count s = s.given

-- how many bytes were read
abbrev pub read_count : Script → ℕ
read_count s = s.given + length (held s)

-- how many bytes were read or are left to read, where the source tells what is left
abbrev pub total_of : ℕ → Option (List ℕ) → Option ℕ
total_of count None = None
total_of count (Some rest) = Some (count + length rest)

abbrev pub total_count : Script → Option (List ℕ) → Option ℕ
total_count s rest = total_of (read_count s) rest

-- the events to come, where the source tells what is left
abbrev pub coming_of : List ℕ → Option (List ℕ) → Option (List Event)
coming_of bytes None = None
coming_of bytes (Some rest) = Some (events_of (bytes ++ rest))

abbrev pub coming : Script → Option (List ℕ) → Option (List Event)
coming s rest = coming_of (held s) rest

-- how many bytes one read asks for
abbrev pub chunk_bytes : ℕ
chunk_bytes = 65536

-- The script is read from the source that has this left: where it has seen the end, nothing is left; and the end may still
-- come within as many bytes as a script may have. What is held is bounded by the longest request and one read.
pub record IsOver (s : Script) (rest : Option (List ℕ)) : Type 0 where
  pub room : 0 < vec_len s.chunk
  pub narrow : vec_len s.chunk ≤ chunk_bytes
  pub few : vec_len s.bytes ≤ limit.text_bytes + 2 + chunk_bytes
  pub within : s.start ≤ vec_len s.bytes
  pub passed : HasPassed s.passed (held s)
  pub below : read_count s < limit.script_bytes
  pub ended : s.ended ≡ true → IsReadToEnd rest

-- the next of the events to come, or none where there is none
abbrev pub GivesNext : Option (List Event) → Option (List Event) → Option Event → Type 0
GivesNext None None next = Unit {0}
GivesNext (Some old) (Some new) (Some event) = old ≡ event ∷ new
GivesNext (Some old) (Some new) None = (old ≡ []) × (new ≡ [])
GivesNext None (Some new) next = ⊥
GivesNext (Some old) None next = ⊥
