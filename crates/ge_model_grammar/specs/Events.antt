-- The events of a script.
use Rattle.std.specs.Prelude.{ℕ, if◌then◌else◌, List, [], ◌∷◌, map, Option, Some, None}
use Rattle.ge_model_rows.specs.EventRows.{Event, Form, Good, BadHeader, TooLong}
use Rattle.ge_model_grammar.specs.ScriptLines.{lines_of, bare, is_too_long, text_of, requests_of}
use Rattle.ge_model_grammar.specs.Header.{header_parts}

-- the event of a request that can't be read
abbrev pub unread : Form → Event
unread form = record { moment = 0; user = []; group = []; text = []; form = form }

-- the event of a request with this header and these text lines
abbrev pub with_header : Option (ℕ × List ℕ × List ℕ) → List (List ℕ) → Event
with_header None texts = unread BadHeader
with_header (Some (moment, user, group)) texts = record { moment = moment; user = user; group = group; text = text_of texts; form = Good }

-- the first line of a request is its header
abbrev pub event_in : List (List ℕ) → Event
event_in [] = unread BadHeader
event_in (header ∷ texts) = with_header (header_parts (bare header)) texts

-- a request that is too long is read no further
abbrev pub event_of : List ℕ → Event
event_of request = if is_too_long request then unread TooLong else event_in (lines_of request)

-- the events of a script, one for each request: every list of bytes is a script
unfoldable pub events_of : List ℕ → List Event
events_of script = map event_of (requests_of script)
