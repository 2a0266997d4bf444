-- The event of a request's payload: a line with a user and a group, one blank between, and the text behind it.
use Rattle.std.specs.Prelude.{ℕ, Bool, ◌&&◌, if◌then◌else◌, List}
use Rattle.std.specs.List.{before_first, after_first, list_any}
use Rattle.ge_model_rows.specs.EventRows.{Event, Good, BadHeader, TooLong}
use Rattle.ge_model_grammar.specs.Events.{unread}
use Rattle.ge_model_grammar.specs.Header.{header_field, after_field}
use Rattle.ge_model_grammar.specs.ScriptLines.{is_line_feed, is_too_long}
use Rattle.ge_model_grammar.specs.Names.{is_name}

-- whether a payload has a first line, with its line feed
abbrev pub has_first_line : List ℕ → Bool
has_first_line payload = list_any is_line_feed payload

-- the first line of a payload, and the text behind it
abbrev pub line_of_names : List ℕ → List ℕ
line_of_names payload = before_first is_line_feed payload

abbrev pub text_behind_names : List ℕ → List ℕ
text_behind_names payload = after_first is_line_feed payload

-- a user, a group and a text, at a moment; both must be names
abbrev pub with_names : ℕ → List ℕ → List ℕ → List ℕ → Event
with_names moment user group text =
    if is_name user && is_name group then record { moment = moment; user = user; group = group; text = text; form = Good } else unread BadHeader

-- a payload that has a first line
abbrev pub with_first_line : ℕ → List ℕ → Event
with_first_line moment payload =
    with_names moment (header_field (line_of_names payload)) (after_field (line_of_names payload)) (text_behind_names payload)

-- a payload that isn't too long; one without a first line has no user
abbrev pub event_within : ℕ → List ℕ → Event
event_within moment payload = if has_first_line payload then with_first_line moment payload else unread BadHeader

-- a payload that is too long, as a request of a script may be, is read no further
abbrev pub event_in_payload : ℕ → List ℕ → Event
event_in_payload moment payload = if is_too_long payload then unread TooLong else event_within moment payload
