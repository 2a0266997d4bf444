-- The lines and the requests of a script.
use Rattle.std.specs.Prelude.{ℕ, Bool, false, not, ◌&&◌, ◌||◌, ◌==◌, nat_eq, nat_lt, if◌then◌else◌, List, [], ◌∷◌, ◌++◌, length, drop, flat_map}
use Rattle.std.specs.List.{before_first, onto_first, list_any, starts_with}
use Rattle.ge_limits.specs.Limits as limit

abbrev pub is_line_feed : ℕ → Bool
is_line_feed b = b == 10

-- a byte in front of the lines after it: a line feed is a line of its own, any other byte begins the first of them
abbrev pub put_byte : ℕ → List (List ℕ) → List (List ℕ)
put_byte b lines = if is_line_feed b then (b ∷ []) ∷ lines else onto_first b lines

-- the lines of a script, each with the line feed that ends it, which the last one may lack
abbrev pub lines_of : List ℕ → List (List ℕ)
lines_of [] = []
lines_of (b ∷ bs) = put_byte b (lines_of bs)

-- a line's bytes without the line feed
abbrev pub bare : List ℕ → List ℕ
bare line = before_first is_line_feed line

-- whether a line begins a request: its first byte is an at sign and its second is none
abbrev pub is_header : List ℕ → Bool
is_header [] = false
is_header (b ∷ []) = b == 64
is_header (b ∷ c ∷ more) = b == 64 && not (c == 64)

-- a line in front of what follows it, which is the text before the next header and the requests from there on
abbrev pub put_line : List ℕ → List ℕ × List (List ℕ) → List ℕ × List (List ℕ)
put_line line (text, requests) = if is_header line then ([], (line ++ text) ∷ requests) else (line ++ text, requests)

-- the text that stands before the first header, and the requests from there on
abbrev pub cut_requests : List (List ℕ) → List ℕ × List (List ℕ)
cut_requests [] = ([], [])
cut_requests (line ∷ lines) = put_line line (cut_requests lines)

-- the first line begins a request, whatever it is
abbrev pub requests_in : List (List ℕ) → List (List ℕ)
requests_in [] = []
requests_in (line ∷ lines) = (line ++ (cut_requests lines).0) ∷ (cut_requests lines).1

-- the requests of a script, each with all its bytes
abbrev pub requests_of : List ℕ → List (List ℕ)
requests_of bytes = requests_in (lines_of bytes)

-- a line may have 65,536 bytes beside its line feed
abbrev pub is_long : List ℕ → Bool
is_long line = nat_lt limit.line_bytes (length (bare line))

abbrev pub has_long_line : List (List ℕ) → Bool
has_long_line lines = list_any is_long lines

-- a request may have 1,048,576 bytes, line feeds included, and no long line
abbrev pub is_too_long : List ℕ → Bool
is_too_long bytes = nat_lt limit.text_bytes (length bytes) || has_long_line (lines_of bytes)

-- a text line that begins with two at signs stands for itself without the first of them
abbrev pub unescaped : List ℕ → List ℕ
unescaped line = if starts_with nat_eq line (64 ∷ 64 ∷ []) then drop 1 line else line

abbrev pub content : List ℕ → List ℕ
content line = unescaped (bare line)

abbrev pub next_content : List ℕ → List ℕ
next_content line = 10 ∷ content line

-- the text that the lines after a header stand for: their contents, joined by line feeds
abbrev pub text_of : List (List ℕ) → List ℕ
text_of [] = []
text_of (line ∷ lines) = content line ++ flat_map next_content lines
