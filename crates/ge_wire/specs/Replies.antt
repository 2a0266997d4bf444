-- The reply that a text is.
use Rattle.std.specs.Prelude.{◌≡◌, ◌≢◌, ℕ, ◌<◌, ◌==◌, ◌&&◌, nat_lt, true, false, if◌then◌else◌, List, [], ◌∷◌, ◌++◌, length, decimal, Option, Some, None, option_map, Result, Ok, Err}
use Rattle.ge_collections.specs.Keyed.{text_eq}
use Rattle.ge_model_rows.specs.EventRows.{Reply}
use Rattle.ge_model_rows.specs.Pieces.{before_byte, number_of}
use Rattle.ge_model_rows.proofs.Digits.{AreWithout}
use Rattle.ge_model_core.specs.Render.{rendered}
use Rattle.ge_wire.specs.declared.parsing.ReplyFault.{ReplyFault}
use Rattle.ge_wire.specs.declared.parsing.ReplyFault.TheVariants.{Bad, NoMemory}

-- the lines of a text, each with a line feed behind it, where these bytes of the first one were read; none where bytes stand behind the last
abbrev pub lines_from : List ℕ → List ℕ → Option (List (List ℕ))
lines_from [] [] = Some []
lines_from (b ∷ line) [] = None
lines_from line (b ∷ text) = elim (b == 10) [ true ↦ option_map (λ lines. line ∷ lines) (lines_from [] text) | false ↦ lines_from (line ++ b ∷ []) text ]

-- the first line of a reply of a code and so many lines
abbrev pub reply_head : ℕ → ℕ → List ℕ
reply_head code count = decimal code ++ 32 ∷ decimal count

-- a reply whose first line would be this one, so that it needs no rule of its own on zeros, blanks and counts
abbrev pub reply_with : ℕ → List ℕ → List (List ℕ) → Option Reply
reply_with code head lines =
    if nat_lt code 256 && text_eq head (reply_head code (length lines)) then Some (record { code = code; lines = lines }) else None

-- the code is what stands before the first blank
abbrev pub reply_of : Option (List (List ℕ)) → Option Reply
reply_of None = None
reply_of (Some []) = None
reply_of (Some (head ∷ lines)) = reply_with (number_of (before_byte 32 head)) head lines

-- the reply that a text is, if it is one
unfoldable pub reply_in : List ℕ → Option Reply
reply_in text = reply_of (lines_from [] text)

-- a reply that a text can tell: its code is a byte, and no line has a line feed
pub record IsReply (r : Reply) : Type 0 where
  pub code : r.code < 256
  pub lines : AreWithout 10 r.lines

-- what reading a reply answers
abbrev pub Reads : Result Reply ReplyFault → Option Reply → Type 0
Reads (Ok r) read = read ≡ Some r
Reads (Err Bad) read = read ≡ None
Reads (Err NoMemory) read = Unit {0}

-- the reply that is written as the text, or there is none
abbrev pub ParsesReply : Result Reply ReplyFault → List ℕ → Type 0
ParsesReply (Ok r) text = (rendered r ≡ text) × AreWithout 10 r.lines
ParsesReply (Err Bad) text = (r : Reply) → IsReply r → rendered r ≢ text
ParsesReply (Err NoMemory) text = Unit {0}
