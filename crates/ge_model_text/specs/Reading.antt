-- The machine that reads an amount: byte by byte, until a byte comes that no text of the form has there.
-- Numbers are cut at 2^48 as they are read, which is the first amount that is too large.
use Rattle.std.specs.Prelude.{◌≡◌, ℕ, ◌+◌, ◌-◌, ◌*◌, ◌^◌, ◌<◌, ◌≤◌, ◌==◌, ◌&&◌, Bool, true, false, List, [], ◌∷◌, ◌++◌, length, Option, Some, None, Result, Ok, Err, if◌then◌else◌, nat_lt, min, take, slice_index}
use Rattle.std.specs.Option.{option_map}
use Rattle.ge_limits.specs.Limits as bounds
use Rattle.ge_model_text.specs.declared.Form.{Form}
use Rattle.ge_model_text.specs.declared.Form.TheVariants.{Int, Time, Memory, Fixed}
use Rattle.ge_model_text.specs.declared.Progress.{Progress}
use Rattle.ge_model_text.specs.declared.Progress.TheVariants.{Start, Whole, Minutes, Seconds, Part, Multiple, Letters}
use Rattle.ge_model_text.specs.declared.ValueFault.{ValueFault}
use Rattle.ge_model_text.specs.declared.ValueFault.TheVariants.{Empty, Digit, TooLarge}
use Rattle.ge_model_text.specs.Value.{is_digit, unit_at, infinity_word, endless, factor, scaled, IsWorth}

-- the first amount that is too large
abbrev pub limit : ℕ
limit = bounds.amounts

abbrev pub amount_cut : ℕ → ℕ
amount_cut n = min n limit

-- a number after one more digit
abbrev pub appended : ℕ → ℕ → ℕ
appended n b = amount_cut (10 * n + (b - 48))

-- after a number in millionths and a letter
abbrev pub multiple : ℕ → ℕ → ℕ → Option Progress
multiple whole millionths b =
    option_map (λ times. Multiple (amount_cut (scaled (1000000 * whole + millionths) times))) (factor b)

-- after a whole number
abbrev pub after_whole : ℕ → ℕ → Option Progress
after_whole n b =
    if is_digit b then Some (Whole (appended n b))
    else (if b == 58 then Some (Minutes n 0)
    else (if b == 46 then Some (Part n 0 0)
    else multiple n 0 b))

-- after so many digits behind a point
abbrev pub after_part : ℕ → ℕ → ℕ → ℕ → Option Progress
after_part whole millionths digits b =
    if is_digit b then (if nat_lt digits 6 then Some (Part whole (amount_cut (millionths + (b - 48) * unit_at digits)) (digits + 1)) else None)
    else (if digits == 0 then None
    else multiple whole millionths b)

-- what is read after one more byte, in a text of some form
abbrev pub step : Progress → ℕ → Option Progress
step Start b =
    if is_digit b then Some (Whole (appended 0 b))
    else (if b == 58 then Some (Minutes 0 0)
    else (if b == 73 then Some (Letters 1) else None))
step (Whole n) b = after_whole n b
step (Minutes hours minutes) b =
    if is_digit b then Some (Minutes hours (appended minutes b))
    else (if b == 58 then Some (Seconds hours minutes 0) else None)
step (Seconds hours minutes seconds) b =
    if is_digit b then Some (Seconds hours minutes (appended seconds b)) else None
step (Part whole millionths digits) b = after_part whole millionths digits b
step (Multiple n) b = None
step (Letters count) b = if nat_lt count 8 && (b == slice_index infinity_word count) then Some (Letters (count + 1)) else None

-- a form has texts that are read so far
abbrev pub occurs : Progress → Form → Bool
occurs Start form = true
occurs (Whole n) form = true
occurs (Minutes hours minutes) Int = false
occurs (Minutes hours minutes) Time = true
occurs (Minutes hours minutes) Memory = false
occurs (Minutes hours minutes) Fixed = false
occurs (Seconds hours minutes seconds) Int = false
occurs (Seconds hours minutes seconds) Time = true
occurs (Seconds hours minutes seconds) Memory = false
occurs (Seconds hours minutes seconds) Fixed = false
occurs (Part whole millionths digits) Int = false
occurs (Part whole millionths digits) Time = false
occurs (Part whole millionths digits) Memory = true
occurs (Part whole millionths digits) Fixed = true
occurs (Multiple n) Int = false
occurs (Multiple n) Time = false
occurs (Multiple n) Memory = true
occurs (Multiple n) Fixed = false
occurs (Letters count) Int = false
occurs (Letters count) Time = true
occurs (Letters count) Memory = true
occurs (Letters count) Fixed = false

-- what was read, if a text of the form may begin so
abbrev pub if_occurs : Form → Option Progress → Option Progress
if_occurs form None = None
if_occurs form (Some progress) = if occurs progress form then Some progress else None

-- what is read after one more byte, in a text of the form
abbrev pub next : Form → Progress → ℕ → Option Progress
next form progress b = if_occurs form (step progress b)

-- the amount of a whole number
abbrev pub whole_amount : Form → ℕ → ℕ
whole_amount Int n = n
whole_amount Time n = n
whole_amount Memory n = n
whole_amount Fixed n = amount_cut (1000000 * n)

-- the amount of a number with a fraction
abbrev pub part_amount : Form → ℕ → ℕ → ℕ
part_amount Int whole millionths = whole
part_amount Time whole millionths = whole
part_amount Memory whole millionths = amount_cut (scaled (1000000 * whole + millionths) 1)
part_amount Fixed whole millionths = amount_cut (1000000 * whole + millionths)

-- the amount of what was read, where it is a whole text
abbrev pub amount_done : Form → Progress → Option ℕ
amount_done form Start = None
amount_done form (Whole n) = Some (whole_amount form n)
amount_done form (Minutes hours minutes) = None
amount_done form (Seconds hours minutes seconds) = Some (amount_cut (3600 * hours + 60 * minutes + seconds))
amount_done form (Part whole millionths digits) = if digits == 0 then None else Some (part_amount form whole millionths)
amount_done form (Multiple n) = Some n
amount_done form (Letters count) = if count == 8 then Some endless else None

-- the answer for a text that is worth an amount
abbrev pub bounded : ℕ → Result ℕ ValueFault
bounded amount = if nat_lt amount limit then Ok amount else Err TooLarge

-- the answer at the end of a text
abbrev pub answer : ℕ → Option ℕ → Result ℕ ValueFault
answer place None = Err (Digit place)
answer place (Some amount) = bounded amount

-- the answer to what was read and the bytes from a place on
abbrev pub reading_from : Form → Progress → ℕ → List ℕ → Result ℕ ValueFault
reading_from form progress place [] = answer place (amount_done form progress)
reading_from form progress place (b ∷ rest) =
    elim (next form progress b) [ None ↦ Err (Digit place) | Some after ↦ reading_from form after (place + 1) rest ]

-- the amount of a text of a form, or why it has none
abbrev pub reading : Form → List ℕ → Result ℕ ValueFault
reading form [] = Err Empty
reading form (b ∷ rest) = reading_from form Start 0 (b ∷ rest)

-- some text of the form begins so
abbrev pub Begins : Form → List ℕ → Type 0
Begins form front = (rest : List ℕ) × (amount : ℕ) × IsWorth form (front ++ rest) amount

-- the longest front that begins a text of the form ends before a place of the text
pub record EndsFront (form : Form) (text : List ℕ) (place : ℕ) : Type 0 where
  pub some : 0 < length text
  pub none : (amount : ℕ) → IsWorth form text amount → ⊥
  pub within : place ≤ length text
  pub begins : Begins form (take place text)
  pub longest : place < length text → Begins form (take (place + 1) text) → ⊥

-- an answer is what the grammar says of the text
abbrev pub Answers : Form → List ℕ → Result ℕ ValueFault → Type 0
Answers form text (Ok amount) = IsWorth form text amount × (amount < limit)
Answers form text (Err Empty) = text ≡ []
Answers form text (Err (Digit place)) = EndsFront form text place
Answers form text (Err TooLarge) = (amount : ℕ) × IsWorth form text amount × (limit ≤ amount)
