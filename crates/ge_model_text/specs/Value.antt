-- Which texts are worth an amount, and which (sge_types, complex). Zeros in front change nothing. An amount
-- isn't bounded here: a reader refuses one that isn't below 2^48.
use Rattle.std.specs.Prelude.{◌≡◌, ℕ, ◌+◌, ◌-◌, ◌*◌, ◌/◌, ◌^◌, ◌<◌, ◌≤◌, ◌&&◌, Bool, IsTrue, List, [], ◌∷◌, ◌++◌, length, Option, Some, None, nat_le, ◌==◌, if◌then◌else◌, codes, slice_index}
use Rattle.std.specs.List.{list_all}
use Rattle.ge_limits.specs.Limits as limit
use Rattle.ge_model_text.specs.declared.Form.{Form}
use Rattle.ge_model_text.specs.declared.Form.TheVariants.{Int, Time, Memory, Fixed}

abbrev pub is_digit : ℕ → Bool
is_digit b = nat_le 48 b && nat_le b 57

-- the number of the digits read so far, and these
abbrev pub number_with_digits : ℕ → List ℕ → ℕ
number_with_digits n [] = n
number_with_digits n (b ∷ digits) = number_with_digits (10 * n + (b - 48)) digits

-- what digits count, 0 where there are none
abbrev pub number : List ℕ → ℕ
number digits = number_with_digits 0 digits

-- only digits, perhaps none
abbrev pub AreDigits : List ℕ → Type 0
AreDigits text = IsTrue (list_all is_digit text)

-- digits, at least one
pub record IsNumber (text : List ℕ) : Type 0 where
  pub digits : AreDigits text
  pub some : 0 < length text

-- digits
pub record IsInt (text : List ℕ) (amount : ℕ) : Type 0 where
  pub digits : IsNumber text
  pub value : amount ≡ number text

-- how many millionths a digit at a place after the point counts
abbrev pub unit_at : ℕ → ℕ
unit_at place = slice_index (100000 ∷ 10000 ∷ 1000 ∷ 100 ∷ 10 ∷ 1 ∷ []) place

-- the millionths of the digits from a place after the point on
abbrev pub millionths_from : ℕ → List ℕ → ℕ
millionths_from place [] = 0
millionths_from place (b ∷ digits) = (b - 48) * unit_at place + millionths_from (place + 1) digits

-- digits, a point and one to six digits: `.` is 46
pub record IsFraction (text : List ℕ) (millionths : ℕ) : Type 0 where
  pub whole : List ℕ
  pub part : List ℕ
  pub spelled : text ≡ whole ++ 46 ∷ part
  pub whole_digits : IsNumber whole
  pub part_digits : IsNumber part
  pub short : length part ≤ 6
  pub value : millionths ≡ 1000000 * number whole + millionths_from 0 part

-- digits with or without a fraction, in millionths
pub data IsFixed (text : List ℕ) (millionths : ℕ) : Type 0 where
  WithoutFraction : IsNumber text → millionths ≡ 1000000 * number text → IsFixed text millionths
  WithFraction : IsFraction text millionths → IsFixed text millionths

-- three groups of digits, each of which may be empty, and two colons: hours, minutes and seconds
pub record IsClock (text : List ℕ) (seconds : ℕ) : Type 0 where
  pub hours : List ℕ
  pub minutes : List ℕ
  pub rest : List ℕ
  pub spelled : text ≡ hours ++ 58 ∷ (minutes ++ 58 ∷ rest)
  pub hours_digits : AreDigits hours
  pub minutes_digits : AreDigits minutes
  pub rest_digits : AreDigits rest
  pub value : seconds ≡ 3600 * number hours + 60 * number minutes + number rest

-- `INFINITY`
abbrev pub infinity_word : List ℕ
infinity_word = codes "INFINITY"

-- what INFINITY is worth, and the greatest amount
abbrev pub endless : ℕ
endless = limit.amounts - 1

-- seconds, a clock, or INFINITY
pub data IsTime (text : List ℕ) (seconds : ℕ) : Type 0 where
  InSeconds : IsInt text seconds → IsTime text seconds
  ByTheClock : IsClock text seconds → IsTime text seconds
  WithoutEnd : text ≡ infinity_word → seconds ≡ endless → IsTime text seconds

-- what a letter behind a number multiplies it by: k K m M g G
abbrev pub factor : ℕ → Option ℕ
factor b =
    if b == 107 then Some 1000
    else (if b == 75 then Some 1024
    else (if b == 109 then Some (1000 * 1000)
    else (if b == 77 then Some (1024 * 1024)
    else (if b == 103 then Some (1000 * 1000 * 1000)
    else (if b == 71 then Some (1024 * 1024 * 1024) else None)))))

-- a number of bytes that is given in millionths, times a factor, rounded down
abbrev pub scaled : ℕ → ℕ → ℕ
scaled millionths times = millionths * times / 1000000

-- a number with or without a fraction, and a letter
pub record IsMultiple (text : List ℕ) (bytes : ℕ) : Type 0 where
  pub front : List ℕ
  pub letter : ℕ
  pub millionths : ℕ
  pub times : ℕ
  pub spelled : text ≡ front ++ letter ∷ []
  pub fixed : IsFixed front millionths
  pub multiplier : factor letter ≡ Some times
  pub value : bytes ≡ scaled millionths times

-- bytes with or without a fraction, perhaps with a letter, or INFINITY
pub data IsMemory (text : List ℕ) (bytes : ℕ) : Type 0 where
  InBytes : (millionths : ℕ) → IsFixed text millionths → bytes ≡ scaled millionths 1 → IsMemory text bytes
  InMultiples : IsMultiple text bytes → IsMemory text bytes
  WithoutLimit : text ≡ infinity_word → bytes ≡ endless → IsMemory text bytes

-- a text has a form and is worth an amount
abbrev pub IsWorth : Form → List ℕ → ℕ → Type 0
IsWorth Int text amount = IsInt text amount
IsWorth Time text amount = IsTime text amount
IsWorth Memory text amount = IsMemory text amount
IsWorth Fixed text amount = IsFixed text amount
