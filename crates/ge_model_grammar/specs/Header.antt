-- The header of a request.
use Rattle.std.specs.Prelude.{ℕ, ◌+◌, ◌-◌, ◌*◌, ◌^◌, Bool, false, not, ◌&&◌, ◌||◌, ◌==◌, nat_lt, if◌then◌else◌, List, [], ◌∷◌, Option, Some, None, fold}
use Rattle.std.specs.List.{list_all, before_first, after_first}
use Rattle.std.specs.Char.{is_ascii_digit}
use Rattle.ge_limits.specs.Limits as limit
use Rattle.ge_model_text.specs.Words.{is_blank}
use Rattle.ge_model_grammar.specs.Names.{is_name}

-- digits, without a leading zero but in zero itself
abbrev pub is_decimal : List ℕ → Bool
is_decimal [] = false
is_decimal (d ∷ []) = is_ascii_digit d
is_decimal (d ∷ e ∷ more) = not (d == 48) && list_all is_ascii_digit (d ∷ e ∷ more)

-- what the digits of a decimal number are worth
abbrev pub decimal_value : List ℕ → ℕ
decimal_value digits = fold (λ n d. 10 * n + (d - 48)) 0 digits

-- a moment is a decimal number of seconds below 2^40
abbrev pub moment_of : List ℕ → Option ℕ
moment_of text = if is_decimal text && nat_lt (decimal_value text) limit.moments then Some (decimal_value text) else None

-- the moment, the user and the group that the fields of a header name
abbrev pub fields_of : Option ℕ → List ℕ → List ℕ → Option (ℕ × List ℕ × List ℕ)
fields_of None user group = None
fields_of (Some moment) user group = if is_name user && is_name group then Some (moment, user, group) else None

-- what stands before the first blank, and after it
abbrev pub header_field : List ℕ → List ℕ
header_field text = before_first is_blank text

abbrev pub after_field : List ℕ → List ℕ
after_field text = after_first is_blank text

-- a header is an at sign, a moment, a user and a group, with one blank between
abbrev pub header_parts : List ℕ → Option (ℕ × List ℕ × List ℕ)
header_parts [] = None
header_parts (b ∷ text) =
    if b == 64 then fields_of (moment_of (header_field text)) (header_field (after_field text)) (after_field (after_field text)) else None
