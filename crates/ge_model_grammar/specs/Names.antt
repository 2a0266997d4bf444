-- Names and job names.
use Rattle.std.specs.Prelude.{ℕ, Bool, false, not, ◌&&◌, ◌||◌, ◌==◌, nat_le, List, [], ◌∷◌, length}
use Rattle.std.specs.List.{list_all}
use Rattle.std.specs.Char.{is_ascii_digit, is_ascii_uppercase, is_ascii_lowercase}
use Rattle.std.specs.Int.{is_in_range}

-- letters, digits, underscore, dash, dot and plus
abbrev pub is_name_byte : ℕ → Bool
is_name_byte b = is_ascii_lowercase b || is_ascii_uppercase b || is_ascii_digit b || b == 95 || b == 45 || b == 46 || b == 43

-- a name has 1 to 255 such bytes
abbrev pub is_name : List ℕ → Bool
is_name bytes = nat_le 1 (length bytes) && nat_le (length bytes) 255 && list_all is_name_byte bytes

-- what no job name may have (qsub, -N): a slash, a colon, an at sign, a backslash, a star, a question mark or a quote
abbrev pub is_barred : ℕ → Bool
is_barred b = b == 47 || b == 58 || b == 64 || b == 92 || b == 42 || b == 63 || b == 34 || b == 39

-- the bytes that a job name may have: those that print and aren't blank, but the barred ones
abbrev pub is_job_name_byte : ℕ → Bool
is_job_name_byte b = is_in_range 33 126 b && not (is_barred b)

-- whether a text begins with a digit
abbrev pub begins_with_digit : List ℕ → Bool
begins_with_digit [] = false
begins_with_digit (b ∷ bytes) = is_ascii_digit b

-- a job name has 1 to 128 such bytes and doesn't begin with a digit (sge_types, job_name)
abbrev pub is_job_name : List ℕ → Bool
is_job_name bytes = nat_le 1 (length bytes) && nat_le (length bytes) 128 && list_all is_job_name_byte bytes && not (begins_with_digit bytes)
