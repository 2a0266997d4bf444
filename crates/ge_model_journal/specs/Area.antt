-- The bytes of one area: its header, and its list of records.
use Rattle.std.specs.Prelude.{ℕ, zero, suc, ◌+◌, ◌-◌, Bool, not, ◌==◌, ◌||◌, ◌&&◌, nat_lt, if◌then◌else◌, List, [], ◌∷◌, length, take, drop, slice_index, Result, Ok, Err}
use Rattle.std.specs.Int.{w32, w64, from_be_bytes}
use Rattle.ge_model_journal.specs.declared.Head.{Head}
use Rattle.ge_model_journal.specs.declared.Head.TheVariants.{Closed, Faulty, Overlong, Sound}

-- the number in four bytes from a place on, the highest first
abbrev pub number4 : List ℕ → ℕ → ℕ
number4 bytes at = from_be_bytes w32 (slice_index bytes at ∷ slice_index bytes (at + 1) ∷ slice_index bytes (at + 2) ∷ slice_index bytes (at + 3) ∷ [])

-- the number in eight bytes from a place on, the highest first
abbrev pub number8 : List ℕ → ℕ → ℕ
number8 bytes at =
    from_be_bytes w64 (slice_index bytes at ∷ slice_index bytes (at + 1) ∷ slice_index bytes (at + 2) ∷ slice_index bytes (at + 3)
    ∷ slice_index bytes (at + 4) ∷ slice_index bytes (at + 5) ∷ slice_index bytes (at + 6) ∷ slice_index bytes (at + 7) ∷ [])

-- the formats that there are
abbrev pub is_format : ℕ → Bool
is_format format = (format == 1) || (format == 2)

-- the format of all that is written
abbrev pub written_format : ℕ
written_format = 2

-- the generations that no area has: 0, and in format 1 the greatest number, after which no other could come
abbrev pub is_bad_generation : ℕ → ℕ → Bool
is_bad_generation format generation = (generation == 0) || ((format == 1) && (generation == 18446744073709551615))

-- What the first 18 bytes of an area of a length say: gate, format, generation, size of the snapshot. An area is open where it
-- has at least 19 bytes and its gate is 1; then the first field that is wrong is told by its place.
abbrev pub head_of : ℕ → List ℕ → Head
head_of size header =
    if nat_lt size 19 || not (slice_index header 0 == 1) then Closed
    else (if not (is_format (slice_index header 1)) then Faulty 1
    else (if is_bad_generation (slice_index header 1) (number8 header 2) then Faulty 2
    else (if nat_lt (size - 18) (number8 header 10) then Overlong (number8 header 2)
    else Sound (record { format = slice_index header 1; generation = number8 header 2; size = number8 header 10 }))))

-- what an area's header says
unfoldable pub head : List ℕ → Head
head bytes = head_of (length bytes) bytes

-- one record more in front of those that were found
abbrev pub and_found : List ℕ → Result (List (List ℕ) × ℕ) ℕ → Result (List (List ℕ) × ℕ) ℕ
and_found record_bytes (Ok found) = Ok (record_bytes ∷ found.0, found.1)
and_found record_bytes (Err place) = Err place

-- the length field of a record is 0, or passes the end
abbrev pub is_bad_length : List ℕ → Bool
is_bad_length bytes = nat_lt (length bytes) 4 || (number4 bytes 0 == 0) || nat_lt (length bytes - 4) (number4 bytes 0)

-- The records in bytes that begin at a place, and the place of the gate that ends the list; or the place where a gate is missing or
-- a length is wrong. A record is a gate that is 1, a length and as many bytes; a gate that is anything else ends the list.
unfoldable pub records_from : ℕ → ℕ → List ℕ → Result (List (List ℕ) × ℕ) ℕ
records_from fuel place [] = Err place
records_from zero place (gate ∷ bytes) = Err place
records_from (suc fuel) place (gate ∷ bytes) =
    if not (gate == 1) then Ok ([], place)
    else (if is_bad_length bytes then Err (place + 1)
    else and_found (take (number4 bytes 0) (drop 4 bytes)) (records_from fuel (place + 5 + number4 bytes 0) (drop (4 + number4 bytes 0) bytes)))

-- the records of an area with a snapshot of so many bytes
abbrev pub records_of : ℕ → List ℕ → Result (List (List ℕ) × ℕ) ℕ
records_of size bytes = records_from (length (drop (18 + size) bytes)) (18 + size) (drop (18 + size) bytes)

-- where the gate stands behind records, of which the first one's gate is at a place
abbrev pub end_from : ℕ → List (List ℕ) → ℕ
end_from place [] = place
end_from place (body ∷ more) = end_from (place + 5 + length body) more
