-- Areas worked out by hand.
use Rattle.std.specs.Prelude.{◌≡◌, [], ◌∷◌, Ok, Err, refl}
use Rattle.ge_model_journal.specs.Disk.{overwritten}
use Rattle.ge_model_journal.specs.Area.{head, records_from, end_from}
use Rattle.ge_model_journal.specs.Journal.{first_state, meaning, choice}
use Rattle.ge_model_journal.specs.Writing.{bytes_of_record, bytes_of_area, padded, first_opened, second_opened}

-- two empty areas
no_area_open : meaning [] [] ≡ Ok first_state
unfolding meaning head
no_area_open = refl

-- a fresh area beside an empty one
fresh_area : meaning (1 ∷ 1 ∷ 0 ∷ 0 ∷ 0 ∷ 0 ∷ 0 ∷ 0 ∷ 0 ∷ 1 ∷ 0 ∷ 0 ∷ 0 ∷ 0 ∷ 0 ∷ 0 ∷ 0 ∷ 0 ∷ 0 ∷ []) ([]) ≡ Ok (record { format = 1; generation = 1; snapshot = []; records = [] })
unfolding meaning head records_from
fresh_area = refl

-- a record of two bytes, and what stands behind a gate that is not 1
one_record : meaning (1 ∷ 1 ∷ 0 ∷ 0 ∷ 0 ∷ 0 ∷ 0 ∷ 0 ∷ 0 ∷ 1 ∷ 0 ∷ 0 ∷ 0 ∷ 0 ∷ 0 ∷ 0 ∷ 0 ∷ 0 ∷ 1 ∷ 0 ∷ 0 ∷ 0 ∷ 2 ∷ 7 ∷ 8 ∷ 0 ∷ 9 ∷ 9 ∷ []) ([]) ≡ Ok (record { format = 1; generation = 1; snapshot = []; records = (7 ∷ 8 ∷ []) ∷ [] })
unfolding meaning head records_from
one_record = refl

-- the open area of greater generation counts
greater_generation : meaning (1 ∷ 1 ∷ 0 ∷ 0 ∷ 0 ∷ 0 ∷ 0 ∷ 0 ∷ 0 ∷ 1 ∷ 0 ∷ 0 ∷ 0 ∷ 0 ∷ 0 ∷ 0 ∷ 0 ∷ 0 ∷ 1 ∷ 0 ∷ 0 ∷ 0 ∷ 1 ∷ 7 ∷ 0 ∷ []) (1 ∷ 1 ∷ 0 ∷ 0 ∷ 0 ∷ 0 ∷ 0 ∷ 0 ∷ 0 ∷ 2 ∷ 0 ∷ 0 ∷ 0 ∷ 0 ∷ 0 ∷ 0 ∷ 0 ∷ 2 ∷ 5 ∷ 6 ∷ 1 ∷ 0 ∷ 0 ∷ 0 ∷ 1 ∷ 4 ∷ 0 ∷ []) ≡ Ok (record { format = 1; generation = 2; snapshot = 5 ∷ 6 ∷ []; records = (4 ∷ []) ∷ [] })
unfolding meaning head records_from
greater_generation = refl

-- a closed area does not count
closed_second : meaning (1 ∷ 1 ∷ 0 ∷ 0 ∷ 0 ∷ 0 ∷ 0 ∷ 0 ∷ 0 ∷ 1 ∷ 0 ∷ 0 ∷ 0 ∷ 0 ∷ 0 ∷ 0 ∷ 0 ∷ 0 ∷ 1 ∷ 0 ∷ 0 ∷ 0 ∷ 1 ∷ 7 ∷ 0 ∷ []) (0 ∷ 1 ∷ 0 ∷ 0 ∷ 0 ∷ 0 ∷ 0 ∷ 0 ∷ 0 ∷ 2 ∷ 0 ∷ 0 ∷ 0 ∷ 0 ∷ 0 ∷ 0 ∷ 0 ∷ 2 ∷ 5 ∷ 6 ∷ 1 ∷ 0 ∷ 0 ∷ 0 ∷ 1 ∷ 4 ∷ 0 ∷ []) ≡ Ok (record { format = 1; generation = 1; snapshot = []; records = (7 ∷ []) ∷ [] })
unfolding meaning head records_from
closed_second = refl

-- a format of 3
wrong_format : meaning (1 ∷ 3 ∷ 0 ∷ 0 ∷ 0 ∷ 0 ∷ 0 ∷ 0 ∷ 0 ∷ 1 ∷ 0 ∷ 0 ∷ 0 ∷ 0 ∷ 0 ∷ 0 ∷ 0 ∷ 0 ∷ 0 ∷ []) ([]) ≡ Err (0, 1)
unfolding meaning head records_from
wrong_format = refl

-- a generation of 0, in the second area
no_generation : meaning ([]) (1 ∷ 1 ∷ 0 ∷ 0 ∷ 0 ∷ 0 ∷ 0 ∷ 0 ∷ 0 ∷ 0 ∷ 0 ∷ 0 ∷ 0 ∷ 0 ∷ 0 ∷ 0 ∷ 0 ∷ 0 ∷ 0 ∷ []) ≡ Err (1, 2)
unfolding meaning head records_from
no_generation = refl

-- two equal generations
equal_generations : meaning (1 ∷ 1 ∷ 0 ∷ 0 ∷ 0 ∷ 0 ∷ 0 ∷ 0 ∷ 0 ∷ 3 ∷ 0 ∷ 0 ∷ 0 ∷ 0 ∷ 0 ∷ 0 ∷ 0 ∷ 0 ∷ 0 ∷ []) (1 ∷ 1 ∷ 0 ∷ 0 ∷ 0 ∷ 0 ∷ 0 ∷ 0 ∷ 0 ∷ 3 ∷ 0 ∷ 0 ∷ 0 ∷ 0 ∷ 0 ∷ 0 ∷ 0 ∷ 0 ∷ 0 ∷ []) ≡ Err (1, 2)
unfolding meaning head records_from
equal_generations = refl

-- two equal generations, of which the second has a snapshot that passes the end too: the generation comes first
equal_generations_first : meaning (1 ∷ 1 ∷ 0 ∷ 0 ∷ 0 ∷ 0 ∷ 0 ∷ 0 ∷ 0 ∷ 3 ∷ 0 ∷ 0 ∷ 0 ∷ 0 ∷ 0 ∷ 0 ∷ 0 ∷ 0 ∷ 0 ∷ []) (1 ∷ 1 ∷ 0 ∷ 0 ∷ 0 ∷ 0 ∷ 0 ∷ 0 ∷ 0 ∷ 3 ∷ 0 ∷ 0 ∷ 0 ∷ 0 ∷ 0 ∷ 0 ∷ 0 ∷ 2 ∷ 0 ∷ []) ≡ Err (1, 2)
unfolding meaning head records_from
equal_generations_first = refl

-- another generation with such a snapshot
long_second_snapshot : meaning (1 ∷ 1 ∷ 0 ∷ 0 ∷ 0 ∷ 0 ∷ 0 ∷ 0 ∷ 0 ∷ 3 ∷ 0 ∷ 0 ∷ 0 ∷ 0 ∷ 0 ∷ 0 ∷ 0 ∷ 0 ∷ 0 ∷ []) (1 ∷ 1 ∷ 0 ∷ 0 ∷ 0 ∷ 0 ∷ 0 ∷ 0 ∷ 0 ∷ 4 ∷ 0 ∷ 0 ∷ 0 ∷ 0 ∷ 0 ∷ 0 ∷ 0 ∷ 2 ∷ 0 ∷ []) ≡ Err (1, 10)
unfolding meaning head records_from
long_second_snapshot = refl

-- a snapshot that passes the end
long_snapshot : meaning (1 ∷ 1 ∷ 0 ∷ 0 ∷ 0 ∷ 0 ∷ 0 ∷ 0 ∷ 0 ∷ 1 ∷ 0 ∷ 0 ∷ 0 ∷ 0 ∷ 0 ∷ 0 ∷ 0 ∷ 2 ∷ 0 ∷ []) ([]) ≡ Err (0, 10)
unfolding meaning head records_from
long_snapshot = refl

-- a snapshot up to the end, so that the first gate is missing
missing_gate : meaning (1 ∷ 1 ∷ 0 ∷ 0 ∷ 0 ∷ 0 ∷ 0 ∷ 0 ∷ 0 ∷ 1 ∷ 0 ∷ 0 ∷ 0 ∷ 0 ∷ 0 ∷ 0 ∷ 0 ∷ 1 ∷ 0 ∷ []) ([]) ≡ Err (0, 19)
unfolding meaning head records_from
missing_gate = refl

-- a record of no bytes
empty_record : meaning (1 ∷ 1 ∷ 0 ∷ 0 ∷ 0 ∷ 0 ∷ 0 ∷ 0 ∷ 0 ∷ 1 ∷ 0 ∷ 0 ∷ 0 ∷ 0 ∷ 0 ∷ 0 ∷ 0 ∷ 0 ∷ 1 ∷ 0 ∷ 0 ∷ 0 ∷ 0 ∷ 0 ∷ []) ([]) ≡ Err (0, 19)
unfolding meaning head records_from
empty_record = refl

-- a length that the end cuts
cut_length : meaning (1 ∷ 1 ∷ 0 ∷ 0 ∷ 0 ∷ 0 ∷ 0 ∷ 0 ∷ 0 ∷ 1 ∷ 0 ∷ 0 ∷ 0 ∷ 0 ∷ 0 ∷ 0 ∷ 0 ∷ 0 ∷ 1 ∷ 0 ∷ 0 ∷ []) ([]) ≡ Err (0, 19)
unfolding meaning head records_from
cut_length = refl

-- a record that passes the end
long_record : meaning (1 ∷ 1 ∷ 0 ∷ 0 ∷ 0 ∷ 0 ∷ 0 ∷ 0 ∷ 0 ∷ 1 ∷ 0 ∷ 0 ∷ 0 ∷ 0 ∷ 0 ∷ 0 ∷ 0 ∷ 0 ∷ 1 ∷ 0 ∷ 0 ∷ 0 ∷ 1 ∷ 7 ∷ 1 ∷ 0 ∷ 0 ∷ 0 ∷ 2 ∷ 5 ∷ []) ([]) ≡ Err (0, 25)
unfolding meaning head records_from
long_record = refl

-- a record up to the end
missing_last_gate : meaning (1 ∷ 1 ∷ 0 ∷ 0 ∷ 0 ∷ 0 ∷ 0 ∷ 0 ∷ 0 ∷ 1 ∷ 0 ∷ 0 ∷ 0 ∷ 0 ∷ 0 ∷ 0 ∷ 0 ∷ 0 ∷ 1 ∷ 0 ∷ 0 ∷ 0 ∷ 1 ∷ 7 ∷ []) ([]) ≡ Err (0, 24)
unfolding meaning head records_from
missing_last_gate = refl

-- the same in format 2
fresh_area_2 : meaning (1 ∷ 2 ∷ 0 ∷ 0 ∷ 0 ∷ 0 ∷ 0 ∷ 0 ∷ 0 ∷ 1 ∷ 0 ∷ 0 ∷ 0 ∷ 0 ∷ 0 ∷ 0 ∷ 0 ∷ 0 ∷ 0 ∷ []) [] ≡ Ok first_state
unfolding meaning head records_from
fresh_area_2 = refl

-- an area of the first format beside one that was compacted since
both_formats : meaning (1 ∷ 1 ∷ 0 ∷ 0 ∷ 0 ∷ 0 ∷ 0 ∷ 0 ∷ 0 ∷ 1 ∷ 0 ∷ 0 ∷ 0 ∷ 0 ∷ 0 ∷ 0 ∷ 0 ∷ 0 ∷ 1 ∷ 0 ∷ 0 ∷ 0 ∷ 1 ∷ 7 ∷ 0 ∷ []) (1 ∷ 2 ∷ 0 ∷ 0 ∷ 0 ∷ 0 ∷ 0 ∷ 0 ∷ 0 ∷ 2 ∷ 0 ∷ 0 ∷ 0 ∷ 0 ∷ 0 ∷ 0 ∷ 0 ∷ 1 ∷ 5 ∷ 0 ∷ []) ≡ Ok (record { format = 2; generation = 2; snapshot = 5 ∷ []; records = [] })
unfolding meaning head records_from
both_formats = refl

-- format 3 in the second area, beside one in format 2
wrong_second_format : meaning (1 ∷ 2 ∷ 0 ∷ 0 ∷ 0 ∷ 0 ∷ 0 ∷ 0 ∷ 0 ∷ 1 ∷ 0 ∷ 0 ∷ 0 ∷ 0 ∷ 0 ∷ 0 ∷ 0 ∷ 0 ∷ 0 ∷ []) (1 ∷ 3 ∷ 0 ∷ 0 ∷ 0 ∷ 0 ∷ 0 ∷ 0 ∷ 0 ∷ 2 ∷ 0 ∷ 0 ∷ 0 ∷ 0 ∷ 0 ∷ 0 ∷ 0 ∷ 0 ∷ 0 ∷ []) ≡ Err (1, 1)
unfolding meaning head records_from
wrong_second_format = refl

-- the greatest generation, which format 1 does not have
last_generation : meaning (1 ∷ 1 ∷ 255 ∷ 255 ∷ 255 ∷ 255 ∷ 255 ∷ 255 ∷ 255 ∷ 255 ∷ 0 ∷ 0 ∷ 0 ∷ 0 ∷ 0 ∷ 0 ∷ 0 ∷ 0 ∷ 0 ∷ []) [] ≡ Err (0, 2)
unfolding meaning head records_from
last_generation = refl

-- format 2 has it
last_generation_2 : meaning (1 ∷ 2 ∷ 255 ∷ 255 ∷ 255 ∷ 255 ∷ 255 ∷ 255 ∷ 255 ∷ 255 ∷ 0 ∷ 0 ∷ 0 ∷ 0 ∷ 0 ∷ 0 ∷ 0 ∷ 0 ∷ 0 ∷ []) [] ≡ Ok (record { format = 2; generation = 18446744073709551615; snapshot = []; records = [] })
unfolding meaning head records_from
last_generation_2 = refl

-- and format 1 has the one before
generation_before_last : meaning (1 ∷ 1 ∷ 255 ∷ 255 ∷ 255 ∷ 255 ∷ 255 ∷ 255 ∷ 255 ∷ 254 ∷ 0 ∷ 0 ∷ 0 ∷ 0 ∷ 0 ∷ 0 ∷ 0 ∷ 0 ∷ 0 ∷ []) [] ≡ Ok (record { format = 1; generation = 18446744073709551614; snapshot = []; records = [] })
unfolding meaning head records_from
generation_before_last = refl

-- the first wrong field of one header: its format before its generation, and that before its size
format_first : meaning (1 ∷ 3 ∷ 0 ∷ 0 ∷ 0 ∷ 0 ∷ 0 ∷ 0 ∷ 0 ∷ 0 ∷ 0 ∷ 0 ∷ 0 ∷ 0 ∷ 0 ∷ 0 ∷ 0 ∷ 2 ∷ 0 ∷ []) [] ≡ Err (0, 1)
unfolding meaning head records_from
format_first = refl

-- the greatest generation before a size that passes the end
last_generation_first : meaning (1 ∷ 1 ∷ 255 ∷ 255 ∷ 255 ∷ 255 ∷ 255 ∷ 255 ∷ 255 ∷ 255 ∷ 0 ∷ 0 ∷ 0 ∷ 0 ∷ 0 ∷ 0 ∷ 0 ∷ 2 ∷ 0 ∷ []) [] ≡ Err (0, 2)
unfolding meaning head records_from
last_generation_first = refl

-- a fresh area, as it is written
fresh_bytes : bytes_of_area 1 [] ≡ 1 ∷ 2 ∷ 0 ∷ 0 ∷ 0 ∷ 0 ∷ 0 ∷ 0 ∷ 0 ∷ 1 ∷ 0 ∷ 0 ∷ 0 ∷ 0 ∷ 0 ∷ 0 ∷ 0 ∷ 0 ∷ 0 ∷ []
unfolding bytes_of_area
fresh_bytes = refl

-- an area with a snapshot of three bytes, as it is written
compacted_bytes : bytes_of_area 258 (4 ∷ 5 ∷ 6 ∷ []) ≡ 1 ∷ 2 ∷ 0 ∷ 0 ∷ 0 ∷ 0 ∷ 0 ∷ 0 ∷ 1 ∷ 2 ∷ 0 ∷ 0 ∷ 0 ∷ 0 ∷ 0 ∷ 0 ∷ 0 ∷ 3 ∷ 4 ∷ 5 ∷ 6 ∷ 0 ∷ []
unfolding bytes_of_area
compacted_bytes = refl

-- a record of two bytes, as it is written
two_bytes : bytes_of_record (7 ∷ 8 ∷ []) ≡ 1 ∷ 0 ∷ 0 ∷ 0 ∷ 2 ∷ 7 ∷ 8 ∷ 0 ∷ []
unfolding bytes_of_record
two_bytes = refl

-- what is written stands for what it should
written_area : meaning (bytes_of_area 3 (5 ∷ [])) [] ≡ Ok (record { format = 2; generation = 3; snapshot = 5 ∷ []; records = [] })
unfolding meaning head records_from bytes_of_area
written_area = refl

written_record : meaning (overwritten (bytes_of_area 1 []) 18 (bytes_of_record (7 ∷ []))) [] ≡ Ok (record { format = 2; generation = 1; snapshot = []; records = (7 ∷ []) ∷ [] })
unfolding meaning head records_from bytes_of_area bytes_of_record
written_record = refl

-- an empty area gets a closed gate, and so does a short one whose gate is 1
padded_empty : padded [] ≡ 0 ∷ []
padded_empty = refl

padded_short : padded (1 ∷ 7 ∷ []) ≡ 0 ∷ 7 ∷ []
padded_short = refl

-- where none is open, the first is filled and the second gets a closed gate
opened_empty : first_opened (choice (head []) (head [])) [] ≡ bytes_of_area 1 []
unfolding head bytes_of_area
opened_empty = refl

opened_second : second_opened (choice (head []) (head [])) [] ≡ 0 ∷ []
unfolding head
opened_second = refl

-- two records behind a gate at 18 take 6 and 7 bytes
end_of_two : end_from 18 ((7 ∷ []) ∷ (8 ∷ 9 ∷ []) ∷ []) ≡ 31
end_of_two = refl
