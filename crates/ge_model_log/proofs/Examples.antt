-- Worked logs, each by hand.
use Rattle.std.specs.Prelude.{◌≡◌, ℕ, pos, ◌==◌, if◌then◌else◌, List, [], ◌∷◌, replicate, slice_index, Option, Some, None, Result, Ok, Err, refl}
use Rattle.ge_model_rows.specs.AccountRows.{Line}
use Rattle.ge_model_log.specs.declared.Wrong.{Wrong}
use Rattle.ge_model_log.specs.declared.Wrong.TheVariants.{Frame, Bad}
use Rattle.ge_model_log.specs.Records.{records_behind}
use Rattle.ge_model_log.specs.Lines.{logged, lines_in, stands_for}

-- bodies of any bytes, of which one that begins with 9 can't be read
abbrev plain : List ℕ → Option (List ℕ)
plain body = if slice_index body 0 == 9 then None else Some body

abbrev read : List ℕ → Result (List ℕ × ℕ) Wrong
read bytes = records_behind plain 100 0 bytes []

no_bytes : read [] ≡ Ok ([], 0)
unfolding records_behind
no_bytes = refl

closed_gate : read (0 ∷ 0 ∷ 0 ∷ 0 ∷ 1 ∷ 7 ∷ []) ≡ Ok ([], 0)
unfolding records_behind
closed_gate = refl

-- an open gate with four bytes behind it doesn't count
torn_tail : read (1 ∷ 0 ∷ 0 ∷ 0 ∷ 1 ∷ []) ≡ Ok ([], 0)
unfolding records_behind
torn_tail = refl

-- with five it does
one_record : read (1 ∷ 0 ∷ 0 ∷ 0 ∷ 1 ∷ 7 ∷ []) ≡ Ok (7 ∷ [], 6)
unfolding records_behind
one_record = refl

-- a byte other than 0 and 1 ends the list too
two_records : read (1 ∷ 0 ∷ 0 ∷ 0 ∷ 1 ∷ 7 ∷ 1 ∷ 0 ∷ 0 ∷ 0 ∷ 2 ∷ 5 ∷ 6 ∷ 2 ∷ 1 ∷ 0 ∷ 0 ∷ 0 ∷ 1 ∷ 4 ∷ []) ≡ Ok (7 ∷ 5 ∷ 6 ∷ [], 13)
unfolding records_behind
two_records = refl

torn_second : read (1 ∷ 0 ∷ 0 ∷ 0 ∷ 1 ∷ 7 ∷ 1 ∷ 0 ∷ 0 ∷ 0 ∷ []) ≡ Ok (7 ∷ [], 6)
unfolding records_behind
torn_second = refl

no_length : read (1 ∷ 0 ∷ 0 ∷ 0 ∷ 0 ∷ 0 ∷ []) ≡ Err (Frame 1)
unfolding records_behind
no_length = refl

long_body : read (1 ∷ 0 ∷ 0 ∷ 0 ∷ 1 ∷ 7 ∷ 1 ∷ 0 ∷ 0 ∷ 0 ∷ 2 ∷ 5 ∷ []) ≡ Err (Frame 7)
unfolding records_behind
long_body = refl

bad_body : read (1 ∷ 0 ∷ 0 ∷ 0 ∷ 1 ∷ 7 ∷ 1 ∷ 0 ∷ 0 ∷ 0 ∷ 1 ∷ 9 ∷ 0 ∷ []) ≡ Err (Bad 11)
unfolding records_behind
bad_body = refl

-- what is wrong comes in the order of the records: a body before the length of the next
body_before_length : read (1 ∷ 0 ∷ 0 ∷ 0 ∷ 1 ∷ 9 ∷ 1 ∷ 0 ∷ 0 ∷ 0 ∷ 0 ∷ 0 ∷ []) ≡ Err (Bad 5)
unfolding records_behind
body_before_length = refl

-- a body of one byte is no line
no_line : stands_for (1 ∷ 0 ∷ 0 ∷ 0 ∷ 1 ∷ 7 ∷ []) ≡ Err (Bad 5)
unfolding records_behind lines_in
no_line = refl

-- a line of empty texts and zeros takes 136 bytes
abbrev blank_line : Line
blank_line = record {
  queue = [];
  host = [];
  group = [];
  owner = [];
  name = [];
  job = 0;
  account = [];
  priority = pos 0;
  submitted = 0;
  start = 0;
  end = 0;
  failed = 0;
  exit = 0;
  project = [];
  pe = [];
  slots = 0;
  task = 0;
  cpu = 0;
  mem = 0;
  io = 0;
}

two_lines : logged (1 ∷ 0 ∷ 0 ∷ 1 ∷ 16 ∷ replicate 272 0) ≡ Ok (blank_line ∷ blank_line ∷ [], 277)
unfolding records_behind lines_in
two_lines = refl

-- a byte behind a line makes the body none of whole lines
spare_byte : logged (1 ∷ 0 ∷ 0 ∷ 0 ∷ 137 ∷ replicate 138 0) ≡ Err (Bad 5)
unfolding records_behind lines_in
spare_byte = refl
