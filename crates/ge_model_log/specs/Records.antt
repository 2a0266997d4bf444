-- What the bytes of a log stand for, for any way to read the body of a record. A record is a gate, a length in four bytes and as many
-- bytes of a body; records stand one behind the other from place 0 on.
use Rattle.std.specs.Prelude.{ℕ, zero, suc, ◌+◌, Bool, not, ◌==◌, ◌||◌, nat_lt, if◌then◌else◌, List, [], ◌∷◌, ◌++◌, length, take, drop, Option, Some, None, Result, Ok, Err}
use Rattle.ge_model_journal.specs.Area.{number4, is_bad_length}
use Rattle.ge_model_log.specs.declared.Wrong.{Wrong}
use Rattle.ge_model_log.specs.declared.Wrong.TheVariants.{Frame, Bad}

-- a byte with what follows it ends the list of records: its gate isn't open, or fewer than five bytes follow it
abbrev pub ends_list : ℕ → List ℕ → Bool
ends_list gate bytes = not (gate == 1) || nat_lt (length bytes) 5

-- what follows a body that was read; one that can't be read is wrong at its place
abbrev pub behind_body : {X : Type 0} → Option (List X) → ℕ → (List X → Result (List X × ℕ) Wrong) → Result (List X × ℕ) Wrong
behind_body None place others = Err (Bad place)
behind_body (Some items) place others = others items

module _ {X : Type 0} (read_body : List ℕ → Option (List X)) where
  -- These items and those of the records in bytes that begin at a place, with the place where the list of records ends; or what is wrong first.
  -- A record counts where its gate is open and at least five bytes follow it, and the first other place ends the list.
  unfoldable pub records_behind : ℕ → ℕ → List ℕ → List X → Result (List X × ℕ) Wrong
  records_behind fuel place [] items = Ok (items, place)
  records_behind zero place (gate ∷ bytes) items = Ok (items, place)
  records_behind (suc fuel) place (gate ∷ bytes) items =
      if ends_list gate bytes then Ok (items, place)
      else (if is_bad_length bytes then Err (Frame (place + 1))
      else behind_body (read_body (take (number4 bytes 0) (drop 4 bytes))) (place + 5)
      (λ more. records_behind fuel (place + 5 + number4 bytes 0) (drop (4 + number4 bytes 0) bytes) (items ++ more)))
