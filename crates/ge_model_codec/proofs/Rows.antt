-- Rows of both formats: the definitions compute.
use Rattle.std.proofs.Common.{◌≡◌, ℕ, List, [], ◌∷◌, Ok, Err, refl}
use Rattle.ge_model_rows.specs.EntryRows.{Entry, Change}
use Rattle.ge_model_rows.specs.ValueRows.{Consumable}
use Rattle.ge_model_codec.specs.declared.TakeFault.TheVariants.{Tag}
use Rattle.ge_model_codec.specs.Configured.{consumable_code, consumable_code_1}
use Rattle.ge_model_codec.specs.Entries.{change_code, change_code_1, entry_code, entry_code_1}

-- a hold of no job, at 0: one list of bytes in both formats
hold : Entry
hold = record { moment = 0; change = Change.Hold [] 0 }

hold_bytes : List ℕ
hold_bytes = 0 ∷ 0 ∷ 0 ∷ 0 ∷ 0 ∷ 0 ∷ 0 ∷ 0 ∷ 2 ∷ 0 ∷ 0 ∷ 0 ∷ 0 ∷ 0 ∷ 0 ∷ 0 ∷ 0 ∷ 0 ∷ []

written : entry_code.write hold ≡ hold_bytes
unfolding hold hold_bytes
written = refl

written_1 : entry_code_1.write hold ≡ hold_bytes
unfolding hold hold_bytes
written_1 = refl

read : entry_code.read hold_bytes 0 ≡ Ok (hold, 18)
unfolding hold hold_bytes
read = refl

read_1 : entry_code_1.read hold_bytes 0 ≡ Ok (hold, 18)
unfolding hold hold_bytes
read_1 = refl

-- what format 1 doesn't have is a tag without a variant, at its place
per_job : consumable_code.read (2 ∷ []) 0 ≡ Ok (Consumable.Job, 1)
per_job = refl

per_job_1 : consumable_code_1.read (2 ∷ []) 0 ≡ Err (Tag 0)
per_job_1 = refl

unbook : change_code.read (12 ∷ 0 ∷ 0 ∷ 0 ∷ 0 ∷ 0 ∷ 0 ∷ 0 ∷ 0 ∷ []) 0 ≡ Ok (Change.Unbook [], 9)
unbook = refl

unbook_1 : change_code_1.read (12 ∷ 0 ∷ 0 ∷ 0 ∷ 0 ∷ 0 ∷ 0 ∷ 0 ∷ 0 ∷ []) 0 ≡ Err (Tag 0)
unbook_1 = refl

book_1 : change_code_1.read (11 ∷ []) 0 ≡ Err (Tag 0)
book_1 = refl
