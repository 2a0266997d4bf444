-- A table that is filled while the refusals of what is read are noted.
use Rattle.std.specs.Prelude.{◌≡◌, ℕ, List, Option}
use Rattle.ge_base.specs.declared.refusal.Refusal.{Refusal}
use Rattle.ge_model_rows.specs.ValueRows.{Value}
use Rattle.ge_model_rows.specs.Faults.{after_faults}
use Rattle.ge_model_config.specs.Cited.{Read}
use Rattle.ge_model_config.specs.Pairs.{put_value}

-- a reading's pair, if there is one, is put into the table, and its refusals are noted: the table before and after, what answered before and after
abbrev pub Puts : List (List ℕ × Value) → List (List ℕ × Value) → Option Refusal → Option Refusal → Read (Option (List ℕ × Value)) → Type 0
Puts table after old new read = (after ≡ put_value table read.0) × (new ≡ after_faults old read.1)

-- the table is that of a reading, whose refusals are noted
abbrev pub Holds : List (List ℕ × Value) → Option Refusal → Option Refusal → Read (List (List ℕ × Value)) → Type 0
Holds table old new read = (table ≡ read.0) × (new ≡ after_faults old read.1)
