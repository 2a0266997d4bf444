-- What a journal's snapshot and records stand for, for any codes of what they hold and any way to apply an entry.
use Rattle.std.specs.Prelude.{ℕ, zero, suc, ◌==◌, true, false, List, [], ◌∷◌, length, Option, Some, None, Result, Ok, Err}
use Rattle.ge_model_journal.specs.Journal.{State}
use Rattle.ge_model_codec.specs.Code.{Code, whole}
use Rattle.ge_model_keeping.specs.Reading as journal

module _ {C E : Type 0} (snapshot : Code C) (entry : Code E) (after : C → E → C) (opening : C) where
  -- what stands after the entries in bytes from a place on, one behind the other up to the end of the bytes; nothing where one
  -- of them can't be read or none is there
  abbrev pub after_from : ℕ → List ℕ → ℕ → C → Option C
  after_from zero bytes at c = None
  after_from (suc steps) bytes at c = elim (entry.read bytes at) [
    | Ok p ↦ elim (p.1 == length bytes) [ true ↦ Some (after c p.0) | false ↦ after_from steps bytes p.1 (after c p.0) ]
    | Err fault ↦ None
  ]

  -- what stands after the entries of a record
  abbrev pub after_record : C → List ℕ → Option C
  after_record c bytes = after_from (suc (length bytes)) bytes 0 c

  -- what a snapshot stands for: what its bytes say, or the opening where there are none
  abbrev pub in_snapshot : List ℕ → Result C ℕ
  in_snapshot [] = Ok opening
  in_snapshot (b ∷ bytes) = elim (whole snapshot (b ∷ bytes)) [ Ok p ↦ Ok p.0 | Err fault ↦ Err 18 ]

  -- what a state stands for, or the place of the first byte of the snapshot or record that can't be read
  abbrev pub held_in : State → Result C ℕ
  held_in s = journal.held_in in_snapshot after_record s
