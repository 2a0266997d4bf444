use Rattle.std.proofs.Common.{◌≡◌, drop}
use Rattle.ge_model_text.specs.Reading.{reading_from}
use Rattle.ge_text.specs.Amounts.{from_start}
use Rattle.ge_text.proofs.amounts.read_whole.Given as goal

-- the answer to what was read and the bytes that are left is the answer to the text
abbrev pub invariant-loop-place : goal.invariant-loop-place
invariant-loop-place l = reading_from l.form l.progress l.place (drop l.place l.text) ≡ from_start l.form l.text
