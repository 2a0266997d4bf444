-- What a reader of values promises.
use Rattle.std.specs.Prelude.{◌≡◌, Option, Some, None, Result, Ok, Err}
use Rattle.ge_model_rows.specs.ValueRows.{Value}
use Rattle.ge_complex.specs.declared.reading.ValueError.{ValueError}
use Rattle.ge_complex.specs.declared.reading.ValueError.TheVariants.{Bad, NoMemory}

-- the value that a text has, or that it has none; want of memory is always a free answer
abbrev pub IsRead : Result Value ValueError → Option Value → Type 0
IsRead (Ok value) read = read ≡ Some value
IsRead (Err Bad) read = read ≡ None
IsRead (Err NoMemory) read = Unit {0}
