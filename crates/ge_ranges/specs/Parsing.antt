-- What the reader of a set answers.
use Rattle.std.specs.Prelude.{◌≡◌, List, Option, Some, None, Result, Ok, Err}
use Rattle.ge_model_rows.specs.TaskRows.{TaskSpan}
use Rattle.ge_model_rows.specs.declared.RangeFault.{RangeFault}
use Rattle.ge_model_rows.specs.declared.RangeFault.TheVariants.{Syntax, Limit, NoMemory}

-- the set of a text, or why it has none; want of memory is a free answer
abbrev pub IsParsed : Result (List TaskSpan) RangeFault → Result (List TaskSpan) RangeFault → Type 0
IsParsed (Ok set) parsed = parsed ≡ Ok set
IsParsed (Err NoMemory) parsed = Unit {0}
IsParsed (Err fault) parsed = parsed ≡ Err fault

-- a set within the limits, or none
abbrev pub or_limit : Option (List TaskSpan) → Result (List TaskSpan) RangeFault
or_limit None = Err Limit
or_limit (Some set) = Ok set

-- the same of a text, or none where it is off the grammar
abbrev pub or_fault : Option (Option (List TaskSpan)) → Result (List TaskSpan) RangeFault
or_fault None = Err Syntax
or_fault (Some set) = or_limit set
