-- The forms of results that readers of texts promise. Want of memory is always a free answer.
use Rattle.std.specs.Prelude.{◌≡◌, List, Option, Some, None, Result, Ok, Err}
use Rattle.ge_base.specs.declared.refusal.Refusal.{Refusal}
use Rattle.ge_base.specs.declared.refusal.Refusal.TheVariants as refusal
use Rattle.ge_model_rows.specs.Faults.{after_faults}
use Rattle.ge_pieces.specs.declared.reading.ReadFault.{ReadFault}
use Rattle.ge_pieces.specs.declared.reading.ReadFault.TheVariants.{Syntax, Memory}

-- a reader of a grammar: what is read, and a fault exactly where the text is off the grammar
abbrev pub Gives : {T : Type 0} → Result T ReadFault → Option T → Type 0
Gives (Ok value) read = read ≡ Some value
Gives (Err Syntax) read = read ≡ None
Gives (Err Memory) read = Unit {0}

-- a reader that adds to what was read before: what it leaves there
abbrev pub Leaves : {S T : Type 0} → Result S ReadFault → T → Option T → Type 0
Leaves (Ok nothing) now read = read ≡ Some now
Leaves (Err Syntax) now read = read ≡ None
Leaves (Err Memory) now read = Unit {0}

-- a reader that gives a value whatever refuses it, and notes the refusals: the value of a reading, and what answers after its refusals
abbrev pub Reads : {T E : Type 0} → Result T E → Option Refusal → Option Refusal → T × List Refusal → Type 0
Reads (Ok value) old new read = (value ≡ read.0) × (new ≡ after_faults old read.1)
Reads (Err want) old new read = Unit {0}

-- a call that gives a value or refuses it: any answer but want of memory is the definition's
abbrev pub IsAnswered : {T : Type 0} → Result T Refusal → Result T Refusal → Type 0
IsAnswered (Ok value) answer = answer ≡ Ok value
IsAnswered (Err refusal.NoMemory) answer = Unit {0}
IsAnswered (Err other) answer = answer ≡ Err other
