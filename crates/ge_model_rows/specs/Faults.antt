-- Refusals whose conditions hold, and the one of them that answers.
use Rattle.std.specs.Prelude.{ℕ, Bool, if◌then◌else◌, nat_lt, List, [], ◌∷◌, Option, Some, None, fold}
use Rattle.ge_base.specs.declared.refusal.Refusal.{Refusal}
use Rattle.ge_base.specs.declared.refusal.Refusal.TheVariants.{Syntax, TooLong, TimeBack, NoSuchObject, NotPermitted, Exists, InUse, BadValue, NotRequestable, Cycle, Limit, StaleReport, NoMemory}

-- a refusal whose condition holds
abbrev pub when : Bool → Refusal → List Refusal
when condition refusal = if condition then refusal ∷ [] else []

-- the place of a refusal in the order in which they are tried: that of the codes, a text that is too long before one off the grammar
abbrev pub turn_of : Refusal → ℕ
turn_of TooLong = 0
turn_of Syntax = 1
turn_of TimeBack = 2
turn_of NoSuchObject = 3
turn_of NotPermitted = 4
turn_of Exists = 5
turn_of InUse = 6
turn_of BadValue = 7
turn_of NotRequestable = 8
turn_of Cycle = 9
turn_of Limit = 10
turn_of StaleReport = 11
turn_of NoMemory = 12

-- the one of two that is tried first
abbrev pub earlier_fault : Option Refusal → Refusal → Option Refusal
earlier_fault None refusal = Some refusal
earlier_fault (Some first) refusal = if nat_lt (turn_of refusal) (turn_of first) then Some refusal else Some first

-- of the refusals whose conditions hold, the one that answers: the first in the order of their codes, 12 before 11
abbrev pub first_fault : List Refusal → Option Refusal
first_fault faults = fold earlier_fault None faults

-- the one that answers to these, where this one was found before them
abbrev pub after_faults : Option Refusal → List Refusal → Option Refusal
after_faults first faults = fold earlier_fault first faults

-- of what answers to one part and what answers to another, the one that is tried first
abbrev pub sooner : Option Refusal → Option Refusal → Option Refusal
sooner first None = first
sooner first (Some refusal) = earlier_fault first refusal
