-- Replies that refuse.
use Rattle.std.specs.Prelude.{ℕ, Bool, false, if◌then◌else◌, List, [], ◌∷◌, Option, Some, None, codes}
use Rattle.ge_base.specs.Refusal.{reply_code}
use Rattle.ge_base.specs.declared.refusal.Refusal.{Refusal}
use Rattle.ge_base.specs.declared.refusal.Refusal.TheVariants.{Syntax, TooLong, TimeBack, NoSuchObject, NotPermitted, Exists, InUse, BadValue, NotRequestable, Cycle, Limit, StaleReport, NoMemory}
use Rattle.ge_model_rows.specs.EventRows.{Reply, Planned}

-- the line that a refusal is answered with
abbrev pub refusal_text : Refusal → List ℕ
refusal_text Syntax = codes "syntax error"
refusal_text TooLong = codes "text too long"
refusal_text TimeBack = codes "moment before the last one"
refusal_text NoSuchObject = codes "no such object"
refusal_text NotPermitted = codes "not permitted"
refusal_text Exists = codes "exists already"
refusal_text InUse = codes "in use"
refusal_text BadValue = codes "bad value"
refusal_text NotRequestable = codes "not requestable"
refusal_text Cycle = codes "cycle"
refusal_text Limit = codes "limit reached"
refusal_text StaleReport = codes "stale report"
refusal_text NoMemory = codes "no memory"

abbrev pub refusal_reply : Refusal → Reply
refusal_reply r = record { code = reply_code r; lines = refusal_text r ∷ [] }

-- a refused event changes nothing
abbrev pub refused : Refusal → Planned
refused r = record { entry = None; reply = refusal_reply r; stop = false }

-- the refusal of the first condition that holds
abbrev pub first_refusal : List (Bool × Refusal) → Option Refusal
first_refusal [] = None
first_refusal (c ∷ more) = if c.0 then Some c.1 else first_refusal more

-- the plan of a command that may be refused
abbrev pub unless_refused : Option Refusal → Planned → Planned
unless_refused None accepted = accepted
unless_refused (Some r) accepted = refused r
