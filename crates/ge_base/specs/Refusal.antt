-- The codes of replies.
use Rattle.std.specs.Prelude.{ℕ}
use Rattle.ge_base.specs.declared.refusal.Refusal.{Refusal}
use Rattle.ge_base.specs.declared.refusal.Refusal.TheVariants.{Syntax, TooLong, TimeBack, NoSuchObject, NotPermitted, Exists, InUse, BadValue, NotRequestable, Cycle, Limit, StaleReport, NoMemory}

-- the code that the reply to a refused command begins with
abbrev pub reply_code : Refusal → ℕ
reply_code Syntax = 11
reply_code TooLong = 12
reply_code TimeBack = 13
reply_code NoSuchObject = 14
reply_code NotPermitted = 15
reply_code Exists = 16
reply_code InUse = 17
reply_code BadValue = 18
reply_code NotRequestable = 19
reply_code Cycle = 20
reply_code Limit = 21
reply_code StaleReport = 22
reply_code NoMemory = 99
