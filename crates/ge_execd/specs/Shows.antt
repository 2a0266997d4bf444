-- The forms of what calls promise.
use Rattle.std.specs.Prelude.{◌≡◌, List, Result, Ok, Err}
use Rattle.ge_execd.specs.declared.daemon.Daemon.{Daemon}
use Rattle.ge_execd.specs.declared.rows.OrderLine.{OrderLine}
use Rattle.ge_execd.specs.declared.rows.Work.{Work}
use Rattle.ge_execd.specs.declared.rows.WorkFault.{WorkFault}
use Rattle.ge_execd.specs.declared.rows.WorkFault.TheVariants.{Refused, Bad, NoMemory}
use Rattle.ge_execd.specs.Daemons.{starts_of, kills_of, after_orders}

-- orders that are read as they are, or the fault that is; want of memory says nothing
abbrev pub Reads : Result (List OrderLine) WorkFault → Result (List OrderLine) WorkFault → Type 0
Reads (Err NoMemory) all = Unit {0}
Reads (Err (Refused code)) all = all ≡ Err (Refused code)
Reads (Err (Bad place)) all = all ≡ Err (Bad place)
Reads (Ok lines) all = all ≡ Ok lines

-- what a daemon is to do after a reply's orders, and how it is left: a fault, want of memory too, leaves it as it was
abbrev pub Obeys : Result Work WorkFault → Result (List OrderLine) WorkFault → Daemon → Daemon → Type 0
Obeys (Err NoMemory) all before after = after ≡ before
Obeys (Err (Refused code)) all before after = (all ≡ Err (Refused code)) × (after ≡ before)
Obeys (Err (Bad place)) all before after = (all ≡ Err (Bad place)) × (after ≡ before)
Obeys (Ok work) all before after =
    (lines : List OrderLine) × (all ≡ Ok lines) × (work.starts ≡ starts_of before lines) × (work.kills ≡ kills_of before lines)
    × (after ≡ after_orders before lines)
