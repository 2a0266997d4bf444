-- The fault of keeping that a fault of the journal makes.
use Rattle.std.proofs.Common.{◌≡◌, ℕ, ◌+◌, Bool, true, false, List, length, Result, Ok, Err, sym, subst}
use Rattle.ge_spool.specs.Answers.{Answers, OnRefusal}
use Rattle.ge_spool.specs.declared.faults.AppendFault.{AppendFault}
use Rattle.ge_spool.specs.declared.faults.AppendFault.TheVariants as fault
use Rattle.ge_keeping.specs.Keeping.{KeepsAs, Keeps, OnUnwritten, OnWritten}
use Rattle.ge_keeping.specs.declared.faults.KeepFault.{KeepFault}
use Rattle.ge_keeping.specs.declared.faults.KeepFault.TheVariants.{Disk, Full, Memory, Dead}

-- a journal that lives is not dead
never : (dead : Bool) → dead ≡ false → dead ≡ true → ⊥
never dead alive gone = cc

-- it has the cause of the fault
stores-as : (f : AppendFault) (stop : KeepFault) (dead : Bool) (end : ℕ) (reason : Type 0) → dead ≡ false → Answers (Err f) dead end reason → KeepsAs f stop
    → Keeps (Err stop) end reason
stores-as fault.Disk stop dead end reason alive h is = subst (λ s. Keeps (Err s) end reason) (sym is) (h.1, h.2)
stores-as (fault.Full place) stop dead end reason alive h is = subst (λ s. Keeps (Err s) end reason) (sym is) (h.1, h.2)
stores-as fault.Dead stop dead end reason alive h is = absurd (never dead alive h)

pub stores-snapshot : (f : AppendFault) (stop : KeepFault) (dead : Bool) (written snapshot : List ℕ) (reason : Type 0) → dead ≡ false
    → Answers (Err f) dead (19 + length written) reason → KeepsAs f stop → written ≡ snapshot → Keeps (Err stop) (19 + length snapshot) reason
stores-snapshot f stop dead written snapshot reason alive h is same =
    subst (λ bytes. Keeps (Err stop) (19 + length bytes) reason) same (stores-as f stop dead (19 + length written) reason alive h is)

-- and what wasn't touched then isn't now
pub untouched-as : (f : AppendFault) (stop : KeepFault) (X P Q : Type 0) → OnRefusal (Err f) (X × P × Q) → KeepsAs f stop → OnUnwritten {T = Unit {0}} (Err stop) (P × Q)
untouched-as fault.Disk stop X P Q h is = subst (λ s. OnUnwritten {T = Unit {0}} (Err s) (P × Q)) (sym is) tt
untouched-as (fault.Full place) stop X P Q h is = subst (λ s. OnUnwritten {T = Unit {0}} (Err s) (P × Q)) (sym is) (h.1, h.2)
untouched-as fault.Dead stop X P Q h is = subst (λ s. OnUnwritten {T = Unit {0}} (Err s) (P × Q)) (sym is) (h.1, h.2)

-- what holds anyway holds where something may have been written
pub on-written : {T : Type 0} (r : Result T KeepFault) (P : Type 0) → P → OnWritten r P
on-written (Ok done) P h = h
on-written (Err Disk) P h = h
on-written (Err (Full place)) P h = tt
on-written (Err Memory) P h = tt
on-written (Err Dead) P h = tt
