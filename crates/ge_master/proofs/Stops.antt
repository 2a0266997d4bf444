-- The stop that a fault of keeping makes.
use Rattle.std.proofs.Common.{◌≡◌, Err, sym, subst}
use Rattle.ge_keeping.specs.Keeping as keeping
use Rattle.ge_keeping.specs.declared.faults.KeepFault.{KeepFault}
use Rattle.ge_keeping.specs.declared.faults.KeepFault.TheVariants as fault
use Rattle.ge_master.specs.Storing.{StopsAs, OnUnwritten}
use Rattle.ge_master.specs.declared.faults.Stop.{Stop}

-- what holds where nothing was written holds at the stop
pub unwritten-as : (T X : Type 0) (f : KeepFault) (stop : Stop) (P : Type 0) → StopsAs f stop → keeping.OnUnwritten {T = T} (Err f) P → OnUnwritten {T = X} (Err stop) P
unwritten-as T X fault.Disk stop P is h = subst (λ s. OnUnwritten {T = X} (Err s) P) (sym is) tt
unwritten-as T X (fault.Full place) stop P is h = subst (λ s. OnUnwritten {T = X} (Err s) P) (sym is) h
unwritten-as T X fault.Memory stop P is h = subst (λ s. OnUnwritten {T = X} (Err s) P) (sym is) h
unwritten-as T X fault.Dead stop P is h = subst (λ s. OnUnwritten {T = X} (Err s) P) (sym is) h
