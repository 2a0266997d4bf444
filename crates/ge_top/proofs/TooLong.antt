-- What holds where an area is full.
use Rattle.std.proofs.Common.{ℕ, List, Err}
use Rattle.ge_model_rows.specs.EventRows.{Reply}
use Rattle.ge_model_program.specs.Keeping.{HasNoRoom}
use Rattle.ge_model_program.specs.Traced.{Traced}
use Rattle.ge_spool.specs.declared.spool.Spool.{Spool}
use Rattle.ge_serve.specs.Ledgers.{ledger_of}
use Rattle.ge_serve.specs.Storing.{OnUnwritten}
use Rattle.ge_serve.specs.Handling.{RepliesAs}
use Rattle.ge_serve.specs.Stop.{Stop}
use Rattle.ge_serve.specs.Stop.TheVariants as stop
use Rattle.ge_top.specs.Ends.{OnFull}
use Rattle.ge_top.specs.declared.replaying.ReplayFault.TheVariants.{Stopped}

-- what holds where the master is full
pub on-full : (s : Stop) (t : Traced) (spool : Spool) (reason H X P : Type 0) → RepliesAs t spool (Err s) reason → (H → OnUnwritten {T = List Reply} (Err s) X)
    → ((place : ℕ) → HasNoRoom (ledger_of spool) t place → (H → X) → P) → OnFull (Err (Stopped s)) P
on-full stop.Disk t spool reason H X P answer same full = tt
on-full (stop.Full place) t spool reason H X P answer same full = full place answer same
on-full stop.Spent t spool reason H X P answer same full = tt
on-full stop.Dead t spool reason H X P answer same full = tt
