-- What keeping another value in whole answers and leaves.
use Rattle.std.specs.Prelude.{ℕ, ◌+◌, ◌≤◌, List, length, Option, Result, OnOk}
use Rattle.ge_model_keeping.specs.Standing.{StandsForOneOf}
use Rattle.ge_model_keeping.specs.Wholes.{held}
use Rattle.ge_spool.specs.Settled.{Grows}
use Rattle.ge_spool.specs.declared.faults.OpenFault.TheVariants.{Frame, Bad}
use Rattle.ge_spool.specs.declared.spool.Spool.{Spool}
use Rattle.ge_keeping.specs.Areas.{Areas, HasFailed, EachSince}
use Rattle.ge_keeping.specs.Keeping.{compacts, kept_end, IsStored, stored_syncs, Keeps, OnUnwritten}
use Rattle.ge_keeping.specs.Homes.{StandsSince, IsHome}
use Rattle.ge_keeping.specs.declared.faults.KeepFault.{KeepFault}

module _ {T : Type 0} (part : List ℕ → Option T) (first : T) where
  -- What keeping a value in place of another comes to, which has these bytes, for a journal that lives.
  pub record Changes (bytes : List ℕ) (spool new_spool : Spool) (old next : T) (result : Result (Unit {0}) KeepFault) (before after : Areas) : Type 0 where
    -- it is answered by the room there is; a disk fails only for a reason
    pub answer : Keeps result (kept_end spool (length bytes) (length bytes)) (HasFailed before after)
    -- a record more, or the next generation
    pub journal : OnOk result (IsStored (compacts spool (length bytes)) spool new_spool (length bytes) (length bytes))
    pub home : IsHome (held part first) spool old before → OnOk result (IsHome (held part first) new_spool next after)
    -- at each moment every pair of images stands for the value before or for the next
    pub any_moment : IsHome (held part first) spool old before → EachSince before after (StandsForOneOf Frame Bad (held part first) old next)
    -- for the one before where nothing was written
    pub unwritten : IsHome (held part first) spool old before → OnUnwritten result (StandsSince Frame Bad (held part first) before after old)
    pub grows : Grows before.a after.a before.b after.b
    pub syncs : after.syncs ≤ before.syncs + stored_syncs (compacts spool (length bytes))
