-- What calls of a host promise.
use Rattle.std.specs.Prelude.{◌≡◌, ◌⊎◌, ℕ, ◌+◌, ◌<◌, ◌≤◌, ◌==◌, not, Bool, true, false, List, length, Option, Some, None, Result, Ok, Err, OnOk}
use Rattle.ge_limits.specs.Limits as limit
use Rattle.ge_model_journal.specs.Disk.{Content}
use Rattle.ge_execd.specs.Daemons.{new_daemon, after_orders, starts_of, kills_of}
use Rattle.ge_execd.specs.declared.daemon.Daemon.{Daemon}
use Rattle.ge_execd.specs.declared.rows.OrderLine.{OrderLine}
use Rattle.ge_execd.specs.declared.rows.Work.{Work}
use Rattle.ge_execd.specs.declared.rows.WorkFault.{WorkFault}
use Rattle.ge_execd.specs.declared.rows.WorkFault.TheVariants as fault
use Rattle.ge_keeping.specs.Areas.{Areas, HasFailed, EachSince}
use Rattle.ge_keeping.specs.Keeping.{compacts, kept_end, IsStored, stored_syncs}
use Rattle.ge_keeping.specs.Homes.{IsHome}
use Rattle.ge_keeping.specs.Opening.{Opens}
use Rattle.ge_keeping.specs.declared.faults.KeepFault.{KeepFault}
use Rattle.ge_keeping.specs.declared.faults.KeepFault.TheVariants as keeping
use Rattle.ge_spool.specs.Settled.{HasRoom, Grows}
use Rattle.ge_spool.specs.declared.faults.OpenFault.{OpenFault}
use Rattle.ge_spool.specs.declared.spool.Spool.{Spool}
use Rattle.ge_spool.specs.declared.faults.OpenFault.TheVariants.{Frame, Bad as WrongPart}
use Rattle.ge_host.specs.Standing.{daemon_bytes, held_of, StandsForOneOf, StandsSince}
use Rattle.ge_host.specs.declared.hosts.Host.{Host}
use Rattle.ge_host.specs.declared.faults.HostStop.{HostStop}
use Rattle.ge_host.specs.declared.faults.HostStop.TheVariants.{Disk, Full, Bad, Refused, Memory, Dead}

-- ---- what a host keeps

-- a daemon over its journal
pub record Parts : Type 0 where
  pub spool : Spool
  pub daemon : Daemon

abbrev pub spool_of : Host → Spool
spool_of h = h.spool

abbrev pub daemon_of : Host → Daemon
daemon_of h = h.daemon

abbrev pub parts_of : Host → Parts
parts_of h = record { spool = h.spool; daemon = h.daemon }

-- whether an earlier call stopped it
abbrev pub is_gone : Host → Bool
is_gone h = h.dead

-- while it lives its journal has room on the areas
abbrev pub HasLength : Host → List Content → List Content → Type 0
HasLength h a b = h.dead ≡ false → HasRoom h.spool a b

-- The journal is at rest on its areas and holds the daemon. So every pair of images now stands for it.
abbrev pub IsAtHome : Parts → Areas → Type 0
IsAtHome parts now = IsHome (held_of parts.daemon.host) parts.spool parts.daemon now

-- What opening the daemon of a host comes to: it is at home with the daemon that the areas stood for, or the first of what is wrong in
-- them is told.
abbrev pub OpensHost : List ℕ → Result Host OpenFault → Areas → Areas → Type 0
OpensHost host result before after = Opens Frame WrongPart (held_of host) spool_of daemon_of result before after

-- ---- a change

-- the stop that a fault of keeping makes
abbrev pub StopsAs : KeepFault → HostStop → Type 0
StopsAs keeping.Disk stop = stop ≡ Disk
StopsAs (keeping.Full place) stop = stop ≡ Full place
StopsAs keeping.Memory stop = stop ≡ Memory
StopsAs keeping.Dead stop = stop ≡ Dead

-- whether a result stops the host
abbrev pub is_stop : {X : Type 0} → Result X HostStop → Bool
is_stop (Ok x) = false
is_stop (Err Disk) = true
is_stop (Err (Full place)) = true
is_stop (Err (Bad place)) = false
is_stop (Err (Refused code)) = false
is_stop (Err Memory) = true
is_stop (Err Dead) = true

-- whether a call was done
abbrev pub done_of : {X : Type 0} → Result X HostStop → Result (Unit {0}) HostStop
done_of (Ok x) = Ok tt
done_of (Err stop) = Err stop

-- When a change is answered how: what is written for it would end at a place of its area, and a disk fails only for a reason. Without a
-- change there is nothing to fail.
abbrev pub AnswersAs : Bool → ℕ → Result (Unit {0}) HostStop → Type 0 → Type 0
AnswersAs changed end (Ok done) reason = changed ≡ true → end ≤ limit.area_bytes
AnswersAs changed end (Err Disk) reason = (changed ≡ true) × (end ≤ limit.area_bytes) × reason
AnswersAs changed end (Err (Full place)) reason = (changed ≡ true) × (limit.area_bytes < end) × (place ≡ end)
AnswersAs changed end (Err (Bad place)) reason = ⊥
AnswersAs changed end (Err (Refused code)) reason = ⊥
AnswersAs changed end (Err Memory) reason = Unit {0}
AnswersAs changed end (Err Dead) reason = ⊥

-- a fact where nothing was written
abbrev pub OnUnwritten : Result (Unit {0}) HostStop → Type 0 → Type 0
OnUnwritten (Ok done) P = Unit {0}
OnUnwritten (Err Disk) P = Unit {0}
OnUnwritten (Err (Full place)) P = P
OnUnwritten (Err (Bad place)) P = P
OnUnwritten (Err (Refused code)) P = P
OnUnwritten (Err Memory) P = P
OnUnwritten (Err Dead) P = P

-- the journal after a change whose daemon has so many bytes, or without one
abbrev pub KeepsJournal : Bool → Spool → Spool → ℕ → Type 0
KeepsJournal true old new size = IsStored (compacts old size) old new size size
KeepsJournal false old new size = new ≡ old

-- What a call comes to after which the daemon is the next one, for a host that lives.
pub record Takes (changed : Bool) (next : Daemon) (old new : Parts) (result : Result (Unit {0}) HostStop) (before after : Areas) : Type 0 where
  pub answer : AnswersAs changed (kept_end old.spool (length (daemon_bytes next)) (length (daemon_bytes next))) result (HasFailed before after)
  pub left : OnOk result (new.daemon ≡ next)
  pub journal : OnOk result (KeepsJournal changed old.spool new.spool (length (daemon_bytes next)))
  -- it is written before it is answered
  pub home : IsAtHome old before → OnOk result (IsAtHome new after)
  -- where nothing changed nothing is written
  pub idle : changed ≡ false → (after ≡ before) × (new ≡ old)
  -- at each moment every pair of images stands for the daemon before it or for the next
  pub any_moment : IsAtHome old before → EachSince before after (StandsForOneOf old.daemon.host old.daemon next)
  -- for the one before where nothing was written
  pub unwritten : IsAtHome old before → OnUnwritten result (StandsSince old.daemon.host before after old.daemon)
  pub grows : Grows before.a after.a before.b after.b
  pub syncs : after.syncs ≤ before.syncs + stored_syncs (compacts old.spool (length (daemon_bytes next)))

-- ---- orders

-- whether orders name a serial above what was seen
abbrev pub rises : Daemon → List OrderLine → Bool
rises d lines = not ((after_orders d lines).seen == d.seen)

-- what a host answers to the orders of a reply, and how it is left: a reply that isn't obeyed, and want of memory, leave the areas alone
abbrev pub ObeysAs : Result Work HostStop → Result (List OrderLine) WorkFault → Parts → Parts → Areas → Areas → Type 0
ObeysAs (Ok work) all old new before after =
    (lines : List OrderLine) × (all ≡ Ok lines) × (work.starts ≡ starts_of old.daemon lines) × (work.kills ≡ kills_of old.daemon lines)
    × Takes (rises old.daemon lines) (after_orders old.daemon lines) old new (Ok tt) before after
ObeysAs (Err Disk) all old new before after =
    (lines : List OrderLine) × (all ≡ Ok lines) × Takes (rises old.daemon lines) (after_orders old.daemon lines) old new (Err Disk) before after
ObeysAs (Err (Full place)) all old new before after =
    (lines : List OrderLine) × (all ≡ Ok lines) × Takes (rises old.daemon lines) (after_orders old.daemon lines) old new (Err (Full place)) before after
ObeysAs (Err (Bad place)) all old new before after = (all ≡ Err (fault.Bad place)) × (new ≡ old) × (after ≡ before)
ObeysAs (Err (Refused code)) all old new before after = (all ≡ Err (fault.Refused code)) × (new ≡ old) × (after ≡ before)
ObeysAs (Err Memory) all old new before after =
    (after ≡ before)
    ⊎ ((lines : List OrderLine) × (all ≡ Ok lines) × Takes (rises old.daemon lines) (after_orders old.daemon lines) old new (Err Memory) before after)
ObeysAs (Err Dead) all old new before after = ⊥
