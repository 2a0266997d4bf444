-- What two areas stand for as the daemon of a host.
use Rattle.std.specs.Prelude.{ℕ, ◌&&◌, ◌==◌, List, length, Option, Some, None, Result, Ok, Err, if◌then◌else◌}
use Rattle.ge_collections.specs.Keyed.{text_eq}
use Rattle.ge_model_codec.specs.Reading.{Reading}
use Rattle.ge_execd.specs.Daemons.{new_daemon}
use Rattle.ge_execd.specs.declared.daemon.Daemon.{Daemon}
use Rattle.ge_keeping.specs.Areas.{Areas}
use Rattle.ge_keeping.specs.Homes as keeping
use Rattle.ge_model_journal.specs.Journal.{State}
use Rattle.ge_model_keeping.specs.Standing as standing
use Rattle.ge_model_keeping.specs.Wholes.{held}
use Rattle.ge_spool.specs.declared.faults.OpenFault.{OpenFault}
use Rattle.ge_spool.specs.declared.faults.OpenFault.TheVariants.{Frame, Bad}
use Rattle.ge_execd.specs.Bytes.{daemon_code}

-- the bytes that are written for a daemon
unfoldable pub daemon_bytes : Daemon → List ℕ
daemon_bytes d = daemon_code.write d

-- a daemon that was read, where it ends where the bytes end and is one of this host
abbrev pub of_host : List ℕ → ℕ → Reading Daemon → Option Daemon
of_host host size (Err fault) = None
of_host host size (Ok p) = if p.1 == size && text_eq p.0.host host then Some p.0 else None

-- the daemon of a host that all of these bytes are
unfoldable pub daemon_in : List ℕ → List ℕ → Option Daemon
daemon_in host bytes = of_host host (length bytes) (daemon_code.read bytes 0)

-- the daemon of a host that a state holds: that of the last record, else that of the snapshot, else a new one; or the place of the first
-- part that isn't the bytes of a daemon of that host
abbrev pub held_of : List ℕ → State → Result Daemon ℕ
held_of host s = held (daemon_in host) (new_daemon host) s

-- the daemon of a host that two areas stand for, or the first that is wrong: a frame, or such a part with its place
abbrev pub stands_for : List ℕ → List ℕ → List ℕ → Result Daemon OpenFault
stands_for host a b = standing.stands_for Frame Bad (held_of host) a b

-- two areas stand for the one daemon of a host or for the other
abbrev pub StandsForOneOf : List ℕ → Daemon → Daemon → List ℕ → List ℕ → Type 0
StandsForOneOf host old next a b = standing.StandsForOneOf Frame Bad (held_of host) old next a b

-- every pair of images at each moment from the one on stands for a daemon of a host
abbrev pub StandsSince : List ℕ → Areas → Areas → Daemon → Type 0
StandsSince host before after d = keeping.StandsSince Frame Bad (held_of host) before after d
