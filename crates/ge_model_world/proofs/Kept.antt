-- What holds of a world after any steps.
use Rattle.std.proofs.Common.{◌≡◌, ℕ, ◌<◌, ◌≤◌, List, map, Some}
use Rattle.std.specs.Prelude.{nat_eq, slice_get}
use Rattle.std.specs.List.{IsDistinct}
use Rattle.ge_model_rows.specs.ClusterRows.{Cluster}
use Rattle.ge_model_jobs.specs.Orderly.{KeysFrom}
use Rattle.ge_execd.specs.declared.rows.Stage.{Stage}
use Rattle.ge_execd.specs.declared.daemon.Daemon.{Daemon}
use Rattle.ge_execd.specs.declared.rows.Stage.TheVariants.{Claimed, Ended}
use Rattle.ge_model_world.specs.declared.rows.Message.{Message}
use Rattle.ge_model_world.specs.declared.rows.Report.{Report}
use Rattle.ge_model_world.specs.declared.rows.Finished.{Finished}
use Rattle.ge_model_world.specs.Masters.{Master}
use Rattle.ge_model_world.specs.declared.rows.World.{World}
use Rattle.ge_model_world.specs.Laws.{Has, Post, Fits, IsTold, finished_serial, started_serial}
use Rattle.ge_model_world.proofs.Got.{Got}

-- a kept end has numbers that fit
abbrev pub FitsStage : ℕ → Stage → Type 0
FitsStage serial Claimed = Unit {0}
FitsStage serial (Ended exit cpu mem io) = Fits serial exit cpu mem io

-- a serial that a daemon keeps was named to it, and was seen
pub record IsKept (sent : List (ℕ × Message)) (daemon seen serial : ℕ) (stage : Stage) : Type 0 where
  pub got : Got sent daemon serial
  pub in_sight : serial ≤ seen
  pub fits : FitsStage serial stage

-- the end that a report tells
abbrev pub told_end : Report → Stage
told_end r = Ended r.exit r.cpu r.mem r.io

-- a report that was sent: its serial was named to its daemon, and was seen; the daemon keeps that end, or none any more
pub record IsSent (sent : List (ℕ × Message)) (r : Report) : Type 0 where
  pub got : Got sent r.daemon r.serial
  pub fits : Fits r.serial r.exit r.cpu r.mem r.io

pub record IsOfDaemon (r : Report) (d : Daemon) : Type 0 where
  pub in_sight : r.serial ≤ d.seen
  pub kept : (stage : Stage) → Has (r.serial, stage) d.tasks → stage ≡ told_end r

module _ (m : Master) (IsSound : Cluster → Type 0) (next : Cluster → ℕ) (posts : Cluster → List Post) (hosts : List (List ℕ)) where
  -- a serial that is finished was given out, and runs no more
  pub record IsOver (c : Cluster) (serial : ℕ) : Type 0 where
    pub given : serial < next c
    pub gone : (h : List ℕ) → Has (serial, h) (posts c) → ⊥

  pub record Holds (w : World) : Type 0 where
    -- the cluster is sound; the daemons are those of the hosts
    pub sound : IsSound w.cluster
    pub daemons : (d : ℕ) (daemon : Daemon) → slice_get w.daemons d ≡ Some daemon → slice_get hosts d ≡ Some daemon.host
    -- a serial that was named to a daemon was given out; where it runs, it runs at the daemon's host; it was named to no other
    pub below : (d s : ℕ) → Got w.sent d s → s < next w.cluster
    pub home : (d s : ℕ) (h : List ℕ) → Got w.sent d s → Has (s, h) (posts w.cluster) → slice_get hosts d ≡ Some h
    pub alone : (d e s : ℕ) → Got w.sent d s → Got w.sent e s → d ≡ e
    -- what a daemon keeps was named to it, and was seen
    pub keeps : (d : ℕ) (daemon : Daemon) (s : ℕ) (stage : Stage) → slice_get w.daemons d ≡ Some daemon → Has (s, stage) daemon.tasks → IsKept w.sent d daemon.seen s stage
    pub rows : (d : ℕ) (daemon : Daemon) → slice_get w.daemons d ≡ Some daemon → KeysFrom 0 daemon.tasks
    -- what a daemon started was named to it, and was seen; no serial was started twice
    pub begun : (d s : ℕ) → Has (d, s) w.started → Got w.sent d s
    pub begun_seen : (d s : ℕ) (daemon : Daemon) → Has (d, s) w.started → slice_get w.daemons d ≡ Some daemon → s ≤ daemon.seen
    pub started : IsDistinct nat_eq (map started_serial w.started)
    -- reports tell what their daemons kept, and those of a serial are one
    pub sent : (r : Report) → Has r w.reports → IsSent w.sent r
    pub told : (r : Report) (daemon : Daemon) → Has r w.reports → slice_get w.daemons r.daemon ≡ Some daemon → IsOfDaemon r daemon
    pub agree : (r s : Report) → Has r w.reports → Has s w.reports → r.serial ≡ s.serial → r ≡ s
    -- what is finished was given out and runs no more; none is finished twice, and those by a report have its line
    pub over : (f : Finished) → Has f w.finished → IsOver w.cluster (finished_serial f)
    pub finished : IsDistinct nat_eq (map finished_serial w.finished)
    pub lines : (f : Finished) → Has f w.finished → IsTold w.reports (m.lines w.cluster) f
