use Rattle.std.proofs.Common.{◌≡◌, ◌*◌, ◌≤◌, ◌++◌, ℕ, List, length, take, false}
use Rattle.ge_model_rows.specs.AccountRows.{Line}
use Rattle.ge_spool.specs.Moments.{Since}
use Rattle.ge_acctlog.specs.Logs.{IsLogged, HasRoom, end_of, is_dead}
use Rattle.ge_gridacct.specs.Fronts.{StandsBehind, record_lines}
use Rattle.ge_gridacct.proofs.Appended.{HasAppended}
use Rattle.ge_gridacct.proofs.records.append_all.Given as goal

-- the records so far are appended, and a stop left a front of the lines
abbrev pub invariant-records : goal.invariant-records
invariant-records g l = record {
  so_far : (k : ℕ) × HasAppended k (end_of l.fn.log) l.lines l.rest (end_of l.log)
      × ((held : List Line) → IsLogged l.fn.log (g.E.Disk.told l.fn.disk) held
      → IsLogged l.log (g.E.Disk.told l.disk) (held ++ take (k * record_lines) l.lines));
  since : (held : List Line) → IsLogged l.fn.log (g.E.Disk.told l.fn.disk) held
      → Since (g.E.Disk.told l.fn.disk) (g.E.Disk.told l.disk) (StandsBehind held l.lines);
  room : HasRoom l.log (g.E.Disk.told l.disk);
  alive : is_dead l.log ≡ false;
  faults : g.E.Disk.disk_faults l.fn.disk ≤ g.E.Disk.disk_faults l.disk;
}

abbrev pub decreases-records : goal.decreases-records
decreases-records g l = length l.rest
