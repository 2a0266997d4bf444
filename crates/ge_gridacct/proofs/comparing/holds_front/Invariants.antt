use Rattle.std.proofs.Common.{◌≡◌, ◌-◌, ◌≤◌, List, length}
use Rattle.ge_model_rows.specs.AccountRows.{Line}
use Rattle.ge_acctlog.specs.Logs.{IsLogged, IsSameLog}
use Rattle.ge_gridacct.proofs.Fronts.{AreAlike}
use Rattle.ge_gridacct.proofs.comparing.holds_front.Given as goal

-- the lines so far are the same
abbrev pub invariant-lines : goal.invariant-lines
invariant-lines g l = record {
  alike : (held : List Line) → IsLogged l.fn.log (g.E.Disk.told l.fn.disk) held → AreAlike held l.lines l.k;
  rests : (held : List Line) → IsLogged l.fn.log (g.E.Disk.told l.fn.disk) held → IsLogged l.log (g.E.Disk.told l.disk) held;
  same : IsSameLog l.fn.log l.log;
  told : g.E.Disk.told l.disk ≡ g.E.Disk.told l.fn.disk;
  faults : g.E.Disk.disk_faults l.fn.disk ≤ g.E.Disk.disk_faults l.disk;
  within : l.k ≤ length l.lines;
}

abbrev pub decreases-lines : goal.decreases-lines
decreases-lines g l = length l.lines - l.k
