use Rattle.std.proofs.Common.{◌≡◌, ◌-◌, ◌≤◌, List, take}
use Rattle.ge_model_rows.specs.AccountRows.{Line}
use Rattle.ge_acctlog.specs.Logs.{IsLogged, IsSameLog, count_of}
use Rattle.ge_gridacct.specs.Holding.{HasWritten}
use Rattle.ge_gridacct.specs.Looks.{shown}
use Rattle.ge_gridacct.proofs.showing.write_lines.Given as goal

-- the lines so far are written, but for what is held
abbrev pub invariant-lines : goal.invariant-lines
invariant-lines g l = record {
  wrote : (lines : List Line) → IsLogged l.fn.log (g.E.Disk.told l.fn.disk) lines
      → HasWritten (g.K.Sink.written l.fn.output) (g.K.Sink.written l.output) l.held.items (shown (take l.k lines));
  rests : (lines : List Line) → IsLogged l.fn.log (g.E.Disk.told l.fn.disk) lines → IsLogged l.log (g.E.Disk.told l.disk) lines;
  same : IsSameLog l.fn.log l.log;
  told : g.E.Disk.told l.disk ≡ g.E.Disk.told l.fn.disk;
  faults : g.E.Disk.disk_faults l.fn.disk ≤ g.E.Disk.disk_faults l.disk;
  later : g.K.Sink.write_faults l.fn.output ≤ g.K.Sink.write_faults l.output;
  within : l.k ≤ count_of l.log;
}

abbrev pub decreases-lines : goal.decreases-lines
decreases-lines g l = count_of l.log - l.k
