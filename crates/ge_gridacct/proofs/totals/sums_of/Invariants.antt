use Rattle.std.proofs.Common.{◌≡◌, ◌-◌, ◌≤◌, List, take}
use Rattle.ge_model_rows.specs.AccountRows.{Line}
use Rattle.ge_acctlog.specs.Logs.{IsLogged, IsSameLog, count_of}
use Rattle.ge_listing.specs.Sums.{AreSums}
use Rattle.ge_gridacct.specs.Sums.{counted}
use Rattle.ge_gridacct.proofs.totals.sums_of.Given as goal

-- the sums of the lines so far
abbrev pub invariant-lines : goal.invariant-lines
invariant-lines g l = record {
  sums : (lines : List Line) → IsLogged l.fn.log (g.E.Disk.told l.fn.disk) lines → AreSums l.sums (counted l.all l.name (take l.k lines));
  rests : (lines : List Line) → IsLogged l.fn.log (g.E.Disk.told l.fn.disk) lines → IsLogged l.log (g.E.Disk.told l.disk) lines;
  same : IsSameLog l.fn.log l.log;
  told : g.E.Disk.told l.disk ≡ g.E.Disk.told l.fn.disk;
  faults : g.E.Disk.disk_faults l.fn.disk ≤ g.E.Disk.disk_faults l.disk;
  few : l.sums.count ≤ l.k;
  within : l.k ≤ count_of l.log;
}

abbrev pub decreases-lines : goal.decreases-lines
decreases-lines g l = count_of l.log - l.k
