-- Records are read up to one, none where the line stands in the record that was read last.
use Rattle.std.proofs.Common.{◌≡◌, ◌+◌, ◌-◌, ◌<◌, ◌≤◌, List, length}
use Rattle.ge_model_rows.specs.AccountRows.{Line}
use Rattle.ge_model_journal.specs.Disk.{read_bytes}
use Rattle.ge_spool.specs.Opening.{Tells}
use Rattle.ge_acctlog.specs.Logs.{IsReached}
use Rattle.ge_acctlog.proofs.reading.reach.Given as goal

abbrev pub invariant-records : goal.invariant-records
invariant-records g l = record {
  within : l.reached.next ≤ l.end;
  first : l.reached.first ≤ l.k;
  told : g.D.Disk.told l.log ≡ g.D.Disk.told l.fn.log;
  syncs : g.D.Disk.syncs l.log ≡ g.D.Disk.syncs l.fn.log;
  later : g.D.Disk.disk_faults l.fn.log ≤ g.D.Disk.disk_faults l.log;
  reached : (lines : List Line) → Tells (g.D.Disk.told l.fn.log) → IsReached l.fn.reached (read_bytes (g.D.Disk.told l.fn.log)) lines l.end
      → l.k < length lines → IsReached l.reached (read_bytes (g.D.Disk.told l.fn.log)) lines l.end;
  kept : l.k < l.fn.reached.first + length l.fn.reached.lines → (l.reached ≡ l.fn.reached) × (l.log ≡ l.fn.log);
}

abbrev pub decreases-records : goal.decreases-records
decreases-records g l = l.k + 1 - (l.reached.first + length l.reached.lines)
