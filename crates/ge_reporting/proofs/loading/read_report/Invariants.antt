use Rattle.std.proofs.Common.{◌≡◌, drop, fold}
use Rattle.std.specs.Prelude.{flat_map}
use Rattle.ge_model_rows.specs.Faults.{after_faults}
use Rattle.ge_model_core.specs.Reports.{report_faults, add_reported, report_of}
use Rattle.ge_reporting.proofs.loading.read_report.Given as goal

abbrev pub invariant-loop-pair : goal.invariant-loop-pair
invariant-loop-pair l = record {
  added : fold (add_reported l.cluster) l.report (drop l.pair-index l.pairs) ≡ report_of l.cluster l.pairs;
  noted : after_faults l.faults (flat_map (report_faults l.cluster) (drop l.pair-index l.pairs))
      ≡ after_faults l.fn.faults (flat_map (report_faults l.cluster) l.pairs);
}
