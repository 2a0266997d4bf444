use Rattle.std.proofs.Common.{◌≡◌, fold, drop}
use Rattle.ge_model_jobs.specs.Starting.{greater_serial}
use Rattle.ge_applying.proofs.runs.greatest_serial.Given as goal

abbrev pub invariant-loop-start : goal.invariant-loop-start
invariant-loop-start l = fold greater_serial l.most (drop l.start-index l.starts) ≡ fold greater_serial l.first l.starts
