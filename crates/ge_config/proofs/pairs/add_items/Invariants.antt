use Rattle.std.proofs.Common.{◌≡◌, [], take}
use Rattle.std.specs.Prelude.{fold}
use Rattle.ge_model_config.specs.Pairs.{with_pair}
use Rattle.ge_model_rows.specs.Faults.{after_faults}
use Rattle.ge_config.specs.Fitting.{fits_by}
use Rattle.ge_config.proofs.pairs.add_items.Given as goal

abbrev pub invariant-loop-item : goal.invariant-loop-item
invariant-loop-item l = record {
  table : l.table ≡ (fold (with_pair l.c (fits_by l.c l.fitting)) ([], []) (take l.item-index l.items)).0;
  faults : l.faults ≡ after_faults l.fn.faults (fold (with_pair l.c (fits_by l.c l.fitting)) ([], []) (take l.item-index l.items)).1;
}
