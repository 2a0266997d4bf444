use Rattle.std.proofs.Common.{◌≡◌, drop, map}
use Rattle.std.specs.Prelude.{fold, flat_map}
use Rattle.std.specs.List.{list_any}
use Rattle.ge_model_rows.specs.Pieces.{with_one_number}
use Rattle.ge_model_core.specs.HoldLists.{named_by, is_unknown_number}
use Rattle.ge_job_options.specs.Listing.{Knows}
use Rattle.ge_job_options.proofs.hold_lists.list_items.Given as goal

abbrev pub invariant-loop-item : goal.invariant-loop-item
invariant-loop-item l = record {
  same : l.own ≡ l.fn.own;
  knows : Knows l.listed;
  unknown : list_any (is_unknown_number l.fn.own.0) (map (λ i. i.now) (drop l.item-index l.items)) ≡ list_any (is_unknown_number l.fn.own.0) (map (λ i. i.now) l.items);
  listed : fold with_one_number l.listed.numbers (flat_map (named_by l.fn.own.0 l.fn.own.1) (map (λ i. i.now) (drop l.item-index l.items)))
      ≡ fold with_one_number l.fn.listed.numbers (flat_map (named_by l.fn.own.0 l.fn.own.1) (map (λ i. i.now) l.items));
}
