use Rattle.std.proofs.Common.{◌≡◌, ◌++◌, true}
use Rattle.std.specs.Option.{option_to_list}
use Rattle.ge_model_rows.specs.Spans.{in_form}
use Rattle.ge_model_rows.specs.Sets.{merged}
use Rattle.ge_ranges.specs.Forming.{formed_from, have_seconds}
use Rattle.ge_ranges.proofs.merging.merge.Given as goal

abbrev pub invariant-loop-turns : goal.invariant-loop-turns
invariant-loop-turns l = record {
  same : l.forming.done ++ formed_from l.forming.run (merged l.wanted.alone l.wanted.shared l.wanted.others l.turns (option_to_list l.left.0 ++ l.spans) (option_to_list l.left.1 ++ l.others))
      ≡ in_form (merged l.wanted.alone l.wanted.shared l.wanted.others l.fn.turns l.fn.spans l.fn.others);
  part : have_seconds (option_to_list l.left.0) ≡ true;
  spans : have_seconds l.spans ≡ true;
  other_part : have_seconds (option_to_list l.left.1) ≡ true;
  others : have_seconds l.others ≡ true;
}

abbrev pub decreases-loop-turns : goal.decreases-loop-turns
decreases-loop-turns l = l.turns
