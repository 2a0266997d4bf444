-- A written range's numbers of 32 bits, as a set.
use Rattle.std.proofs.Common.{◌≡◌, ℕ, ◌+◌, ◌-◌, ◌*◌, ◌/◌, ◌^◌, ◌≤◌, Bool, true, false, if◌then◌else◌, nat_lt, min, [], ◌∷◌, refl, arith}
use Rattle.ge_model_rows.specs.TaskRows.{TaskSpan, is_form}
use Rattle.ge_model_rows.specs.Spans.{span_of}
use Rattle.ge_model_rows.specs.Ranges.{range_set}
use Rattle.ge_model_rows.proofs.Cuts.{stretched}
use Rattle.ge_model_rows.proofs.Runs.{made_end}

-- such a set is in the form
pub written_form : (range : TaskSpan) → 1 ≤ range.first → range.first ≤ range.last → 1 ≤ range.step → is_form (range_set range) ≡ true
written_form range positive ordered forward = by (nat_lt range.first (2 ^ 32)) (nat_lt bound range.first) refl refl
  where
    bound : ℕ
    bound = min range.last (2 ^ 32 - 1)

    by : (some none : Bool) → nat_lt range.first (2 ^ 32) ≡ some → nat_lt bound range.first ≡ none
        → is_form (if some then (if none then [] else span_of range.first (range.first + (bound - range.first) / range.step * range.step) range.step ∷ []) else []) ≡ true
    by false none is not = refl
    by true true is not = refl
    by true false is not =
        made_end _ (stretched range.first bound range.step positive (grind arith) forward)
