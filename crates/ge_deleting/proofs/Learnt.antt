-- The live tasks of one more job are kept.
use Rattle.std.proofs.Common.{◌≡◌, ℕ, List, refl, sym, ap, ◌∙◌, arith}
use Rattle.std.specs.Prelude.{Bool, true, false, cond, Option, Some, None}
use Rattle.std.specs.BTreeMap.{is_at}
use Rattle.std.specs.Map.{lookup}
use Rattle.std.specs.Ordering.{nat_cmp}
use Rattle.ge_model_rows.specs.JobRows.{Job}
use Rattle.ge_model_rows.specs.TaskRows.{TaskSpan}
use Rattle.ge_collections.specs.Keyed.{at_number}
use Rattle.ge_deleting.specs.Live.{live_at, AreLive}

same_number : (n m : ℕ) → is_at (nat_cmp n) m ≡ true → n ≡ m
same_number n m h = grind arith

pub one_learnt : (jobs : List (ℕ × Job)) (old new : List (ℕ × List TaskSpan)) (number : ℕ) (tasks : List TaskSpan) → AreLive jobs old
    → ((q : ℕ) → at_number new q ≡ cond (is_at (nat_cmp number) q) (Some tasks) (at_number old q)) → tasks ≡ live_at jobs number → AreLive jobs new
one_learnt jobs old new number tasks kept put is q set found = by (is_at (nat_cmp number) q) refl (sym (put q) ∙ found)
  where
    value : {T : Type 0} (x y : T) → Some x ≡ Some y → x ≡ y
    value x y h = cc

    by : (here : Bool) → is_at (nat_cmp number) q ≡ here → cond here (Some tasks) (at_number old q) ≡ Some set → set ≡ live_at jobs q
    by true at there = sym (value tasks set there) ∙ is ∙ ap (live_at jobs) (same_number number q at)
    by false at there = kept q set there
