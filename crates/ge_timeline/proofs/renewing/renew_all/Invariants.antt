use Rattle.std.proofs.Common.{ℕ, take, List}
use Rattle.ge_model_rows.specs.ScheduleRows.{LimitId}
use Rattle.ge_timeline.specs.Shown.{Shows, sums_anew, changes_anew}
use Rattle.ge_timeline.proofs.renewing.renew_all.Given as goal

abbrev pub invariant-loop-demand : goal.invariant-loop-demand
invariant-loop-demand l = (sums : LimitId → ℕ → ℕ) (moments : LimitId → List ℕ) → Shows l.fn.index l.fn.functions sums moments
    → Shows l.index l.functions (sums_anew l.bookings (take l.demand-index l.demands) sums) (changes_anew l.bookings (take l.demand-index l.demands) moments)
