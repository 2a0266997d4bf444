-- Parts of priorities, of which the first comes before a bound in the order of a run.
use Rattle.std.specs.Prelude.{◌≡◌, ℕ, ◌<◌, ◌^◌, Bool, not, nat_lt, List, filter, ◌++◌}
use Rattle.std.specs.Ordering.{is_lt}
use Rattle.ge_model_rows.specs.ClusterRows.{Cluster}
use Rattle.ge_model_rows.specs.ScheduleRows.{Prio}
use Rattle.ge_model_order.specs.Priority.{rank_cmp, rank_of, order_of}
use Rattle.ge_order.specs.Alike.{prio_at}
use Rattle.ge_order.specs.declared.parting.Bound.{Bound}

-- whether a priority comes before a bound: by total falling, then job
abbrev pub comes_before : Bound → Prio → Bool
comes_before bound prio = is_lt (rank_cmp (rank_of prio) bound.rank)

-- whether it doesn't, as that of the bound's own rank
abbrev pub is_behind : Bound → Prio → Bool
is_behind bound prio = not (comes_before bound prio)

-- of jobs with one priority those before a bound have numbers below this one
abbrev pub IsLimit : Bound → Prio → ℕ → Type 0
IsLimit bound first limit = (number : ℕ) → number < 2 ^ 32 → comes_before bound (prio_at first number) ≡ nat_lt number limit

-- those before a bound, and those behind it
abbrev pub first_of : Bound → List Prio → List Prio
first_of bound prios = filter (comes_before bound) prios

abbrev pub second_of : Bound → List Prio → List Prio
second_of bound prios = filter (is_behind bound) prios

-- the order of priorities is that of the ones before a bound, and then that of the others
abbrev pub OrdersInParts : Bound → List Prio → Type 0
OrdersInParts bound prios = (c : Cluster) (now : ℕ) → order_of c prios now ≡ order_of c (first_of bound prios) now ++ order_of c (second_of bound prios) now
