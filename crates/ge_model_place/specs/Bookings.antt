-- What is booked of a limit: at a moment, and at most in a window.
use Rattle.std.specs.Prelude.{ℕ, ◌+◌, ◌-◌, ◌^◌, ◌==◌, Bool, false, ◌&&◌, cond, nat_lt, nat_le, min, max, List, fold, sum_by}
use Rattle.ge_collections.specs.Keyed.{text_eq}
use Rattle.ge_model_rows.specs.HostRows.{InstanceId}
use Rattle.ge_model_rows.specs.ScheduleRows.{LimitId, Instance, Host, Global, Pe, Quota, Advance}
use Rattle.ge_model_rows.specs.ScheduleRows.{QuotaKey, Demand, Booking}
use Rattle.ge_model_rows.specs.ValueRows.{infinity}

-- the moment that no booking passes
abbrev pub forever : ℕ
forever = 2 ^ 63

-- a sum that is greater is cut here
abbrev pub greatest_sum : ℕ
greatest_sum = 2 ^ 128 - 1

abbrev pub same_instance : InstanceId → InstanceId → Bool
same_instance a b = text_eq a.queue b.queue && text_eq a.host b.host

abbrev pub same_filters : QuotaKey → QuotaKey → Bool
same_filters a b = text_eq a.user b.user && text_eq a.project b.project && text_eq a.pe b.pe && text_eq a.queue b.queue && text_eq a.host b.host

abbrev pub same_key : QuotaKey → QuotaKey → Bool
same_key a b = text_eq a.set b.set && a.rule == b.rule && same_filters a b && text_eq a.resource b.resource

-- whether two limits are one
abbrev pub same_limit : LimitId → LimitId → Bool
same_limit (Instance a name) (Instance b other) = same_instance a b && text_eq name other
same_limit (Host a name) (Host b other) = text_eq a b && text_eq name other
same_limit (Global name) (Global other) = text_eq name other
same_limit (Pe name) (Pe other) = text_eq name other
same_limit (Quota a) (Quota b) = same_key a b
same_limit (Advance n a) (Advance m b) = n == m && same_instance a b
same_limit _ _ = false

-- what one demand asks of a limit
abbrev pub asked_of : LimitId → Demand → ℕ
asked_of limit d = cond (same_limit d.limit limit) d.amount 0

-- the sum of the demands on a limit
abbrev pub demand_on : List Demand → LimitId → ℕ
demand_on demands limit = sum_by (asked_of limit) demands

-- a booking holds from its first moment until before its end
abbrev pub is_within : Booking → ℕ → Bool
is_within b moment = nat_le b.from moment && nat_lt moment b.until

-- what one booking takes of a limit at a moment
abbrev pub taken_by : LimitId → ℕ → Booking → ℕ
taken_by limit moment b = cond (is_within b moment) (demand_on b.demands limit) 0

-- what all of them take, uncut
abbrev pub whole_sum : List Booking → LimitId → ℕ → ℕ
whole_sum bookings limit moment = sum_by (taken_by limit moment) bookings

-- the plain sum of a limit at a moment
abbrev pub plain_sum : List Booking → LimitId → ℕ → ℕ
plain_sum bookings limit moment = min (whole_sum bookings limit moment) greatest_sum

-- where a window from a moment ends that lasts so many seconds; one of INFINITY never does
abbrev pub window_end : ℕ → ℕ → ℕ
window_end from duration = cond (duration == infinity) forever (min (from + duration) forever)

-- whether a booking begins inside a window, after its first moment
abbrev pub begins_inside : ℕ → ℕ → Booking → Bool
begins_inside from until b = nat_lt from b.from && nat_lt b.from until

-- the greatest sum so far, with the sum where a booking begins inside the window
abbrev pub raised : List Booking → LimitId → ℕ → ℕ → ℕ → Booking → ℕ
raised bookings limit from until most b = cond (begins_inside from until b) (max most (plain_sum bookings limit b.from)) most

-- the greatest plain sum of a limit in a window, which is that of its first moment or of one where a booking begins
abbrev pub peak : List Booking → LimitId → ℕ → ℕ → ℕ
peak bookings limit from until = fold (raised bookings limit from until) (plain_sum bookings limit from) bookings
