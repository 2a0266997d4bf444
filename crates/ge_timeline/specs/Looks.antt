-- How many points are looked at for the greatest sum of a window.
use Rattle.std.specs.Prelude.{ℕ, ◌+◌, ◌*◌, ◌^◌, ◌≤◌, ◌&&◌, cond, nat_eq, nat_lt, List, [], ◌∷◌, flat_map, length, count_by}
use Rattle.std.specs.List.{list_any}
use Rattle.ge_model_rows.specs.ScheduleRows.{LimitId, Demand, Booking}
use Rattle.ge_model_place.specs.Bookings.{same_limit, peak}

-- the moments at which what a booking takes of a limit changes: its first one and its end, for each demand on the limit
abbrev pub changes_by : LimitId → Booking → Demand → List ℕ
changes_by limit b d = cond (same_limit d.limit limit) (b.from ∷ b.until ∷ []) []

abbrev pub changes_in : LimitId → Booking → List ℕ
changes_in limit b = flat_map (changes_by limit b) b.demands

-- the moments at which the sum of a limit changes, each as often as a demand begins or ends there; the limit has a point at each, and no other point
abbrev pub changes : List Booking → LimitId → List ℕ
changes bookings limit = flat_map (changes_in limit) bookings

-- the greatest sum of a window, 0 for an empty one
abbrev pub window_peak : List Booking → LimitId → ℕ → ℕ → ℕ
window_peak bookings limit from until = cond (nat_lt from until) (peak bookings limit from until) 0

-- numbers without those that come again later
abbrev pub once : List ℕ → List ℕ
once [] = []
once (m ∷ ms) = cond (list_any (nat_eq m) ms) (once ms) (m ∷ once ms)

abbrev pub FewLooks : List ℕ → ℕ → ℕ → ℕ → Type 0
FewLooks points from until looks = (t : ℕ) × (2 ^ t ≤ 2 * length points + 1) × (looks ≤ t + count_by (λ at. nat_lt from at && nat_lt at until) points + 2)

-- n moments of change, each taken once, of which k are inside the window take t + k + 2 looks at most, where 2^t is at most 2 n + 1
abbrev pub LooksFew : List ℕ → ℕ → ℕ → ℕ → Type 0
LooksFew changed from until looks = FewLooks (once changed) from until looks
