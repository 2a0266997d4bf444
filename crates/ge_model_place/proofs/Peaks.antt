-- The greatest sum of a window bounds the sum at each of its moments: what holds at a moment holds since the last
-- moment of the window, up to it, at which a booking begins, or since the window's first.
use Rattle.std.proofs.Common.{◌≡◌, ℕ, ◌≤◌, ◌<◌, Bool, true, cond, ◌&&◌, max, List, [], ◌∷◌, sym, subst, inl, inr, arith}
use Rattle.std.specs.Prelude.{fold, nat_lt, nat_le}
use Rattle.std.proofs.lemmas.Bool.{cond_both, and_parts, and_cases, and_from, cases_lt, ltb-true, ltb-false, leb-true, leb-false, lt-ltb, le-leb}
use Rattle.std.proofs.lemmas.List.Sums.{sum_by-cons}
use Rattle.ge_model_rows.specs.ScheduleRows.{LimitId, Booking}
use Rattle.ge_model_place.specs.Bookings.{is_within, taken_by, demand_on, whole_sum, plain_sum, begins_inside, raised, peak}

-- whether a booking begins after a moment and by another
abbrev begins_by : ℕ → ℕ → Booking → Bool
begins_by from moment b = nat_lt from b.from && nat_le b.from moment

-- the last moment by this one at which a booking begins, or the first moment
abbrev latest : ℕ → ℕ → List Booking → ℕ
latest from moment [] = from
latest from moment (b ∷ bs) = cond (begins_by from moment b) (max b.from (latest from moment bs)) (latest from moment bs)

latest_bounds : (from moment : ℕ) (bs : List Booking) → from ≤ moment → (from ≤ latest from moment bs) × (latest from moment bs ≤ moment)
latest_bounds from moment [] h = (omega arith, h)
latest_bounds from moment (b ∷ bs) h =
    let rest = latest_bounds from moment bs h in
    cond_both (begins_by from moment b) (max b.from (latest from moment bs)) (latest from moment bs) (λ s. (from ≤ s) × (s ≤ moment))
    (λ e. let by : b.from ≤ moment = leb-true b.from moment (and_parts (nat_lt from b.from) (nat_le b.from moment) e).1 in (omega (arith, rest.0), omega (arith, rest.1, by)))
    (λ _. rest)

-- what holds at the moment holds at any moment since all that begin by it began
taken_before : (limit : LimitId) (moment since : ℕ) (b : Booking) → since ≤ moment → (b.from ≤ moment → b.from ≤ since) → taken_by limit moment b ≤ taken_by limit since b
taken_before limit moment since b h began =
    cond_both (is_within b moment) (demand_on b.demands limit) 0 (λ n. n ≤ taken_by limit since b)
    (λ e. let parts = and_parts _ _ e in
    let by : b.from ≤ moment = leb-true _ _ parts.0 in
    let on : moment < b.until = ltb-true _ _ parts.1 in
    let still : is_within b since ≡ true = and_from _ _ (le-leb _ _ (began by)) (lt-ltb _ _ (omega arith)) in
    rw still (omega arith))
    (λ _. omega arith)

latest_rises : (from moment : ℕ) (b : Booking) (bs : List Booking) → latest from moment bs ≤ latest from moment (b ∷ bs)
latest_rises from moment b bs =
    cond_both (begins_by from moment b) (max b.from (latest from moment bs)) (latest from moment bs) (λ s. latest from moment bs ≤ s)
    (λ _. omega arith)
    (λ _. omega arith)

latest_covers : (from moment : ℕ) (b : Booking) (bs : List Booking) → from ≤ moment → b.from ≤ moment → b.from ≤ latest from moment (b ∷ bs)
latest_covers from moment b bs h by =
    let rest = (latest_bounds from moment bs h).0 in
    cond_both (begins_by from moment b) (max b.from (latest from moment bs)) (latest from moment bs) (λ s. b.from ≤ s)
    (λ _. omega arith)
    (λ e. elim (and_cases _ _ e) [
      | inl early ↦ let below : b.from ≤ from = ltb-false _ _ early in omega (arith, rest)
      | inr late ↦ let above : moment < b.from = leb-false _ _ late in absurd (omega arith)
    ])

-- so do the sums
sums_before : (limit : LimitId) (from moment since : ℕ) (bs : List Booking) → from ≤ moment → since ≤ moment → latest from moment bs ≤ since → whole_sum bs limit moment ≤ whole_sum bs limit since
sums_before limit from moment since [] h back last = omega arith
sums_before limit from moment since (b ∷ bs) h back last =
    let less = latest_rises from moment b bs in
    let rest = sums_before limit from moment since bs h back (omega (arith, less)) in
    let covers : b.from ≤ moment → b.from ≤ since = λ by. omega (arith, latest_covers from moment b bs h by) in
    let one = taken_before limit moment since b back covers in
    rw (sum_by-cons (taken_by limit moment) b bs, sum_by-cons (taken_by limit since) b bs) (omega (arith, one, rest))

-- the greatest sum so far is within the greatest of all
peak_rises : (bookings : List Booking) (limit : LimitId) (from until most : ℕ) (bs : List Booking) → most ≤ fold (raised bookings limit from until) most bs
peak_rises bookings limit from until most [] = omega arith
peak_rises bookings limit from until most (b ∷ bs) =
    let rest = peak_rises bookings limit from until (raised bookings limit from until most b) bs in
    let more : most ≤ raised bookings limit from until most b =
    cond_both (begins_inside from until b) (max most (plain_sum bookings limit b.from)) most (λ n. most ≤ n) (λ _. omega arith) (λ _. omega arith) in
    omega (arith, rest, more)

max_cases : (P : ℕ → Type 0) (a b : ℕ) → P a → P b → P (max a b)
max_cases P a b p q = elim (cases_lt a b) [
  | inl less ↦ let e : max a b ≡ b = omega arith in subst P (sym e) q
  | inr more ↦ let e : max a b ≡ a = omega arith in subst P (sym e) p
]

-- the sum at the last beginning by a moment of the window is within the greatest
peak_at_latest : (bookings : List Booking) (limit : LimitId) (from until moment most : ℕ) (bs : List Booking) → moment < until → plain_sum bookings limit from ≤ most
    → plain_sum bookings limit (latest from moment bs) ≤ fold (raised bookings limit from until) most bs
peak_at_latest bookings limit from until moment most [] on first = first
peak_at_latest bookings limit from until moment most (b ∷ bs) on first =
    let P : ℕ → Type 0 = λ s. plain_sum bookings limit s ≤ fold (raised bookings limit from until) (raised bookings limit from until most b) bs in
    let more : most ≤ raised bookings limit from until most b =
    cond_both (begins_inside from until b) (max most (plain_sum bookings limit b.from)) most (λ n. most ≤ n) (λ _. omega arith) (λ _. omega arith) in
    let rest : P (latest from moment bs) = peak_at_latest bookings limit from until moment (raised bookings limit from until most b) bs on (omega (arith, more)) in
    cond_both (begins_by from moment b) (max b.from (latest from moment bs)) (latest from moment bs) P
    (λ e. let parts = and_parts (nat_lt from b.from) (nat_le b.from moment) e in
    let by : b.from ≤ moment = leb-true b.from moment parts.1 in
    let under : b.from < until = omega arith in
    let inside : begins_inside from until b ≡ true = and_from (nat_lt from b.from) (nat_lt b.from until) parts.0 (lt-ltb b.from until under) in
    let here : plain_sum bookings limit b.from ≤ raised bookings limit from until most b = rw inside (omega arith) in
    max_cases P b.from (latest from moment bs) (omega (arith, here, peak_rises bookings limit from until (raised bookings limit from until most b) bs)) rest)
    (λ _. rest)

-- the greatest sum of a window bounds the sum at each of its moments
pub within_peak : (bookings : List Booking) (limit : LimitId) (from until moment : ℕ) → from ≤ moment → moment < until → plain_sum bookings limit moment ≤ peak bookings limit from until
within_peak bookings limit from until moment h on =
    let bounds = latest_bounds from moment bookings h in
    let since = latest from moment bookings in
    let sums : whole_sum bookings limit moment ≤ whole_sum bookings limit since = sums_before limit from moment since bookings h bounds.1 (omega arith) in
    let top : plain_sum bookings limit since ≤ peak bookings limit from until = peak_at_latest bookings limit from until moment (plain_sum bookings limit from) bookings on (omega arith) in
    omega (arith, sums, top)
