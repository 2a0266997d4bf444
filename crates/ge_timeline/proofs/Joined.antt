-- Points that have the sum at each moment of a window have its greatest sum.
use Rattle.std.proofs.Common.{◌≡◌, ℕ, ◌+◌, ◌-◌, ◌*◌, ◌^◌, ◌≤◌, ◌<◌, inl, inr, Bool, true, cond, max, ◌&&◌, List, [], ◌∷◌, fold, Some, None, length, sym, subst, ◌∙◌, arith, refl}
use Rattle.std.specs.Prelude.{Vec, nat_lt, count_by}
use Rattle.std.specs.declared.alloc.Global.{Global}
use Rattle.std.proofs.lemmas.Bool.{cond_both, and_parts, ltb-true, cases_lt, cond-true, cond-false, lt-ltb, le-ltb}
use Rattle.std.proofs.lemmas.List.{length-map}
use Rattle.std.proofs.lemmas.List.Sums.{sum_by-cons}
use Rattle.slab.specs.Slab.{Slab, get}
use Rattle.ge_model_rows.specs.ScheduleRows.{LimitId, Booking}
use Rattle.ge_model_place.specs.Bookings.{plain_sum, begins_inside, raised, peak}
use Rattle.ge_model_place.proofs.Peaks.{within_peak}
use Rattle.ge_timeline.specs.declared.points.Point.{Point}
use Rattle.ge_timeline.specs.StepFunctions.{IsRising, level, greatest, moments, points_in}
use Rattle.ge_timeline.proofs.Levels.{level_within, level_met, rises_from_places}
use Rattle.ge_timeline.proofs.Once.{once_no_more, rising_once}
use Rattle.ge_timeline.specs.Looks.{changes, window_peak, once, FewLooks, LooksFew}
use Rattle.ge_timeline.specs.Shown.{number_in, HasNoMore, Draws, ShowsPoints, ShowsLimit, Shows}

raised_within : (bookings : List Booking) (limit : LimitId) (from until most n : ℕ) (bs : List Booking) → most ≤ n → ((moment : ℕ) → from ≤ moment → moment < until → plain_sum bookings limit moment ≤ n)
    → fold (raised bookings limit from until) most bs ≤ n
raised_within bookings limit from until most n [] h each = h
raised_within bookings limit from until most n (b ∷ bs) h each =
    raised_within bookings limit from until (raised bookings limit from until most b) n bs
    (cond_both (begins_inside from until b) (max most (plain_sum bookings limit b.from)) most (λ m. m ≤ n)
    (λ e.
    let parts = and_parts (nat_lt from b.from) (nat_lt b.from until) e in
    let since = ltb-true from b.from parts.0 in
    let here = each b.from (omega (arith, since)) (ltb-true b.from until parts.1) in
    omega (arith, h, here))
    (λ _. h)) each

-- a bound that is met
pub peak_is : (bookings : List Booking) (limit : LimitId) (from until n moment : ℕ) → ((t : ℕ) → from ≤ t → t < until → plain_sum bookings limit t ≤ n) → from ≤ moment → moment < until → plain_sum bookings limit moment ≡ n
    → peak bookings limit from until ≡ n
peak_is bookings limit from until n moment each since before met =
    let first = each from (omega arith) (omega (arith, since, before)) in
    let most = raised_within bookings limit from until (plain_sum bookings limit from) n bookings first each in
    let least = within_peak bookings limit from until moment since before in
    omega (arith, most, least, met)

-- the greatest number of the points is the greatest sum of the bookings
greatest_is_peak : (bookings : List Booking) (limit : LimitId) (points : List Point) (from until : ℕ) → IsRising points → from < until → ((t : ℕ) → from ≤ t → t < until → level points t ≡ plain_sum bookings limit t)
    → greatest points from until ≡ peak bookings limit from until
greatest_is_peak bookings limit points from until r some same =
    let top = level_met points from until r some in
    sym (peak_is bookings limit from until (greatest points from until) top.0
    (λ t since before. let bound = level_within points from until t r since before in let one = same t since before in omega (arith, bound, one)) top.1 top.2 (sym (same top.0 top.1 top.2) ∙ top.3))

-- a limit without points
none_is_peak : (bookings : List Booking) (limit : LimitId) (from until : ℕ) → from < until → ((t : ℕ) → plain_sum bookings limit t ≡ 0) → peak bookings limit from until ≡ 0
none_is_peak bookings limit from until some zeros = peak_is bookings limit from until 0 from (λ t since before. let z = zeros t in omega (arith, z)) (omega arith) some (zeros from)

pub found_draws : (index : List (LimitId × ℕ)) (functions : Slab (Vec Point Global)) (bookings : List Booking) (limit : LimitId) (number : ℕ) (points : Vec Point Global) → Shows index functions (plain_sum bookings) (changes bookings) → number_in index limit ≡ Some number
    → get functions number ≡ Some points → Draws (plain_sum bookings limit) (changes bookings limit) points.items
found_draws index functions bookings limit number points s is found =
    subst (λ o. ShowsPoints (plain_sum bookings limit) (changes bookings limit) o) found (subst (λ k. ShowsLimit functions (plain_sum bookings limit) (changes bookings limit) k) is (s.each limit))

-- what the points show is the greatest sum, and 0 for an empty window
pub drawn_peak : (bookings : List Booking) (limit : LimitId) (from until : ℕ) (points : List Point) → Draws (plain_sum bookings limit) (changes bookings limit) points → greatest points from until ≡ window_peak bookings limit from until
drawn_peak bookings limit from until points drawn =
    elim (cases_lt from until) [
      | inl some ↦ greatest_is_peak bookings limit points from until drawn.rising some (λ t since before. drawn.same t) ∙ sym (cond-true _ _ _ (lt-ltb from until some))
      | inr none ↦ cond-false _ _ _ (le-ltb from until none) ∙ sym (cond-false _ _ _ (le-ltb from until none))
    ]

pub no_peak : (index : List (LimitId × ℕ)) (functions : Slab (Vec Point Global)) (bookings : List Booking) (limit : LimitId) (from until : ℕ) → Shows index functions (plain_sum bookings) (changes bookings) → number_in index limit ≡ None
    → 0 ≡ window_peak bookings limit from until
no_peak index functions bookings limit from until s none_in =
    let zeros : (t : ℕ) → plain_sum bookings limit t ≡ 0 = subst (λ k. ShowsLimit functions (plain_sum bookings limit) (changes bookings limit) k) none_in (s.each limit) in
    elim (cases_lt from until) [
      | inl some ↦ sym (cond-true _ _ _ (lt-ltb from until some) ∙ none_is_peak bookings limit from until some zeros)
      | inr none ↦ sym (cond-false _ _ _ (le-ltb from until none))
    ]

-- the looks among the points are few among the moments at which the sum changes

count_moments : (test : ℕ → Bool) (ps : List Point) → count_by (λ (p : Point). test p.at) ps ≡ count_by test (moments ps)
count_moments test [] = refl
count_moments test (p ∷ ps) =
    let rest = count_moments test ps in
    let one = sum_by-cons (λ (q : Point). cond (test q.at) 1 0) p ps in
    let two = sum_by-cons (λ (m : ℕ). cond (test m) 1 0) p.at (moments ps) in
    omega (arith, rest, one, two)

count_all : (xs : List ℕ) → count_by (λ (m : ℕ). true) xs ≡ length xs
count_all [] = refl
count_all (x ∷ xs) =
    let rest = count_all xs in
    let one = sum_by-cons (λ (m : ℕ). cond true 1 0) x xs in
    omega (arith, rest, one)

few_among : (changed : List ℕ) (points : List Point) (from until old new : ℕ) → HasNoMore (moments points) changed → (t : ℕ) × (2 ^ t ≤ 2 * length points + 1) × (new ≤ old + t + points_in from until points + 2) → FewLooks changed from until (new - old)
few_among changed points from until old new more looks =
    let all = more (λ m. true) in
    let here = count_all (moments points) in
    let there = count_all changed in
    let long = length-map points (λ (p : Point). p.at) in
    let inside = more (λ m. nat_lt from m && nat_lt m until) in
    let same = count_moments (λ m. nat_lt from m && nat_lt m until) points in
    let halves = looks.1 in
    let most = looks.2 in
    (looks.0, omega (arith, all, here, there, long, halves), omega (arith, inside, same, most))

pub few_looks : (changed : List ℕ) (points : List Point) (from until old new : ℕ) → IsRising points → HasNoMore (moments points) changed → (t : ℕ) × (2 ^ t ≤ 2 * length points + 1) × (new ≤ old + t + points_in from until points + 2)
    → LooksFew changed from until (new - old)
few_looks changed points from until old new rising more looks =
    few_among (once changed) points from until old new (once_no_more (moments points) changed (rising_once (moments points) (rises_from_places points rising)) more) looks
