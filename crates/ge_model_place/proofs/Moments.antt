-- Admissible grants have room at each moment of their window, and are admissible since the last end of a booking before.
use Rattle.std.proofs.Common.{◌≡◌, ℕ, ◌+◌, ◌-◌, ◌≤◌, ◌<◌, ◌&&◌, inl, inr, true, max, List, [], ◌∷◌, fold, refl, arith}
use Rattle.std.specs.List.{list_all}
use Rattle.std.specs.Prelude.{nat_le, nat_lt}
use Rattle.std.proofs.lemmas.Bool.{cond_both, cases_Bool, and_parts, and_from, or_cases, or_left, or_right, leb-true, leb-false, le-leb, ltb-true}
use Rattle.ge_model_rows.specs.ClusterRows.{Cluster}
use Rattle.ge_model_rows.specs.HostRows.{Groups}
use Rattle.ge_model_rows.specs.JobRows.{Job, Grant}
use Rattle.ge_model_rows.specs.ScheduleRows.{LimitId, Demand, Booking}
use Rattle.ge_model_place.specs.Bookings.{plain_sum, begins_inside, raised, peak}
use Rattle.ge_model_place.proofs.Peaks.{within_peak}
use Rattle.ge_model_place.specs.Limits.{capacity_of, demands_of}
use Rattle.ge_model_place.specs.Placement.{has_room, have_room, are_open, are_admissible}
use Rattle.ge_model_place.specs.Choosing.{has_room_at, AreAdmissible}
use Rattle.ge_model_place.specs.Windows.{window_end_from, is_in_time}

-- the greatest sum of a window is at most what each of its moments is at most
raised_within : (bookings : List Booking) (limit : LimitId) (from until most n : ℕ) (bs : List Booking) → most ≤ n → ((moment : ℕ) → from ≤ moment → moment < until → plain_sum bookings limit moment ≤ n)
    → fold (raised bookings limit from until) most bs ≤ n
raised_within bookings limit from until most n [] h each = h
raised_within bookings limit from until most n (b ∷ bs) h each =
    raised_within bookings limit from until (raised bookings limit from until most b) n bs
    (cond_both (begins_inside from until b) (max most (plain_sum bookings limit b.from)) most (λ m. m ≤ n)
    (λ e.
    let parts = and_parts (nat_lt from b.from) (nat_lt b.from until) e in
    let since = ltb-true from b.from parts.0 in
    let here = each b.from (omega (arith, since)) (ltb-true b.from until parts.1) in
    omega (arith, h, here))
    (λ _. h)) each

peak_within : (bookings : List Booking) (limit : LimitId) (from until n : ℕ) → from < until → ((moment : ℕ) → from ≤ moment → moment < until → plain_sum bookings limit moment ≤ n) → peak bookings limit from until ≤ n
peak_within bookings limit from until n h each = raised_within bookings limit from until (plain_sum bookings limit from) n bookings (each from (omega arith) h) each

module _ (c : Cluster) (groups : Groups) (job : Job) (bookings : List Booking) where
  room_at : (from moment : ℕ) (ds : List Demand) → from ≤ moment → moment < window_end_from c job from → list_all (has_room c groups bookings from (window_end_from c job from)) ds ≡ true
      → list_all (has_room_at c groups job bookings from moment) ds ≡ true
  room_at from moment [] since before all = refl
  room_at from moment (d ∷ ds) since before all =
      let parts = and_parts (has_room c groups bookings from (window_end_from c job from) d) (list_all (has_room c groups bookings from (window_end_from c job from)) ds) all in
      let room = leb-true (peak bookings d.limit from (window_end_from c job from) + d.amount) (capacity_of c groups d.limit) parts.0 in
      let within = within_peak bookings d.limit from (window_end_from c job from) moment since before in
      and_from (has_room_at c groups job bookings from moment d) (list_all (has_room_at c groups job bookings from moment) ds)
      (le-leb (plain_sum bookings d.limit moment + d.amount) (capacity_of c groups d.limit) (omega (arith, room, within))) (room_at from moment ds since before parts.1)

  room_over : (from : ℕ) (ds : List Demand) → from < window_end_from c job from → ((moment : ℕ) → from ≤ moment → moment < window_end_from c job from → list_all (has_room_at c groups job bookings from moment) ds ≡ true)
      → list_all (has_room c groups bookings from (window_end_from c job from)) ds ≡ true
  room_over from [] ever each = refl
  room_over from (d ∷ ds) ever each =
      let until = window_end_from c job from in
      let parts : (moment : ℕ) → from ≤ moment → moment < until → (has_room_at c groups job bookings from moment d ≡ true) × (list_all (has_room_at c groups job bookings from moment) ds ≡ true) =
      λ moment since before. and_parts (has_room_at c groups job bookings from moment d) (list_all (has_room_at c groups job bookings from moment) ds) (each moment since before) in
      let here : (moment : ℕ) → from ≤ moment → moment < until → plain_sum bookings d.limit moment + d.amount ≤ capacity_of c groups d.limit =
      λ moment since before. leb-true (plain_sum bookings d.limit moment + d.amount) (capacity_of c groups d.limit) (parts moment since before).0 in
      let first = here from (omega arith) ever in
      let top = peak_within bookings d.limit from until (capacity_of c groups d.limit - d.amount) ever (λ moment since before. let one = here moment since before in omega (arith, one)) in
      and_from (has_room c groups bookings from until d) (list_all (has_room c groups bookings from until) ds)
      (le-leb (peak bookings d.limit from until + d.amount) (capacity_of c groups d.limit) (omega (arith, top, first)))
      (room_over from ds ever (λ moment since before. (parts moment since before).1))

  -- grants that pass the test have room at each moment, and the other way round
  pub admissible_is : (from : ℕ) (grants : List Grant) → are_admissible c groups job bookings from grants ≡ true → AreAdmissible c groups job bookings from grants
  unfolding are_admissible
  admissible_is from grants e =
      let ds = demands_of c groups job grants in
      let until = window_end_from c job from in
      let parts = and_parts (is_in_time c job from && are_open c groups job grants) (have_room c groups bookings from until ds) e in
      let may = and_parts (is_in_time c job from) (are_open c groups job grants) parts.0 in
      record {
        in_time = may.0;
        opened = may.1;
        room = λ moment since before. elim (or_cases (nat_le until from) (list_all (has_room c groups bookings from until) ds) parts.1) [
          | inl empty ↦ let none = leb-true until from empty in absurd (omega (arith, none, since, before))
          | inr all ↦ room_at from moment ds since before all
        ];
      }

  pub is_admissible : (from : ℕ) (grants : List Grant) → AreAdmissible c groups job bookings from grants → are_admissible c groups job bookings from grants ≡ true
  unfolding are_admissible
  is_admissible from grants are =
      let ds = demands_of c groups job grants in
      let until = window_end_from c job from in
      and_from (is_in_time c job from && are_open c groups job grants) (have_room c groups bookings from until ds) (and_from (is_in_time c job from) (are_open c groups job grants) are.in_time are.opened)
      (elim (cases_Bool (nat_le until from)) [
        | inl empty ↦ or_left (nat_le until from) (list_all (has_room c groups bookings from until) ds) empty
        | inr ever ↦ or_right (nat_le until from) (list_all (has_room c groups bookings from until) ds) (room_over from ds (leb-false until from ever) are.room)
      ])
