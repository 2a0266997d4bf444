-- Bookings that pass the test are one.
use Rattle.std.proofs.Common.{◌≡◌, ℕ, ◌<◌, ◌==◌, ◌&&◌, ◌+◌, not, zero, suc, true, false, take, drop, List, [], ◌∷◌, get_or, length, refl, sym, ap, subst, ◌∙◌, arith, Some, None}
use Rattle.std.specs.Prelude.{position, Contains, remove}
use Rattle.std.specs.List.{position_or_len}
use Rattle.std.specs.Cmp.Lexicographic.{pointwise}
use Rattle.std.proofs.lemmas.Bool.{and_parts, and_from, eqb-true, eq-eqb, true≢false, cond_both, cond-true, lt-ltb}
use Rattle.std.proofs.lemmas.List.Quantifiers.{position-Some}
use Rattle.std.proofs.lemmas.List.{length-take, get_or-take}
use Rattle.std.proofs.lemmas.Option.{slice_get-get_or}
use Rattle.ge_model_place.specs.Bookings.{same_limit}
use Rattle.ge_model_place.proofs.Same.{limits_equal, limit_same}
use Rattle.ge_model_rows.specs.ScheduleRows.{Demand, Booking}
use Rattle.ge_model_rows.specs.TaskRows.{TaskId}
use Rattle.ge_timeline.specs.Taking.{same_task, same_demand, same_booking, Takes}
use Rattle.ge_timeline.proofs.Renewed.{stood_at, left_by}

tasks_equal : (a b : TaskId) → same_task a b ≡ true → a ≡ b
tasks_equal a b e =
    let parts = and_parts (a.job == b.job) (a.task == b.task) e in
    let job = eqb-true a.job b.job parts.0 in
    let task = eqb-true a.task b.task parts.1 in
    λ i. record { job = job i; task = task i }

demands_equal : (a b : Demand) → same_demand a b ≡ true → a ≡ b
demands_equal a b e =
    let parts = and_parts (same_limit a.limit b.limit) (a.amount == b.amount) e in
    let limit = limits_equal a.limit b.limit parts.0 in
    let amount = eqb-true a.amount b.amount parts.1 in
    λ i. record { limit = limit i; amount = amount i }

demand_same : (a : Demand) → same_demand a a ≡ true
demand_same a = and_from (same_limit a.limit a.limit) (a.amount == a.amount) (limit_same a.limit) (eq-eqb a.amount a.amount refl)

lists_equal : (ds es : List Demand) → pointwise same_demand ds es ≡ true → ds ≡ es
lists_equal [] [] e = refl
lists_equal [] (b ∷ es) e = absurd (true≢false (sym e))
lists_equal (a ∷ ds) [] e = absurd (true≢false (sym e))
lists_equal (a ∷ ds) (b ∷ es) e =
    let parts = and_parts (same_demand a b) (pointwise same_demand ds es) e in
    ap (λ x. x ∷ ds) (demands_equal a b parts.0) ∙ ap (λ xs. b ∷ xs) (lists_equal ds es parts.1)

list_same : (ds : List Demand) → pointwise same_demand ds ds ≡ true
list_same [] = refl
list_same (a ∷ ds) = and_from (same_demand a a) (pointwise same_demand ds ds) (demand_same a) (list_same ds)

pub bookings_equal : (a b : Booking) → same_booking a b ≡ true → a ≡ b
bookings_equal a b e =
    let first = and_parts (same_task a.task b.task) (pointwise same_demand a.demands b.demands && (a.from == b.from && a.until == b.until)) e in
    let second = and_parts (pointwise same_demand a.demands b.demands) (a.from == b.from && a.until == b.until) first.1 in
    let third = and_parts (a.from == b.from) (a.until == b.until) second.1 in
    let task = tasks_equal a.task b.task first.0 in
    let demands = lists_equal a.demands b.demands second.0 in
    let from = eqb-true a.from b.from third.0 in
    let until = eqb-true a.until b.until third.1 in
    λ i. record { task = task i; demands = demands i; from = from i; until = until i }

pub booking_same : (a : Booking) → same_booking a a ≡ true
booking_same a =
    and_from (same_task a.task a.task) (pointwise same_demand a.demands a.demands && (a.from == a.from && a.until == a.until))
    (and_from (a.task.job == a.task.job) (a.task.task == a.task.task) (eq-eqb a.task.job a.task.job refl) (eq-eqb a.task.task a.task.task refl))
    (and_from (pointwise same_demand a.demands a.demands) (a.from == a.from && a.until == a.until) (list_same a.demands) (and_from (a.from == a.from) (a.until == a.until) (eq-eqb a.from a.from refl) (eq-eqb a.until a.until refl)))

-- the booking at the place that was found is out, and none before it equals it
pub found_out : (old new : List Booking) (place : ℕ) (b : Booking) → position (λ other. same_booking other b) old ≡ Some place → new ≡ remove old place → Takes b old new true
found_out old new place b found rest =
    let is = position-Some (λ other. same_booking other b) old place b found in
    let here : get_or old place b ≡ b = bookings_equal (get_or old place b) b is.1 in (
      record {
        front = take place old;
        behind = drop (place + 1) old;
        before = stood_at old place b (slice_get-get_or old place b is.0 ∙ ap (λ x. Some x) here);
        after = left_by old new place rest;
      },
      λ there. none_in_front there is.0 is.2,
    )
  where
    none_in_front : Contains (take place old) b → place < length old → ((k : ℕ) → k < place → same_booking (get_or old k b) b ≡ false) → ⊥
    none_in_front there inside other =
        let before : there.0 < place = let h = there.1 in let l = length-take place old in omega (arith, h, l, inside) in
        let met : get_or old there.0 b ≡ b = sym (get_or-take place old there.0 b before) ∙ there.2 in
        true≢false (sym (subst (λ x. same_booking x b ≡ true) (sym met) (booking_same b)) ∙ other there.0 before)

-- one that is there is found
within : (b : Booking) (xs : List Booking) (k : ℕ) → k < length xs → same_booking (get_or xs k b) b ≡ true → position_or_len (λ other. same_booking other b) xs < length xs
within b [] k inside passes = absurd (omega (arith, inside))
within b (x ∷ xs) zero inside passes = rw passes (omega arith)
within b (x ∷ xs) (suc k) inside passes =
    let rest = within b xs k (omega (arith, inside)) passes in
    cond_both (not (same_booking x b)) (1 + position_or_len (λ other. same_booking other b) xs) 0 (λ n. n < length (x ∷ xs)) (λ _. omega (arith, rest)) (λ _. omega arith)

-- a booking that isn't found is nowhere
none_before : (b : Booking) (old : List Booking) → position (λ other. same_booking other b) old ≡ None → Contains old b → ⊥
none_before b old none there =
    let same : same_booking (get_or old there.0 b) b ≡ true = subst (λ x. same_booking x b ≡ true) (sym there.2) (booking_same b) in
    absurd (some_none (position_or_len (λ other. same_booking other b) old) (sym (cond-true _ _ _ (lt-ltb (position_or_len (λ other. same_booking other b) old) (length old) (within b old there.0 there.1 same))) ∙ none))
  where
    some_none : (n : ℕ) → Some n ≡ None → ⊥
    some_none n e = cc

pub not_found : (old : List Booking) (b : Booking) → None ≡ position (λ other. same_booking other b) old → Contains old b → ⊥
not_found old b none there = none_before b old (sym none) there
