-- A task of a job without a PE is reserved at the first moment at which it could start.
use Rattle.std.proofs.Common.{◌≡◌, ℕ, ◌+◌, ◌≤◌, ◌<◌, ◌⊎◌, ◌==◌, inl, inr, Bool, true, false, ◌&&◌, ◌||◌, cond, max, List, [], ◌∷◌, ◌++◌, map, flat_map, count_by, Option, Some, None, option_map, refl, sym, subst, ap, ◌∙◌, append_assoc, arith}
use Rattle.std.specs.List.{list_all, list_any}
use Rattle.std.specs.Prelude.{nat_le, nat_lt}
use Rattle.std.proofs.lemmas.Bool.{cond_both, cond-true, cases_Bool, cases_lt, and_parts, and_cases, and_from, or_from, or_parts, or_cases, or_left, or_right, true≢false, false_from_ne_true, leb-true, leb-false, le-leb, ltb-true, ltb-false, lt-ltb, eqb-true, eq-eqb}
use Rattle.std.proofs.lemmas.List.Folds.{list_any-append}
use Rattle.std.proofs.lemmas.List.Sums.{sum_by-cons}
use Rattle.std.specs.BTreeMap.{is_at}
use Rattle.std.specs.Ordering.{nat_cmp}
use Rattle.ge_collections.specs.Keyed.{at_number}
use Rattle.ge_model_rows.specs.Groups.{expanded}
use Rattle.ge_model_rows.specs.ClusterRows.{Cluster}
use Rattle.ge_model_rows.specs.DecisionRows.{Decision}
use Rattle.ge_model_rows.specs.HostRows.{Groups, InstanceId}
use Rattle.ge_model_rows.specs.JobRows.{Job, PeRequest, Grant, Advance}
use Rattle.ge_model_rows.specs.PeRows.{FillUp}
use Rattle.ge_model_rows.specs.ScheduleRows.{LimitId, Demand, Booking}
use Rattle.ge_model_rows.specs.TaskRows.{TaskId}
use Rattle.ge_model_rows.specs.ValueRows.{infinity}
use Rattle.ge_model_place.specs.Bookings.{forever, window_end, demand_on, is_within, taken_by, whole_sum, plain_sum}
use Rattle.ge_model_place.specs.Choosing.{no_slots, grants_in, one_slot_more, has_room_at, chosen_from, chosen, grants_by, PlacesJob, PlacesRequest}
use Rattle.ge_model_place.specs.InstanceOrder.{instance_order}
use Rattle.ge_model_place.specs.Limits.{capacity_of, demands_of}
use Rattle.ge_model_place.specs.Placement.{everywhere, are_admissible, placement}
use Rattle.ge_model_place.specs.Running.{is_reserve, asks_reservation, may_reserve, booked_by}
use Rattle.ge_model_place.specs.Runs.{ends_at, bookings_after, placed_after, one_slot, IsEarliest}
use Rattle.ge_model_place.specs.Windows.{duration_of, advance_of, no_later_than, window_end_from, lasts_at, next_moment, job_bookings, runs_in_advance, advance_booking, base_bookings}
use Rattle.ge_model_place.proofs.Moments.{admissible_is, is_admissible}
use Rattle.ge_model_place.proofs.Once.{Each}
use Rattle.ge_model_place.proofs.Placed.{places_task}

-- a booking that ends not after a first moment, and by a later one
abbrev EndsApart : ℕ → ℕ → Booking → Type 0
EndsApart first moment b = (b.until ≤ first) ⊎ (moment < b.until)

-- what such bookings take at a moment between is taken at the later one too
taken_on : (limit : LimitId) (first between moment : ℕ) (b : Booking) → first ≤ between → between ≤ moment → EndsApart first moment b → taken_by limit between b ≤ taken_by limit moment b
taken_on limit first between moment b h less apart =
    cond_both (is_within b between) (demand_on b.demands limit) 0 (λ n. n ≤ taken_by limit moment b)
    (λ e.
    let parts = and_parts (nat_le b.from between) (nat_lt between b.until) e in
    let begun = leb-true b.from between parts.0 in
    let on = ltb-true between b.until parts.1 in
    let still : moment < b.until = elim apart [ inl over ↦ absurd (omega (arith, over, on, h)) | inr later ↦ later ] in
    let there : is_within b moment ≡ true = and_from (nat_le b.from moment) (nat_lt moment b.until) (le-leb b.from moment (omega (arith, begun, less))) (lt-ltb moment b.until still) in
    let takes : taken_by limit moment b ≡ demand_on b.demands limit = cond-true _ _ _ there in
    omega (arith, takes))
    (λ _. omega arith)

sums_on : (limit : LimitId) (first between moment : ℕ) (bs : List Booking) → first ≤ between → between ≤ moment → Each (EndsApart first moment) bs → whole_sum bs limit between ≤ whole_sum bs limit moment
sums_on limit first between moment [] h less apart = omega arith
sums_on limit first between moment (b ∷ bs) h less apart =
    let one = taken_on limit first between moment b h less apart.0 in
    let rest = sums_on limit first between moment bs h less apart.1 in
    let sums = sum_by-cons (taken_by limit between) b bs in
    let later = sum_by-cons (taken_by limit moment) b bs in
    omega (arith, one, rest, sums, later)

no_later_grows : (a : Option Advance) (n m : ℕ) → n ≤ m → no_later_than a n ≤ no_later_than a m
no_later_grows None n m h = h
no_later_grows (Some a) n m h = omega (arith, h)

-- a window that begins sooner ends no later
ends_no_later : (c : Cluster) (job : Job) (first moment : ℕ) → first ≤ moment → window_end_from c job first ≤ window_end_from c job moment
ends_no_later c job first moment h =
    no_later_grows (advance_of c job) (window_end first (duration_of c job)) (window_end moment (duration_of c job))
    (elim (cases_Bool (duration_of c job == infinity)) [ inl endless ↦ rw endless (omega arith) | inr some ↦ rw some (omega (arith, h)) ])

-- a window that begins before the end of all has a moment, unless the reservation is over that the job is sent into
lasts_on : (c : Cluster) (job : Job) (moment : ℕ) → moment < forever → moment < window_end moment (duration_of c job)
lasts_on c job moment h =
    elim (cases_Bool (duration_of c job == infinity)) [ inl endless ↦ rw endless h | inr some ↦ rw some (omega (arith, h)) ]

-- the window at the later moment has a moment, or that at the first has none
abbrev Lasts : Cluster → Job → ℕ → ℕ → Type 0
Lasts c job first moment = (moment < window_end_from c job moment) ⊎ (window_end_from c job first ≤ first)

module _ (c : Cluster) (groups : Groups) (job : Job) (bookings : List Booking) where
  room_on : (first between moment : ℕ) (ds : List Demand) → first ≤ between → between ≤ moment → Each (EndsApart first moment) bookings → list_all (has_room_at c groups job bookings moment moment) ds ≡ true
      → list_all (has_room_at c groups job bookings first between) ds ≡ true
  room_on first between moment [] h less apart all = refl
  room_on first between moment (d ∷ ds) h less apart all =
      let parts = and_parts (has_room_at c groups job bookings moment moment d) (list_all (has_room_at c groups job bookings moment moment) ds) all in
      let room = leb-true (plain_sum bookings d.limit moment + d.amount) (capacity_of c groups d.limit) parts.0 in
      let sums = sums_on d.limit first between moment bookings h less apart in
      and_from (has_room_at c groups job bookings first between d) (list_all (has_room_at c groups job bookings first between) ds)
      (le-leb (plain_sum bookings d.limit between + d.amount) (capacity_of c groups d.limit) (omega (arith, room, sums))) (room_on first between moment ds h less apart parts.1)

  -- where no booking ends between, what is admissible from the later moment on is so from the first, of a job that is sent into no reservation
  sooner : (first moment : ℕ) (grants : List Grant) → (job.advance == 0) ≡ true → first ≤ moment → Lasts c job first moment → Each (EndsApart first moment) bookings
      → are_admissible c groups job bookings moment grants ≡ true → are_admissible c groups job bookings first grants ≡ true
  sooner first moment grants free h lasts apart e =
      let are = admissible_is c groups job bookings moment grants e in
      is_admissible c groups job bookings first grants (record {
        in_time = or_left (job.advance == 0) (lasts_at first (advance_of c job)) free;
        opened = are.opened;
        room = λ between since before. elim (cases_lt between moment) [
          | inl less ↦ elim lasts [
            | inl on ↦ room_on first between moment (demands_of c groups job grants) since (omega (arith, less)) apart (are.room moment (omega arith) on)
            | inr over ↦ absurd (omega (arith, since, before, over))
          ]
          | inr later ↦ let ends = ends_no_later c job first moment h in are.room between (omega (arith, later)) (omega (arith, before, ends))
        ];
      })

  -- a task of a job without a PE

  -- no slot before makes no grant
  abbrev pub NoGrants : List Grant → Type 0
  NoGrants front = (behind : List Grant) → grants_in (front ++ behind) ≡ grants_in behind

  pub one_alone : (ats : List InstanceId) → grants_in (no_slots ats) ≡ []
  one_alone [] = refl
  one_alone (at ∷ ats) = one_alone ats

  none_chosen : (from : ℕ) (front : List Grant) (ats : List InstanceId) → NoGrants front → chosen_from c groups job bookings from everywhere front (no_slots ats) ≡ None
      → list_any (λ at. are_admissible c groups job bookings from (one_slot at)) ats ≡ false
  none_chosen from front [] empty e = refl
  none_chosen from front (at ∷ ats) empty e =
      let none : Grant = record { at = at; slots = 0 } in
      let one : grants_in (front ++ one_slot_more none ∷ no_slots ats) ≡ one_slot at = empty (one_slot_more none ∷ no_slots ats) ∙ ap (λ gs. one_slot_more none ∷ gs) (one_alone ats) in
      let test : are_admissible c groups job bookings from (grants_in (front ++ one_slot_more none ∷ no_slots ats)) ≡ are_admissible c groups job bookings from (one_slot at) = ap (λ gs. are_admissible c groups job bookings from gs) one in
      elim (cases_Bool (are_admissible c groups job bookings from (one_slot at))) [
        | inl is ↦
            let found : chosen_from c groups job bookings from everywhere front (no_slots (at ∷ ats)) ≡ Some (front ++ one_slot_more none ∷ no_slots ats) = rw (test ∙ is, chosen_from) refl in
            let both : Some (front ++ one_slot_more none ∷ no_slots ats) ≡ None = sym found ∙ e in
            absurd cc
        | inr isnt ↦
            let later : chosen_from c groups job bookings from everywhere front (no_slots (at ∷ ats)) ≡ chosen_from c groups job bookings from everywhere (front ++ none ∷ []) (no_slots ats) = rw (test ∙ isnt, chosen_from) refl in
            or_from (are_admissible c groups job bookings from (one_slot at)) (list_any (λ x. are_admissible c groups job bookings from (one_slot x)) ats) isnt
            (none_chosen from (front ++ none ∷ []) ats (λ behind. ap grants_in (append_assoc front (none ∷ []) behind) ∙ empty (none ∷ behind)) (sym later ∙ e))
      ]

  none_from_times : (from : ℕ) (slots : List Grant) (found : Option (List Grant)) → chosen c groups job bookings from everywhere slots ≡ found → option_map grants_in (elim found [ None ↦ None | Some next ↦ Some next ]) ≡ None
      → chosen c groups job bookings from everywhere slots ≡ None
  none_from_times from slots None is e = is
  none_from_times from slots (Some next) is e = absurd cc

  none_admissible : (from : ℕ) (order : List InstanceId) → grants_by c groups job bookings from order FillUp 1 ≡ None → list_any (λ at. are_admissible c groups job bookings from (one_slot at)) order ≡ false
  none_admissible from order e =
      none_chosen from [] order (λ behind. refl) (none_from_times from (no_slots order) (chosen c groups job bookings from everywhere (no_slots order)) refl e)

  request_none : (from : ℕ) (order : List InstanceId) (request : Option PeRequest) → request ≡ None → PlacesRequest c groups order bookings from job request None → grants_by c groups job bookings from order FillUp 1 ≡ None
  request_none from order None none places = places 1 (omega arith) (omega arith) (omega arith)
  request_none from order (Some request) none places = absurd cc

-- where a task of a job without a PE has no placement, no instance is admissible
none_placed : (c : Cluster) (groups : Groups) (order : List InstanceId) (bookings : List Booking) (task : TaskId) (job : Job) (from : ℕ) → at_number c.jobs task.job ≡ Some job → job.request.pe ≡ None
    → placement c groups order bookings task from ≡ None → list_any (λ at. are_admissible c groups job bookings from (one_slot at)) order ≡ false
none_placed c groups order bookings task job from found none e =
    let places : PlacesJob c groups order bookings from (at_number c.jobs task.job) None = subst (λ g. PlacesJob c groups order bookings from (at_number c.jobs task.job) g) e (places_task c groups order bookings from task) in
    none_admissible c groups job bookings from order (request_none c groups job bookings from order job.request.pe none (subst (λ j. PlacesJob c groups order bookings from j None) found places))

-- the last end of a booking after a moment and by another

abbrev ends_by : ℕ → ℕ → Booking → Bool
ends_by now moment b = nat_lt now b.until && nat_le b.until moment

abbrev last_end : ℕ → ℕ → List Booking → ℕ
last_end now moment [] = now
last_end now moment (b ∷ bs) = cond (ends_by now moment b) (max b.until (last_end now moment bs)) (last_end now moment bs)

last_within : (now moment : ℕ) (bs : List Booking) → now ≤ moment → (now ≤ last_end now moment bs) × (last_end now moment bs ≤ moment)
last_within now moment [] h = (omega arith, h)
last_within now moment (b ∷ bs) h =
    let rest = last_within now moment bs h in
    cond_both (ends_by now moment b) (max b.until (last_end now moment bs)) (last_end now moment bs) (λ n. (now ≤ n) × (n ≤ moment))
    (λ e. let by = leb-true b.until moment (and_parts (nat_lt now b.until) (nat_le b.until moment) e).1 in (omega (arith, rest.0), omega (arith, rest.1, by)))
    (λ _. rest)

each_later : (first last moment : ℕ) (bs : List Booking) → first ≤ last → Each (EndsApart first moment) bs → Each (EndsApart last moment) bs
each_later first last moment [] h apart = tt
each_later first last moment (b ∷ bs) h apart =
    (elim apart.0 [ inl over ↦ inl (omega (arith, over, h)) | inr later ↦ inr later ], each_later first last moment bs h apart.1)

last_apart : (now moment : ℕ) (bs : List Booking) → now ≤ moment → Each (EndsApart (last_end now moment bs) moment) bs
last_apart now moment [] h = tt
last_apart now moment (b ∷ bs) h =
    let rest = last_apart now moment bs h in
    let within = last_within now moment bs h in
    cond_both (ends_by now moment b) (max b.until (last_end now moment bs)) (last_end now moment bs) (λ n. EndsApart n moment b × Each (EndsApart n moment) bs)
    (λ _. (inl (omega arith), each_later (last_end now moment bs) (max b.until (last_end now moment bs)) moment bs (omega arith) rest))
    (λ e. (
      elim (and_cases (nat_lt now b.until) (nat_le b.until moment) e) [
        | inl early ↦ let by = ltb-false now b.until early in inl (omega (arith, by, within.0))
        | inr late ↦ inr (leb-false b.until moment late)
      ],
      rest,
    ))

-- it is now or the end of a booking
last_is : (now moment : ℕ) (bs : List Booking) → (last_end now moment bs ≡ now) ⊎ (ends_at bs (last_end now moment bs) ≡ true)
last_is now moment [] = inl refl
last_is now moment (b ∷ bs) =
    let rest = last_end now moment bs in
    let keeps : (last : ℕ) → (last ≡ now) ⊎ (ends_at bs last ≡ true) → (last ≡ now) ⊎ (((b.until == last) || ends_at bs last) ≡ true) =
    λ last is. elim is [ inl same ↦ inl same | inr ends ↦ inr (or_right (b.until == last) (ends_at bs last) ends) ] in
    cond_both (ends_by now moment b) (max b.until rest) rest (λ n. (n ≡ now) ⊎ (((b.until == n) || ends_at bs n) ≡ true))
    (λ _. elim (cases_lt rest b.until) [
      | inl less ↦ let top : max b.until rest ≡ b.until = omega (arith, less) in subst (λ n. (n ≡ now) ⊎ (((b.until == n) || ends_at bs n) ≡ true)) (sym top) (inr (or_left (b.until == b.until) (ends_at bs b.until) (eq-eqb b.until b.until refl)))
      | inr more ↦ let top : max b.until rest ≡ rest = omega (arith, more) in subst (λ n. (n ≡ now) ⊎ (((b.until == n) || ends_at bs n) ≡ true)) (sym top) (keeps rest (last_is now moment bs))
    ])
    (λ _. keeps rest (last_is now moment bs))

-- no end of a booking by then is later
ends_sooner : (now moment end : ℕ) (bs : List Booking) → ends_at bs end ≡ true → now < end → end ≤ moment → end ≤ last_end now moment bs
ends_sooner now moment end [] ends later by = absurd (true≢false (sym ends))
ends_sooner now moment end (b ∷ bs) ends later by =
    elim (or_cases (b.until == end) (ends_at bs end) ends) [
      | inl here ↦
          let same = eqb-true b.until end here in
          let counts : ends_by now moment b ≡ true = and_from (nat_lt now b.until) (nat_le b.until moment) (lt-ltb now b.until (omega (arith, same, later))) (le-leb b.until moment (omega (arith, same, by))) in
          let whole : last_end now moment (b ∷ bs) ≡ max b.until (last_end now moment bs) = cond-true _ _ _ counts in
          omega (arith, whole, same)
      | inr there ↦
          let rest = ends_sooner now moment end bs there later by in
          cond_both (ends_by now moment b) (max b.until (last_end now moment bs)) (last_end now moment bs) (λ n. end ≤ n) (λ _. omega (arith, rest)) (λ _. rest)
    ]

-- a reservation's booking ends at its end, where that is still to come
advance_ends : (c : Cluster) (groups : Groups) (now number : ℕ) (a : Advance) (rows : List (ℕ × Advance)) → at_number rows number ≡ Some a → now < a.until
    → ends_at (map (advance_booking c groups now) rows) a.until ≡ true
advance_ends c groups now number a [] found later = absurd cc
advance_ends c groups now number a (row ∷ rows) found later =
    let booking = advance_booking c groups now row in
    elim (cases_Bool (is_at (nat_cmp number) row.0)) [
      | inl here ↦
          let this : Some row.1 ≡ Some a = subst (λ b. cond b (Some row.1) (at_number rows number) ≡ Some a) here found in
          let same : row.1 ≡ a = cc in
          let end = ap (λ (x : Advance). x.until) same in
          let until : booking.until ≡ a.until =
          cond_both (list_any (runs_in_advance row.0) c.jobs) (max row.1.until (next_moment now)) row.1.until (λ n. n ≡ a.until) (λ _. omega (arith, end, later)) (λ _. end) in
          or_left (booking.until == a.until) (ends_at (map (advance_booking c groups now) rows) a.until) (eq-eqb booking.until a.until until)
      | inr there ↦
          or_right (booking.until == a.until) (ends_at (map (advance_booking c groups now) rows) a.until)
          (advance_ends c groups now number a rows (subst (λ b. cond b (Some row.1) (at_number rows number) ≡ Some a) there found) later)
    ]

base_ends : (c : Cluster) (now number : ℕ) (a : Advance) (before : List Decision) → at_number c.advances number ≡ Some a → now < a.until → ends_at (bookings_after c now before) a.until ≡ true
unfolding base_bookings
base_ends c now number a before found later =
    let groups = expanded c in
    let test : Booking → Bool = λ b. b.until == a.until in
    let running = flat_map (job_bookings c groups now) c.jobs in
    let booked = map (advance_booking c groups now) c.advances in
    list_any-append test (running ++ booked) (flat_map (booked_by c groups now) before)
    ∙ or_left (list_any test (running ++ booked)) (list_any test (flat_map (booked_by c groups now) before))
    (list_any-append test running booked ∙ or_right (list_any test running) (list_any test booked) (advance_ends c groups now number a c.advances found later))

-- since the last end of a booking a window lasts on, or had none
lasts_since : (c : Cluster) (now : ℕ) (before : List Decision) (job : Job) (moment : ℕ) (found : Option Advance) → advance_of c job ≡ found → now ≤ moment → moment < forever
    → Lasts c job (last_end now moment (bookings_after c now before)) moment
lasts_since c now before job moment None is later ever = inl (rw is (lasts_on c job moment ever))
lasts_since c now before job moment (Some a) is later ever =
    let first = last_end now moment (bookings_after c now before) in
    elim (cases_lt moment a.until) [
      | inl on ↦ let plain = lasts_on c job moment ever in inl (rw is (omega (arith, on, plain)))
      | inr over ↦
          let since : a.until ≤ first =
          elim (cases_lt now a.until) [
            | inl to_come ↦ ends_sooner now moment a.until (bookings_after c now before) (base_ends c now job.advance a before is to_come) to_come over
            | inr past ↦ let within = last_within now moment (bookings_after c now before) later in omega (arith, past, within.0)
          ] in
          inr (rw is (omega (arith, since)))
    ]

-- some instance is admissible sooner where one is later
any_sooner : (c : Cluster) (groups : Groups) (job : Job) (bookings : List Booking) (first moment : ℕ) (ats : List InstanceId) → (job.advance == 0) ≡ true → first ≤ moment → Lasts c job first moment → Each (EndsApart first moment) bookings
    → list_any (λ at. are_admissible c groups job bookings first (one_slot at)) ats ≡ false → list_any (λ at. are_admissible c groups job bookings moment (one_slot at)) ats ≡ false
any_sooner c groups job bookings first moment [] free h lasts apart none = refl
any_sooner c groups job bookings first moment (at ∷ ats) free h lasts apart none =
    let parts = or_parts (are_admissible c groups job bookings first (one_slot at)) (list_any (λ x. are_admissible c groups job bookings first (one_slot x)) ats) none in
    or_from (are_admissible c groups job bookings moment (one_slot at)) (list_any (λ x. are_admissible c groups job bookings moment (one_slot x)) ats)
    (false_from_ne_true (are_admissible c groups job bookings moment (one_slot at)) (λ is. true≢false (sym (sooner c groups job bookings first moment (one_slot at) free h lasts apart is) ∙ parts.0)))
    (any_sooner c groups job bookings first moment ats free h lasts apart parts.1)

-- a reservation of a task of a job without a PE is at the first moment at which it could start
pub earliest : (c : Cluster) (now : ℕ) → IsEarliest c now
earliest c now before task job at grants found none is moment later less =
    let bookings = bookings_after c now before in
    let first = last_end now moment bookings in
    let within = last_within now moment bookings (omega (arith, later)) in
    let ever : moment < forever = let end = is.end.ever in omega (arith, less, end) in
    let nothing : placed_after c now before task first ≡ None =
    elim (last_is now moment bookings) [
      | inl same ↦ subst (λ n. placed_after c now before task n ≡ None) (sym same) is.waits.full
      | inr ends ↦ elim (cases_lt now first) [
        | inl after ↦ is.first first (omega (arith, within, less)) (record { later = after; ever = omega (arith, within, ever); ends = ends })
        | inr at_now ↦ let same : first ≡ now = omega (arith, at_now, within) in subst (λ n. placed_after c now before task n ≡ None) (sym same) is.waits.full
      ]
    ] in
    let may : may_reserve c before (Some job) ≡ true = subst (λ j. may_reserve c before j ≡ true) found is.may in
    let free = (and_parts job.reserve (job.advance == 0) (and_parts (asks_reservation (Some job)) (nat_lt (count_by is_reserve before) c.sched.max_reservation) may).0).1 in
    any_sooner c (expanded c) job bookings first moment (instance_order c (expanded c)) free within.1 (lasts_since c now before job moment (advance_of c job) refl (omega (arith, later)) ever) (last_apart now moment bookings (omega (arith, later)))
    (none_placed c (expanded c) (instance_order c (expanded c)) bookings task job first found none nothing)
