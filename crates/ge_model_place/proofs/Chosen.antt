-- The next slot is the one that the rule's own words choose.
use Rattle.std.proofs.Common.{◌≡◌, ℕ, ◌+◌, ◌≤◌, ◌==◌, inl, inr, Bool, true, false, ◌&&◌, cond, min, List, [], ◌∷◌, ◌++◌, map, sum_by, Option, Some, None, option_map, refl, sym, subst, ap, ◌∙◌, append_assoc, arith}
use Rattle.std.specs.List.{list_all, filter_map, cons_option}
use Rattle.std.specs.Prelude.{nat_lt}
use Rattle.std.proofs.lemmas.Bool.{cond_both, cond-true, cond-false, cases_Bool, and_parts, and_from, false_from_ne_true, le-leb, ltb-true, eqb-true}
use Rattle.std.proofs.lemmas.List.Sums.{sum_by-cons}
use Rattle.ge_model_rows.specs.ClusterRows.{Cluster}
use Rattle.ge_model_rows.specs.HostRows.{Groups, InstanceId}
use Rattle.ge_model_rows.specs.JobRows.{Job, Grant}
use Rattle.ge_model_rows.specs.ScheduleRows.{LimitId, Booking}
use Rattle.ge_model_place.specs.Bookings.{peak}
use Rattle.ge_model_place.specs.Limits.{Counted, greatest_demand, counted_at, demands_of}
use Rattle.ge_model_place.specs.Opening.{is_open}
use Rattle.ge_model_place.specs.Placement.{Cell, room_of, slot_asks, asked_so_far, asked_with_one, fits_one_more, takes_one_more, with_slot, next_slot, grant_of, are_open, have_room, are_admissible}
use Rattle.ge_model_place.specs.Windows.{window_end_from, is_in_time}
use Rattle.ge_model_place.specs.Choosing.{grants_in, one_slot_more, chosen_from, chosen}
use Rattle.ge_model_place.proofs.Admitted.{sound_is_admissible}
use Rattle.ge_model_place.proofs.Exact.{admissible_keeps}
use Rattle.ge_model_place.proofs.Filled.{each_parts, until, IsCell, IsKept, IsSound, asked_more, takes_sound}
use Rattle.ge_model_place.proofs.Once.{Each, each_of_both}
use Rattle.ge_model_place.proofs.Same.{limit_same}
use Rattle.ge_model_place.proofs.Taken.{IsCounted, counted_at_each, together_grows, asked_with_one_is, asked_with_one_some, with_one}

-- the slots of cells, where there are none too
abbrev pub slots_of_cell : Cell → Grant
slots_of_cell cell = record { at = cell.at; slots = cell.slots }

abbrev pub tally : List Cell → List Grant
tally cells = map slots_of_cell cells

-- the grants are where there is a slot
pub grants_of_tally : (cells : List Cell) → grants_in (tally cells) ≡ filter_map grant_of cells
grants_of_tally [] = refl
grants_of_tally (cell ∷ cells) =
    let rest = grants_of_tally cells in
    elim (cases_Bool (cell.slots == 0)) [
      | inl none ↦ rw none rest
      | inr some ↦ rw some (ap (λ gs. slots_of_cell cell ∷ gs) rest)
    ]

tally_of_both : (before behind : List Cell) → tally (before ++ behind) ≡ tally before ++ tally behind
tally_of_both [] behind = refl
tally_of_both (cell ∷ before) behind = ap (λ gs. slots_of_cell cell ∷ gs) (tally_of_both before behind)

module _ (c : Cluster) (groups : Groups) (job : Job) (bookings : List Booking) (from : ℕ) where
  -- where grants are open, each with a slot is
  open_among : (before : List Cell) (cell : Cell) (behind : List Cell) → (cell.slots == 0) ≡ false → are_open c groups job (filter_map grant_of (before ++ cell ∷ behind)) ≡ true → is_open c groups job cell.at ≡ true
  open_among [] cell behind some opened =
      let first = subst (λ b. are_open c groups job (cons_option (cond b None (Some (slots_of_cell cell))) (filter_map grant_of behind)) ≡ true) some opened in
      (and_parts (is_open c groups job cell.at) (are_open c groups job (filter_map grant_of behind)) first).0
  open_among (x ∷ before) cell behind some opened =
      open_among before cell behind some
      (cond_both (x.slots == 0) None (Some (slots_of_cell x)) (λ g. are_open c groups job (cons_option g (filter_map grant_of (before ++ cell ∷ behind))) ≡ true → are_open c groups job (filter_map grant_of (before ++ cell ∷ behind)) ≡ true)
      (λ _ e. e)
      (λ _ e. (and_parts (is_open c groups job x.at) (are_open c groups job (filter_map grant_of (before ++ cell ∷ behind))) e).1) opened)

  -- a room asks at least its own
  asks_own : (x : Counted) → x.amount ≤ slot_asks x.limit (room_of bookings from (until c groups job bookings from) x)
  asks_own x = let own : slot_asks x.limit (room_of bookings from (until c groups job bookings from) x) ≡ x.amount = cond-true _ _ _ (limit_same x.limit) in omega (arith, own)

  -- where what one more slot asks has room, it fits
  each_one_fits : (cells : List Cell) (asked : LimitId → ℕ) (xs : List Counted) → Each (IsCounted c groups job) xs
      → ((limit : LimitId) → sum_by (slot_asks limit) (map (room_of bookings from (until c groups job bookings from)) xs) + asked_so_far cells limit ≤ asked limit)
      → ((limit : LimitId) → IsKept c groups job bookings from limit (asked limit)) → list_all (fits_one_more cells) (map (room_of bookings from (until c groups job bookings from)) xs) ≡ true
  each_one_fits cells asked [] is within kept = refl
  each_one_fits cells asked (x ∷ xs) is within kept =
      let end = until c groups job bookings from in
      let counts = is.0.amount in
      let sums : (limit : LimitId) → sum_by (slot_asks limit) (map (room_of bookings from end) (x ∷ xs)) ≡ slot_asks limit (room_of bookings from end x) + sum_by (slot_asks limit) (map (room_of bookings from end) xs) =
      λ limit. sum_by-cons (slot_asks limit) (room_of bookings from end x) (map (room_of bookings from end) xs) in
      let here = sums x.limit in
      let own = asks_own x in
      let all = within x.limit in
      let asks_so = asked_with_one_is c groups job cells x is.0 in
      let some = asked_with_one_some c groups job cells x in
      let grown = together_grows c groups job x.limit (asked_so_far cells x.limit + x.amount) (asked x.limit) (omega (arith, all, here, own)) in
      let fits : peak bookings x.limit from end + min (asked_with_one cells x) greatest_demand ≤ x.capacity =
      rw is.0.capacity (elim (kept x.limit) [
        | inl nothing ↦ absurd (counts (omega (arith, nothing, grown, asks_so, some)))
        | inr room ↦ omega (arith, room, grown, asks_so)
      ]) in
      and_from (fits_one_more cells (room_of bookings from end x)) (list_all (fits_one_more cells) (map (room_of bookings from end) xs))
      (le-leb (peak bookings x.limit from end + min (asked_with_one cells x) greatest_demand) x.capacity fits)
      (each_one_fits cells asked xs is.1 (λ limit. let more = sums limit in let most = within limit in omega (arith, more, most)) kept)

  opened_of : (grants : List Grant) → are_admissible c groups job bookings from grants ≡ true → (is_in_time c job from ≡ true) × (are_open c groups job grants ≡ true)
  unfolding are_admissible
  opened_of grants e = and_parts (is_in_time c job from) (are_open c groups job grants) (and_parts (is_in_time c job from && are_open c groups job grants) (have_room c groups bookings from (window_end_from c job from) (demands_of c groups job grants)) e).0

  -- admissible grants with one more slot at a cell: it takes the slot
  admissible_takes : (before : List Cell) (cell : Cell) (behind : List Cell) → IsSound c groups job bookings from (before ++ cell ∷ behind)
      → are_admissible c groups job bookings from (filter_map grant_of (before ++ with_one cell ∷ behind)) ≡ true → takes_one_more (before ++ cell ∷ behind) cell ≡ true
  admissible_takes before cell behind sound admissible =
      let end = until c groups job bookings from in
      let cells = before ++ cell ∷ behind in
      let whole = each_parts (IsCell c groups job bookings from) before (cell ∷ behind) sound.whole in
      let here = whole.1.0 in
      let still : IsCell c groups job bookings from (with_one cell) = record { opened = here.opened; rooms = here.rooms } in
      let more_whole = each_of_both (IsCell c groups job bookings from) before (with_one cell ∷ behind) whole.0 (still, whole.1.1) in
      let some : ((cell.slots + 1) == 0) ≡ false = false_from_ne_true ((cell.slots + 1) == 0) (λ e. let none = eqb-true (cell.slots + 1) 0 e in absurd (omega (arith, none))) in
      let may = opened_of (filter_map grant_of (before ++ with_one cell ∷ behind)) admissible in
      let opened = here.opened ∙ and_from (is_in_time c job from) (is_open c groups job cell.at) may.0 (open_among before (with_one cell) behind some may.1) in
      and_from cell.opened (list_all (fits_one_more cells) cell.rooms) opened
      (elim (cases_Bool (nat_lt from end)) [
        | inl ever ↦
            let counts : cell.rooms ≡ map (room_of bookings from end) (counted_at c groups job cell.at) = here.rooms ∙ cond-true _ _ _ ever in
            let fits = each_one_fits cells (asked_so_far (before ++ with_one cell ∷ behind)) (counted_at c groups job cell.at) (counted_at_each c groups job cell.at)
            (λ limit.
            let more = asked_more before cell behind limit in
            let total = ap (λ rs. sum_by (slot_asks limit) rs) counts in
            omega (arith, more, total))
            (admissible_keeps c groups job bookings from (ltb-true from end ever) (before ++ with_one cell ∷ behind) more_whole admissible) in
            subst (λ rs. list_all (fits_one_more cells) rs ≡ true) (sym counts) fits
        | inr never ↦
            let none : cell.rooms ≡ [] = here.rooms ∙ cond-false _ _ _ never in subst (λ rs. list_all (fits_one_more cells) rs ≡ true) (sym none) refl
      ])

  same_test : (a b : Bool) → (a ≡ true → b ≡ true) → (b ≡ true → a ≡ true) → a ≡ b
  same_test true b to back = sym (to refl)
  same_test false true to back = back refl
  same_test false false to back = refl

  -- the two tests of one more slot are one
  takes_is_admissible : (before : List Cell) (cell : Cell) (behind : List Cell) → IsSound c groups job bookings from (before ++ cell ∷ behind)
      → are_admissible c groups job bookings from (grants_in (tally before ++ one_slot_more (slots_of_cell cell) ∷ tally behind)) ≡ takes_one_more (before ++ cell ∷ behind) cell
  takes_is_admissible before cell behind sound =
      let same : grants_in (tally before ++ one_slot_more (slots_of_cell cell) ∷ tally behind) ≡ filter_map grant_of (before ++ with_one cell ∷ behind) =
      ap grants_in (sym (tally_of_both before (with_one cell ∷ behind))) ∙ grants_of_tally (before ++ with_one cell ∷ behind) in
      ap (λ gs. are_admissible c groups job bookings from gs) same
      ∙ same_test (are_admissible c groups job bookings from (filter_map grant_of (before ++ with_one cell ∷ behind))) (takes_one_more (before ++ cell ∷ behind) cell)
      (λ e. admissible_takes before cell behind sound e)
      (λ e.
      let here = (each_parts (IsCell c groups job bookings from) before (cell ∷ behind) sound.whole).1.0 in
      let opened = sym here.opened ∙ (and_parts cell.opened (list_all (fits_one_more (before ++ cell ∷ behind)) cell.rooms) e).0 in
      sound_is_admissible c groups job bookings from (before ++ with_one cell ∷ behind) (takes_sound c groups job bookings from before cell behind sound e) (and_parts (is_in_time c job from) (is_open c groups job cell.at) opened).0)

  abbrev tallied : List Cell → Option (List Cell) → Option (List Grant)
  tallied before found = option_map (λ cells. tally (before ++ cells)) found

  tallied_later : (before : List Cell) (cell : Cell) (found : Option (List Cell)) → tallied (before ++ cell ∷ []) found ≡ tallied before (option_map (λ more. cell ∷ more) found)
  tallied_later before cell None = refl
  tallied_later before cell (Some more) = ap (λ cells. Some (tally cells)) (append_assoc before (cell ∷ []) more)

  chosen_is : (here : InstanceId → Bool) (before behind : List Cell) → IsSound c groups job bookings from (before ++ behind)
      → chosen_from c groups job bookings from here (tally before) (tally behind) ≡ tallied before (with_slot here (before ++ behind) behind)
  chosen_is here before [] sound = refl
  chosen_is here before (cell ∷ behind) sound =
      let cells = before ++ cell ∷ behind in
      let tests : (here cell.at && are_admissible c groups job bookings from (grants_in (tally before ++ one_slot_more (slots_of_cell cell) ∷ tally behind))) ≡ (here cell.at && takes_one_more cells cell) =
      ap (λ b. here cell.at && b) (takes_is_admissible before cell behind sound) in
      let along : (before ++ cell ∷ []) ++ behind ≡ cells = append_assoc before (cell ∷ []) behind in
      elim (cases_Bool (here cell.at && takes_one_more cells cell)) [
        | inl does ↦ rw (tests ∙ does, chosen_from) (rw (does, with_slot) (ap (λ gs. Some gs) (sym (tally_of_both before (with_one cell ∷ behind)))))
        | inr fails ↦
            let rest = chosen_is here (before ++ cell ∷ []) behind (subst (IsSound c groups job bookings from) (sym along) sound) in
            let from_here : chosen_from c groups job bookings from here (tally before ++ slots_of_cell cell ∷ []) (tally behind) ≡ tallied (before ++ cell ∷ []) (with_slot here cells behind) =
            ap (λ gs. chosen_from c groups job bookings from here gs (tally behind)) (sym (tally_of_both before (cell ∷ []))) ∙ rest ∙ ap (λ xs. tallied (before ++ cell ∷ []) (with_slot here xs behind)) along in
            rw (tests ∙ fails, chosen_from) (rw (fails, with_slot) (from_here ∙ tallied_later before cell (with_slot here cells behind)))
      ]

  -- the slot that is chosen is the one that is given
  pub chosen_is_one_more : (here : InstanceId → Bool) (cells : List Cell) → IsSound c groups job bookings from cells → chosen c groups job bookings from here (tally cells) ≡ option_map tally (next_slot here cells)
  chosen_is_one_more here cells sound = chosen_is here [] cells sound
