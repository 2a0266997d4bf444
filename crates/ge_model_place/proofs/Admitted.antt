-- The grants of a placement are admissible.
use Rattle.std.proofs.Common.{◌≡◌, ℕ, ◌+◌, ◌*◌, ◌≤◌, ◌<◌, ◌⊎◌, ◌&&◌, ◌==◌, inl, inr, true, false, max, List, [], ◌∷◌, map, sum_by, Option, Some, None, refl, sym, subst, ap, ◌∙◌, arith}
use Rattle.std.specs.List.{list_all, filter_map, cons_option}
use Rattle.std.specs.Prelude.{nat_le}
use Rattle.std.proofs.lemmas.Bool.{cond_both, cond-true, cases_Bool, and_parts, and_from, or_left, or_right, true≢false, eq-eqb, leb-true, leb-false, le-leb, lt-ltb}
use Rattle.std.proofs.lemmas.List.Sums.{sum_by-cons}
use Rattle.ge_collections.specs.Keyed.{at_text}
use Rattle.ge_model_rows.specs.ClusterRows.{Cluster}
use Rattle.ge_model_rows.specs.HostRows.{Groups, InstanceId}
use Rattle.ge_model_rows.specs.JobRows.{Job, PeRequest, Grant}
use Rattle.ge_model_rows.specs.PeRows.{PeRow, FillUp}
use Rattle.ge_model_rows.specs.ScheduleRows.{LimitId, Demand, Booking}
use Rattle.ge_model_place.specs.Bookings.{peak}
use Rattle.ge_model_place.specs.Limits.{capacity_of, counted_at, demands_of}
use Rattle.ge_model_place.specs.Opening.{is_open}
use Rattle.ge_model_place.specs.Placement.{Cell, room_of, cell_of, slot_asks, cell_asks, asked_so_far, slots_given, spread, grant_of, granted, placed_with, placed_by, placement_of, job_placement, has_room, have_room, are_open, are_admissible}
use Rattle.ge_model_place.specs.Windows.{window_end_from, is_in_time}
use Rattle.ge_model_place.proofs.Once.{Each}
use Rattle.ge_model_place.proofs.Demanded.{IsBelow, demands_below, grant_counts, grants_count}
use Rattle.ge_model_place.proofs.Taken.{together}
use Rattle.ge_model_place.proofs.Filled.{until, IsCell, IsSound, times_slots, rooms_ask, spread_sound, start_sound}

module _ (c : Cluster) (groups : Groups) (job : Job) (bookings : List Booking) (from : ℕ) where
  -- what a cell's slots ask is what its grant counts for
  cell_counts : from < until c groups job bookings from → (cell : Cell) → IsCell c groups job bookings from cell → (limit : LimitId)
      → cell_asks limit cell ≡ grant_counts c groups job limit (record { at = cell.at; slots = cell.slots })
  cell_counts ever cell is limit =
      let counted : cell.rooms ≡ map (room_of bookings from (until c groups job bookings from)) (counted_at c groups job cell.at) = is.rooms ∙ cond-true _ _ _ (lt-ltb from (until c groups job bookings from) ever) in
      let total = ap (λ rs. sum_by (slot_asks limit) rs) counted ∙ rooms_ask c groups job bookings from limit (counted_at c groups job cell.at) in
      times_slots cell.slots (sum_by (slot_asks limit) cell.rooms) ∙ ap (λ n. cell.slots * n) total

  pub grants_count_is : from < until c groups job bookings from → (cells : List Cell) → Each (IsCell c groups job bookings from) cells → (limit : LimitId)
      → grants_count c groups job (filter_map grant_of cells) limit ≡ asked_so_far cells limit
  grants_count_is ever [] is limit = refl
  grants_count_is ever (cell ∷ cells) is limit =
      let grant : Grant = record { at = cell.at; slots = cell.slots } in
      let rest = grants_count_is ever cells is.1 limit in
      let whole = sum_by-cons (cell_asks limit) cell cells in
      let one = cell_counts ever cell is.0 limit in
      cond_both (cell.slots == 0) None (Some grant) (λ g. grants_count c groups job (cons_option g (filter_map grant_of cells)) limit ≡ asked_so_far (cell ∷ cells) limit)
      (λ none. let nothing : cell_asks limit cell ≡ 0 = cond-true _ _ _ none in omega (arith, rest, whole, nothing))
      (λ _. let both = sum_by-cons (grant_counts c groups job limit) grant (filter_map grant_of cells) in omega (arith, rest, whole, one, both))

  -- there is room for what is asked
  rooms_for : from < until c groups job bookings from → (cells : List Cell) → IsSound c groups job bookings from cells → (ds : List Demand) → Each (IsBelow c groups job (grants_count c groups job (filter_map grant_of cells))) ds
      → list_all (has_room c groups bookings from (until c groups job bookings from)) ds ≡ true
  rooms_for ever cells sound [] each = refl
  rooms_for ever cells sound (d ∷ ds) each =
      let asked = ap (λ n. together c groups job d.limit n) (grants_count_is ever cells sound.whole d.limit) in
      let some = each.0.asked.some in
      let fits : peak bookings d.limit from (until c groups job bookings from) + d.amount ≤ capacity_of c groups d.limit =
      elim (sound.kept ever d.limit) [
        | inl nothing ↦ absurd (some (omega (arith, nothing, asked, each.0.below)))
        | inr room ↦ omega (arith, room, asked, each.0.below, each.0.asked.within)
      ] in
      and_from (has_room c groups bookings from (until c groups job bookings from) d) (list_all (has_room c groups bookings from (until c groups job bookings from)) ds)
      (le-leb (peak bookings d.limit from (until c groups job bookings from) + d.amount) (capacity_of c groups d.limit) fits) (rooms_for ever cells sound ds each.1)

  opened_all : (cells : List Cell) → Each (IsCell c groups job bookings from) cells → Each (λ (cell : Cell). (cell.slots ≡ 0) ⊎ (cell.opened ≡ true)) cells → are_open c groups job (filter_map grant_of cells) ≡ true
  opened_all [] is opened = refl
  opened_all (cell ∷ cells) is opened =
      let rest = opened_all cells is.1 opened.1 in
      cond_both (cell.slots == 0) None (Some (record { at = cell.at; slots = cell.slots })) (λ g. are_open c groups job (cons_option g (filter_map grant_of cells)) ≡ true)
      (λ _. rest)
      (λ some. and_from (is_open c groups job cell.at) (are_open c groups job (filter_map grant_of cells))
      (elim opened.0 [ inl none ↦ absurd (true≢false (sym (eq-eqb cell.slots 0 none) ∙ some)) | inr there ↦ (and_parts (is_in_time c job from) (is_open c groups job cell.at) (sym is.0.opened ∙ there)).1 ]) rest)

  -- where a slot was given, the job's task may start
  in_time_of : (cells : List Cell) → Each (IsCell c groups job bookings from) cells → Each (λ (cell : Cell). (cell.slots ≡ 0) ⊎ (cell.opened ≡ true)) cells → 1 ≤ slots_given cells → is_in_time c job from ≡ true
  in_time_of [] is opened some = absurd (omega (arith, some))
  in_time_of (cell ∷ cells) is opened some =
      let whole = sum_by-cons (λ (x : Cell). x.slots) cell cells in
      elim opened.0 [
        | inl none ↦ in_time_of cells is.1 opened.1 (omega (arith, some, whole, none))
        | inr there ↦ (and_parts (is_in_time c job from) (is_open c groups job cell.at) (sym is.0.opened ∙ there)).0
      ]

  -- slots that were given so are admissible grants
  pub sound_is_admissible : (cells : List Cell) → IsSound c groups job bookings from cells → is_in_time c job from ≡ true → are_admissible c groups job bookings from (filter_map grant_of cells) ≡ true
  unfolding are_admissible
  sound_is_admissible cells sound in_time =
      let ds = demands_of c groups job (filter_map grant_of cells) in
      and_from (is_in_time c job from && are_open c groups job (filter_map grant_of cells)) (have_room c groups bookings from (window_end_from c job from) ds)
      (and_from (is_in_time c job from) (are_open c groups job (filter_map grant_of cells)) in_time (opened_all cells sound.whole sound.opened))
      (elim (cases_Bool (nat_le (window_end_from c job from) from)) [
        | inl empty ↦ or_left (nat_le (window_end_from c job from) from) (list_all (has_room c groups bookings from (window_end_from c job from)) ds) empty
        | inr ever ↦ or_right (nat_le (window_end_from c job from) from) (list_all (has_room c groups bookings from (window_end_from c job from)) ds)
            (rooms_for (leb-false (window_end_from c job from) from ever) cells sound ds (demands_below c groups job (filter_map grant_of cells)))
      ])

  granted_is : (low : ℕ) (cells : List Cell) (grants : List Grant) → granted low cells ≡ Some grants → grants ≡ filter_map grant_of cells
  granted_is low cells grants =
      cond_both (nat_le (max low 1) (slots_given cells)) (Some (filter_map grant_of cells)) None (λ g. g ≡ Some grants → grants ≡ filter_map grant_of cells)
      (λ _ e. cc)
      (λ _ e. absurd cc)

  granted_some : (low : ℕ) (cells : List Cell) (grants : List Grant) → granted low cells ≡ Some grants → 1 ≤ slots_given cells
  granted_some low cells grants =
      cond_both (nat_le (max low 1) (slots_given cells)) (Some (filter_map grant_of cells)) None (λ g. g ≡ Some grants → 1 ≤ slots_given cells)
      (λ enough e. let most = leb-true (max low 1) (slots_given cells) enough in omega (arith, most))
      (λ _ e. absurd cc)

  granted_admissible : (low : ℕ) (cells : List Cell) (grants : List Grant) → IsSound c groups job bookings from cells → granted low cells ≡ Some grants → are_admissible c groups job bookings from grants ≡ true
  granted_admissible low cells grants sound e = subst (λ g. are_admissible c groups job bookings from g ≡ true) (sym (granted_is low cells grants e))
      (sound_is_admissible cells sound (in_time_of cells sound.whole sound.opened (granted_some low cells grants e)))

  by_row_admissible : (request : PeRequest) (cells : List Cell) (grants : List Grant) (row : Option PeRow) → IsSound c groups job bookings from cells
      → placed_with cells request row ≡ Some grants → are_admissible c groups job bookings from grants ≡ true
  by_row_admissible request cells grants None sound e = absurd cc
  by_row_admissible request cells grants (Some pe) sound e = granted_admissible request.low (spread pe.rule request.high cells) grants (spread_sound c groups job bookings from pe.rule request.high cells sound) e

  placed_admissible : (cells : List Cell) (grants : List Grant) (request : Option PeRequest) → IsSound c groups job bookings from cells → placed_by c cells request ≡ Some grants → are_admissible c groups job bookings from grants ≡ true
  placed_admissible cells grants None sound e = granted_admissible 1 (spread FillUp 1 cells) grants (spread_sound c groups job bookings from FillUp 1 cells sound) e
  placed_admissible cells grants (Some request) sound e = by_row_admissible request cells grants (at_text c.pes request.name) sound e

  pub job_placed_admissible : (order : List InstanceId) (grants : List Grant) → job_placement c groups order bookings from (Some job) ≡ Some grants → are_admissible c groups job bookings from grants ≡ true
  unfolding placement_of
  job_placed_admissible order grants e = placed_admissible (map (cell_of c groups job bookings from) order) grants job.request.pe (start_sound c groups job bookings from order) e

  none_in_time : (order : List InstanceId) (found : Option (List Grant)) → placement_of c groups order bookings job from ≡ found → is_in_time c job from ≡ false → found ≡ None
  unfolding are_admissible
  none_in_time order None e late = refl
  none_in_time order (Some grants) e late =
      let admissible = job_placed_admissible order grants e in
      let ds = demands_of c groups job grants in
      let may = and_parts (is_in_time c job from && are_open c groups job grants) (have_room c groups bookings from (window_end_from c job from) ds) admissible in
      absurd (true≢false (sym (and_parts (is_in_time c job from) (are_open c groups job grants) may.0).0 ∙ late))

  -- a job has no placement before the reservation that it is sent into, nor after it
  pub out_of_time : (order : List InstanceId) → is_in_time c job from ≡ false → placement_of c groups order bookings job from ≡ None
  out_of_time order late = none_in_time order (placement_of c groups order bookings job from) refl late
