-- Whatever the rule, the slots that were given stand on open instances and keep all limits, over what is booked.
use Rattle.std.proofs.Common.{◌≡◌, ℕ, zero, suc, ◌+◌, ◌*◌, ◌≤◌, ◌<◌, ◌⊎◌, ◌==◌, inl, inr, Bool, true, false, ◌&&◌, cond, min, List, [], ◌∷◌, ◌++◌, map, fold, sum_by, Option, Some, None, unwrap_or, refl, sym, subst, ap, ◌∙◌, zero-mul, arith}
use Rattle.std.specs.List.{list_all}
use Rattle.std.specs.Prelude.{nat_le, nat_lt}
use Rattle.std.proofs.lemmas.Bool.{cond_both, cond-true, and_parts, eqb-true, leb-true, lt-ltb}
use Rattle.std.proofs.lemmas.List.Sums.{sum_by-cons, sum_by-append}
use Rattle.ge_model_rows.specs.ClusterRows.{Cluster}
use Rattle.ge_model_rows.specs.HostRows.{Groups, InstanceId}
use Rattle.ge_model_rows.specs.JobRows.{Job}
use Rattle.ge_model_rows.specs.PeRows.{Allocation, Fixed, PeSlots, FillUp, RoundRobin}
use Rattle.ge_model_rows.specs.ScheduleRows.{LimitId, Booking}
use Rattle.ge_model_place.specs.Bookings.{peak}
use Rattle.ge_model_place.specs.Limits.{Counted, greatest_demand, capacity_of, counted_at}
use Rattle.ge_model_place.specs.Opening.{is_open}
use Rattle.ge_model_place.specs.Placement.{Cell, room_of, rooms_in, cell_of, slot_asks, cell_asks, asked_so_far, asked_with_one, fits_one_more, takes_one_more, next_slot, filled, everywhere, is_on, slots_given, hosts_in, fuller, with_block, with_turn, with_round, with_rounds, spread}
use Rattle.ge_model_place.specs.Windows.{window_end_from, is_in_time}
use Rattle.ge_model_place.proofs.Once.{Each, each_of_both, asks, asks_once}
use Rattle.ge_model_place.proofs.Taken.{Takes, with_one, IsCounted, counted_at_apart, counted_at_each, together, together_none, asked_with_one_is, one_more_takes}

pub each_parts : {X : Type 0} (P : X → Type 0) (xs ys : List X) → Each P (xs ++ ys) → Each P xs × Each P ys
each_parts P [] ys each = (tt, each)
each_parts P (x ∷ xs) ys each =
    let parts = each_parts P xs ys each.1 in ((each.0, parts.0), parts.1)

-- what a cell asks is its slots times what one asks
pub times_slots : (n s : ℕ) → cond (n == 0) 0 (n * s) ≡ n * s
times_slots n s = cond_both (n == 0) 0 (n * s) (λ m. m ≡ n * s) (λ e. sym (ap (λ m. m * s) (eqb-true n 0 e) ∙ zero-mul s)) (λ _. refl)

one_asks_more : (cell : Cell) (limit : LimitId) → cell_asks limit (with_one cell) ≡ cell_asks limit cell + sum_by (slot_asks limit) cell.rooms
one_asks_more cell limit =
    let more = times_slots (cell.slots + 1) (sum_by (slot_asks limit) cell.rooms) in
    let before = times_slots cell.slots (sum_by (slot_asks limit) cell.rooms) in
    more ∙ omega (arith, before)

pub asked_more : (before : List Cell) (cell : Cell) (behind : List Cell) (limit : LimitId)
    → asked_so_far (before ++ with_one cell ∷ behind) limit ≡ asked_so_far (before ++ cell ∷ behind) limit + sum_by (slot_asks limit) cell.rooms
asked_more before cell behind limit =
    let first = sum_by-append (cell_asks limit) before (with_one cell ∷ behind) in
    let second = sum_by-append (cell_asks limit) before (cell ∷ behind) in
    let third = sum_by-cons (cell_asks limit) (with_one cell) behind in
    let fourth = sum_by-cons (cell_asks limit) cell behind in
    let one = one_asks_more cell limit in
    omega (arith, first, second, third, fourth, one)

module _ (c : Cluster) (groups : Groups) (job : Job) (bookings : List Booking) (from : ℕ) where
  abbrev pub until : ℕ
  until = window_end_from c job from

  -- a cell of the placement, with any slots
  pub record IsCell (cell : Cell) : Type 0 where
    pub opened : cell.opened ≡ (is_in_time c job from && is_open c groups job cell.at)
    pub rooms : cell.rooms ≡ rooms_in bookings from until (counted_at c groups job cell.at)

  -- a limit has room for this much
  abbrev pub HasRoom : LimitId → ℕ → Type 0
  HasRoom limit amount = peak bookings limit from until + min amount greatest_demand ≤ capacity_of c groups limit

  -- what slots that count for so much of a limit ask together is nothing, or has room
  abbrev pub IsKept : LimitId → ℕ → Type 0
  IsKept limit n = (together c groups job limit n ≡ 0) ⊎ HasRoom limit (together c groups job limit n)

  -- the cells are the placement's, the slots stand on open instances, and what they ask has room
  pub record IsSound (cells : List Cell) : Type 0 where
    pub whole : Each IsCell cells
    pub opened : Each (λ (cell : Cell). (cell.slots ≡ 0) ⊎ (cell.opened ≡ true)) cells
    pub kept : from < until → (limit : LimitId) → IsKept limit (asked_so_far cells limit)

  -- the rooms of a cell are those that are counted
  pub rooms_ask : (limit : LimitId) (xs : List Counted) → sum_by (slot_asks limit) (map (room_of bookings from until) xs) ≡ sum_by (asks (λ (x : Counted). x.limit) (λ (x : Counted). x.amount) limit) xs
  rooms_ask limit [] = refl
  rooms_ask limit (x ∷ xs) =
      let rest = rooms_ask limit xs in
      sum_by-cons (slot_asks limit) (room_of bookings from until x) (map (room_of bookings from until) xs)
      ∙ ap (λ n. asks (λ (y : Counted). y.limit) (λ (y : Counted). y.amount) limit x + n) rest
      ∙ sym (sum_by-cons (asks (λ (y : Counted). y.limit) (λ (y : Counted). y.amount) limit) x xs)

  fits_each : (cells : List Cell) (xs : List Counted) → Each (IsCounted c groups job) xs → list_all (fits_one_more cells) (map (room_of bookings from until) xs) ≡ true
      → Each (λ (x : Counted). HasRoom x.limit (together c groups job x.limit (asked_so_far cells x.limit + x.amount))) xs
  fits_each cells [] is fits = tt
  fits_each cells (x ∷ xs) is fits =
      let parts = and_parts (fits_one_more cells (room_of bookings from until x)) (list_all (fits_one_more cells) (map (room_of bookings from until) xs)) fits in
      let first = leb-true (peak bookings x.limit from until + min (asked_with_one cells x) greatest_demand) x.capacity parts.0 in
      let asked = asked_with_one_is c groups job cells x is.0 in
      let capacity = is.0.capacity in
      (omega (arith, first, asked, capacity), fits_each cells xs is.1 parts.1)

  -- what one more slot asks has room beside what was asked so far
  one_fits : from < until → (cells : List Cell) (cell : Cell) → IsCell cell → takes_one_more cells cell ≡ true → (limit : LimitId)
      → (sum_by (slot_asks limit) cell.rooms ≡ 0) ⊎ HasRoom limit (together c groups job limit (asked_so_far cells limit + sum_by (slot_asks limit) cell.rooms))
  one_fits ever cells cell is takes limit =
      let counts : cell.rooms ≡ map (room_of bookings from until) (counted_at c groups job cell.at) = is.rooms ∙ cond-true _ _ _ (lt-ltb from until ever) in
      let fits = subst (λ rs. list_all (fits_one_more cells) rs ≡ true) counts (and_parts cell.opened (list_all (fits_one_more cells) cell.rooms) takes).1 in
      let each = fits_each cells (counted_at c groups job cell.at) (counted_at_each c groups job cell.at) fits in
      let total : sum_by (slot_asks limit) cell.rooms ≡ sum_by (asks (λ (x : Counted). x.limit) (λ (x : Counted). x.amount) limit) (counted_at c groups job cell.at) =
      ap (λ rs. sum_by (slot_asks limit) rs) counts ∙ rooms_ask limit (counted_at c groups job cell.at) in
      subst (λ n. (n ≡ 0) ⊎ HasRoom limit (together c groups job limit (asked_so_far cells limit + n))) (sym total)
      (asks_once (λ (x : Counted). x.limit) (λ (x : Counted). x.amount) (λ l n. HasRoom l (together c groups job l (asked_so_far cells l + n))) (counted_at c groups job cell.at) (counted_at_apart c groups job cell.at) each limit)

  pub takes_sound : (before : List Cell) (cell : Cell) (behind : List Cell) → IsSound (before ++ cell ∷ behind) → takes_one_more (before ++ cell ∷ behind) cell ≡ true → IsSound (before ++ with_one cell ∷ behind)
  takes_sound before cell behind sound takes =
      let whole = each_parts IsCell before (cell ∷ behind) sound.whole in
      let opened = each_parts (λ (x : Cell). (x.slots ≡ 0) ⊎ (x.opened ≡ true)) before (cell ∷ behind) sound.opened in
      let here = whole.1.0 in
      let still : IsCell (with_one cell) = record { opened = here.opened; rooms = here.rooms } in
      let open_here : cell.opened ≡ true = (and_parts cell.opened (list_all (fits_one_more (before ++ cell ∷ behind)) cell.rooms) takes).0 in
      record {
        whole = each_of_both IsCell before (with_one cell ∷ behind) whole.0 (still, whole.1.1);
        opened = each_of_both (λ (x : Cell). (x.slots ≡ 0) ⊎ (x.opened ≡ true)) before (with_one cell ∷ behind) opened.0 (inr open_here, opened.1.1);
        kept = λ ever limit.
            let more = asked_more before cell behind limit in
            subst (λ n. IsKept limit n) (sym more)
            (elim (one_fits ever (before ++ cell ∷ behind) cell here takes limit) [
              | inl nothing ↦
                  let same : asked_so_far (before ++ cell ∷ behind) limit ≡ asked_so_far (before ++ cell ∷ behind) limit + sum_by (slot_asks limit) cell.rooms = omega (arith, nothing) in
                  subst (λ n. IsKept limit n) same (sound.kept ever limit)
              | inr room ↦ inr room
            ]);
      }

  more_sound : (cells more : List Cell) → IsSound cells → Takes cells cells more → IsSound more
  more_sound cells more sound t =
      subst IsSound (sym t.is) (takes_sound t.before t.cell t.behind (subst IsSound t.was sound) (subst (λ xs. takes_one_more xs t.cell ≡ true) t.was t.takes))

  pub one_more_sound : (here : InstanceId → Bool) (cells more : List Cell) → IsSound cells → next_slot here cells ≡ Some more → IsSound more
  one_more_sound here cells more sound e = more_sound cells more sound (one_more_takes here cells more e)

  go_on_sound : (here : InstanceId → Bool) (slots : ℕ) (cells : List Cell) (found : Option (List Cell)) → IsSound cells → ((more : List Cell) → found ≡ Some more → IsSound more)
      → ((more : List Cell) → IsSound more → IsSound (filled here slots more)) → IsSound (elim found [ None ↦ cells | Some more ↦ filled here slots more ])
  go_on_sound here slots cells None sound one rest = sound
  go_on_sound here slots cells (Some more) sound one rest = rest more (one more refl)

  pub filled_sound : (here : InstanceId → Bool) (slots : ℕ) (cells : List Cell) → IsSound cells → IsSound (filled here slots cells)
  filled_sound here zero cells sound = sound
  filled_sound here (suc slots) cells sound =
      go_on_sound here slots cells (next_slot here cells) sound (λ more e. one_more_sound here cells more sound e) (λ more is. filled_sound here slots more is)

  on_hosts_sound : (high : ℕ) (cells best : List Cell) (hosts : List (List ℕ)) → IsSound cells → IsSound best → IsSound (fold (λ best host. fuller best (filled (is_on host) high cells)) best hosts)
  on_hosts_sound high cells best [] sound is = is
  on_hosts_sound high cells best (host ∷ hosts) sound is =
      on_hosts_sound high cells (fuller best (filled (is_on host) high cells)) hosts sound
      (cond_both (nat_lt (slots_given best) (slots_given (filled (is_on host) high cells))) (filled (is_on host) high cells) best IsSound (λ _. filled_sound (is_on host) high cells sound) (λ _. is))

  in_blocks_sound : (size high : ℕ) (cells : List Cell) (hosts : List (List ℕ)) → IsSound cells → IsSound (fold (λ given host. with_block size high given (filled (is_on host) size given)) cells hosts)
  in_blocks_sound size high cells [] sound = sound
  in_blocks_sound size high cells (host ∷ hosts) sound =
      let more = filled (is_on host) size cells in
      in_blocks_sound size high (with_block size high cells more) hosts
      (cond_both (nat_le (slots_given cells + size) high && slots_given more == slots_given cells + size) more cells IsSound (λ _. filled_sound (is_on host) size cells sound) (λ _. sound))

  unless_none_sound : (cells : List Cell) (found : Option (List Cell)) → IsSound cells → ((more : List Cell) → found ≡ Some more → IsSound more) → IsSound (unwrap_or found cells)
  unless_none_sound cells None sound one = sound
  unless_none_sound cells (Some more) sound one = one more refl

  pub turns_sound : (high : ℕ) (cells : List Cell) (hosts : List (List ℕ)) → IsSound cells → IsSound (fold (with_turn high) cells hosts)
  turns_sound high cells [] sound = sound
  turns_sound high cells (host ∷ hosts) sound =
      turns_sound high (with_turn high cells host) hosts
      (cond_both (nat_lt (slots_given cells) high) (unwrap_or (next_slot (is_on host) cells) cells) cells IsSound
      (λ _. unless_none_sound cells (next_slot (is_on host) cells) sound (λ more e. one_more_sound (is_on host) cells more sound e))
      (λ _. sound))

  until_none_sound : (rounds high : ℕ) (hosts : List (List ℕ)) (cells more : List Cell) (done : Bool) → IsSound cells → IsSound (with_rounds rounds high hosts more)
      → IsSound (elim done [ true ↦ cells | false ↦ with_rounds rounds high hosts more ])
  until_none_sound rounds high hosts cells more true sound rest = sound
  until_none_sound rounds high hosts cells more false sound rest = rest

  rounds_sound : (rounds high : ℕ) (hosts : List (List ℕ)) (cells : List Cell) → IsSound cells → IsSound (with_rounds rounds high hosts cells)
  rounds_sound zero high hosts cells sound = sound
  rounds_sound (suc rounds) high hosts cells sound =
      until_none_sound rounds high hosts cells (with_round high hosts cells) (slots_given (with_round high hosts cells) == slots_given cells) sound
      (rounds_sound rounds high hosts (with_round high hosts cells) (turns_sound high cells hosts sound))

  -- so it is under each rule
  pub spread_sound : (rule : Allocation) (high : ℕ) (cells : List Cell) → IsSound cells → IsSound (spread rule high cells)
  spread_sound FillUp high cells sound = filled_sound everywhere high cells sound
  spread_sound PeSlots high cells sound = on_hosts_sound high cells cells (hosts_in cells) sound sound
  spread_sound (Fixed size) high cells sound = in_blocks_sound size high cells (hosts_in cells) sound
  spread_sound RoundRobin high cells sound = rounds_sound high high (hosts_in cells) cells sound

  -- before any slot is given
  none_asked : (order : List InstanceId) (limit : LimitId) → asked_so_far (map (cell_of c groups job bookings from) order) limit ≡ 0
  none_asked [] limit = refl
  none_asked (at ∷ order) limit = sum_by-cons (cell_asks limit) (cell_of c groups job bookings from at) (map (cell_of c groups job bookings from) order) ∙ omega (arith, none_asked order limit)

  each_is_cell : (order : List InstanceId) → Each IsCell (map (cell_of c groups job bookings from) order)
  each_is_cell [] = tt
  each_is_cell (at ∷ order) = (record { opened = refl; rooms = refl }, each_is_cell order)

  each_is_empty : (order : List InstanceId) → Each (λ (cell : Cell). (cell.slots ≡ 0) ⊎ (cell.opened ≡ true)) (map (cell_of c groups job bookings from) order)
  each_is_empty [] = tt
  each_is_empty (at ∷ order) = (inl refl, each_is_empty order)

  pub start_sound : (order : List InstanceId) → IsSound (map (cell_of c groups job bookings from) order)
  start_sound order = record { whole = each_is_cell order; opened = each_is_empty order; kept = λ ever limit. inl (ap (λ n. together c groups job limit n) (none_asked order limit) ∙ together_none c groups job limit) }
