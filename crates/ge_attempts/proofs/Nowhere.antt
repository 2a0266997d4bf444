-- Where one slot is admissible at no instance, nothing is placed, whatever the rule.
use Rattle.std.proofs.Common.{◌≡◌, ℕ, zero, suc, ◌+◌, ◌==◌, Bool, true, false, ◌&&◌, max, List, [], ◌∷◌, ◌++◌, fold, Option, Some, None, unwrap_or, option_map, refl, sym, ap, ◌∙◌, append_assoc, arith}
use Rattle.std.specs.List.{list_any}
use Rattle.std.specs.Prelude.{nat_le, nat_lt}
use Rattle.std.proofs.lemmas.Bool.{cond-false, cond_both, and_right, or_parts, false_from_ne_true, leb-true, eq-eqb}
use Rattle.ge_collections.specs.Keyed.{at_text}
use Rattle.ge_model_rows.specs.ClusterRows.{Cluster}
use Rattle.ge_model_rows.specs.HostRows.{Groups, InstanceId}
use Rattle.ge_model_rows.specs.JobRows.{Job, PeRequest, Grant}
use Rattle.ge_model_rows.specs.PeRows.{PeRow, Allocation, Fixed, PeSlots, FillUp, RoundRobin}
use Rattle.ge_model_rows.specs.ScheduleRows.{Booking}
use Rattle.ge_model_place.specs.Choosing.{no_slots, grants_in, one_slot_more, chosen_from, chosen}
use Rattle.ge_model_place.specs.Placement.{Cell, next_slot, filled, slots_given, everywhere, is_on, hosts_in, fuller, with_block, with_turn, with_round, with_rounds, spread, granted, are_admissible, placed_with, placed_by, placement_of}
use Rattle.ge_model_place.specs.Runs.{one_slot}
use Rattle.ge_model_place.proofs.Chosen.{tally, chosen_is_one_more}
use Rattle.ge_model_place.proofs.Filled.{start_sound}
use Rattle.ge_model_place.proofs.First.{takes_one}
use Rattle.ge_model_place.proofs.Greatest.{start, start_is, none_given}
use Rattle.ge_model_place.proofs.Sooner.{NoGrants, one_alone}

-- where no cell takes a slot, no rule gives one

module _ (cells : List Cell) (none : (here : InstanceId → Bool) → next_slot here cells ≡ None) where
  none_filled : (here : InstanceId → Bool) (count : ℕ) → filled here count cells ≡ cells
  none_filled here zero = refl
  none_filled here (suc count) = rw (none here, filled) refl

  no_fuller : (high : ℕ) (host : List ℕ) → fuller cells (filled (is_on host) high cells) ≡ cells
  no_fuller high host =
      ap (λ more. fuller cells more) (none_filled (is_on host) high)
      ∙ cond_both (nat_lt (slots_given cells) (slots_given cells)) cells cells (λ x. x ≡ cells) (λ _. refl) (λ _. refl)

  none_on_hosts : (high : ℕ) (hosts : List (List ℕ)) → fold (λ best host. fuller best (filled (is_on host) high cells)) cells hosts ≡ cells
  none_on_hosts high [] = refl
  none_on_hosts high (host ∷ hosts) =
      ap (λ best. fold (λ b h. fuller b (filled (is_on h) high cells)) best hosts) (no_fuller high host) ∙ none_on_hosts high hosts

  no_block : (size high : ℕ) (host : List ℕ) → with_block size high cells (filled (is_on host) size cells) ≡ cells
  no_block size high host =
      ap (λ more. with_block size high cells more) (none_filled (is_on host) size)
      ∙ cond_both (nat_le (slots_given cells + size) high && slots_given cells == slots_given cells + size) cells cells (λ x. x ≡ cells) (λ _. refl) (λ _. refl)

  none_in_blocks : (size high : ℕ) (hosts : List (List ℕ)) → fold (λ given host. with_block size high given (filled (is_on host) size given)) cells hosts ≡ cells
  none_in_blocks size high [] = refl
  none_in_blocks size high (host ∷ hosts) =
      ap (λ given. fold (λ g h. with_block size high g (filled (is_on h) size g)) given hosts) (no_block size high host) ∙ none_in_blocks size high hosts

  no_turn : (high : ℕ) (host : List ℕ) → with_turn high cells host ≡ cells
  no_turn high host =
      cond_both (nat_lt (slots_given cells) high) (unwrap_or (next_slot (is_on host) cells) cells) cells (λ x. x ≡ cells) (λ _. ap (λ o. unwrap_or o cells) (none (is_on host))) (λ _. refl)

  no_round : (high : ℕ) (hosts : List (List ℕ)) → with_round high hosts cells ≡ cells
  no_round high [] = refl
  no_round high (host ∷ hosts) = ap (λ given. fold (with_turn high) given hosts) (no_turn high host) ∙ no_round high hosts

  no_rounds : (rounds high : ℕ) (hosts : List (List ℕ)) → with_rounds rounds high hosts cells ≡ cells
  no_rounds zero high hosts = refl
  no_rounds (suc rounds) high hosts =
      let same : (slots_given (with_round high hosts cells) == slots_given cells) ≡ true =
      eq-eqb (slots_given (with_round high hosts cells)) (slots_given cells) (ap (λ xs. slots_given xs) (no_round high hosts)) in
      rw (same, with_rounds) refl

  none_spread : (rule : Allocation) (high : ℕ) → spread rule high cells ≡ cells
  none_spread FillUp high = none_filled everywhere high
  none_spread PeSlots high = none_on_hosts high (hosts_in cells)
  none_spread (Fixed size) high = none_in_blocks size high (hosts_in cells)
  none_spread RoundRobin high = no_rounds high high (hosts_in cells)

  none_granted : slots_given cells ≡ 0 → (rule : Allocation) (low high : ℕ) → granted low (spread rule high cells) ≡ None
  none_granted empty rule low high =
      ap (λ xs. granted low xs) (none_spread rule high)
      ∙ cond-false _ _ _ (false_from_ne_true (nat_le (max low 1) (slots_given cells)) (λ some. let least = leb-true (max low 1) (slots_given cells) some in absurd (omega (arith, least, empty))))

  none_by_row : slots_given cells ≡ 0 → (request : PeRequest) (row : Option PeRow) → placed_with cells request row ≡ None
  none_by_row empty request None = refl
  none_by_row empty request (Some pe) = none_granted empty pe.rule request.low request.high

  none_by_request : slots_given cells ≡ 0 → (c : Cluster) (request : Option PeRequest) → placed_by c cells request ≡ None
  none_by_request empty c None = none_granted empty FillUp 1 1
  none_by_request empty c (Some request) = none_by_row empty request (at_text c.pes request.name)

untallied : (found : Option (List Cell)) → option_map tally found ≡ None → found ≡ None
untallied None e = refl
untallied (Some more) e = absurd cc

module _ (c : Cluster) (groups : Groups) (job : Job) (bookings : List Booking) (from : ℕ) where
  none_chosen : (here : InstanceId → Bool) (front : List Grant) (ats : List InstanceId) → NoGrants c groups job bookings front → list_any (takes_one c groups job bookings from) ats ≡ false
      → chosen_from c groups job bookings from here front (no_slots ats) ≡ None
  none_chosen here front [] empty none = refl
  none_chosen here front (at ∷ ats) empty none =
      let nothing : Grant = record { at = at; slots = 0 } in
      let parts = or_parts (takes_one c groups job bookings from at) (list_any (takes_one c groups job bookings from) ats) none in
      let one : grants_in (front ++ one_slot_more nothing ∷ no_slots ats) ≡ one_slot at = empty (one_slot_more nothing ∷ no_slots ats) ∙ ap (λ gs. one_slot_more nothing ∷ gs) (one_alone c groups job bookings ats) in
      let isnt : are_admissible c groups job bookings from (grants_in (front ++ one_slot_more nothing ∷ no_slots ats)) ≡ false = ap (λ gs. are_admissible c groups job bookings from gs) one ∙ parts.0 in
      let fails : (here at && are_admissible c groups job bookings from (grants_in (front ++ one_slot_more nothing ∷ no_slots ats))) ≡ false =
      and_right (here at) (are_admissible c groups job bookings from (grants_in (front ++ one_slot_more nothing ∷ no_slots ats))) isnt in
      let later : chosen_from c groups job bookings from here front (no_slots (at ∷ ats)) ≡ chosen_from c groups job bookings from here (front ++ nothing ∷ []) (no_slots ats) = rw (fails, chosen_from) refl in
      later ∙ none_chosen here (front ++ nothing ∷ []) ats (λ behind. ap grants_in (append_assoc front (nothing ∷ []) behind) ∙ empty (nothing ∷ behind)) parts.1

  pub none_next : (order : List InstanceId) → list_any (takes_one c groups job bookings from) order ≡ false → (here : InstanceId → Bool) → next_slot here (start c groups job bookings from order) ≡ None
  none_next order none here =
      untallied (next_slot here (start c groups job bookings from order))
      (sym (chosen_is_one_more c groups job bookings from here (start c groups job bookings from order) (start_sound c groups job bookings from order))
      ∙ ap (λ gs. chosen c groups job bookings from here gs) (start_is c groups job bookings from order order)
      ∙ none_chosen here [] order (λ behind. refl) none)

  -- where no instance takes one slot, there is no placement
  pub none_placed : (order : List InstanceId) → list_any (takes_one c groups job bookings from) order ≡ false → placement_of c groups order bookings job from ≡ None
  unfolding placement_of
  none_placed order none =
      none_by_request (start c groups job bookings from order) (none_next order none) (none_given c groups job bookings from order order) c job.request.pe
