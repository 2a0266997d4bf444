-- A placement is that of the rule in its own words: the grants of the greatest number of slots that has some.
use Rattle.std.proofs.Common.{◌≡◌, ℕ, zero, suc, ◌+◌, ◌≤◌, ◌<◌, inl, inr, Bool, true, false, max, List, [], ◌∷◌, map, fold, Option, Some, None, option_map, refl, sym, subst, ap, ◌∙◌, arith}
use Rattle.std.specs.List.{filter_map}
use Rattle.std.specs.Prelude.{nat_lt, nat_le}
use Rattle.std.proofs.lemmas.Bool.{cond_both, cases_Bool, cases_lt, leb-true, leb-false, ltb-true, ltb-false}
use Rattle.std.proofs.lemmas.List.Sums.{sum_by-cons, sum_by-append}
use Rattle.ge_model_rows.specs.Pieces.{each_once}
use Rattle.ge_model_rows.specs.ClusterRows.{Cluster}
use Rattle.ge_model_rows.specs.HostRows.{Groups, InstanceId}
use Rattle.ge_model_rows.specs.JobRows.{Job, Grant}
use Rattle.ge_model_rows.specs.PeRows.{Allocation, PeSlots, FillUp}
use Rattle.ge_model_rows.specs.ScheduleRows.{Booking}
use Rattle.ge_model_place.specs.Placement.{Cell, cell_of, next_slot, filled, slots_given, everywhere, is_on, hosts_in, fuller, on_one_host, spread, grant_of, granted}
use Rattle.ge_model_place.specs.Choosing.{no_slots, grants_in, chosen, chosen_times, on_first_host, chosen_by, IsPlacedBy}
use Rattle.ge_model_place.proofs.Chosen.{tally, grants_of_tally, chosen_is_one_more}
use Rattle.ge_model_place.proofs.Filled.{IsSound, one_more_sound, start_sound}
use Rattle.ge_model_place.proofs.Taken.{with_one, one_more_takes}

-- one more slot is one more
pub gives_one : (here : InstanceId → Bool) (cells more : List Cell) → next_slot here cells ≡ Some more → slots_given more ≡ slots_given cells + 1
gives_one here cells more e =
    let t = one_more_takes here cells more e in
    let was = ap slots_given t.was ∙ sum_by-append (λ (x : Cell). x.slots) t.before (t.cell ∷ t.behind) in
    let is = ap slots_given t.is ∙ sum_by-append (λ (x : Cell). x.slots) t.before (with_one t.cell ∷ t.behind) in
    let first = sum_by-cons (λ (x : Cell). x.slots) t.cell t.behind in
    let second = sum_by-cons (λ (x : Cell). x.slots) (with_one t.cell) t.behind in
    omega (arith, was, is, first, second)

module _ (c : Cluster) (groups : Groups) (job : Job) (bookings : List Booking) (from : ℕ) where
  abbrev Sound : List Cell → Type 0
  Sound cells = IsSound c groups job bookings from cells

  abbrev times : (InstanceId → Bool) → ℕ → List Grant → Option (List Grant)
  times here count slots = chosen_times c groups job bookings from here count slots

  times_none : (here : InstanceId → Bool) (count : ℕ) (slots : List Grant) → chosen c groups job bookings from here slots ≡ None → times here (suc count) slots ≡ None
  times_none here count slots e = rw (e, chosen_times) refl

  times_some : (here : InstanceId → Bool) (count : ℕ) (slots next : List Grant) → chosen c groups job bookings from here slots ≡ Some next → times here (suc count) slots ≡ times here count next
  times_some here count slots next e = rw (e, chosen_times) refl

  -- so many slots were given of those that were to be, as the rule's words choose them, and if fewer, no more can be
  pub record Fills (here : InstanceId → Bool) (count : ℕ) (cells result : List Cell) : Type 0 where
    pub some : ℕ
    pub within : some ≤ count
    pub given : slots_given result ≡ slots_given cells + some
    pub are : times here some (tally cells) ≡ Some (tally result)
    pub no_more : some < count → (more : ℕ) → some < more → times here more (tally cells) ≡ None

  none_more : (here : InstanceId → Bool) (cells : List Cell) → Sound cells → next_slot here cells ≡ None → (more : ℕ) → 0 < more → times here more (tally cells) ≡ None
  none_more here cells sound e zero less = absurd (omega (arith, less))
  none_more here cells sound e (suc more) less = times_none here more (tally cells) (chosen_is_one_more c groups job bookings from here cells sound ∙ ap (λ o. option_map tally o) e)

  beyond : (here : InstanceId → Bool) (some : ℕ) (slots next : List Grant) → chosen c groups job bookings from here slots ≡ Some next → ((more : ℕ) → some < more → times here more next ≡ None)
      → (more : ℕ) → suc some < more → times here more slots ≡ None
  beyond here some slots next e rest zero less = absurd (omega (arith, less))
  beyond here some slots next e rest (suc more) less = times_some here more slots next e ∙ rest more (omega (arith, less))

  fills_by : (here : InstanceId → Bool) (count : ℕ) (cells : List Cell) (found : Option (List Cell)) → Sound cells → next_slot here cells ≡ found
      → ((more : List Cell) → Sound more → Fills here count more (filled here count more)) → Fills here (suc count) cells (elim found [ None ↦ cells | Some more ↦ filled here count more ])
  fills_by here count cells None sound e rest =
      record { some = 0; within = omega arith; given = omega arith; are = refl; no_more = λ _ more less. none_more here cells sound e more less }
  fills_by here count cells (Some more) sound e rest =
      let fills = rest more (one_more_sound c groups job bookings from here cells more sound e) in
      let one = gives_one here cells more e in
      let first : chosen c groups job bookings from here (tally cells) ≡ Some (tally more) = chosen_is_one_more c groups job bookings from here cells sound ∙ ap (λ o. option_map tally o) e in
      record {
        some = suc fills.some;
        within = omega (arith, fills.within);
        given = omega (arith, fills.given, one);
        are = times_some here fills.some (tally cells) (tally more) first ∙ fills.are;
        no_more = λ fewer m less. beyond here fills.some (tally cells) (tally more) first (fills.no_more (omega (arith, fewer))) m less;
      }

  pub fills : (here : InstanceId → Bool) (count : ℕ) (cells : List Cell) → Sound cells → Fills here count cells (filled here count cells)
  fills here zero cells sound = record { some = 0; within = omega arith; given = omega arith; are = refl; no_more = λ fewer. absurd (omega (arith, fewer)) }
  fills here (suc count) cells sound = fills_by here count cells (next_slot here cells) sound refl (λ more is. fills here count more is)

  module _ (order : List InstanceId) where
    abbrev pub start : List Cell
    start = map (cell_of c groups job bookings from) order

    abbrev pub hosts : List (List ℕ)
    hosts = each_once (map (λ (at : InstanceId). at.host) order)

    pub start_is : (ats : List InstanceId) → tally (map (cell_of c groups job bookings from) ats) ≡ no_slots ats
    start_is [] = refl
    start_is (at ∷ ats) = ap (λ gs. record { at = at; slots = 0 } ∷ gs) (start_is ats)

    pub none_given : (ats : List InstanceId) → slots_given (map (cell_of c groups job bookings from) ats) ≡ 0
    none_given [] = refl
    none_given (at ∷ ats) = sum_by-cons (λ (x : Cell). x.slots) (cell_of c groups job bookings from at) (map (cell_of c groups job bookings from) ats) ∙ omega (arith, none_given ats)

    hosts_are : (ats : List InstanceId) → map (λ (cell : Cell). cell.at.host) (map (cell_of c groups job bookings from) ats) ≡ map (λ (at : InstanceId). at.host) ats
    hosts_are [] = refl
    hosts_are (at ∷ ats) = ap (λ hs. at.host ∷ hs) (hosts_are ats)

    pub hosts_are_those : hosts_in start ≡ hosts
    hosts_are_those = ap each_once (hosts_are order)

    -- cells hold the greatest number of slots that the rule's words have, of at most so many
    pub record Spreads (rule : Allocation) (high : ℕ) (result : List Cell) : Type 0 where
      pub within : slots_given result ≤ high
      pub are : 1 ≤ slots_given result → chosen_by c groups job bookings from rule (slots_given result) hosts (no_slots order) ≡ Some (tally result)
      pub no_more : (more : ℕ) → slots_given result < more → more ≤ high → chosen_by c groups job bookings from rule more hosts (no_slots order) ≡ None

    pub spreads_greatest : (rule : Allocation) (low high : ℕ) (result : List Cell) → Spreads rule high result → IsPlacedBy c groups job bookings from order rule low high (granted low result)
    spreads_greatest rule low high result spreads =
        cond_both (nat_le (max low 1) (slots_given result)) (Some (filter_map grant_of result)) None (λ g. IsPlacedBy c groups job bookings from order rule low high g)
        (λ e.
        let enough = leb-true (max low 1) (slots_given result) e in
        record {
          count = slots_given result;
          some = omega (arith, enough);
          enough = omega (arith, enough);
          within = spreads.within;
          are = ap (λ o. option_map grants_in o) (spreads.are (omega (arith, enough))) ∙ ap (λ gs. Some gs) (grants_of_tally result);
          no_more = λ more less most. ap (λ o. option_map grants_in o) (spreads.no_more more less most);
        })
        (λ e count some enough within.
        let short = leb-false (max low 1) (slots_given result) e in
        ap (λ o. option_map grants_in o) (spreads.no_more count (omega (arith, short, some, enough)) within))

    -- $fill_up
    fill_up_spreads : (high : ℕ) → Spreads FillUp high (filled everywhere high start)
    fill_up_spreads high =
        let is = fills everywhere high start (start_sound c groups job bookings from order) in
        let none = none_given order in
        let total : slots_given (filled everywhere high start) ≡ is.some = omega (arith, is.given, none) in
        record {
          within = omega (arith, total, is.within);
          are = λ _. subst (λ slots. times everywhere (slots_given (filled everywhere high start)) slots ≡ Some (tally (filled everywhere high start))) (start_is order)
              (subst (λ n. times everywhere n (tally start) ≡ Some (tally (filled everywhere high start))) (sym total) is.are);
          no_more = λ more less most. subst (λ slots. times everywhere more slots ≡ None) (start_is order) (is.no_more (omega (arith, total, less, most)) more (omega (arith, total, less)));
        }

    -- $pe_slots

    goes_on : (count : ℕ) (host : List ℕ) (others : List (List ℕ)) (slots : List Grant) → times (is_on host) count slots ≡ None
        → on_first_host c groups job bookings from count (host ∷ others) slots ≡ on_first_host c groups job bookings from count others slots
    goes_on count host others slots e = rw (e, on_first_host) refl

    stays : (count : ℕ) (host : List ℕ) (others : List (List ℕ)) (slots done : List Grant) → times (is_on host) count slots ≡ Some done → on_first_host c groups job bookings from count (host ∷ others) slots ≡ Some done
    stays count host others slots done e = rw (e, on_first_host) refl

    -- the fullest of some hosts beside the best so far
    pub record Best (high : ℕ) (best result : List Cell) (others : List (List ℕ)) : Type 0 where
      pub within : slots_given result ≤ high
      pub least : slots_given best ≤ slots_given result
      pub same : slots_given result ≡ slots_given best → result ≡ best
      pub are : slots_given best < slots_given result → on_first_host c groups job bookings from (slots_given result) others (tally start) ≡ Some (tally result)
      pub no_more : (more : ℕ) → slots_given result < more → more ≤ high → on_first_host c groups job bookings from more others (tally start) ≡ None

    abbrev on_hosts : ℕ → List Cell → List (List ℕ) → List Cell
    on_hosts high best others = fold (λ best host. fuller best (filled (is_on host) high start)) best others

    best_of : (high : ℕ) (best : List Cell) (others : List (List ℕ)) → slots_given best ≤ high → Best high best (on_hosts high best others) others
    best_of high best [] fits_best =
        record { within = fits_best; least = omega arith; same = λ _. refl; are = λ less. absurd (omega (arith, less)); no_more = λ more less most. refl }
    best_of high best (host ∷ others) fits_best =
        let there = filled (is_on host) high start in
        let is = fills (is_on host) high start (start_sound c groups job bookings from order) in
        let none = none_given order in
        let total : slots_given there ≡ is.some = omega (arith, is.given, none) in
        let short : (more : ℕ) → slots_given there < more → more ≤ high → times (is_on host) more (tally start) ≡ None = λ more less most. is.no_more (omega (arith, total, less, most)) more (omega (arith, total, less)) in
        elim (cases_Bool (nat_lt (slots_given best) (slots_given there))) [
          | inl fuller_there ↦
              let above = ltb-true (slots_given best) (slots_given there) fuller_there in
              let rest = best_of high there others (omega (arith, total, is.within)) in
              let least = rest.least in
              let all : on_hosts high best (host ∷ others) ≡ on_hosts high there others = ap (λ b. on_hosts high b others) (fuller_is best there fuller_there) in
              subst (λ r. Best high best r (host ∷ others)) (sym all) (record {
                within = rest.within;
                least = omega (arith, above, least);
                same = λ e. absurd (omega (arith, e, above, least));
                are = λ _. elim (cases_lt (slots_given there) (slots_given (on_hosts high there others))) [
                  | inl more_there ↦
                      goes_on (slots_given (on_hosts high there others)) host others (tally start)
                      (short (slots_given (on_hosts high there others)) more_there rest.within)
                      ∙ rest.are more_there
                  | inr no_more_there ↦
                      let equal : slots_given (on_hosts high there others) ≡ slots_given there = omega (arith, no_more_there, least) in
                      let found : times (is_on host) (slots_given there) (tally start) ≡ Some (tally there) = subst (λ n. times (is_on host) n (tally start) ≡ Some (tally there)) (sym total) is.are in
                      subst (λ r. on_first_host c groups job bookings from (slots_given r) (host ∷ others) (tally start) ≡ Some (tally r)) (sym (rest.same equal))
                      (stays (slots_given there) host others (tally start) (tally there) found)
                ];
                no_more = λ more less most. goes_on more host others (tally start) (short more (omega (arith, less, least)) most) ∙ rest.no_more more less most;
              })
          | inr not_fuller ↦
              let below = ltb-false (slots_given best) (slots_given there) not_fuller in
              let rest = best_of high best others fits_best in
              let least = rest.least in
              let all : on_hosts high best (host ∷ others) ≡ on_hosts high best others = ap (λ b. on_hosts high b others) (fuller_not best there not_fuller) in
              subst (λ r. Best high best r (host ∷ others)) (sym all) (record {
                within = rest.within;
                least = least;
                same = rest.same;
                are = λ more.
                    goes_on (slots_given (on_hosts high best others)) host others (tally start) (short (slots_given (on_hosts high best others)) (omega (arith, more, below)) rest.within)
                    ∙ rest.are more;
                no_more = λ more less most. goes_on more host others (tally start) (short more (omega (arith, less, least, below)) most) ∙ rest.no_more more less most;
              })
        ]
      where
        fuller_is : (a b : List Cell) → nat_lt (slots_given a) (slots_given b) ≡ true → fuller a b ≡ b
        fuller_is a b e = rw e refl

        fuller_not : (a b : List Cell) → nat_lt (slots_given a) (slots_given b) ≡ false → fuller a b ≡ a
        fuller_not a b e = rw e refl

    pe_slots_spreads : (high : ℕ) → Spreads PeSlots high (on_one_host high start)
    pe_slots_spreads high =
        let none = none_given order in
        let result = on_hosts high start hosts in
        let is = best_of high start hosts (omega (arith, none)) in
        subst (λ hs. Spreads PeSlots high (on_hosts high start hs)) (sym hosts_are_those) (record {
          within = is.within;
          are = λ some. subst (λ slots. on_first_host c groups job bookings from (slots_given result) hosts slots ≡ Some (tally result)) (start_is order) (is.are (omega (arith, some, none)));
          no_more = λ more less most. subst (λ slots. on_first_host c groups job bookings from more hosts slots ≡ None) (start_is order) (is.no_more more less most);
        })

    -- under $fill_up and $pe_slots the placement is that of the rule in its own words
    pub fill_up_is_greatest : (low high : ℕ) → IsPlacedBy c groups job bookings from order FillUp low high (granted low (spread FillUp high start))
    fill_up_is_greatest low high = spreads_greatest FillUp low high (filled everywhere high start) (fill_up_spreads high)

    pub pe_slots_is_greatest : (low high : ℕ) → IsPlacedBy c groups job bookings from order PeSlots low high (granted low (spread PeSlots high start))
    pe_slots_is_greatest low high = spreads_greatest PeSlots low high (on_one_host high start) (pe_slots_spreads high)
