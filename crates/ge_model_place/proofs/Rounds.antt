-- Under $round_robin the placement is that of the rule in its own words.
use Rattle.std.proofs.Common.{◌≡◌, ℕ, zero, suc, ◌+◌, ◌-◌, ◌≤◌, ◌<◌, ◌⊎◌, ◌==◌, inl, inr, List, [], ◌∷◌, fold, Option, Some, None, option_map, unwrap_or, refl, sym, subst, ap, ◌∙◌, arith}
use Rattle.std.proofs.lemmas.Bool.{cond-true, cond-false, cases_Bool, cases_lt, lt-ltb, le-ltb, eqb-true, eq-eqb, ne_eqb}
use Rattle.ge_model_rows.specs.ClusterRows.{Cluster}
use Rattle.ge_model_rows.specs.HostRows.{Groups, InstanceId}
use Rattle.ge_model_rows.specs.JobRows.{Job, Grant}
use Rattle.ge_model_rows.specs.PeRows.{RoundRobin}
use Rattle.ge_model_rows.specs.ScheduleRows.{Booking}
use Rattle.ge_model_place.specs.Placement.{Cell, next_slot, slots_given, is_on, hosts_in, with_turn, with_round, with_rounds, spread, granted}
use Rattle.ge_model_place.specs.Choosing.{chosen, taking_turn, in_rounds, no_slots, chosen_by, IsPlacedBy}
use Rattle.ge_model_place.proofs.Chosen.{tally, chosen_is_one_more}
use Rattle.ge_model_place.proofs.Filled.{IsSound, turns_sound, start_sound}
use Rattle.ge_model_place.proofs.Greatest.{gives_one, start, hosts, start_is, none_given, hosts_are_those, Spreads, spreads_greatest}

-- cells have grown: no slot was taken away, and they are the same where there are as many
record Grown (cells next : List Cell) : Type 0 where
  least : slots_given cells ≤ slots_given next
  same : slots_given next ≡ slots_given cells → next ≡ cells

grown_none : (cells next : List Cell) → next ≡ cells → Grown cells next
grown_none cells next e = let as_many = ap slots_given e in record { least = omega (arith, as_many); same = λ _. e }

grown_both : (a b d : List Cell) → Grown a b → Grown b d → Grown a d
grown_both a b d first second =
    let less = first.least in
    let more = second.least in
    record { least = omega (arith, less, more); same = λ e. second.same (omega (arith, e, less, more)) ∙ first.same (omega (arith, e, less, more)) }

-- a turn

held : (limit : ℕ) (cells : List Cell) (host : List ℕ) → limit ≤ slots_given cells → with_turn limit cells host ≡ cells
held limit cells host full = cond-false _ _ _ (le-ltb (slots_given cells) limit full)

free : (limit : ℕ) (cells : List Cell) (host : List ℕ) → slots_given cells < limit → with_turn limit cells host ≡ unwrap_or (next_slot (is_on host) cells) cells
free limit cells host less = cond-true _ _ _ (lt-ltb (slots_given cells) limit less)

-- where one is given it is one more, within the limit
record Turns (limit : ℕ) (cells next : List Cell) : Type 0 where
  grown : Grown cells next
  within : slots_given cells ≤ limit → slots_given next ≤ limit

turns_by : (limit : ℕ) (cells : List Cell) (host : List ℕ) (found : Option (List Cell)) → next_slot (is_on host) cells ≡ found → slots_given cells < limit → Turns limit cells (unwrap_or found cells)
turns_by limit cells host None e less = record { grown = grown_none cells cells refl; within = λ h. h }
turns_by limit cells host (Some more) e less =
    let one = gives_one (is_on host) cells more e in
    record { grown = record { least = omega (arith, one); same = λ none. absurd (omega (arith, none, one)) }; within = λ _. omega (arith, one, less) }

turn_turns : (limit : ℕ) (cells : List Cell) (host : List ℕ) → Turns limit cells (with_turn limit cells host)
turn_turns limit cells host =
    elim (cases_lt (slots_given cells) limit) [
      | inl less ↦ subst (λ x. Turns limit cells x) (sym (free limit cells host less)) (turns_by limit cells host (next_slot (is_on host) cells) refl less)
      | inr full ↦ subst (λ x. Turns limit cells x) (sym (held limit cells host full)) (record { grown = grown_none cells cells refl; within = λ h. h })
    ]

turns_both : (limit : ℕ) (a b d : List Cell) → Turns limit a b → Turns limit b d → Turns limit a d
turns_both limit a b d first second = record { grown = grown_both a b d first.grown second.grown; within = λ h. second.within (first.within h) }

round_turns : (limit : ℕ) (cells : List Cell) (others : List (List ℕ)) → Turns limit cells (with_round limit others cells)
round_turns limit cells [] = record { grown = grown_none cells cells refl; within = λ h. h }
round_turns limit cells (host ∷ others) = turns_both limit cells (with_turn limit cells host) (with_round limit others (with_turn limit cells host)) (turn_turns limit cells host) (round_turns limit (with_turn limit cells host) others)

full_round : (limit : ℕ) (cells : List Cell) (others : List (List ℕ)) → limit ≤ slots_given cells → with_round limit others cells ≡ cells
full_round limit cells [] full = refl
full_round limit cells (host ∷ others) full = ap (λ x. with_round limit others x) (held limit cells host full) ∙ full_round limit cells others full

-- so many rounds

abbrev turned : ℕ → ℕ → List (List ℕ) → List Cell → List Cell
turned zero limit others cells = cells
turned (suc rounds) limit others cells = turned rounds limit others (with_round limit others cells)

turned_turns : (rounds limit : ℕ) (others : List (List ℕ)) (cells : List Cell) → Turns limit cells (turned rounds limit others cells)
turned_turns zero limit others cells = record { grown = grown_none cells cells refl; within = λ h. h }
turned_turns (suc rounds) limit others cells =
    turns_both limit cells (with_round limit others cells) (turned rounds limit others (with_round limit others cells)) (round_turns limit cells others) (turned_turns rounds limit others (with_round limit others cells))

-- one more round behind them
turned_last : (rounds limit : ℕ) (others : List (List ℕ)) (cells : List Cell) → turned rounds limit others (with_round limit others cells) ≡ with_round limit others (turned rounds limit others cells)
turned_last zero limit others cells = refl
turned_last (suc rounds) limit others cells = turned_last rounds limit others (with_round limit others cells)

turned_stays : (rounds limit : ℕ) (others : List (List ℕ)) (cells : List Cell) → with_round limit others cells ≡ cells → turned rounds limit others cells ≡ cells
turned_stays zero limit others cells e = refl
turned_stays (suc rounds) limit others cells e = ap (λ x. turned rounds limit others x) e ∙ turned_stays rounds limit others cells e

-- rounds that end where one gives nothing are all of them
rounds_are : (rounds limit : ℕ) (others : List (List ℕ)) (cells : List Cell) → with_rounds rounds limit others cells ≡ turned rounds limit others cells
rounds_are zero limit others cells = refl
rounds_are (suc rounds) limit others cells =
    elim (cases_Bool (slots_given (with_round limit others cells) == slots_given cells)) [
      | inl done ↦
          let same = (round_turns limit cells others).grown.same (eqb-true (slots_given (with_round limit others cells)) (slots_given cells) done) in
          rw (done, with_rounds) (sym (ap (λ x. turned rounds limit others x) same ∙ turned_stays rounds limit others cells same))
      | inr more ↦ rw (more, with_rounds) (rounds_are rounds limit others (with_round limit others cells))
    ]

-- rounds go on giving until they give nothing
progress : (rounds limit : ℕ) (others : List (List ℕ)) (cells : List Cell)
    → (with_round limit others (turned rounds limit others cells) ≡ turned rounds limit others cells) ⊎ (slots_given cells + rounds ≤ slots_given (turned rounds limit others cells))
progress zero limit others cells = inr (omega arith)
progress (suc rounds) limit others cells =
    let x = turned rounds limit others cells in
    let last = turned_last rounds limit others cells in
    let grown = (round_turns limit x others).grown in
    let least = grown.least in
    subst (λ y. (with_round limit others y ≡ y) ⊎ (slots_given cells + suc rounds ≤ slots_given y)) (sym last)
    (elim (progress rounds limit others cells) [
      | inl fixed ↦ inl (ap (λ y. with_round limit others y) fixed)
      | inr enough ↦ elim (cases_lt (slots_given x) (slots_given (with_round limit others x))) [
        | inl more ↦ inr (omega (arith, more, enough))
        | inr as_many ↦ let fixed = grown.same (omega (arith, as_many, least)) in inl (ap (λ y. with_round limit others y) fixed)
      ]
    ])

-- as many rounds as the limit are enough
at_rest : (limit : ℕ) (others : List (List ℕ)) (cells : List Cell) → with_round limit others (turned limit limit others cells) ≡ turned limit limit others cells
at_rest limit others cells = elim (progress limit limit others cells) [ inl fixed ↦ fixed | inr enough ↦ full_round limit (turned limit limit others cells) others (omega (arith, enough)) ]

abbrev plus : ℕ → ℕ → ℕ
plus zero n = n
plus (suc m) n = suc (plus m n)

plus_is : (m n : ℕ) → plus m n ≡ m + n
plus_is zero n = omega arith
plus_is (suc m) n = let e = plus_is m n in omega (arith, e)

more_rounds : (more rounds limit : ℕ) (others : List (List ℕ)) (cells : List Cell) → with_round limit others (turned rounds limit others cells) ≡ turned rounds limit others cells
    → turned (plus more rounds) limit others cells ≡ turned rounds limit others cells
more_rounds zero rounds limit others cells e = refl
more_rounds (suc more) rounds limit others cells e =
    let rest = more_rounds more rounds limit others cells e in
    turned_last (plus more rounds) limit others cells ∙ ap (λ y. with_round limit others y) rest ∙ e

enough_rounds : (rounds limit : ℕ) (others : List (List ℕ)) (cells : List Cell) → limit ≤ rounds → turned rounds limit others cells ≡ turned limit limit others cells
enough_rounds rounds limit others cells h =
    let all : plus (rounds - limit) limit ≡ rounds = plus_is (rounds - limit) limit ∙ omega (arith, h) in
    subst (λ n. turned n limit others cells ≡ turned limit limit others cells) all (more_rounds (rounds - limit) limit limit others cells (at_rest limit others cells))

-- a lower limit

-- under a lower limit cells are the same until that is reached, and then stay while the others grow
abbrev Follows : ℕ → List Cell → List Cell → Type 0
Follows limit low high = (low ≡ high) ⊎ ((slots_given low ≡ limit) × Grown low high)

turn_follows : (limit most : ℕ) (low high : List Cell) (host : List ℕ) → limit ≤ most → slots_given low ≤ limit → Follows limit low high → Follows limit (with_turn limit low host) (with_turn most high host)
turn_follows limit most low high host h within (inl same) =
    elim (cases_lt (slots_given low) limit) [
      | inl less ↦ inl (free limit low host less ∙ sym (free most low host (omega (arith, less, h))) ∙ ap (λ x. with_turn most x host) same)
      | inr full ↦
          let stays = held limit low host full in
          let count = ap slots_given stays in
          inr (omega (arith, count, full, within), subst (λ x. Grown x (with_turn most high host)) (sym stays) (subst (λ x. Grown low (with_turn most x host)) same (turn_turns most low host).grown))
    ]
turn_follows limit most low high host h within (inr reached) =
    let stays = held limit low host (omega (arith, reached.0)) in
    let count = ap slots_given stays in
    inr (omega (arith, count, reached.0), subst (λ x. Grown x (with_turn most high host)) (sym stays) (grown_both low high (with_turn most high host) reached.1 (turn_turns most high host).grown))

round_follows : (limit most : ℕ) (low high : List Cell) (others : List (List ℕ)) → limit ≤ most → slots_given low ≤ limit → Follows limit low high → Follows limit (with_round limit others low) (with_round most others high)
round_follows limit most low high [] h within follows = follows
round_follows limit most low high (host ∷ others) h within follows =
    round_follows limit most (with_turn limit low host) (with_turn most high host) others h ((turn_turns limit low host).within within) (turn_follows limit most low high host h within follows)

turned_follows : (rounds limit most : ℕ) (low high : List Cell) (others : List (List ℕ)) → limit ≤ most → slots_given low ≤ limit → Follows limit low high → Follows limit (turned rounds limit others low) (turned rounds most others high)
turned_follows zero limit most low high others h within follows = follows
turned_follows (suc rounds) limit most low high others h within follows =
    turned_follows rounds limit most (with_round limit others low) (with_round most others high) others h ((round_turns limit low others).within within) (round_follows limit most low high others h within follows)

module _ (c : Cluster) (groups : Groups) (job : Job) (bookings : List Booking) (from : ℕ) where
  abbrev turn : ℕ × List Grant → List ℕ → ℕ × List Grant
  turn left host = taking_turn c groups job bookings from left host

  -- what is left under a limit, and the slots
  abbrev left_of : ℕ → List Cell → ℕ × List Grant
  left_of limit cells = (limit - slots_given cells, tally cells)

  turn_none : (fewer : ℕ) (slots : List Grant) (host : List ℕ) → chosen c groups job bookings from (is_on host) slots ≡ None → turn (suc fewer, slots) host ≡ (suc fewer, slots)
  turn_none fewer slots host e = rw (e, taking_turn) refl

  turn_some : (fewer : ℕ) (slots next : List Grant) (host : List ℕ) → chosen c groups job bookings from (is_on host) slots ≡ Some next → turn (suc fewer, slots) host ≡ (fewer, next)
  turn_some fewer slots next host e = rw (e, taking_turn) refl

  free_turn : (limit : ℕ) (cells : List Cell) (host : List ℕ) (found : Option (List Cell)) → slots_given cells < limit → next_slot (is_on host) cells ≡ found
      → chosen c groups job bookings from (is_on host) (tally cells) ≡ option_map tally found → turn (left_of limit cells) host ≡ left_of limit (unwrap_or found cells)
  free_turn limit cells host None less one e =
      let fewer : limit - slots_given cells ≡ suc (limit - (slots_given cells + 1)) = omega (arith, less) in
      subst (λ n. turn (n, tally cells) host ≡ (n, tally cells)) (sym fewer) (turn_none (limit - (slots_given cells + 1)) (tally cells) host e)
  free_turn limit cells host (Some more) less one e =
      let fewer : limit - slots_given cells ≡ suc (limit - (slots_given cells + 1)) = omega (arith, less) in
      let given = gives_one (is_on host) cells more one in
      let after : limit - (slots_given cells + 1) ≡ limit - slots_given more = omega (arith, given) in
      ap (λ n. turn (n, tally cells) host) fewer ∙ turn_some (limit - (slots_given cells + 1)) (tally cells) (tally more) host e ∙ ap (λ n. (n, tally more)) after

  -- a turn of the rule's words is one under the limit
  turn_is : (limit : ℕ) (cells : List Cell) (host : List ℕ) → IsSound c groups job bookings from cells → turn (left_of limit cells) host ≡ left_of limit (with_turn limit cells host)
  turn_is limit cells host sound =
      elim (cases_lt (slots_given cells) limit) [
        | inl less ↦
            free_turn limit cells host (next_slot (is_on host) cells) less refl (chosen_is_one_more c groups job bookings from (is_on host) cells sound) ∙ ap (λ x. left_of limit x) (sym (free limit cells host less))
        | inr full ↦
            let none : limit - slots_given cells ≡ 0 = omega (arith, full) in
            subst (λ n. turn (n, tally cells) host ≡ (n, tally cells)) (sym none) refl ∙ ap (λ x. left_of limit x) (sym (held limit cells host full))
      ]

  round_is : (limit : ℕ) (cells : List Cell) (others : List (List ℕ)) → IsSound c groups job bookings from cells → fold turn (left_of limit cells) others ≡ left_of limit (with_round limit others cells)
  round_is limit cells [] sound = refl
  round_is limit cells (host ∷ others) sound =
      ap (λ left. fold turn left others) (turn_is limit cells host sound) ∙ round_is limit (with_turn limit cells host) others (turns_sound c groups job bookings from limit cells (host ∷ []) sound)

  rounds_of : (rounds limit : ℕ) (others : List (List ℕ)) (cells : List Cell) → IsSound c groups job bookings from cells
      → in_rounds c groups job bookings from rounds others (left_of limit cells) ≡ in_rounds c groups job bookings from 0 others (left_of limit (turned rounds limit others cells))
  rounds_of zero limit others cells sound = refl
  rounds_of (suc rounds) limit others cells sound =
      ap (λ left. in_rounds c groups job bookings from rounds others left) (round_is limit cells others sound)
      ∙ rounds_of rounds limit others (with_round limit others cells) (turns_sound c groups job bookings from limit cells others sound)

  all_given : (limit : ℕ) (others : List (List ℕ)) (cells : List Cell) → limit ≤ slots_given cells → in_rounds c groups job bookings from 0 others (left_of limit cells) ≡ Some (tally cells)
  all_given limit others cells full =
      let none : limit - slots_given cells ≡ 0 = omega (arith, full) in
      rw (eq-eqb (limit - slots_given cells) 0 none, in_rounds) refl

  some_left : (limit : ℕ) (others : List (List ℕ)) (cells : List Cell) → slots_given cells < limit → in_rounds c groups job bookings from 0 others (left_of limit cells) ≡ None
  some_left limit others cells less =
      rw (ne_eqb (limit - slots_given cells) 0 (λ e. absurd (omega (arith, e, less))), in_rounds) refl

  module _ (order : List InstanceId) where
    abbrev first : List Cell
    first = start c groups job bookings from order

    abbrev all_hosts : List (List ℕ)
    all_hosts = hosts c groups job bookings from order

    -- the rule's words for a number of slots are the rounds under it
    words_are : (count : ℕ) → chosen_by c groups job bookings from RoundRobin count all_hosts (no_slots order)
        ≡ in_rounds c groups job bookings from 0 all_hosts (left_of count (turned count count all_hosts first))
    words_are count =
        let none = none_given c groups job bookings from order order in
        let whole : count ≡ count - slots_given first = omega (arith, none) in
        ap (λ slots. in_rounds c groups job bookings from count all_hosts (count, slots)) (sym (start_is c groups job bookings from order order))
        ∙ ap (λ n. in_rounds c groups job bookings from count all_hosts (n, tally first)) whole
        ∙ rounds_of count count all_hosts first (start_sound c groups job bookings from order)

    round_robin_spreads : (high : ℕ) → Spreads c groups job bookings from order RoundRobin high (turned high high all_hosts first)
    round_robin_spreads high =
        let none = none_given c groups job bookings from order order in
        let result = turned high high all_hosts first in
        let within : slots_given result ≤ high = (turned_turns high high all_hosts first).within (omega (arith, none)) in
        let follows : (count : ℕ) → count ≤ high → Follows count (turned count count all_hosts first) result =
        λ count most. subst (λ x. Follows count x result) (enough_rounds high count all_hosts first most) (turned_follows high count high first first all_hosts most (omega (arith, none)) (inl refl)) in
        record {
          within = within;
          are = λ least. words_are (slots_given result) ∙ found result (turned (slots_given result) (slots_given result) all_hosts first) (follows (slots_given result) within);
          no_more = λ more less most. words_are more ∙ not_found more result (turned more more all_hosts first) less (follows more most);
        }
      where
        found : (result low : List Cell) → Follows (slots_given result) low result → in_rounds c groups job bookings from 0 all_hosts (left_of (slots_given result) low) ≡ Some (tally result)
        found result low (inl same) =
            subst (λ x. in_rounds c groups job bookings from 0 all_hosts (left_of (slots_given result) x) ≡ Some (tally result)) (sym same) (all_given (slots_given result) all_hosts result (omega arith))
        found result low (inr reached) =
            let same = reached.1.same (sym reached.0) in
            subst (λ x. in_rounds c groups job bookings from 0 all_hosts (left_of (slots_given result) x) ≡ Some (tally result)) same (all_given (slots_given result) all_hosts result (omega arith))

        not_found : (more : ℕ) (result low : List Cell) → slots_given result < more → Follows more low result → in_rounds c groups job bookings from 0 all_hosts (left_of more low) ≡ None
        not_found more result low less (inl same) =
            let as_many = ap slots_given same in some_left more all_hosts low (omega (arith, as_many, less))
        not_found more result low less (inr reached) =
            let least = reached.1.least in absurd (omega (arith, least, reached.0, less))

    pub round_robin_is_greatest : (low high : ℕ) → IsPlacedBy c groups job bookings from order RoundRobin low high (granted low (spread RoundRobin high first))
    round_robin_is_greatest low high =
        let all : spread RoundRobin high first ≡ turned high high all_hosts first = rounds_are high high (hosts_in first) first ∙ ap (λ hs. turned high high hs first) (hosts_are_those c groups job bookings from order) in
        subst (λ x. IsPlacedBy c groups job bookings from order RoundRobin low high (granted low x)) (sym all)
        (spreads_greatest c groups job bookings from order RoundRobin low high (turned high high all_hosts first) (round_robin_spreads high))
