-- Under a number of slots for each host the placement is that of the rule in its own words.
use Rattle.std.proofs.Common.{◌≡◌, ℕ, zero, suc, ◌+◌, ◌*◌, ◌/◌, ◌%◌, ◌≤◌, ◌<◌, ◌==◌, inl, inr, true, false, ◌&&◌, List, [], ◌∷◌, fold, Option, Some, None, refl, sym, subst, ap, ◌∙◌, arith}
use Rattle.std.specs.Prelude.{nat_le}
use native.Mathlib.Nat.{lt_of_mul-lt-mul_right, div-add-mod', mul-div_cancel, mul-mod_left}
use Rattle.std.proofs.lemmas.Bool.{cond_both, cases_Bool, and_parts, and_cases, leb-true, leb-false, eqb-true, eqb-false, eq-eqb}
use Rattle.ge_model_rows.specs.ClusterRows.{Cluster}
use Rattle.ge_model_rows.specs.HostRows.{Groups, InstanceId}
use Rattle.ge_model_rows.specs.JobRows.{Job, Grant}
use Rattle.ge_model_rows.specs.PeRows.{Fixed}
use Rattle.ge_model_rows.specs.ScheduleRows.{Booking}
use Rattle.ge_model_place.specs.Placement.{Cell, filled, slots_given, is_on, with_block, in_blocks, spread, granted}
use Rattle.ge_model_place.specs.Choosing.{in_first_blocks, chosen_times, chosen_by, IsPlacedBy}
use Rattle.ge_model_place.proofs.Chosen.{tally}
use Rattle.ge_model_place.proofs.Filled.{IsSound, filled_sound, start_sound}
use Rattle.ge_model_place.proofs.Greatest.{fills, Fills, start, hosts, start_is, none_given, hosts_are_those, Spreads, spreads_greatest}

module _ (c : Cluster) (groups : Groups) (job : Job) (bookings : List Booking) (from : ℕ) where
  abbrev blocks : ℕ → ℕ → List (List ℕ) → List Grant → Option (List Grant)
  blocks size count others slots = in_first_blocks c groups job bookings from size count others slots

  passes_by : (size count : ℕ) (host : List ℕ) (others : List (List ℕ)) (slots : List Grant) → chosen_times c groups job bookings from (is_on host) size slots ≡ None → blocks size count (host ∷ others) slots ≡ blocks size count others slots
  passes_by size zero host [] slots e = refl
  passes_by size zero host (other ∷ others) slots e = refl
  passes_by size (suc count) host others slots e = rw (e, in_first_blocks) refl

  takes_there : (size count : ℕ) (host : List ℕ) (others : List (List ℕ)) (slots next : List Grant) → chosen_times c groups job bookings from (is_on host) size slots ≡ Some next
      → blocks size (suc count) (host ∷ others) slots ≡ blocks size count others next
  takes_there size count host others slots next e = rw (e, in_first_blocks) refl

  no_blocks : (size : ℕ) (others : List (List ℕ)) (slots : List Grant) → blocks size 0 others slots ≡ Some slots
  no_blocks size [] slots = refl
  no_blocks size (host ∷ others) slots = refl

  -- so many blocks were given, and no more can be
  pub record Blocks (size high : ℕ) (given result : List Cell) (others : List (List ℕ)) : Type 0 where
    pub some : ℕ
    pub within : slots_given result ≤ high
    pub total : slots_given result ≡ slots_given given + some * size
    pub are : blocks size some others (tally given) ≡ Some (tally result)
    pub no_more : (more : ℕ) → some < more → slots_given given + more * size ≤ high → blocks size more others (tally given) ≡ None

  abbrev on_hosts : ℕ → ℕ → List Cell → List (List ℕ) → List Cell
  on_hosts size high given others = fold (λ given host. with_block size high given (filled (is_on host) size given)) given others

  after_block : (size high : ℕ) (given : List Cell) (host : List ℕ) (others : List (List ℕ)) (result : List Cell) → Fills c groups job bookings from (is_on host) size given (filled (is_on host) size given)
      → slots_given (filled (is_on host) size given) ≡ slots_given given + size → Blocks size high (filled (is_on host) size given) result others → Blocks size high given result (host ∷ others)
  after_block size high given host others result is whole rest =
      let all : is.some ≡ size = omega (arith, is.given, whole) in
      let found : chosen_times c groups job bookings from (is_on host) size (tally given) ≡ Some (tally (filled (is_on host) size given)) =
      subst (λ n. chosen_times c groups job bookings from (is_on host) n (tally given) ≡ Some (tally (filled (is_on host) size given))) all is.are in
      record {
        some = suc rest.some;
        within = rest.within;
        total = omega (arith, rest.total, whole);
        are = takes_there size rest.some host others (tally given) (tally (filled (is_on host) size given)) found ∙ rest.are;
        no_more = more_than found;
      }
    where
      more_than : chosen_times c groups job bookings from (is_on host) size (tally given) ≡ Some (tally (filled (is_on host) size given))
          → (more : ℕ) → suc rest.some < more → slots_given given + more * size ≤ high → blocks size more (host ∷ others) (tally given) ≡ None
      more_than found zero less most = absurd (omega (arith, less))
      more_than found (suc more) less most =
          takes_there size more host others (tally given) (tally (filled (is_on host) size given)) found ∙ rest.no_more more (omega (arith, less)) (omega (arith, most, whole))

  -- a block would pass the greatest number
  after_end : (size high : ℕ) (given : List Cell) (host : List ℕ) (others : List (List ℕ)) (result : List Cell) → high < slots_given given + size → Blocks size high given result others → Blocks size high given result (host ∷ others)
  after_end size high given host others result past rest =
      record { some = rest.some; within = rest.within; total = rest.total; are = first rest.some rest.total rest.are; no_more = none }
    where
      first : (some : ℕ) → slots_given result ≡ slots_given given + some * size → blocks size some others (tally given) ≡ Some (tally result) → blocks size some (host ∷ others) (tally given) ≡ Some (tally result)
      first zero total are = sym (no_blocks size others (tally given)) ∙ are
      first (suc some) total are = absurd (omega (arith, total, past, rest.within))

      none : (more : ℕ) → rest.some < more → slots_given given + more * size ≤ high → blocks size more (host ∷ others) (tally given) ≡ None
      none zero less most = absurd (omega (arith, less))
      none (suc more) less most = absurd (omega (arith, most, past))

  after_short : (size high : ℕ) (given : List Cell) (host : List ℕ) (others : List (List ℕ)) (result : List Cell) → chosen_times c groups job bookings from (is_on host) size (tally given) ≡ None
      → Blocks size high given result others → Blocks size high given result (host ∷ others)
  after_short size high given host others result e rest =
      record {
        some = rest.some;
        within = rest.within;
        total = rest.total;
        are = passes_by size rest.some host others (tally given) e ∙ rest.are;
        no_more = λ more less most. passes_by size more host others (tally given) e ∙ rest.no_more more less most;
      }

  blocks_of : (size high : ℕ) (given : List Cell) (others : List (List ℕ)) → IsSound c groups job bookings from given → slots_given given ≤ high → Blocks size high given (on_hosts size high given others) others
  blocks_of size high given [] sound fits =
      record { some = 0; within = fits; total = omega arith; are = refl; no_more = none }
    where
      none : (more : ℕ) → 0 < more → slots_given given + more * size ≤ high → blocks size more [] (tally given) ≡ None
      none zero less most = absurd (omega (arith, less))
      none (suc more) less most = refl
  blocks_of size high given (host ∷ others) sound fits =
      let more = filled (is_on host) size given in
      let is = fills c groups job bookings from (is_on host) size given sound in
      cond_both (nat_le (slots_given given + size) high && slots_given more == slots_given given + size) more given (λ next. Blocks size high given (on_hosts size high next others) (host ∷ others))
      (λ e.
      let parts = and_parts (nat_le (slots_given given + size) high) (slots_given more == slots_given given + size) e in
      let whole = eqb-true (slots_given more) (slots_given given + size) parts.1 in
      let room = leb-true (slots_given given + size) high parts.0 in
      after_block size high given host others (on_hosts size high more others) is whole
      (blocks_of size high more others (filled_sound c groups job bookings from (is_on host) size given sound) (omega (arith, whole, room))))
      (λ e.
      let rest = blocks_of size high given others sound fits in
      elim (and_cases (nat_le (slots_given given + size) high) (slots_given more == slots_given given + size) e) [
        | inl past ↦ after_end size high given host others (on_hosts size high given others) (leb-false (slots_given given + size) high past) rest
        | inr short ↦
            let fewer : is.some ≡ size → ⊥ = λ all. eqb-false (slots_given more) (slots_given given + size) short (omega (arith, all, is.given)) in
            let less : is.some < size = omega (arith, fewer, is.within) in
            after_short size high given host others (on_hosts size high given others) (is.no_more less size less) rest
      ])

  module _ (order : List InstanceId) where
    abbrev spread_over : ℕ → ℕ → List Cell
    spread_over size high = on_hosts size high (start c groups job bookings from order) (hosts c groups job bookings from order)

    abbrev chosen_for : ℕ → ℕ → Option (List Grant)
    chosen_for size count = chosen_by c groups job bookings from (Fixed size) count (hosts c groups job bookings from order) (tally (start c groups job bookings from order))

    whole_blocks : (size count : ℕ) → (count % size == 0) ≡ true → chosen_for size count ≡ blocks size (count / size) (hosts c groups job bookings from order) (tally (start c groups job bookings from order))
    whole_blocks size count e = rw (e, chosen_by) refl

    no_whole_blocks : (size count : ℕ) → (count % size == 0) ≡ false → chosen_for size count ≡ None
    no_whole_blocks size count e = rw (e, chosen_by) refl

    -- the number of slots is a number of blocks
    chosen_blocks : (size some count : ℕ) → 1 ≤ count → count ≡ some * size → chosen_for size count ≡ blocks size some (hosts c groups job bookings from order) (tally (start c groups job bookings from order))
    chosen_blocks size some count least is =
        let positive : 0 < size = not_zero size (omega (arith, least, is)) in
        let rest : count % size ≡ 0 = ap (λ n. n % size) is ∙ mul-mod_left some size in
        let number : count / size ≡ some = ap (λ n. n / size) is ∙ mul-div_cancel some positive in
        whole_blocks size count (eq-eqb (count % size) 0 rest) ∙ ap (λ n. blocks size n (hosts c groups job bookings from order) (tally (start c groups job bookings from order))) number
      where
        not_zero : (n : ℕ) → 1 ≤ some * n → 0 < n
        not_zero zero h = let none : some * 0 ≡ 0 = omega arith in omega (arith, none, h)
        not_zero (suc n) h = omega arith

    fixed_spreads : (size high : ℕ) → Spreads c groups job bookings from order (Fixed size) high (in_blocks size high (start c groups job bookings from order))
    fixed_spreads size high =
        let none = none_given c groups job bookings from order order in
        let is = blocks_of size high (start c groups job bookings from order) (hosts c groups job bookings from order) (start_sound c groups job bookings from order) (omega (arith, none)) in
        subst (λ hs. Spreads c groups job bookings from order (Fixed size) high (on_hosts size high (start c groups job bookings from order) hs)) (sym (hosts_are_those c groups job bookings from order)) (record {
          within = is.within;
          are = λ least.
              subst (λ slots. chosen_by c groups job bookings from (Fixed size) (slots_given (spread_over size high)) (hosts c groups job bookings from order) slots ≡ Some (tally (spread_over size high))) (start_is c groups job bookings from order order)
              (chosen_blocks size is.some (slots_given (spread_over size high)) least (omega (arith, is.total, none)) ∙ is.are);
          no_more = λ more less most.
              subst (λ slots. chosen_by c groups job bookings from (Fixed size) more (hosts c groups job bookings from order) slots ≡ None) (start_is c groups job bookings from order order)
              (elim (cases_Bool (more % size == 0)) [
                | inl whole ↦
                    let parts = div-add-mod' more size in
                    let rest = eqb-true (more % size) 0 whole in
                    let number : more / size * size ≡ more = omega (arith, parts, rest) in
                    whole_blocks size more whole
                    ∙ is.no_more (more / size) (lt_of_mul-lt-mul_right size (omega (arith, number, is.total, none, less))) (omega (arith, number, none, most))
                | inr broken ↦ no_whole_blocks size more broken
              ]);
        })

    pub fixed_is_greatest : (size low high : ℕ) → IsPlacedBy c groups job bookings from order (Fixed size) low high (granted low (spread (Fixed size) high (start c groups job bookings from order)))
    fixed_is_greatest size low high = spreads_greatest c groups job bookings from order (Fixed size) low high (in_blocks size high (start c groups job bookings from order)) (fixed_spreads size high)
