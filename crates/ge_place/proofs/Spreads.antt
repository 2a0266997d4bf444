-- Slots that are given one after the other, and by the rules of PEs.
use Rattle.std.proofs.Common.{◌≡◌, ℕ, zero, suc, ◌+◌, ◌-◌, ◌≤◌, ◌<◌, ◌==◌, inl, inr, Bool, true, false, List, [], ◌∷◌, ◌++◌, fold, take, drop, length, get_or, Option, Some, None, option_map, refl, sym, subst, ap, ◌∙◌, arith}
use Rattle.std.specs.Borrow.{Bor}
use Rattle.std.specs.List.{position}
use Rattle.std.specs.Prelude.{nat_le, unwrap_or, IfSome}
use Rattle.std.proofs.lemmas.Bool.{cond-true, cond-false, cases_eq, lt-ltb, le-ltb, le-leb, lt-leb, eq-eqb, ne_eqb, and_left, and_right, and_from}
use Rattle.std.proofs.lemmas.List.{take_more, take-append-drop, map-append}
use Rattle.std.proofs.lemmas.List.Quantifiers.{position-Some}
use Rattle.std.proofs.lemmas.List.Sums.{fold-append}
use Rattle.ge_model_rows.specs.HostRows.{InstanceId}
use Rattle.ge_model_rows.specs.ScheduleRows.{LimitId}
use Rattle.ge_model_place.specs.Placement.{Cell, next_slot, filled, slots_given, is_on, fuller, with_block, with_turn, with_round, with_rounds}
use Rattle.ge_model_place.proofs.Greatest.{gives_one}
use Rattle.ge_place.specs.declared.spots.HostSpots.{HostSpots}
use Rattle.ge_place.specs.Spots.{cells_with, one_more_at, names_of, IsOn}
use Rattle.ge_place.specs.Giving.{IsBest, filled_on}
use Rattle.ge_place.specs.Sums.{AreTold, takes_by}
use Rattle.ge_place.proofs.Cells.{slot_is, given_more}
use Rattle.ge_place.proofs.Summing.{takes_is}

-- one after the other

filled_next : (here : InstanceId → Bool) (left : ℕ) (cells more : List Cell) → next_slot here cells ≡ Some more → filled here (suc left) cells ≡ filled here left more
filled_next here left cells more e = rw (e, filled) refl

filled_stop : (here : InstanceId → Bool) (left : ℕ) (cells : List Cell) → next_slot here cells ≡ None → filled here left cells ≡ cells
filled_stop here zero cells e = refl
filled_stop here (suc left) cells e = rw (e, filled) refl

-- so many of the slots were given
pub record Fills (here : InstanceId → Bool) (most given : ℕ) (spots : List Cell) (old slots : List ℕ) : Type 0 where
  pub goes : filled here (most - given) (cells_with spots slots) ≡ filled here most (cells_with spots old)
  pub counts : slots_given (cells_with spots slots) ≡ slots_given (cells_with spots old) + given
  pub within : given ≤ most
  pub same : given ≡ 0 → slots ≡ old
  pub long : length slots ≡ length spots

pub fills_none : (here : InstanceId → Bool) (most : ℕ) (spots : List Cell) (slots : List ℕ) → length slots ≡ length spots → Fills here most 0 spots slots slots
fills_none here most spots slots long = record {
  goes = let e : most - 0 ≡ most = omega arith in ap (λ n. filled here n (cells_with spots slots)) e;
  counts = omega arith;
  within = omega arith;
  same = λ _. refl;
  long = long;
}

pub place_within : (test : Cell → Bool) (spots : List Cell) (k : ℕ) (spot : Cell) → position test spots ≡ Some k → k < length spots
place_within test spots k spot e = (position-Some test spots k spot e).0

module _ (here : InstanceId → Bool) (most given : ℕ) (spots : List Cell) (old slots : List ℕ) (before since : List (LimitId × ℕ)) (told : AreTold before since (cells_with spots slots)) (so_far : Fills here most given spots old slots) where
  next_is : next_slot here (cells_with spots slots) ≡ option_map (λ k. cells_with spots (one_more_at slots k)) (position (takes_by here before since) spots)
  next_is = slot_is here (cells_with spots slots) (takes_by here before since) (takes_is before since (cells_with spots slots) told here) spots slots so_far.long

  pub fills_more : (k : ℕ) → position (takes_by here before since) spots ≡ Some k → k < length spots → given < most → length (one_more_at slots k) ≡ length spots → Fills here most (given + 1) spots old (one_more_at slots k)
  fills_more k e inside less long =
      let more : next_slot here (cells_with spots slots) ≡ Some (cells_with spots (one_more_at slots k)) = next_is ∙ ap (λ o. option_map (λ k. cells_with spots (one_more_at slots k)) o) e in
      let left : most - given ≡ suc (most - (given + 1)) = omega (arith, less) in
      let one = given_more spots slots k so_far.long inside in
      let counts = so_far.counts in
      record {
        goes = sym (filled_next here (most - (given + 1)) (cells_with spots slots) (cells_with spots (one_more_at slots k)) more) ∙ ap (λ n. filled here n (cells_with spots slots)) (sym left) ∙ so_far.goes;
        counts = omega (arith, one, counts);
        within = omega (arith, less);
        same = λ none. absurd (omega (arith, none));
        long = long;
      }

  pub fills_stop : position (takes_by here before since) spots ≡ None → cells_with spots slots ≡ filled here most (cells_with spots old)
  fills_stop e =
      let none : next_slot here (cells_with spots slots) ≡ None = next_is ∙ ap (λ o. option_map (λ k. cells_with spots (one_more_at slots k)) o) e in
      sym (filled_stop here (most - given) (cells_with spots slots) none) ∙ so_far.goes

  pub fills_all : most ≤ given → cells_with spots slots ≡ filled here most (cells_with spots old)
  fills_all all = let none : 0 ≡ most - given = omega (arith, all) in ap (λ n. filled here n (cells_with spots slots)) none ∙ so_far.goes

-- host by host

pub fold_hosts : {B : Type 0} (f : B → List ℕ → B) (a : B) (hosts : List HostSpots) (i : ℕ) (host : HostSpots) → i < length hosts → host ≡ get_or hosts i host
    → fold f a (names_of (take (i + 1) hosts)) ≡ f (fold f a (names_of (take i hosts))) host.host.now
fold_hosts f a hosts i host less is =
    let more : take (i + 1) hosts ≡ take i hosts ++ host ∷ [] = take_more hosts i host less ∙ ap (λ x. take i hosts ++ x ∷ []) (sym is) in
    ap (λ xs. fold f a (names_of xs)) more
    ∙ ap (λ xs. fold f a xs) (map-append (λ (x : HostSpots). x.host.now) (take i hosts) (host ∷ []))
    ∙ fold-append f a (names_of (take i hosts)) (host.host.now ∷ [])

-- $pe_slots

-- no host takes more than all

filled_most : (here : InstanceId → Bool) (n : ℕ) (cells : List Cell) → slots_given (filled here n cells) ≤ slots_given cells + n
filled_most here zero cells = omega arith
filled_most here (suc n) cells = most (next_slot here cells) refl (λ more. filled_most here n more)
  where
    most : (found : Option (List Cell)) → next_slot here cells ≡ found → ((more : List Cell) → slots_given (filled here n more) ≤ slots_given more + n) → slots_given (filled here (suc n) cells) ≤ slots_given cells + suc n
    most None e rest = let same = ap slots_given (filled_stop here (suc n) cells e) in omega (arith, same)
    most (Some more) e rest =
        let one = gives_one here cells more e in
        let less = rest more in
        let same = ap slots_given (filled_next here n cells more e) in
        omega (arith, one, less, same)

-- a host that takes all is kept, whatever hosts come
full_stays : (high n : ℕ) (start best : List Cell) (hosts : List (List ℕ)) → slots_given start ≡ 0 → slots_given best ≡ n → high ≤ n
    → fold (λ best host. fuller best (filled (is_on host) high start)) best hosts ≡ best
full_stays high n start best [] none count full = refl
full_stays high n start best (host ∷ hosts) none count full =
    let most = filled_most (is_on host) high start in
    let stays : fuller best (filled (is_on host) high start) ≡ best = cond-false _ _ _ (le-ltb (slots_given best) (slots_given (filled (is_on host) high start)) (omega (arith, most, none, count, full))) in
    ap (λ b. fold (λ best host. fuller best (filled (is_on host) high start)) b hosts) stays ∙ full_stays high n start best hosts none count full

-- the best of the hosts so far and one more

pub record IsBestWith (high : ℕ) (spots cells : List Cell) (hosts : List HostSpots) (best : Option (Bor HostSpots)) (most : ℕ) : Type 0 where
  pub chosen : IsBest high spots cells hosts best
  pub count : slots_given (filled_on high cells best) ≡ most

pub best_none : (high : ℕ) (spots cells : List Cell) → slots_given cells ≡ 0 → IsBestWith high spots cells [] None 0
best_none high spots cells none = record { chosen = record { fullest = refl; on = tt }; count = none }

module _ (high : ℕ) (spots cells : List Cell) (hosts : List HostSpots) (i : ℕ) (best : Option (Bor HostSpots)) (most : ℕ) (so_far : IsBestWith high spots cells (take i hosts) best most) where
  pub best_full : slots_given cells ≡ 0 → high ≤ most → IsBest high spots cells hosts best
  best_full none full =
      let step : List Cell → List ℕ → List Cell = λ best host. fuller best (filled (is_on host) high cells) in
      let both : names_of hosts ≡ names_of (take i hosts) ++ names_of (drop i hosts) = ap names_of (sym (take-append-drop i hosts)) ∙ map-append (λ (x : HostSpots). x.host.now) (take i hosts) (drop i hosts) in
      record {
        fullest =
            sym (ap (λ hs. fold step cells hs) both
            ∙ fold-append step cells (names_of (take i hosts)) (names_of (drop i hosts))
            ∙ ap (λ b. fold step b (names_of (drop i hosts))) (sym so_far.chosen.fullest)
            ∙ full_stays high most cells (filled_on high cells best) (names_of (drop i hosts)) none so_far.count full);
        on = so_far.chosen.on;
      }

  module _ (host : HostSpots) (less : i < length hosts) (is : host ≡ get_or hosts i host) (count : ℕ) (counted : slots_given (filled (is_on host.host.now) high cells) ≡ count) where
    next : fold (λ best host. fuller best (filled (is_on host) high cells)) cells (names_of (take (i + 1) hosts)) ≡ fuller (filled_on high cells best) (filled (is_on host.host.now) high cells)
    next =
        let step : List Cell → List ℕ → List Cell = λ best host. fuller best (filled (is_on host) high cells) in
        fold_hosts step cells hosts i host less is ∙ ap (λ b. step b host.host.now) (sym so_far.chosen.fullest)

    pub best_taken : (lent : Bor HostSpots) (now : Option (Bor HostSpots)) (m : ℕ) → now ≡ Some lent → m ≡ count → lent.now ≡ host → IsOn spots host → most < count → IsBestWith high spots cells (take (i + 1) hosts) now m
    best_taken lent now m lends counts same on more =
        let all : filled_on high cells now ≡ filled (is_on host.host.now) high cells = ap (λ b. filled_on high cells b) lends ∙ ap (λ (h : HostSpots). filled (is_on h.host.now) high cells) same in
        record {
          chosen = record {
            fullest = all ∙ sym (cond-true _ _ _ (lt-ltb (slots_given (filled_on high cells best)) (slots_given (filled (is_on host.host.now) high cells)) (omega (arith, so_far.count, counted, more)))) ∙ sym next;
            on = subst (λ b. IfSome b (λ h. IsOn spots h.now)) (sym lends) (subst (λ (h : HostSpots). IsOn spots h) (sym same) on);
          };
          count = ap slots_given all ∙ counted ∙ sym counts;
        }

    pub best_kept : (now : Option (Bor HostSpots)) (m : ℕ) → now ≡ best → m ≡ most → count ≤ most → IsBestWith high spots cells (take (i + 1) hosts) now m
    best_kept now m stays counts fewer = record {
      chosen = record {
        fullest =
            ap (λ b. filled_on high cells b) stays
            ∙ sym (cond-false _ _ _ (le-ltb (slots_given (filled_on high cells best)) (slots_given (filled (is_on host.host.now) high cells)) (omega (arith, so_far.count, counted, fewer))))
            ∙ sym next;
        on = subst (λ b. IfSome b (λ h. IsOn spots h.now)) (sym stays) so_far.chosen.on;
      };
      count = ap (λ b. slots_given (filled_on high cells b)) stays ∙ so_far.count ∙ sym counts;
    }

-- a number

pub same_count : (n m size taken : ℕ) → m ≡ n + taken → (taken == size) ≡ (m == n + size)
same_count n m size taken e =
    elim (cases_eq taken size) [
      | inl same ↦ eq-eqb taken size same ∙ sym (eq-eqb m (n + size) (omega (arith, e, same)))
      | inr differs ↦ ne_eqb taken size differs ∙ sym (ne_eqb m (n + size) (λ h. differs (omega (arith, e, h))))
    ]

pub block_given : (size high n : ℕ) (cells more : List Cell) → slots_given cells ≡ n → n + size ≤ high → (slots_given more == slots_given cells + size) ≡ true → with_block size high cells more ≡ more
block_given size high n cells more count fits whole = cond-true _ _ _ (and_from (nat_le (slots_given cells + size) high) (slots_given more == slots_given cells + size) (le-leb (slots_given cells + size) high (omega (arith, count, fits))) whole)

pub block_over : (size high n : ℕ) (cells more : List Cell) → slots_given cells ≡ n → high < n + size → with_block size high cells more ≡ cells
block_over size high n cells more count over = cond-false _ _ _ (and_left (nat_le (slots_given cells + size) high) (slots_given more == slots_given cells + size) (lt-leb (slots_given cells + size) high (omega (arith, count, over))))

pub block_short : (size high : ℕ) (cells more : List Cell) → (slots_given more == slots_given cells + size) ≡ false → with_block size high cells more ≡ cells
block_short size high cells more short = cond-false _ _ _ (and_right (nat_le (slots_given cells + size) high) (slots_given more == slots_given cells + size) short)

-- $round_robin

pub turn_held : (high n : ℕ) (cells : List Cell) (host : List ℕ) → slots_given cells ≡ n → high ≤ n → with_turn high cells host ≡ cells
turn_held high n cells host count full = cond-false _ _ _ (le-ltb (slots_given cells) high (omega (arith, count, full)))

pub turn_given : (high n : ℕ) (cells : List Cell) (host : List ℕ) → slots_given cells ≡ n → n < high → with_turn high cells host ≡ filled (is_on host) 1 cells
turn_given high n cells host count less =
    cond-true _ _ _ (lt-ltb (slots_given cells) high (omega (arith, count, less))) ∙ one (next_slot (is_on host) cells) refl
  where
    one : (found : Option (List Cell)) → next_slot (is_on host) cells ≡ found → unwrap_or found cells ≡ filled (is_on host) 1 cells
    one None e = sym (filled_stop (is_on host) 1 cells e)
    one (Some more) e = sym (filled_next (is_on host) 0 cells more e)

pub rounds_more : (rounds high n m : ℕ) (hosts : List (List ℕ)) (cells : List Cell) → slots_given cells ≡ n → slots_given (with_round high hosts cells) ≡ m → (m ≡ n → ⊥)
    → with_rounds (suc rounds) high hosts cells ≡ with_rounds rounds high hosts (with_round high hosts cells)
rounds_more rounds high n m hosts cells first second differs =
    let e : (slots_given (with_round high hosts cells) == slots_given cells) ≡ false = ne_eqb (slots_given (with_round high hosts cells)) (slots_given cells) (λ same. differs (omega (arith, first, second, same))) in
    rw (e, with_rounds) refl

pub rounds_done : (rounds high n m : ℕ) (hosts : List (List ℕ)) (cells : List Cell) → slots_given cells ≡ n → slots_given (with_round high hosts cells) ≡ m → m ≡ n → with_rounds (suc rounds) high hosts cells ≡ cells
rounds_done rounds high n m hosts cells first second same =
    let e : (slots_given (with_round high hosts cells) == slots_given cells) ≡ true = eq-eqb (slots_given (with_round high hosts cells)) (slots_given cells) (omega (arith, first, second, same)) in
    rw (e, with_rounds) refl
