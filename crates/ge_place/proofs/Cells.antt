-- Cells by their instances and slots.
use Rattle.std.proofs.Common.{◌≡◌, ℕ, zero, suc, ◌+◌, ◌<◌, inl, inr, Bool, true, false, not, ◌&&◌, cond, List, [], ◌∷◌, ◌++◌, map, drop, length, get_or, sum_by, Option, Some, None, option_map, refl, sym, ap, ◌∙◌, add-one, append_assoc, arith}
use Rattle.std.specs.List.{filter_map, position, position_or_len}
use Rattle.std.specs.Prelude.{nat_lt}
use Rattle.std.proofs.lemmas.Bool.{cond-true, cond-false, cases_Bool, cases_lt, lt-ltb, le-ltb}
use Rattle.std.proofs.lemmas.List.{length-replicate}
use Rattle.std.proofs.lemmas.List.Elements.{filter_map-append}
use Rattle.std.proofs.lemmas.List.Sums.{sum_by-cons}
use Rattle.std.proofs.Math.Seq.{drop-cons}
use Rattle.ge_model_rows.specs.Pieces.{each_once}
use Rattle.ge_model_rows.specs.HostRows.{InstanceId}
use Rattle.ge_model_rows.specs.JobRows.{Grant}
use Rattle.ge_model_rows.specs.ScheduleRows.{LimitId}
use Rattle.ge_model_place.specs.Placement.{Cell, slot_asks, cell_asks, asked_so_far, takes_one_more, with_slot, slots_given, hosts_in, grant_of}
use Rattle.ge_model_place.proofs.Filled.{times_slots}
use Rattle.ge_place.specs.declared.searching.Search.{Search}
use Rattle.ge_place.specs.Spots.{cell_with, cells_with, no_slots_at, one_more_at, host_of, hosts_among, cell_in}

-- first places

pub first_is : {X : Type 0} (test : X → Bool) (x : X) (xs : List X) → test x ≡ true → position test (x ∷ xs) ≡ Some 0
first_is test x xs e =
    let none : position_or_len test (x ∷ xs) ≡ 0 = ap (λ b. cond (not b) (1 + position_or_len test xs) 0) e in
    ap (λ n. cond (nat_lt n (length (x ∷ xs))) (Some n) None) none ∙ cond-true _ _ _ (lt-ltb 0 (length (x ∷ xs)) (omega arith))

pub later_is : {X : Type 0} (test : X → Bool) (x : X) (xs : List X) → test x ≡ false → position test (x ∷ xs) ≡ option_map (λ k. suc k) (position test xs)
later_is test x xs e =
    let n : ℕ = position_or_len test xs in
    let some : position_or_len test (x ∷ xs) ≡ 1 + n = ap (λ b. cond (not b) (1 + n) 0) e in
    ap (λ m. cond (nat_lt m (length (x ∷ xs))) (Some m) None) some
    ∙ elim (cases_lt n (length xs)) [
      | inl less ↦
          cond-true _ _ _ (lt-ltb (1 + n) (length (x ∷ xs)) (omega (arith, less)))
          ∙ (let next : 1 + n ≡ suc n = omega arith in ap (λ m. Some m) next)
          ∙ sym (ap (λ o. option_map (λ k. suc k) o) (cond-true (nat_lt n (length xs)) (Some n) None (lt-ltb n (length xs) less)))
      | inr over ↦
          cond-false _ _ _ (le-ltb (1 + n) (length (x ∷ xs)) (omega (arith, over)))
          ∙ sym (ap (λ o. option_map (λ k. suc k) o) (cond-false (nat_lt n (length xs)) (Some n) None (le-ltb n (length xs) over)))
    ]

-- one more slot, at the first instance that takes it

module _ (here : InstanceId → Bool) (cells : List Cell) (test : Cell → Bool) (same : (spot : Cell) (n : ℕ) → (here spot.at && takes_one_more cells (cell_with spot n)) ≡ test spot) where
  slot_here : (spot : Cell) (n : ℕ) (rest : List Cell) → test spot ≡ true → with_slot here cells (cell_with spot n ∷ rest) ≡ Some (cell_with spot (n + 1) ∷ rest)
  slot_here spot n rest does = rw (same spot n ∙ does, with_slot) refl

  slot_later : (spot : Cell) (n : ℕ) (rest : List Cell) → test spot ≡ false → with_slot here cells (cell_with spot n ∷ rest) ≡ option_map (λ more. cell_with spot n ∷ more) (with_slot here cells rest)
  slot_later spot n rest fails = rw (same spot n ∙ fails, with_slot) refl

  given_behind : (spot : Cell) (n : ℕ) (spots : List Cell) (slots : List ℕ) (found : Option ℕ) → option_map (λ more. cell_with spot n ∷ more) (option_map (λ k. cells_with spots (one_more_at slots k)) found)
      ≡ option_map (λ k. cells_with (spot ∷ spots) (one_more_at (n ∷ slots) k)) (option_map (λ k. suc k) found)
  given_behind spot n spots slots None = refl
  given_behind spot n spots slots (Some k) = refl

  pub slot_is : (spots : List Cell) (slots : List ℕ) → length slots ≡ length spots → with_slot here cells (cells_with spots slots) ≡ option_map (λ k. cells_with spots (one_more_at slots k)) (position test spots)
  slot_is [] slots long = refl
  slot_is (spot ∷ spots) [] long = absurd (omega (arith, long))
  slot_is (spot ∷ spots) (n ∷ slots) long =
      elim (cases_Bool (test spot)) [
        | inl does ↦ slot_here spot n (cells_with spots slots) does ∙ sym (ap (λ o. option_map (λ k. cells_with (spot ∷ spots) (one_more_at (n ∷ slots) k)) o) (first_is test spot spots does))
        | inr fails ↦
            slot_later spot n (cells_with spots slots) fails
            ∙ ap (λ o. option_map (λ more. cell_with spot n ∷ more) o) (slot_is spots slots (omega (arith, long)))
            ∙ given_behind spot n spots slots (position test spots)
            ∙ sym (ap (λ o. option_map (λ k. cells_with (spot ∷ spots) (one_more_at (n ∷ slots) k)) o) (later_is test spot spots fails))
      ]

-- what is given and asked with one more slot

pub given_more : (spots : List Cell) (slots : List ℕ) (k : ℕ) → length slots ≡ length spots → k < length spots → slots_given (cells_with spots (one_more_at slots k)) ≡ slots_given (cells_with spots slots) + 1
given_more [] slots k long less = absurd (omega (arith, less))
given_more (spot ∷ spots) [] k long less = absurd (omega (arith, long))
given_more (spot ∷ spots) (n ∷ slots) zero long less =
    let after = sum_by-cons (λ (x : Cell). x.slots) (cell_with spot (n + 1)) (cells_with spots slots) in
    let before = sum_by-cons (λ (x : Cell). x.slots) (cell_with spot n) (cells_with spots slots) in
    omega (arith, after, before)
given_more (spot ∷ spots) (n ∷ slots) (suc k) long less =
    let rest = given_more spots slots k (omega (arith, long)) (omega (arith, less)) in
    let after = sum_by-cons (λ (x : Cell). x.slots) (cell_with spot n) (cells_with spots (one_more_at slots k)) in
    let before = sum_by-cons (λ (x : Cell). x.slots) (cell_with spot n) (cells_with spots slots) in
    omega (arith, rest, after, before)

one_asks_more : (spot : Cell) (n : ℕ) (limit : LimitId) → cell_asks limit (cell_with spot (n + 1)) ≡ cell_asks limit (cell_with spot n) + sum_by (slot_asks limit) spot.rooms
one_asks_more spot n limit =
    let s : ℕ = sum_by (slot_asks limit) spot.rooms in
    let more = times_slots (n + 1) s in
    let before = times_slots n s in
    omega (arith, more, before)

pub asked_more : (limit : LimitId) (spots : List Cell) (slots : List ℕ) (k : ℕ) (spot : Cell) → length slots ≡ length spots → k < length spots → spot ≡ get_or spots k spot
    → asked_so_far (cells_with spots (one_more_at slots k)) limit ≡ asked_so_far (cells_with spots slots) limit + sum_by (slot_asks limit) spot.rooms
asked_more limit [] slots k spot long less is = absurd (omega (arith, less))
asked_more limit (x ∷ spots) [] k spot long less is = absurd (omega (arith, long))
asked_more limit (x ∷ spots) (n ∷ slots) zero spot long less is =
    let after = sum_by-cons (cell_asks limit) (cell_with x (n + 1)) (cells_with spots slots) in
    let before = sum_by-cons (cell_asks limit) (cell_with x n) (cells_with spots slots) in
    let one = one_asks_more x n limit in
    let same : sum_by (slot_asks limit) spot.rooms ≡ sum_by (slot_asks limit) x.rooms = ap (λ (y : Cell). sum_by (slot_asks limit) y.rooms) is in
    omega (arith, after, before, one, same)
asked_more limit (x ∷ spots) (n ∷ slots) (suc k) spot long less is =
    let rest = asked_more limit spots slots k spot (omega (arith, long)) (omega (arith, less)) is in
    let after = sum_by-cons (cell_asks limit) (cell_with x n) (cells_with spots (one_more_at slots k)) in
    let before = sum_by-cons (cell_asks limit) (cell_with x n) (cells_with spots slots) in
    omega (arith, rest, after, before)

-- before any slot is given

pub empty_cells : (search : Search) (order : List InstanceId) → cells_with (map (cell_in search) order) (no_slots_at (map (cell_in search) order)) ≡ map (cell_in search) order
empty_cells search [] = refl
empty_cells search (at ∷ order) = ap (λ xs. cell_in search at ∷ xs) (empty_cells search order)

pub none_long : (spots : List Cell) → length (no_slots_at spots) ≡ length spots
none_long spots = length-replicate (length spots) 0

pub none_asked : (spots : List Cell) (limit : LimitId) → asked_so_far (cells_with spots (no_slots_at spots)) limit ≡ 0
none_asked [] limit = refl
none_asked (spot ∷ spots) limit =
    let all = sum_by-cons (cell_asks limit) (cell_with spot 0) (cells_with spots (no_slots_at spots)) in
    let rest = none_asked spots limit in
    all ∙ omega (arith, rest)

pub none_given : (spots : List Cell) → slots_given (cells_with spots (no_slots_at spots)) ≡ 0
none_given [] = refl
none_given (spot ∷ spots) =
    let all = sum_by-cons (λ (x : Cell). x.slots) (cell_with spot 0) (cells_with spots (no_slots_at spots)) in
    let rest = none_given spots in
    all ∙ omega (arith, rest)

-- hosts

same_hosts : (spots : List Cell) (slots : List ℕ) → length slots ≡ length spots → map (λ (cell : Cell). cell.at.host) (cells_with spots slots) ≡ map host_of spots
same_hosts [] slots long = refl
same_hosts (spot ∷ spots) [] long = absurd (omega (arith, long))
same_hosts (spot ∷ spots) (n ∷ slots) long = ap (λ xs. host_of spot ∷ xs) (same_hosts spots slots (omega (arith, long)))

pub hosts_are : (spots : List Cell) → hosts_in (cells_with spots (no_slots_at spots)) ≡ hosts_among spots
hosts_are spots = ap each_once (same_hosts spots (no_slots_at spots) (none_long spots))

-- grants

pub cells_from : (spots : List Cell) (slots : List ℕ) (k : ℕ) (spot : Cell) → k < length spots → k < length slots → spot ≡ get_or spots k spot
    → cells_with (drop k spots) (drop k slots) ≡ cell_with spot (get_or slots k 0) ∷ cells_with (drop (k + 1) spots) (drop (k + 1) slots)
cells_from spots slots k spot less within is =
    let first : drop k spots ≡ spot ∷ drop (k + 1) spots = rw (add-one) (drop-cons spots k spot less ∙ ap (λ x. x ∷ drop (suc k) spots) (sym is)) in
    let second : drop k slots ≡ get_or slots k 0 ∷ drop (k + 1) slots = rw (add-one) (drop-cons slots k 0 within) in
    ap (λ xs. cells_with xs (drop k slots)) first ∙ ap (λ ns. cells_with (spot ∷ drop (k + 1) spots) ns) second

pub granted_more : (grants all : List Grant) (cell : Cell) (cells rest : List Cell) → cells ≡ cell ∷ rest → grants ++ filter_map grant_of cells ≡ all
    → (grants ++ filter_map grant_of (cell ∷ [])) ++ filter_map grant_of rest ≡ all
granted_more grants all cell cells rest is e =
    append_assoc grants (filter_map grant_of (cell ∷ [])) (filter_map grant_of rest)
    ∙ ap (λ xs. grants ++ xs) (sym (filter_map-append grant_of (cell ∷ []) rest) ∙ sym (ap (λ xs. filter_map grant_of xs) is))
    ∙ e
