-- Hosts at which no instance takes one slot may be left out of a placement, whatever its rule.
use Rattle.std.proofs.Common.{◌≡◌, ℕ, zero, suc, ◌+◌, ◌*◌, ◌==◌, inl, inr, Bool, true, false, ◌&&◌, cond, min, max, List, [], ◌∷◌, ◌++◌, map, filter, fold, sum_by, Option, Some, None, option_map, unwrap_or, refl, sym, subst, ap, ◌∙◌, arith}
use Rattle.std.specs.List.{list_all, filter_map, cons_option}
use Rattle.std.specs.Prelude.{nat_le, nat_lt}
use Rattle.std.proofs.lemmas.Bool.{cond_both, cond-true, cond-false, cases_Bool, and_parts, and_from, and_right, or_from, true≢false, false_from_ne_true, leb-true, le-leb, ltb-true, eq-eqb}
use Rattle.std.proofs.lemmas.List.{append-nil}
use Rattle.std.proofs.lemmas.List.Elements.{filter-append}
use Rattle.std.proofs.lemmas.List.Sums.{sum_by-cons}
use Rattle.std.proofs.lemmas.Map.Views.{any-filter_same}
use Rattle.ge_collections.specs.Keyed.{text_eq, at_text}
use Rattle.ge_model_rows.specs.ClusterRows.{Cluster}
use Rattle.ge_model_rows.specs.HostRows.{Groups, InstanceId}
use Rattle.ge_model_rows.specs.JobRows.{Job, PeRequest}
use Rattle.ge_model_rows.specs.PeRows.{PeRow, Allocation, Fixed, PeSlots, FillUp, RoundRobin}
use Rattle.ge_model_rows.specs.ScheduleRows.{LimitId, Booking}
use Rattle.ge_model_rows.specs.Pieces.{is_one_of, with_text, each_once}
use Rattle.ge_model_place.specs.Limits.{greatest_demand}
use Rattle.ge_model_place.specs.Placement.{Room, Cell, cell_of, slot_asks, cell_asks, asked_so_far, asked_with_one, fits_one_more, takes_one_more, with_slot, next_slot, filled, slots_given, everywhere, is_on, hosts_in, fuller, on_one_host, with_block, in_blocks, with_turn, with_round, with_rounds, spread, grant_of, granted, placed_with, placed_by, placement_of}
use Rattle.ge_model_place.proofs.First.{takes_one}
use Rattle.ge_model_place.proofs.Greatest.{start, none_given}
use Rattle.ge_model_place.proofs.Once.{Each}
use Rattle.ge_model_place.proofs.Same.{texts_equal}
use Rattle.ge_attempts.proofs.Nowhere.{none_next}

-- a slot more of a cell
abbrev one_more : Cell → Cell
one_more cell = record cell { slots = cell.slots + 1 }

-- no slot is given there, and none is beside whatever is given
record IsDead (cell : Cell) : Type 0 where
  empty : cell.slots ≡ 0
  never : (cells : List Cell) → takes_one_more cells cell ≡ false

module _ (keeps : List ℕ → Bool) where
  -- hosts, each at its first place

  text_kept : (hosts : List (List ℕ)) (host : List ℕ) → keeps host ≡ true → with_text (filter keeps hosts) host ≡ filter keeps (with_text hosts host)
  text_kept hosts host kept =
      let same : is_one_of host (filter keeps hosts) ≡ is_one_of host hosts = any-filter_same (text_eq host) keeps true (λ other e. ap keeps (sym (texts_equal host other e)) ∙ kept) hosts in
      elim (cases_Bool (is_one_of host hosts)) [
        | inl there ↦
            cond-true (is_one_of host (filter keeps hosts)) (filter keeps hosts) (filter keeps hosts ++ host ∷ []) (same ∙ there)
            ∙ sym (ap (λ xs. filter keeps xs) (cond-true (is_one_of host hosts) hosts (hosts ++ host ∷ []) there))
        | inr fresh ↦
            cond-false (is_one_of host (filter keeps hosts)) (filter keeps hosts) (filter keeps hosts ++ host ∷ []) (same ∙ fresh)
            ∙ sym (ap (λ xs. filter keeps xs) (cond-false (is_one_of host hosts) hosts (hosts ++ host ∷ []) fresh)
            ∙ filter-append keeps hosts (host ∷ [])
            ∙ ap (λ xs. filter keeps hosts ++ xs) (cond-true (keeps host) (host ∷ []) [] kept))
      ]

  text_gone : (hosts : List (List ℕ)) (host : List ℕ) → keeps host ≡ false → filter keeps (with_text hosts host) ≡ filter keeps hosts
  text_gone hosts host gone =
      cond_both (is_one_of host hosts) hosts (hosts ++ host ∷ []) (λ xs. filter keeps xs ≡ filter keeps hosts)
      (λ _. refl)
      (λ _. filter-append keeps hosts (host ∷ []) ∙ ap (λ xs. filter keeps hosts ++ xs) (cond-false (keeps host) (host ∷ []) [] gone) ∙ append-nil (filter keeps hosts))

  once_kept : (hosts so_far : List (List ℕ)) → fold with_text (filter keeps so_far) (filter keeps hosts) ≡ filter keeps (fold with_text so_far hosts)
  once_kept [] so_far = refl
  once_kept (host ∷ hosts) so_far =
      let rest = once_kept hosts (with_text so_far host) in
      elim (cases_Bool (keeps host)) [
        | inl kept ↦
            ap (λ hs. fold with_text (filter keeps so_far) hs) (cond-true (keeps host) (host ∷ filter keeps hosts) (filter keeps hosts) kept)
            ∙ ap (λ first. fold with_text first (filter keeps hosts)) (text_kept so_far host kept) ∙ rest
        | inr gone ↦
            ap (λ hs. fold with_text (filter keeps so_far) hs) (cond-false (keeps host) (host ∷ filter keeps hosts) (filter keeps hosts) gone)
            ∙ ap (λ first. fold with_text first (filter keeps hosts)) (sym (text_gone so_far host gone)) ∙ rest
      ]

  -- whether a cell is on a host that is kept
  abbrev stays : Cell → Bool
  stays cell = keeps cell.at.host

  -- on other hosts cells are dead
  abbrev DeadElse : List Cell → Type 0
  DeadElse cells = Each (λ (cell : Cell). stays cell ≡ false → IsDead cell) cells

  hosts_kept : (cells : List Cell) → map (λ (cell : Cell). cell.at.host) (filter stays cells) ≡ filter keeps (map (λ (cell : Cell). cell.at.host) cells)
  hosts_kept [] = refl
  hosts_kept (cell ∷ cells) =
      let rest = hosts_kept cells in
      elim (cases_Bool (stays cell)) [ inl kept ↦ rw kept (ap (λ hs. cell.at.host ∷ hs) rest) | inr gone ↦ rw gone rest ]

  -- what they ask and what was given

  asked_kept : (cells : List Cell) (limit : LimitId) → DeadElse cells → asked_so_far (filter stays cells) limit ≡ asked_so_far cells limit
  asked_kept [] limit dead = refl
  asked_kept (cell ∷ cells) limit dead =
      let rest = asked_kept cells limit dead.1 in
      let whole = sum_by-cons (cell_asks limit) cell cells in
      elim (cases_Bool (stays cell)) [
        | inl kept ↦
            let part = sum_by-cons (cell_asks limit) cell (filter stays cells) in
            ap (λ cs. asked_so_far cs limit) (cond-true (stays cell) (cell ∷ filter stays cells) (filter stays cells) kept) ∙ omega (arith, rest, whole, part)
        | inr gone ↦
            let nothing : cell_asks limit cell ≡ 0 = cond-true (cell.slots == 0) 0 (cell.slots * sum_by (slot_asks limit) cell.rooms) (eq-eqb cell.slots 0 (dead.0 gone).empty) in
            ap (λ cs. asked_so_far cs limit) (cond-false (stays cell) (cell ∷ filter stays cells) (filter stays cells) gone) ∙ omega (arith, rest, whole, nothing)
      ]

  slots_kept : (cells : List Cell) → DeadElse cells → slots_given (filter stays cells) ≡ slots_given cells
  slots_kept [] dead = refl
  slots_kept (cell ∷ cells) dead =
      let rest = slots_kept cells dead.1 in
      let whole = sum_by-cons (λ (x : Cell). x.slots) cell cells in
      elim (cases_Bool (stays cell)) [
        | inl kept ↦
            let part = sum_by-cons (λ (x : Cell). x.slots) cell (filter stays cells) in
            ap slots_given (cond-true (stays cell) (cell ∷ filter stays cells) (filter stays cells) kept) ∙ omega (arith, rest, whole, part)
        | inr gone ↦
            let nothing : cell.slots ≡ 0 = (dead.0 gone).empty in
            ap slots_given (cond-false (stays cell) (cell ∷ filter stays cells) (filter stays cells) gone) ∙ omega (arith, rest, whole, nothing)
      ]

  grants_kept : (cells : List Cell) → DeadElse cells → filter_map grant_of (filter stays cells) ≡ filter_map grant_of cells
  grants_kept [] dead = refl
  grants_kept (cell ∷ cells) dead =
      let rest = grants_kept cells dead.1 in
      elim (cases_Bool (stays cell)) [
        | inl kept ↦
            ap (λ cs. filter_map grant_of cs) (cond-true (stays cell) (cell ∷ filter stays cells) (filter stays cells) kept) ∙ ap (λ gs. cons_option (grant_of cell) gs) rest
        | inr gone ↦
            let nothing : grant_of cell ≡ None = cond-true (cell.slots == 0) None (Some (record { at = cell.at; slots = cell.slots })) (eq-eqb cell.slots 0 (dead.0 gone).empty) in
            ap (λ cs. filter_map grant_of cs) (cond-false (stays cell) (cell ∷ filter stays cells) (filter stays cells) gone) ∙ rest
            ∙ sym (ap (λ g. cons_option g (filter_map grant_of cells)) nothing)
      ]

  -- whether one more slot fits

  fits_kept : (cells : List Cell) (room : Room) → DeadElse cells → fits_one_more (filter stays cells) room ≡ fits_one_more cells room
  fits_kept cells room dead =
      ap (λ n. nat_le (room.booked + min (cond room.counted.once room.counted.amount (n + room.counted.amount)) greatest_demand) room.counted.capacity) (asked_kept cells room.counted.limit dead)

  all_fit_kept : (cells : List Cell) (rooms : List Room) → DeadElse cells → list_all (fits_one_more (filter stays cells)) rooms ≡ list_all (fits_one_more cells) rooms
  all_fit_kept cells [] dead = refl
  all_fit_kept cells (room ∷ rooms) dead =
      let first = fits_kept cells room dead in
      let rest = all_fit_kept cells rooms dead in
      λ i. first i && rest i

  takes_kept : (cells : List Cell) (cell : Cell) → DeadElse cells → takes_one_more (filter stays cells) cell ≡ takes_one_more cells cell
  takes_kept cells cell dead = ap (λ b. cell.opened && b) (all_fit_kept cells cell.rooms dead)

  -- all cells, and those that are kept
  record Thins (all fewer : List Cell) : Type 0 where
    are : fewer ≡ filter stays all
    dead : DeadElse all

  abbrev SameFound : Option (List Cell) → Option (List Cell) → Type 0
  SameFound None None = Unit {0}
  SameFound None (Some fewer) = ⊥
  SameFound (Some all) None = ⊥
  SameFound (Some all) (Some fewer) = Thins all fewer

  more_kept : (cell : Cell) → stays cell ≡ true → (found less : Option (List Cell)) → SameFound found less → SameFound (option_map (λ more. cell ∷ more) found) (option_map (λ more. cell ∷ more) less)
  more_kept cell kept None None same = tt
  more_kept cell kept None (Some fewer) same = absurd same
  more_kept cell kept (Some all) None same = absurd same
  more_kept cell kept (Some all) (Some fewer) same =
      record {
        are = ap (λ cs. cell ∷ cs) same.are ∙ sym (cond-true (stays cell) (cell ∷ filter stays all) (filter stays all) kept);
        dead = (λ gone. absurd (true≢false (sym kept ∙ gone)), same.dead);
      }

  more_gone : (cell : Cell) → stays cell ≡ false → IsDead cell → (found less : Option (List Cell)) → SameFound found less → SameFound (option_map (λ more. cell ∷ more) found) less
  more_gone cell gone is None None same = tt
  more_gone cell gone is None (Some fewer) same = absurd same
  more_gone cell gone is (Some all) None same = absurd same
  more_gone cell gone is (Some all) (Some fewer) same =
      record { are = same.are ∙ sym (cond-false (stays cell) (cell ∷ filter stays all) (filter stays all) gone); dead = (λ _. is, same.dead) }

  module _ (here : InstanceId → Bool) where
    one_kept : (all : List Cell) → DeadElse all → (cell : Cell) (xs : List Cell) → stays cell ≡ true → DeadElse xs → SameFound (with_slot here all xs) (with_slot here (filter stays all) (filter stays xs))
        → SameFound (with_slot here all (cell ∷ xs)) (with_slot here (filter stays all) (cell ∷ filter stays xs))
    one_kept all dead cell xs kept each rest =
        let same : (here cell.at && takes_one_more (filter stays all) cell) ≡ (here cell.at && takes_one_more all cell) = ap (λ b. here cell.at && b) (takes_kept all cell dead) in
        elim (cases_Bool (here cell.at && takes_one_more all cell)) [
          | inl does ↦
              let first : with_slot here all (cell ∷ xs) ≡ Some (one_more cell ∷ xs) = rw (does, with_slot) refl in
              let second : with_slot here (filter stays all) (cell ∷ filter stays xs) ≡ Some (one_more cell ∷ filter stays xs) = rw (same ∙ does, with_slot) refl in
              subst (λ found. SameFound found (with_slot here (filter stays all) (cell ∷ filter stays xs))) (sym first)
              (subst (λ less. SameFound (Some (one_more cell ∷ xs)) less) (sym second)
              (record {
                are = sym (cond-true (stays cell) (one_more cell ∷ filter stays xs) (filter stays xs) kept);
                dead = (λ gone. absurd (true≢false (sym kept ∙ gone)), each);
              }))
          | inr fails ↦
              let first : with_slot here all (cell ∷ xs) ≡ option_map (λ more. cell ∷ more) (with_slot here all xs) = rw (fails, with_slot) refl in
              let second : with_slot here (filter stays all) (cell ∷ filter stays xs) ≡ option_map (λ more. cell ∷ more) (with_slot here (filter stays all) (filter stays xs)) = rw (same ∙ fails, with_slot) refl in
              subst (λ found. SameFound found (with_slot here (filter stays all) (cell ∷ filter stays xs))) (sym first)
              (subst (λ less. SameFound (option_map (λ more. cell ∷ more) (with_slot here all xs)) less) (sym second)
              (more_kept cell kept (with_slot here all xs) (with_slot here (filter stays all) (filter stays xs)) rest))
        ]

    one_gone : (all : List Cell) (cell : Cell) (xs : List Cell) (less : Option (List Cell)) → stays cell ≡ false → IsDead cell → SameFound (with_slot here all xs) less → SameFound (with_slot here all (cell ∷ xs)) less
    one_gone all cell xs less gone is rest =
        let fails : (here cell.at && takes_one_more all cell) ≡ false = and_right (here cell.at) (takes_one_more all cell) (is.never all) in
        let first : with_slot here all (cell ∷ xs) ≡ option_map (λ more. cell ∷ more) (with_slot here all xs) = rw (fails, with_slot) refl in
        subst (λ found. SameFound found less) (sym first) (more_gone cell gone is (with_slot here all xs) less rest)

    slot_kept : (all : List Cell) → DeadElse all → (xs : List Cell) → DeadElse xs → SameFound (with_slot here all xs) (with_slot here (filter stays all) (filter stays xs))
    slot_kept all dead [] each = tt
    slot_kept all dead (cell ∷ xs) each =
        let rest = slot_kept all dead xs each.1 in
        elim (cases_Bool (stays cell)) [
          | inl kept ↦
              subst (λ cs. SameFound (with_slot here all (cell ∷ xs)) (with_slot here (filter stays all) cs)) (sym (cond-true (stays cell) (cell ∷ filter stays xs) (filter stays xs) kept))
              (one_kept all dead cell xs kept each.1 rest)
          | inr gone ↦
              subst (λ cs. SameFound (with_slot here all (cell ∷ xs)) (with_slot here (filter stays all) cs)) (sym (cond-false (stays cell) (cell ∷ filter stays xs) (filter stays xs) gone))
              (one_gone all cell xs (with_slot here (filter stays all) (filter stays xs)) gone (each.0 gone) rest)
        ]

    slot_thins : (all fewer : List Cell) → Thins all fewer → SameFound (next_slot here all) (next_slot here fewer)
    slot_thins all fewer thins = subst (λ cs. SameFound (next_slot here all) (next_slot here cs)) (sym thins.are) (slot_kept all thins.dead all thins.dead)

    found_thins : (count : ℕ) → ((a b : List Cell) → Thins a b → Thins (filled here count a) (filled here count b)) → (found less : Option (List Cell)) (all fewer : List Cell) → Thins all fewer → SameFound found less
        → Thins (elim found [ None ↦ all | Some more ↦ filled here count more ]) (elim less [ None ↦ fewer | Some more ↦ filled here count more ])
    found_thins count rest None None all fewer thins same = thins
    found_thins count rest None (Some b) all fewer thins same = absurd same
    found_thins count rest (Some a) None all fewer thins same = absurd same
    found_thins count rest (Some a) (Some b) all fewer thins same = rest a b same

    filled_thins : (count : ℕ) (all fewer : List Cell) → Thins all fewer → Thins (filled here count all) (filled here count fewer)
    filled_thins zero all fewer thins = thins
    filled_thins (suc count) all fewer thins =
        found_thins count (λ a b t. filled_thins count a b t) (next_slot here all) (next_slot here fewer) all fewer thins (slot_thins all fewer thins)

  given_thins : (all fewer : List Cell) → Thins all fewer → slots_given fewer ≡ slots_given all
  given_thins all fewer thins = ap slots_given thins.are ∙ slots_kept all thins.dead

  either_thins : (b : Bool) (all fewer more less : List Cell) → Thins all fewer → Thins more less → Thins (cond b all more) (cond b fewer less)
  either_thins true all fewer more less first second = first
  either_thins false all fewer more less first second = second

  same_test : (a b : Bool) (all fewer more less : List Cell) → b ≡ a → Thins all fewer → Thins more less → Thins (cond a all more) (cond b fewer less)
  same_test a b all fewer more less same first second = subst (λ t. Thins (cond a all more) (cond t fewer less)) (sym same) (either_thins a all fewer more less first second)

  -- host by host

  folds_thin : (f g : List Cell → List ℕ → List Cell) → ((a b : List Cell) (host : List ℕ) → keeps host ≡ true → Thins a b → Thins (f a host) (g b host))
      → ((a b : List Cell) (host : List ℕ) → keeps host ≡ false → Thins a b → f a host ≡ a) → (hosts : List (List ℕ)) (a b : List Cell) → Thins a b → Thins (fold f a hosts) (fold g b (filter keeps hosts))
  folds_thin f g with_one without [] a b thins = thins
  folds_thin f g with_one without (host ∷ hosts) a b thins =
      elim (cases_Bool (keeps host)) [
        | inl kept ↦
            subst (λ hs. Thins (fold f (f a host) hosts) (fold g b hs)) (sym (cond-true (keeps host) (host ∷ filter keeps hosts) (filter keeps hosts) kept))
            (folds_thin f g with_one without hosts (f a host) (g b host) (with_one a b host kept thins))
        | inr gone ↦
            subst (λ hs. Thins (fold f (f a host) hosts) (fold g b hs)) (sym (cond-false (keeps host) (host ∷ filter keeps hosts) (filter keeps hosts) gone))
            (subst (λ cs. Thins (fold f cs hosts) (fold g b (filter keeps hosts))) (sym (without a b host gone thins)) (folds_thin f g with_one without hosts a b thins))
      ]

  hosts_thin : (all fewer : List Cell) → Thins all fewer → hosts_in fewer ≡ filter keeps (hosts_in all)
  hosts_thin all fewer thins = ap hosts_in thins.are ∙ ap each_once (hosts_kept all) ∙ once_kept (map (λ (cell : Cell). cell.at.host) all) []

  module _ (host : List ℕ) (gone : keeps host ≡ false) where
    none_there : (all xs : List Cell) → DeadElse xs → with_slot (is_on host) all xs ≡ None
    none_there all [] each = refl
    none_there all (cell ∷ xs) each =
        let rest = none_there all xs each.1 in
        let fails : (is_on host cell.at && takes_one_more all cell) ≡ false =
        elim (cases_Bool (is_on host cell.at)) [
          | inl on ↦ and_right (is_on host cell.at) (takes_one_more all cell) ((each.0 (ap keeps (texts_equal cell.at.host host on) ∙ gone)).never all)
          | inr off ↦ rw off refl
        ] in
        let next : with_slot (is_on host) all (cell ∷ xs) ≡ option_map (λ more. cell ∷ more) (with_slot (is_on host) all xs) = rw (fails, with_slot) refl in
        next ∙ ap (λ found. option_map (λ more. cell ∷ more) found) rest

    none_filled : (count : ℕ) (all : List Cell) → DeadElse all → filled (is_on host) count all ≡ all
    none_filled zero all dead = refl
    none_filled (suc count) all dead = rw (none_there all all dead, filled) refl

  fuller_thins : (all fewer more less : List Cell) → Thins all fewer → Thins more less → Thins (fuller all more) (fuller fewer less)
  fuller_thins all fewer more less first second =
      let one = given_thins all fewer first in
      let two = given_thins more less second in
      same_test (nat_lt (slots_given all) (slots_given more)) (nat_lt (slots_given fewer) (slots_given less)) more less all fewer (λ i. nat_lt (one i) (two i)) second first

  one_host_thins : (high : ℕ) (all fewer : List Cell) → Thins all fewer → slots_given all ≡ 0 → Thins (on_one_host high all) (on_one_host high fewer)
  one_host_thins high all fewer thins empty =
      subst (λ hs. Thins (on_one_host high all) (fold (λ best host. fuller best (filled (is_on host) high fewer)) fewer hs)) (sym (hosts_thin all fewer thins))
      (folds_thin (λ best host. fuller best (filled (is_on host) high all)) (λ best host. fuller best (filled (is_on host) high fewer))
      (λ a b host kept t. fuller_thins a b (filled (is_on host) high all) (filled (is_on host) high fewer) t (filled_thins (is_on host) high all fewer thins))
      (λ a b host gone t.
      ap (λ more. fuller a more) (none_filled host gone high all thins.dead)
      ∙ cond_both (nat_lt (slots_given a) (slots_given all)) all a (λ x. x ≡ a) (λ more. let less = ltb-true (slots_given a) (slots_given all) more in absurd (omega (arith, less, empty))) (λ _. refl))
      (hosts_in all) all fewer thins)

  block_thins : (size high : ℕ) (all fewer more less : List Cell) → Thins all fewer → Thins more less → Thins (with_block size high all more) (with_block size high fewer less)
  block_thins size high all fewer more less first second =
      let one = given_thins all fewer first in
      let two = given_thins more less second in
      same_test (nat_le (slots_given all + size) high && slots_given more == slots_given all + size) (nat_le (slots_given fewer + size) high && slots_given less == slots_given fewer + size) more less all fewer
      (λ i. nat_le (one i + size) high && two i == one i + size) second first

  blocks_thin : (size high : ℕ) (all fewer : List Cell) → Thins all fewer → Thins (in_blocks size high all) (in_blocks size high fewer)
  blocks_thin size high all fewer thins =
      subst (λ hs. Thins (in_blocks size high all) (fold (λ given host. with_block size high given (filled (is_on host) size given)) fewer hs)) (sym (hosts_thin all fewer thins))
      (folds_thin (λ given host. with_block size high given (filled (is_on host) size given)) (λ given host. with_block size high given (filled (is_on host) size given))
      (λ a b host kept t. block_thins size high a b (filled (is_on host) size a) (filled (is_on host) size b) t (filled_thins (is_on host) size a b t))
      (λ a b host gone t.
      ap (λ more. with_block size high a more) (none_filled host gone size a t.dead)
      ∙ cond_both (nat_le (slots_given a + size) high && slots_given a == slots_given a + size) a a (λ x. x ≡ a) (λ _. refl) (λ _. refl))
      (hosts_in all) all fewer thins)

  unwrap_thins : (found less : Option (List Cell)) (all fewer : List Cell) → SameFound found less → Thins all fewer → Thins (unwrap_or found all) (unwrap_or less fewer)
  unwrap_thins None None all fewer same thins = thins
  unwrap_thins None (Some b) all fewer same thins = absurd same
  unwrap_thins (Some a) None all fewer same thins = absurd same
  unwrap_thins (Some a) (Some b) all fewer same thins = same

  turn_thins : (high : ℕ) (host : List ℕ) (all fewer : List Cell) → Thins all fewer → Thins (with_turn high all host) (with_turn high fewer host)
  turn_thins high host all fewer thins =
      same_test (nat_lt (slots_given all) high) (nat_lt (slots_given fewer) high) (unwrap_or (next_slot (is_on host) all) all) (unwrap_or (next_slot (is_on host) fewer) fewer) all fewer
      (ap (λ n. nat_lt n high) (given_thins all fewer thins))
      (unwrap_thins (next_slot (is_on host) all) (next_slot (is_on host) fewer) all fewer (slot_thins (is_on host) all fewer thins) thins) thins

  round_thins : (high : ℕ) (hosts : List (List ℕ)) (all fewer : List Cell) → Thins all fewer → Thins (with_round high hosts all) (with_round high (filter keeps hosts) fewer)
  round_thins high hosts all fewer thins =
      folds_thin (with_turn high) (with_turn high) (λ a b host kept t. turn_thins high host a b t)
      (λ a b host gone t.
      cond_both (nat_lt (slots_given a) high) (unwrap_or (next_slot (is_on host) a) a) a (λ x. x ≡ a) (λ _. ap (λ found. unwrap_or found a) (none_there host gone a a t.dead)) (λ _. refl))
      hosts all fewer thins

  rounds_thin : (rounds high : ℕ) (hosts : List (List ℕ)) (all fewer : List Cell) → Thins all fewer → Thins (with_rounds rounds high hosts all) (with_rounds rounds high (filter keeps hosts) fewer)
  rounds_thin zero high hosts all fewer thins = thins
  rounds_thin (suc rounds) high hosts all fewer thins =
      let more : List Cell = with_round high hosts all in
      let less : List Cell = with_round high (filter keeps hosts) fewer in
      let next = round_thins high hosts all fewer thins in
      let one = given_thins all fewer thins in
      let two = given_thins more less next in
      let same : (slots_given less == slots_given fewer) ≡ (slots_given more == slots_given all) = λ i. two i == one i in
      elim (cases_Bool (slots_given more == slots_given all)) [
        | inl nothing ↦
            let first : with_rounds (suc rounds) high hosts all ≡ all = rw (nothing, with_rounds) refl in
            let second : with_rounds (suc rounds) high (filter keeps hosts) fewer ≡ fewer = rw (same ∙ nothing, with_rounds) refl in
            subst (λ cs. Thins cs (with_rounds (suc rounds) high (filter keeps hosts) fewer)) (sym first) (subst (λ cs. Thins all cs) (sym second) thins)
        | inr some ↦
            let first : with_rounds (suc rounds) high hosts all ≡ with_rounds rounds high hosts more = rw (some, with_rounds) refl in
            let second : with_rounds (suc rounds) high (filter keeps hosts) fewer ≡ with_rounds rounds high (filter keeps hosts) less = rw (same ∙ some, with_rounds) refl in
            subst (λ cs. Thins cs (with_rounds (suc rounds) high (filter keeps hosts) fewer)) (sym first)
            (subst (λ cs. Thins (with_rounds rounds high hosts more) cs) (sym second) (rounds_thin rounds high hosts more less next))
      ]

  spread_thins : (rule : Allocation) (high : ℕ) (all fewer : List Cell) → Thins all fewer → slots_given all ≡ 0 → Thins (spread rule high all) (spread rule high fewer)
  spread_thins FillUp high all fewer thins empty = filled_thins everywhere high all fewer thins
  spread_thins PeSlots high all fewer thins empty = one_host_thins high all fewer thins empty
  spread_thins (Fixed size) high all fewer thins empty = blocks_thin size high all fewer thins
  spread_thins RoundRobin high all fewer thins empty =
      subst (λ hs. Thins (spread RoundRobin high all) (with_rounds high high hs fewer)) (sym (hosts_thin all fewer thins)) (rounds_thin high high (hosts_in all) all fewer thins)

  granted_thins : (low : ℕ) (all fewer : List Cell) → Thins all fewer → granted low fewer ≡ granted low all
  granted_thins low all fewer thins =
      let given = given_thins all fewer thins in
      let grants : filter_map grant_of fewer ≡ filter_map grant_of all = ap (λ cs. filter_map grant_of cs) thins.are ∙ grants_kept all thins.dead in
      λ i. cond (nat_le (max low 1) (given i)) (Some (grants i)) None

  by_row : (all fewer : List Cell) → Thins all fewer → slots_given all ≡ 0 → (request : PeRequest) (row : Option PeRow) → placed_with fewer request row ≡ placed_with all request row
  by_row all fewer thins empty request None = refl
  by_row all fewer thins empty request (Some pe) = granted_thins request.low (spread pe.rule request.high all) (spread pe.rule request.high fewer) (spread_thins pe.rule request.high all fewer thins empty)

  by_request : (c : Cluster) (all fewer : List Cell) → Thins all fewer → slots_given all ≡ 0 → (request : Option PeRequest) → placed_by c fewer request ≡ placed_by c all request
  by_request c all fewer thins empty None = granted_thins 1 (spread FillUp 1 all) (spread FillUp 1 fewer) (spread_thins FillUp 1 all fewer thins empty)
  by_request c all fewer thins empty (Some request) = by_row all fewer thins empty request (at_text c.pes request.name)

-- what doesn't fit alone never does

module _ (cell : Cell) (nothing : cell.slots ≡ 0) where
  asked_none : (limit : LimitId) → asked_so_far (cell ∷ []) limit ≡ 0
  asked_none limit =
      let whole = sum_by-cons (cell_asks limit) cell [] in
      let none : cell_asks limit cell ≡ 0 = cond-true (cell.slots == 0) 0 (cell.slots * sum_by (slot_asks limit) cell.rooms) (eq-eqb cell.slots 0 nothing) in
      omega (arith, whole, none)

  fits_alone : (cells : List Cell) (room : Room) → fits_one_more cells room ≡ true → fits_one_more (cell ∷ []) room ≡ true
  fits_alone cells room e =
      let fits = leb-true (room.booked + min (asked_with_one cells room.counted) greatest_demand) room.counted.capacity e in
      le-leb (room.booked + min (asked_with_one (cell ∷ []) room.counted) greatest_demand) room.counted.capacity
      (elim (cases_Bool room.counted.once) [
        | inl once ↦
            let before : asked_with_one cells room.counted ≡ room.counted.amount = cond-true _ _ _ once in
            let alone : asked_with_one (cell ∷ []) room.counted ≡ room.counted.amount = cond-true _ _ _ once in
            omega (arith, fits, before, alone)
        | inr each ↦
            let before : asked_with_one cells room.counted ≡ asked_so_far cells room.counted.limit + room.counted.amount = cond-false _ _ _ each in
            let alone : asked_with_one (cell ∷ []) room.counted ≡ asked_so_far (cell ∷ []) room.counted.limit + room.counted.amount = cond-false _ _ _ each in
            let none = asked_none room.counted.limit in
            omega (arith, fits, before, alone, none)
      ])

  all_fit_alone : (cells : List Cell) (rooms : List Room) → list_all (fits_one_more cells) rooms ≡ true → list_all (fits_one_more (cell ∷ [])) rooms ≡ true
  all_fit_alone cells [] e = refl
  all_fit_alone cells (room ∷ rooms) e =
      let parts = and_parts (fits_one_more cells room) (list_all (fits_one_more cells) rooms) e in
      and_from (fits_one_more (cell ∷ []) room) (list_all (fits_one_more (cell ∷ [])) rooms) (fits_alone cells room parts.0) (all_fit_alone cells rooms parts.1)

  takes_alone : (cells : List Cell) → takes_one_more cells cell ≡ true → takes_one_more (cell ∷ []) cell ≡ true
  takes_alone cells e =
      let parts = and_parts cell.opened (list_all (fits_one_more cells) cell.rooms) e in
      and_from cell.opened (list_all (fits_one_more (cell ∷ [])) cell.rooms) parts.0 (all_fit_alone cells cell.rooms parts.1)

module _ (c : Cluster) (groups : Groups) (job : Job) (bookings : List Booking) (from : ℕ) where
  -- an instance that takes no slot alone
  is_dead : (at : InstanceId) → takes_one c groups job bookings from at ≡ false → IsDead (cell_of c groups job bookings from at)
  is_dead at isnt =
      let cell : Cell = cell_of c groups job bookings from at in
      let none : next_slot everywhere (cell ∷ []) ≡ None = none_next c groups job bookings from (at ∷ []) (or_from (takes_one c groups job bookings from at) false isnt refl) everywhere in
      let alone : takes_one_more (cell ∷ []) cell ≡ false =
      false_from_ne_true (takes_one_more (cell ∷ []) cell) (λ does.
      let found : next_slot everywhere (cell ∷ []) ≡ Some (one_more cell ∷ []) = rw (does, with_slot) refl in
      let both : Some (one_more cell ∷ []) ≡ None = sym found ∙ none in
      absurd cc) in
      record { empty = refl; never = λ cells. false_from_ne_true (takes_one_more cells cell) (λ does. true≢false (sym (takes_alone cell refl cells does) ∙ alone)) }

  module _ (keeps : List ℕ → Bool) where
    cells_kept : (ats : List InstanceId) → map (cell_of c groups job bookings from) (filter (λ at. keeps at.host) ats) ≡ filter (λ (cell : Cell). keeps cell.at.host) (map (cell_of c groups job bookings from) ats)
    cells_kept [] = refl
    cells_kept (at ∷ ats) =
        let rest = cells_kept ats in
        elim (cases_Bool (keeps at.host)) [ inl kept ↦ rw kept (ap (λ cs. cell_of c groups job bookings from at ∷ cs) rest) | inr gone ↦ rw gone rest ]

    all_dead : (ats : List InstanceId) → Each (λ (at : InstanceId). keeps at.host ≡ false → takes_one c groups job bookings from at ≡ false) ats
        → DeadElse keeps (map (cell_of c groups job bookings from) ats)
    all_dead [] each = tt
    all_dead (at ∷ ats) each = (λ gone. is_dead at (each.0 gone), all_dead ats each.1)

    -- hosts at which no instance takes one slot may be left out
    pub placed_thinned : (order : List InstanceId) → Each (λ (at : InstanceId). keeps at.host ≡ false → takes_one c groups job bookings from at ≡ false) order
        → placement_of c groups (filter (λ at. keeps at.host) order) bookings job from ≡ placement_of c groups order bookings job from
    unfolding placement_of
    placed_thinned order each =
        by_request keeps c (start c groups job bookings from order) (start c groups job bookings from (filter (λ at. keeps at.host) order))
        (record { are = cells_kept order; dead = all_dead order each }) (none_given c groups job bookings from order order) job.request.pe
