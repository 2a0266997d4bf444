-- Reading a header, and a list of records from the front.
use Rattle.std.specs.Prelude.{◌≡◌, ◌⊎◌, ℕ, zero, suc, ◌+◌, ◌<◌, ◌≤◌, true, false, ◌==◌, List, [], ◌∷◌, ◌++◌, length, take, drop, slice_index, Result, Ok, Err, refl}
use Rattle.std.proofs.Common.{arith, ◌∙◌, sym, ap, subst, ⊎_elim, append_assoc, append-nil, length-take}
use Rattle.std.proofs.lemmas.List.{get_or-take, take-append-drop, drop-drop}
use Rattle.std.proofs.lemmas.Bool.{lt-ltb}
use Rattle.ge_model_journal.specs.Disk.{Content, HasLength, Reads}
use Rattle.ge_model_journal.specs.Area.{number4, number8, head, head_of, and_found, is_bad_length, records_from}
use Rattle.ge_model_journal.specs.declared.Head.TheVariants.{Closed}
use Rattle.ge_spool.specs.Reads.{and_records, IsHeadOf}
use Rattle.ge_spool.proofs.Reading.{number8-append, records_from-step, records_from-gate}

pub head-short : (bytes : List ℕ) → length bytes < 19 → head bytes ≡ Closed
unfolding head
head-short bytes short = rw (lt-ltb (length bytes) 19 short) refl

pub look-closed : (told : List Content) (size count : ℕ) (before after : List ℕ) → HasLength told size → Reads told 0 count before after → length before ≡ 18
    → (size < 19) ⊎ ((19 ≤ size) × (count < 18)) → IsHeadOf told size Closed
look-closed [] size count before after long read eighteen short = tt
look-closed (now ∷ earlier) size count before after long read eighteen short =
    (long, sym (head-short now.bytes (⊎_elim (λ few. omega (arith, long, few)) (λ few. omega (arith, read.count, eighteen, few.1)) short)))

head_of-same : (size : ℕ) (xs ys : List ℕ) → slice_index xs 0 ≡ slice_index ys 0 → slice_index xs 1 ≡ slice_index ys 1 → number8 xs 2 ≡ number8 ys 2
    → number8 xs 10 ≡ number8 ys 10 → head_of size xs ≡ head_of size ys
head_of-same size xs ys gate format generation snapshot = rw (gate, format, generation, snapshot) refl

-- the same first 18 bytes say the same
head_of-front : (size : ℕ) (xs ys : List ℕ) → take 18 xs ≡ take 18 ys → 18 ≤ length xs → 18 ≤ length ys → head_of size xs ≡ head_of size ys
head_of-front size xs ys same long_x long_y =
    let eight : (at : ℕ) → at + 8 ≤ 18 → number8 xs at ≡ number8 ys at = λ at fits.
    sym (ap (λ zs. number8 zs at) (take-append-drop 18 xs)) ∙ number8-append (take 18 xs) (drop 18 xs) at (omega (arith, length-take 18 xs))
    ∙ ap (λ zs. number8 zs at) same
    ∙ sym (number8-append (take 18 ys) (drop 18 ys) at (omega (arith, length-take 18 ys))) ∙ ap (λ zs. number8 zs at) (take-append-drop 18 ys) in
    let one : (at : ℕ) → at < 18 → slice_index xs at ≡ slice_index ys at = λ at fits.
    sym (get_or-take 18 xs at 0 fits) ∙ ap (λ zs. slice_index zs at) same ∙ get_or-take 18 ys at 0 fits in
    let gate : slice_index xs 0 ≡ slice_index ys 0 = one 0 (omega arith) in
    let format : slice_index xs 1 ≡ slice_index ys 1 = one 1 (omega arith) in
    let generation : number8 xs 2 ≡ number8 ys 2 = eight 2 (omega arith) in
    let snapshot : number8 xs 10 ≡ number8 ys 10 = eight 10 (omega arith) in
    head_of-same size xs ys gate format generation snapshot

pub look-head : (told : List Content) (size count : ℕ) (before after : List ℕ) → HasLength told size → Reads told 0 count before after → length before ≡ 18
    → length after ≡ 18 → 19 ≤ size → 18 ≤ count → IsHeadOf told size (head_of size after)
unfolding head
look-head [] size count before after long read eighteen same_length some whole = tt
look-head (now ∷ earlier) size count before after long read eighteen same_length some whole =
    let is_count : count ≡ 18 = omega (arith, read.count, eighteen) in
    let filled : take 18 after ≡ take 18 now.bytes = subst (λ n. take n after ≡ take n now.bytes) is_count read.filled in
    (long, head_of-front size after now.bytes filled (omega arith) (omega (arith, long)) ∙ ap (λ n. head_of n now.bytes) long)

-- records in front of one more
and_records-found : (records : List (List ℕ)) (body : List ℕ) (found : Result (List (List ℕ) × ℕ) ℕ)
    → and_records records (and_found body found) ≡ and_records (records ++ body ∷ []) found
and_records-found records body (Ok found) = ap (λ all. Ok (all, found.1)) (sym (append_assoc records (body ∷ []) found.0))
and_records-found records body (Err place) = refl

-- one record read
pub records-more : (fuel place gate size : ℕ) (after body others : List ℕ) (records : List (List ℕ)) (all : Result (List (List ℕ) × ℕ) ℕ)
    → suc (length after) ≤ fuel → gate ≡ 1 → is_bad_length after ≡ false → size ≡ number4 after 0 → body ≡ take size (drop 4 after) → others ≡ drop size (drop 4 after)
    → length others + size + 4 ≡ length after
    → and_records records (records_from fuel place (gate ∷ after)) ≡ all
    → (less : ℕ) × (length others ≤ less) × (and_records (records ++ body ∷ []) (records_from less (place + 5 + size) others) ≡ all)
records-more zero place gate size after body others records all enough opened good is_size is_body is_others sizes so_far = absurd (omega (arith, enough))
records-more (suc fuel) place gate size after body others records all enough opened good is_size is_body is_others sizes so_far =
    let step = records_from-step fuel place after body others size good (sym is_size) (sym is_body) (sym (drop-drop size 4 after) ∙ sym is_others) in (
      fuel,
      omega (arith, enough, sizes),
      sym (and_records-found records body (records_from fuel (place + 5 + size) others)) ∙ ap (λ found. and_records records found) (sym step)
          ∙ ap (λ k. and_records records (records_from (suc fuel) place (k ∷ after))) (sym opened) ∙ so_far,
    )

-- the gate that ends the list
pub records-end : (fuel place gate : ℕ) (after : List ℕ) (records : List (List ℕ)) (all : Result (List (List ℕ) × ℕ) ℕ)
    → suc (length after) ≤ fuel → (gate == 1) ≡ false → and_records records (records_from fuel place (gate ∷ after)) ≡ all → all ≡ Ok (records, place)
records-end zero place gate after records all enough closed so_far = absurd (omega (arith, enough))
records-end (suc fuel) place gate after records all enough closed so_far =
    sym so_far ∙ ap (λ found. and_records records found) (records_from-gate fuel place gate after closed) ∙ ap (λ all_records. Ok (all_records, place)) (append-nil records)

-- a length that is wrong
pub records-bad : (fuel place gate : ℕ) (after : List ℕ) (records : List (List ℕ)) (all : Result (List (List ℕ) × ℕ) ℕ)
    → suc (length after) ≤ fuel → gate ≡ 1 → is_bad_length after ≡ true → and_records records (records_from fuel place (gate ∷ after)) ≡ all → all ≡ Err (place + 1)
unfolding records_from
records-bad zero place gate after records all enough opened bad so_far = absurd (omega (arith, enough))
records-bad (suc fuel) place gate after records all enough opened bad so_far = sym (rw (opened, bad) at so_far)

-- a gate that is missing
pub records-missing : (fuel place : ℕ) (rest : List ℕ) (records : List (List ℕ)) (all : Result (List (List ℕ) × ℕ) ℕ)
    → rest ≡ [] → and_records records (records_from fuel place rest) ≡ all → all ≡ Err place
unfolding records_from
records-missing fuel place rest records all none so_far = sym (rw none at so_far)

pub no-items : (xs : List ℕ) → length xs ≡ 0 → xs ≡ []
no-items [] none = refl
no-items (x ∷ xs) none = absurd (omega (arith, none))
