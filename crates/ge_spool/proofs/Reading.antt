-- How the parts of an open area are read, and that every area that is read has them.
use Rattle.std.specs.Prelude.{◌≡◌, ◌⊎◌, ℕ, zero, suc, ◌+◌, ◌-◌, ◌<◌, ◌≤◌, Bool, true, false, not, ◌==◌, ◌||◌, nat_lt, if◌then◌else◌, List, [], ◌∷◌, ◌++◌, length, take, drop, slice_index, Result, Ok, Err, refl}
use Rattle.std.proofs.Common.{arith, ◌∙◌, sym, ap, subst, inl, inr, ⊎_elim, length-append, length-take, length-drop, append_assoc}
use Rattle.std.proofs.lemmas.List.{get_or_append_left, take_at, drop_at, drop-append-le, take-append-drop, get_or-take, drop-take, drop-drop}
use Rattle.std.proofs.lemmas.Bool.{le-ltb, ltb-false, ne_eqb, eqb-false, eqb-true}
use Rattle.ge_model_journal.specs.Area.{number4, number8, head, head_of, is_format, is_bad_generation, and_found, is_bad_length, records_from, records_of}
use Rattle.ge_model_journal.specs.Journal.{State, header_of}
use Rattle.ge_model_journal.specs.declared.Header.{Header}
use Rattle.ge_model_journal.specs.declared.Head.TheVariants.{Closed, Faulty, Overlong, Sound}
use Rattle.ge_spool.proofs.Parts.{IsBlocks, IsArea}

-- a number field in the front part of bytes
pub number4-append : (field more : List ℕ) → length field ≡ 4 → number4 (field ++ more) 0 ≡ number4 field 0
number4-append field more width =
    let at0 : slice_index (field ++ more) 0 ≡ slice_index field 0 = get_or_append_left field more 0 0 (omega arith) in
    let at1 : slice_index (field ++ more) 1 ≡ slice_index field 1 = get_or_append_left field more 0 1 (omega arith) in
    let at2 : slice_index (field ++ more) 2 ≡ slice_index field 2 = get_or_append_left field more 0 2 (omega arith) in
    let at3 : slice_index (field ++ more) 3 ≡ slice_index field 3 = get_or_append_left field more 0 3 (omega arith) in
    rw (at0, at1, at2, at3) refl

pub number8-append : (top more : List ℕ) (at : ℕ) → at + 8 ≤ length top → number8 (top ++ more) at ≡ number8 top at
number8-append top more at fits =
    let at0 : slice_index (top ++ more) at ≡ slice_index top at = get_or_append_left top more 0 at (omega arith) in
    let at1 : slice_index (top ++ more) (at + 1) ≡ slice_index top (at + 1) = get_or_append_left top more 0 (at + 1) (omega arith) in
    let at2 : slice_index (top ++ more) (at + 2) ≡ slice_index top (at + 2) = get_or_append_left top more 0 (at + 2) (omega arith) in
    let at3 : slice_index (top ++ more) (at + 3) ≡ slice_index top (at + 3) = get_or_append_left top more 0 (at + 3) (omega arith) in
    let at4 : slice_index (top ++ more) (at + 4) ≡ slice_index top (at + 4) = get_or_append_left top more 0 (at + 4) (omega arith) in
    let at5 : slice_index (top ++ more) (at + 5) ≡ slice_index top (at + 5) = get_or_append_left top more 0 (at + 5) (omega arith) in
    let at6 : slice_index (top ++ more) (at + 6) ≡ slice_index top (at + 6) = get_or_append_left top more 0 (at + 6) (omega arith) in
    let at7 : slice_index (top ++ more) (at + 7) ≡ slice_index top (at + 7) = get_or_append_left top more 0 (at + 7) (omega arith) in
    rw (at0, at1, at2, at3, at4, at5, at6, at7) refl

-- a header without a fault
pub head_of-sound : (size : ℕ) (bytes : List ℕ) (header : Header) → 19 ≤ size → slice_index bytes 0 ≡ 1 → slice_index bytes 1 ≡ header.format
    → is_format header.format ≡ true → number8 bytes 2 ≡ header.generation → is_bad_generation header.format header.generation ≡ false
    → number8 bytes 10 ≡ header.size → header.size ≤ size - 18 → head_of size bytes ≡ Sound header
head_of-sound size bytes header long gate format known field good size_field fits =
    rw (le-ltb size 19 long, gate, format, known, field, good, size_field, le-ltb (size - 18) header.size fits) refl

-- one record read
pub records_from-step : (fuel place : ℕ) (bytes body after : List ℕ) (n : ℕ) → is_bad_length bytes ≡ false → number4 bytes 0 ≡ n
    → take n (drop 4 bytes) ≡ body → drop (4 + n) bytes ≡ after
    → records_from (suc fuel) place (1 ∷ bytes) ≡ and_found body (records_from fuel (place + 5 + n) after)
unfolding records_from
records_from-step fuel place bytes body after n sound number front behind = rw (sound, number, front, behind) refl

-- the length field of a record is sound
pub is_bad_length-sound : (bytes : List ℕ) (n : ℕ) → number4 bytes 0 ≡ n → 0 < n → 4 + n ≤ length bytes → is_bad_length bytes ≡ false
is_bad_length-sound bytes n number some fits =
    let positive : (n == 0) ≡ false = ne_eqb n 0 (λ e. omega arith) in
    rw (number, positive, le-ltb (length bytes) 4 (omega arith), le-ltb (length bytes - 4) n (omega arith)) refl

pub records_from-block : (fuel place : ℕ) (field body after : List ℕ) → length field ≡ 4 → number4 field 0 ≡ length body → 0 < length body
    → records_from (suc fuel) place (1 ∷ (field ++ (body ++ after))) ≡ and_found body (records_from fuel (place + 5 + length body) after)
records_from-block fuel place field body after width number some =
    let whole : List ℕ = field ++ (body ++ after) in
    let long : length (field ++ (body ++ after)) ≡ 4 + (length body + length after) = omega (arith, length-append field (body ++ after), length-append body after) in
    let shown : number4 (field ++ (body ++ after)) 0 ≡ length body = number4-append field (body ++ after) width ∙ number in
    let behind : drop 4 (field ++ (body ++ after)) ≡ body ++ after = drop_at field (body ++ after) 4 width in
    let both : length (field ++ body) ≡ 4 + length body = omega (arith, length-append field body) in
    records_from-step fuel place (field ++ (body ++ after)) body after (length body)
    (is_bad_length-sound (field ++ (body ++ after)) (length body) shown some (omega arith)) shown
    (ap (λ xs. take (length body) xs) behind ∙ take_at body after (length body) refl)
    (ap (λ xs. drop (4 + length body) xs) (sym (append_assoc field body after)) ∙ drop_at (field ++ body) after (4 + length body) both)

-- the gate that ends the list
pub records_from-gate : (fuel place gate : ℕ) (rest : List ℕ) → (gate == 1) ≡ false → records_from (suc fuel) place (gate ∷ rest) ≡ Ok ([], place)
unfolding records_from
records_from-gate fuel place gate rest closed = rw closed refl

-- all records of a front
pub records_from-blocks : (records : List (List ℕ)) (front : List ℕ) (gate : ℕ) (rest : List ℕ) (fuel place : ℕ)
    → IsBlocks front records → (gate == 1) ≡ false → length front < fuel
    → records_from fuel place (front ++ (gate ∷ rest)) ≡ Ok (records, place + length front)
records_from-blocks records front gate rest zero place is_front closed enough = absurd (omega arith)
records_from-blocks [] front gate rest (suc fuel) place is_front closed enough =
    rw is_front (records_from-gate fuel place gate rest closed ∙ ap (λ k. Ok ([], k)) (omega arith))
records_from-blocks (body ∷ records) front gate rest (suc fuel) place is_front closed enough =
    let block = is_front.1 in
    let long : length front ≡ 5 + (length body + length is_front.0) =
    omega (arith, ap length block.whole, length-append block.field (body ++ is_front.0), length-append body is_front.0, block.width) in
    let arranged : front ++ (gate ∷ rest) ≡ 1 ∷ (block.field ++ (body ++ (is_front.0 ++ (gate ∷ rest)))) =
    ap (λ xs. xs ++ (gate ∷ rest)) block.whole
    ∙ ap (λ xs. 1 ∷ xs) (append_assoc block.field (body ++ is_front.0) (gate ∷ rest) ∙ ap (λ xs. block.field ++ xs) (append_assoc body is_front.0 (gate ∷ rest))) in
    let others = records_from-blocks records is_front.0 gate rest fuel (place + 5 + length body) is_front.2 closed (omega arith) in
    ap (λ xs. records_from (suc fuel) place xs) arranged
    ∙ records_from-block fuel place block.field body (is_front.0 ++ (gate ∷ rest)) block.width block.number block.some
    ∙ ap (λ found. and_found body found) others
    ∙ ap (λ k. Ok (body ∷ records, k)) (omega arith)

-- the header of an area
pub head-area : (bytes : List ℕ) (s : State) (end : ℕ) → IsArea bytes s end → head bytes ≡ Sound (header_of s)
unfolding head
head-area bytes s end area =
    let t = area.is_top in
    let long : length bytes ≡ length area.top + (length area.front + suc (length area.rest)) =
    omega (arith, ap length area.whole, length-append area.top (area.front ++ (area.gate ∷ area.rest)), length-append area.front (area.gate ∷ area.rest)) in
    let at0 : slice_index (area.top ++ (area.front ++ (area.gate ∷ area.rest))) 0 ≡ slice_index area.top 0 =
    get_or_append_left area.top (area.front ++ (area.gate ∷ area.rest)) 0 0 (omega (arith, t.size)) in
    let at1 : slice_index (area.top ++ (area.front ++ (area.gate ∷ area.rest))) 1 ≡ slice_index area.top 1 =
    get_or_append_left area.top (area.front ++ (area.gate ∷ area.rest)) 0 1 (omega (arith, t.size)) in
    head_of-sound (length bytes) bytes (header_of s) (omega (arith, t.size))
    (ap (λ xs. slice_index xs 0) area.whole ∙ at0 ∙ t.gate) (ap (λ xs. slice_index xs 1) area.whole ∙ at1 ∙ t.format_field) t.format_known
    (ap (λ xs. number8 xs 2) area.whole ∙ number8-append area.top (area.front ++ (area.gate ∷ area.rest)) 2 (omega (arith, t.size)) ∙ t.generation_field) t.generation_good
    (ap (λ xs. number8 xs 10) area.whole ∙ number8-append area.top (area.front ++ (area.gate ∷ area.rest)) 10 (omega (arith, t.size)) ∙ t.size_field)
    (omega (arith, t.size))

-- its snapshot
pub snapshot-area : (bytes : List ℕ) (s : State) (end : ℕ) → IsArea bytes s end
    → take (length s.snapshot) (drop 18 bytes) ≡ s.snapshot
snapshot-area bytes s end area =
    ap (λ xs. take (length s.snapshot) (drop 18 xs)) area.whole
    ∙ ap (λ xs. take (length s.snapshot) xs) (drop-append-le 18 area.top (area.front ++ (area.gate ∷ area.rest)) (omega (arith, area.is_top.size))
    ∙ ap (λ xs. xs ++ (area.front ++ (area.gate ∷ area.rest))) area.is_top.kept)
    ∙ take_at s.snapshot (area.front ++ (area.gate ∷ area.rest)) (length s.snapshot) refl

-- and its records
pub records_of-area : (bytes : List ℕ) (s : State) (end : ℕ) → IsArea bytes s end
    → records_of (length s.snapshot) bytes ≡ Ok (s.records, end)
records_of-area bytes s end area =
    let behind : drop (18 + length s.snapshot) bytes ≡ area.front ++ (area.gate ∷ area.rest) =
    ap (λ xs. drop (18 + length s.snapshot) xs) area.whole ∙ drop_at area.top (area.front ++ (area.gate ∷ area.rest)) (18 + length s.snapshot) area.is_top.size in
    let long : length (area.front ++ (area.gate ∷ area.rest)) ≡ length area.front + suc (length area.rest) = length-append area.front (area.gate ∷ area.rest) in
    ap (λ xs. records_from (length xs) (18 + length s.snapshot) xs) behind
    ∙ records_from-blocks s.records area.front area.gate area.rest (length (area.front ++ (area.gate ∷ area.rest))) (18 + length s.snapshot)
    area.is_front area.closed (omega (arith, long))
    ∙ ap (λ k. Ok (s.records, k)) (omega (arith, area.place, area.is_top.size))

-- a test is one or the other
pub either : (b : Bool) → (b ≡ true) ⊎ (b ≡ false)
either true = inl refl
either false = inr refl

positive-from : (n : ℕ) → (n ≡ 0 → ⊥) → 0 < n
positive-from zero none = absurd (none refl)
positive-from (suc n) none = omega arith

-- what a sound header says
pub record IsHeader (size : ℕ) (bytes : List ℕ) (header : Header) : Type 0 where
  pub long : 19 ≤ size
  pub gate : slice_index bytes 0 ≡ 1
  pub format_field : slice_index bytes 1 ≡ header.format
  pub format_known : is_format header.format ≡ true
  pub generation_field : number8 bytes 2 ≡ header.generation
  pub generation_good : is_bad_generation header.format header.generation ≡ false
  pub size_field : number8 bytes 10 ≡ header.size
  pub fits : header.size ≤ size - 18

same-header : (x y : Header) → Sound x ≡ Sound y → x ≡ y
same-header x y e = cc

-- the tests of a header that is sound
tests-sound : (closed format bad past : Bool) (g : ℕ) (said header : Header)
    → (if closed then Closed else (if not format then Faulty 1 else (if bad then Faulty 2 else (if past then Overlong g else Sound said)))) ≡ Sound header
    → (closed ≡ false) × (format ≡ true) × (bad ≡ false) × (past ≡ false) × (said ≡ header)
tests-sound true format bad past g said header e = absurd (cc)
tests-sound false false bad past g said header e = absurd (cc)
tests-sound false true true past g said header e = absurd (cc)
tests-sound false true false true g said header e = absurd (cc)
tests-sound false true false false g said header e = (refl, refl, refl, refl, same-header said header e)

or-false-both : (a b : Bool) → (a || b) ≡ false → (a ≡ false) × (b ≡ false)
or-false-both true b e = absurd (cc)
or-false-both false b e = (refl, e)

not-false : (b : Bool) → not b ≡ false → b ≡ true
not-false true e = refl
not-false false e = sym e

pub header-sound : (size : ℕ) (bytes : List ℕ) (header : Header) → head_of size bytes ≡ Sound header → IsHeader size bytes header
header-sound size bytes header sound =
    let tests = tests-sound (nat_lt size 19 || not (slice_index bytes 0 == 1)) (is_format (slice_index bytes 1)) (is_bad_generation (slice_index bytes 1) (number8 bytes 2))
    (nat_lt (size - 18) (number8 bytes 10)) (number8 bytes 2) (record { format = slice_index bytes 1; generation = number8 bytes 2; size = number8 bytes 10 }) header sound in
    let open_tests = or-false-both (nat_lt size 19) (not (slice_index bytes 0 == 1)) tests.0 in
    let format : slice_index bytes 1 ≡ header.format = ap (λ h. h.format) tests.4 in
    let generation : number8 bytes 2 ≡ header.generation = ap (λ h. h.generation) tests.4 in
    let snapshot : number8 bytes 10 ≡ header.size = ap (λ h. h.size) tests.4 in
    record {
      long = ltb-false size 19 open_tests.0;
      gate = eqb-true (slice_index bytes 0) 1 (not-false (slice_index bytes 0 == 1) open_tests.1);
      format_field = format;
      format_known = rw (← format) tests.1;
      generation_field = generation;
      generation_good = rw (← format, ← generation) tests.2;
      size_field = snapshot;
      fits = rw (← snapshot) (ltb-false (size - 18) (number8 bytes 10) tests.3);
    }

-- a list of records that was read, in its parts
pub record Tail (bytes : List ℕ) (records : List (List ℕ)) (place end : ℕ) : Type 0 where
  pub front : List ℕ
  pub gate : ℕ
  pub rest : List ℕ
  pub whole : bytes ≡ front ++ (gate ∷ rest)
  pub is_front : IsBlocks front records
  pub closed : (gate == 1) ≡ false
  pub reached : end ≡ place + length front

same-ok : (p q : List (List ℕ) × ℕ) → ◌≡◌ {A = Result (List (List ℕ) × ℕ) ℕ} (Ok p) (Ok q) → p ≡ q
same-ok p q e = cc

same-found : (a b : List (List ℕ)) (i j : ℕ) → ◌≡◌ {A = Result (List (List ℕ) × ℕ) ℕ} (Ok (a, i)) (Ok (b, j)) → (a ≡ b) × (i ≡ j)
same-found a b i j e = let same = same-ok (a, i) (b, j) e in (ap (λ p. p.0) same, ap (λ p. p.1) same)

and_found-back : (body : List ℕ) (found : Result (List (List ℕ) × ℕ) ℕ) (records : List (List ℕ)) (end : ℕ) → and_found body found ≡ Ok (records, end)
    → (others : List (List ℕ)) × (found ≡ Ok (others, end)) × (records ≡ body ∷ others)
and_found-back body (Ok found) records end e =
    let same = same-found (body ∷ found.0) records found.1 end e in
    (found.0, ap (λ k. Ok (found.0, k)) same.1, sym same.0)
and_found-back body (Err place) records end e = absurd (cc)

-- a length field that is not wrong
good-length : (bytes : List ℕ) → is_bad_length bytes ≡ false → (4 ≤ length bytes) × (0 < number4 bytes 0) × (number4 bytes 0 ≤ length bytes - 4)
good-length bytes good =
    let outer = or-false-both (nat_lt (length bytes) 4 || (number4 bytes 0 == 0)) (nat_lt (length bytes - 4) (number4 bytes 0)) good in
    let inner = or-false-both (nat_lt (length bytes) 4) (number4 bytes 0 == 0) outer.0 in
    (ltb-false (length bytes) 4 inner.0, positive-from (number4 bytes 0) (eqb-false (number4 bytes 0) 0 inner.1), ltb-false (length bytes - 4) (number4 bytes 0) outer.1)

-- a record in front of a list
tail-more : (gate place end : ℕ) (bytes : List ℕ) (others records : List (List ℕ)) → (gate == 1) ≡ true → is_bad_length bytes ≡ false
    → Tail (drop (4 + number4 bytes 0) bytes) others (place + 5 + number4 bytes 0) end → records ≡ take (number4 bytes 0) (drop 4 bytes) ∷ others
    → Tail (gate ∷ bytes) records place end
tail-more gate place end bytes others records opened good tail these =
    let n : ℕ = number4 bytes 0 in
    let body : List ℕ = take (number4 bytes 0) (drop 4 bytes) in
    let sound = good-length bytes good in
    let width : length (take 4 bytes) ≡ 4 = omega (arith, length-take 4 bytes, sound.0) in
    let size : length (take (number4 bytes 0) (drop 4 bytes)) ≡ number4 bytes 0 = omega (arith, length-take (number4 bytes 0) (drop 4 bytes), length-drop 4 bytes, sound.2) in
    let number : number4 (take 4 bytes) 0 ≡ number4 bytes 0 =
    sym (number4-append (take 4 bytes) (drop 4 bytes) width) ∙ ap (λ xs. number4 xs 0) (take-append-drop 4 bytes) in
    let behind : drop (number4 bytes 0) (drop 4 bytes) ≡ tail.front ++ (tail.gate ∷ tail.rest) = drop-drop (number4 bytes 0) 4 bytes ∙ tail.whole in
    let after : drop 4 bytes ≡ take (number4 bytes 0) (drop 4 bytes) ++ (tail.front ++ (tail.gate ∷ tail.rest)) =
    sym (take-append-drop (number4 bytes 0) (drop 4 bytes)) ∙ ap (λ xs. take (number4 bytes 0) (drop 4 bytes) ++ xs) behind in
    let arranged : bytes ≡ take 4 bytes ++ (take (number4 bytes 0) (drop 4 bytes) ++ (tail.front ++ (tail.gate ∷ tail.rest))) =
    sym (take-append-drop 4 bytes) ∙ ap (λ xs. take 4 bytes ++ xs) after in
    let grouped : take 4 bytes ++ (take (number4 bytes 0) (drop 4 bytes) ++ (tail.front ++ (tail.gate ∷ tail.rest)))
    ≡ (take 4 bytes ++ (take (number4 bytes 0) (drop 4 bytes) ++ tail.front)) ++ (tail.gate ∷ tail.rest) =
    ap (λ xs. take 4 bytes ++ xs) (sym (append_assoc (take (number4 bytes 0) (drop 4 bytes)) tail.front (tail.gate ∷ tail.rest)))
    ∙ sym (append_assoc (take 4 bytes) (take (number4 bytes 0) (drop 4 bytes) ++ tail.front) (tail.gate ∷ tail.rest)) in
    record {
      front = 1 ∷ (take 4 bytes ++ (take (number4 bytes 0) (drop 4 bytes) ++ tail.front));
      gate = tail.gate;
      rest = tail.rest;
      whole = ap (λ k. k ∷ bytes) (eqb-true gate 1 opened) ∙ ap (λ xs. 1 ∷ xs) (arranged ∙ grouped);
      is_front = subst (λ rs. IsBlocks (1 ∷ (take 4 bytes ++ (take (number4 bytes 0) (drop 4 bytes) ++ tail.front))) rs) (sym these) (
        tail.front,
        record { field = take 4 bytes; whole = refl; width = width; number = number ∙ sym size; some = omega (arith, size, sound.1) },
        tail.is_front,
      );
      closed = tail.closed;
      reached = omega (
        arith,
        tail.reached,
        length-append (take 4 bytes) (take (number4 bytes 0) (drop 4 bytes) ++ tail.front),
        length-append (take (number4 bytes 0) (drop 4 bytes)) tail.front,
        width,
        size,
      );
    }

pub tail-back : (fuel place : ℕ) (bytes : List ℕ) (records : List (List ℕ)) (end : ℕ) → records_from fuel place bytes ≡ Ok (records, end) → Tail bytes records place end
unfolding records_from
tail-back fuel place [] records end e = absurd (cc)
tail-back zero place (gate ∷ bytes) records end e = absurd (cc)
tail-back (suc fuel) place (gate ∷ bytes) records end e =
    ⊎_elim
    (λ (opened : (gate == 1) ≡ true). ⊎_elim
    (λ (bad : is_bad_length bytes ≡ true). let wrong : ◌≡◌ {A = Result (List (List ℕ) × ℕ) ℕ} (Err (place + 1)) (Ok (records, end)) = rw (opened, bad) at e in absurd (cc))
    (λ (good : is_bad_length bytes ≡ false).
    let more : and_found (take (number4 bytes 0) (drop 4 bytes)) (records_from fuel (place + 5 + number4 bytes 0) (drop (4 + number4 bytes 0) bytes)) ≡ Ok (records, end) = rw (opened, good) at e in
    let back = and_found-back _ _ records end more in
    tail-more gate place end bytes back.0 records opened good (tail-back fuel (place + 5 + number4 bytes 0) (drop (4 + number4 bytes 0) bytes) back.0 end back.1) back.2)
    (either (is_bad_length bytes)))
    (λ (closed : (gate == 1) ≡ false).
    let done : ◌≡◌ {A = Result (List (List ℕ) × ℕ) ℕ} (Ok ([], place)) (Ok (records, end)) = rw closed at e in
    let same = same-found [] records place end done in
    record {
      front = [];
      gate = gate;
      rest = bytes;
      whole = refl;
      is_front = subst (λ rs. IsBlocks [] rs) same.0 refl;
      closed = closed;
      reached = omega (arith, same.1);
    })
    (either (gate == 1))

-- whatever is read as an open area has its parts
pub area-back : (bytes : List ℕ) (header : Header) (records : List (List ℕ)) (end : ℕ) → head bytes ≡ Sound header → records_of header.size bytes ≡ Ok (records, end)
    → IsArea bytes (record { format = header.format; generation = header.generation; snapshot = take header.size (drop 18 bytes); records = records }) end
unfolding head
area-back bytes header records end sound read =
    let said = header-sound (length bytes) bytes header sound in
    let tail = tail-back (length (drop (18 + header.size) bytes)) (18 + header.size) (drop (18 + header.size) bytes) records end read in
    let top : List ℕ = take (18 + header.size) bytes in
    let size : length (take (18 + header.size) bytes) ≡ 18 + header.size = omega (arith, length-take (18 + header.size) bytes, said.long, said.fits) in
    let snapshot_size : length (take header.size (drop 18 bytes)) ≡ header.size = omega (arith, length-take header.size (drop 18 bytes), length-drop 18 bytes, said.long, said.fits) in
    let back : take (18 + header.size) bytes ++ drop (18 + header.size) bytes ≡ bytes = take-append-drop (18 + header.size) bytes in
    let at0 : slice_index (take (18 + header.size) bytes) 0 ≡ slice_index bytes 0 = get_or-take (18 + header.size) bytes 0 0 (omega arith) in
    let at1 : slice_index (take (18 + header.size) bytes) 1 ≡ slice_index bytes 1 = get_or-take (18 + header.size) bytes 1 0 (omega arith) in
    record {
      top = take (18 + header.size) bytes;
      front = tail.front;
      gate = tail.gate;
      rest = tail.rest;
      whole = sym back ∙ ap (λ xs. take (18 + header.size) bytes ++ xs) tail.whole;
      is_top = record {
        size = omega (arith, size, snapshot_size);
        gate = at0 ∙ said.gate;
        format_field = at1 ∙ said.format_field;
        format_known = said.format_known;
        generation_field = sym (number8-append (take (18 + header.size) bytes) (drop (18 + header.size) bytes) 2 (omega (arith, size))) ∙ ap (λ xs. number8 xs 2) back ∙ said.generation_field;
        generation_good = said.generation_good;
        size_field = sym (number8-append (take (18 + header.size) bytes) (drop (18 + header.size) bytes) 10 (omega (arith, size))) ∙ ap (λ xs. number8 xs 10) back ∙ said.size_field ∙ sym snapshot_size;
        kept = drop-take 18 header.size bytes;
      };
      is_front = tail.is_front;
      closed = tail.closed;
      place = omega (arith, tail.reached, size);
    }
