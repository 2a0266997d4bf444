-- The parts of a log are read, and every log that is read has them.
use Rattle.std.specs.Prelude.{◌≡◌, ℕ, zero, suc, ◌+◌, ◌-◌, ◌<◌, ◌≤◌, Bool, true, false, not, ◌==◌, ◌||◌, nat_lt, List, [], ◌∷◌, ◌++◌, length, take, drop, Option, Some, None, Result, Ok, Err, refl}
use Rattle.std.proofs.Common.{arith, ◌∙◌, sym, ap, subst, ⊎_elim, length-append, length-take, length-drop, append_assoc}
use Rattle.std.proofs.lemmas.List.{take_at, drop_at, take-append-drop, drop-drop}
use Rattle.std.proofs.lemmas.Bool.{le-ltb, ltb-false, eqb-false, eqb-true}
use Rattle.ge_model_journal.specs.Area.{number4, is_bad_length}
use Rattle.ge_spool.proofs.Parts.{IsBlocks}
use Rattle.ge_spool.proofs.Reading.{number4-append, is_bad_length-sound, either}
use Rattle.ge_model_log.specs.declared.Wrong.{Wrong}
use Rattle.ge_model_log.specs.declared.Wrong.TheVariants.{Frame}
use Rattle.ge_model_log.specs.Records.{ends_list, behind_body, records_behind}
use Rattle.ge_acctlog.proofs.Parts.{IsEnding, AreRead, IsFound, IsLog}

pub or-true : (b : Bool) → (b || true) ≡ true
or-true true = refl
or-true false = refl

pub or-false : (a b : Bool) → (a || b) ≡ false → (a ≡ false) × (b ≡ false)
or-false true b e = absurd (cc)
or-false false b e = (refl, e)

pub not-false : (b : Bool) → not b ≡ false → b ≡ true
not-false true e = refl
not-false false e = sym e

pub above-zero : (n : ℕ) → (n ≡ 0 → ⊥) → 0 < n
above-zero zero none = absurd (none refl)
above-zero (suc n) none = omega arith

-- a length field that is not wrong
pub good-length : (bytes : List ℕ) → is_bad_length bytes ≡ false → (4 ≤ length bytes) × (0 < number4 bytes 0) × (number4 bytes 0 ≤ length bytes - 4)
good-length bytes good =
    let outer = or-false (nat_lt (length bytes) 4 || (number4 bytes 0 == 0)) (nat_lt (length bytes - 4) (number4 bytes 0)) good in
    let inner = or-false (nat_lt (length bytes) 4) (number4 bytes 0 == 0) outer.0 in
    (ltb-false (length bytes) 4 inner.0, above-zero (number4 bytes 0) (eqb-false (number4 bytes 0) 0 inner.1), ltb-false (length bytes - 4) (number4 bytes 0) outer.1)

-- a byte that doesn't end a list
pub goes-on : (gate : ℕ) (bytes : List ℕ) → ends_list gate bytes ≡ false → (gate ≡ 1) × (5 ≤ length bytes)
goes-on gate bytes on =
    let both = or-false (not (gate == 1)) (nat_lt (length bytes) 5) on in
    (eqb-true gate 1 (not-false (gate == 1) both.0), ltb-false (length bytes) 5 both.1)

same-ok : {X : Type 0} (p q : List X × ℕ) → ◌≡◌ {A = Result (List X × ℕ) Wrong} (Ok p) (Ok q) → p ≡ q
same-ok p q e = cc

pub same-found : {X : Type 0} (a b : List X) (i j : ℕ) → ◌≡◌ {A = Result (List X × ℕ) Wrong} (Ok (a, i)) (Ok (b, j)) → (a ≡ b) × (i ≡ j)
same-found a b i j e = let same = same-ok (a, i) (b, j) e in (ap (λ p. p.0) same, ap (λ p. p.1) same)

module _ {X : Type 0} (read_body : List ℕ → Option (List X)) where
  -- one body more
  pub read-more : (bodies : List (List ℕ)) (body : List ℕ) (items all more : List X) → AreRead read_body bodies items all → read_body body ≡ Some more
      → AreRead read_body (bodies ++ body ∷ []) items (all ++ more)
  read-more [] body items all more are_read read = (more, read, ap (λ xs. xs ++ more) are_read)
  read-more (first ∷ bodies) body items all more are_read read =
      (are_read.0, are_read.1, read-more bodies body (items ++ are_read.0) all more are_read.2 read)

  -- one record read
  pub records-step : (fuel place : ℕ) (bytes body after : List ℕ) (n : ℕ) (items more : List X) → nat_lt (length bytes) 5 ≡ false → is_bad_length bytes ≡ false
      → number4 bytes 0 ≡ n → take n (drop 4 bytes) ≡ body → drop (4 + n) bytes ≡ after → read_body body ≡ Some more
      → records_behind read_body (suc fuel) place (1 ∷ bytes) items ≡ records_behind read_body fuel (place + 5 + n) after (items ++ more)
  unfolding records_behind
  records-step fuel place bytes body after n items more long sound number front behind read = rw (long, sound, number, front, behind, read) refl

  records-block : (fuel place : ℕ) (field body after : List ℕ) (items more : List X) → length field ≡ 4 → number4 field 0 ≡ length body → 0 < length body
      → read_body body ≡ Some more
      → records_behind read_body (suc fuel) place (1 ∷ (field ++ (body ++ after))) items ≡ records_behind read_body fuel (place + 5 + length body) after (items ++ more)
  records-block fuel place field body after items more width number some read =
      let long : length (field ++ (body ++ after)) ≡ 4 + (length body + length after) = omega (arith, length-append field (body ++ after), length-append body after) in
      let shown : number4 (field ++ (body ++ after)) 0 ≡ length body = number4-append field (body ++ after) width ∙ number in
      let behind : drop 4 (field ++ (body ++ after)) ≡ body ++ after = drop_at field (body ++ after) 4 width in
      let both : length (field ++ body) ≡ 4 + length body = omega (arith, length-append field body) in
      records-step fuel place (field ++ (body ++ after)) body after (length body) items more
      (le-ltb (length (field ++ (body ++ after))) 5 (omega arith))
      (is_bad_length-sound (field ++ (body ++ after)) (length body) shown some (omega arith)) shown
      (ap (λ xs. take (length body) xs) behind ∙ take_at body after (length body) refl)
      (ap (λ xs. drop (4 + length body) xs) (sym (append_assoc field body after)) ∙ drop_at (field ++ body) after (4 + length body) both) read

  -- what ends the list
  pub records-end : (fuel place gate : ℕ) (rest : List ℕ) (items : List X) → ends_list gate rest ≡ true → records_behind read_body (suc fuel) place (gate ∷ rest) items ≡ Ok (items, place)
  unfolding records_behind
  records-end fuel place gate rest items ended = rw ended refl

  records-ending : (tail : List ℕ) (fuel place : ℕ) (items : List X) → IsEnding tail → length tail ≤ fuel → records_behind read_body fuel place tail items ≡ Ok (items, place)
  unfolding records_behind
  records-ending [] zero place items ending enough = refl
  records-ending [] (suc fuel) place items ending enough = refl
  records-ending (gate ∷ rest) zero place items ending enough = absurd (omega (arith, enough))
  records-ending (gate ∷ rest) (suc fuel) place items ending enough = records-end fuel place gate rest items ending

  -- all records of a front, and what ends their list
  pub records-found : (bodies : List (List ℕ)) (front tail : List ℕ) (fuel place : ℕ) (items all : List X) → IsBlocks front bodies → AreRead read_body bodies items all
      → IsEnding tail → length front + length tail ≤ fuel → records_behind read_body fuel place (front ++ tail) items ≡ Ok (all, place + length front)
  records-found [] front tail fuel place items all is_front are_read ending enough =
      rw is_front (records-ending tail fuel place items ending (omega (arith, enough)) ∙ ap (λ xs. Ok (xs, place)) are_read ∙ ap (λ k. Ok (all, k)) (omega arith))
  records-found (body ∷ bodies) front tail zero place items all is_front are_read ending enough =
      let block = is_front.1 in
      absurd (omega (arith, enough, ap length block.whole))
  records-found (body ∷ bodies) front tail (suc fuel) place items all is_front are_read ending enough =
      let block = is_front.1 in
      let long : length front ≡ 5 + (length body + length is_front.0) =
      omega (arith, ap length block.whole, length-append block.field (body ++ is_front.0), length-append body is_front.0, block.width) in
      let arranged : front ++ tail ≡ 1 ∷ (block.field ++ (body ++ (is_front.0 ++ tail))) =
      ap (λ xs. xs ++ tail) block.whole
      ∙ ap (λ xs. 1 ∷ xs) (append_assoc block.field (body ++ is_front.0) tail ∙ ap (λ xs. block.field ++ xs) (append_assoc body is_front.0 tail)) in
      ap (λ xs. records_behind read_body (suc fuel) place xs items) arranged
      ∙ records-block fuel place block.field body (is_front.0 ++ tail) items are_read.0 block.width block.number block.some are_read.1
      ∙ records-found bodies is_front.0 tail fuel (place + 5 + length body) (items ++ are_read.0) all is_front.2 are_read.2 ending (omega (arith, enough, long))
      ∙ ap (λ k. Ok (all, k)) (omega (arith, long))

  -- a record in front of a list
  found-more : (place end : ℕ) (bytes : List ℕ) (items more all : List X) → is_bad_length bytes ≡ false → read_body (take (number4 bytes 0) (drop 4 bytes)) ≡ Some more
      → IsFound read_body (drop (4 + number4 bytes 0) bytes) (items ++ more) all (place + 5 + number4 bytes 0) end → IsFound read_body (1 ∷ bytes) items all place end
  found-more place end bytes items more all good read found =
      let sound = good-length bytes good in
      let width : length (take 4 bytes) ≡ 4 = omega (arith, length-take 4 bytes, sound.0) in
      let size : length (take (number4 bytes 0) (drop 4 bytes)) ≡ number4 bytes 0 = omega (arith, length-take (number4 bytes 0) (drop 4 bytes), length-drop 4 bytes, sound.2) in
      let number : number4 (take 4 bytes) 0 ≡ number4 bytes 0 =
      sym (number4-append (take 4 bytes) (drop 4 bytes) width) ∙ ap (λ xs. number4 xs 0) (take-append-drop 4 bytes) in
      let behind : drop (number4 bytes 0) (drop 4 bytes) ≡ found.front ++ found.tail = drop-drop (number4 bytes 0) 4 bytes ∙ found.whole in
      let after : drop 4 bytes ≡ take (number4 bytes 0) (drop 4 bytes) ++ (found.front ++ found.tail) =
      sym (take-append-drop (number4 bytes 0) (drop 4 bytes)) ∙ ap (λ xs. take (number4 bytes 0) (drop 4 bytes) ++ xs) behind in
      let arranged : bytes ≡ take 4 bytes ++ (take (number4 bytes 0) (drop 4 bytes) ++ (found.front ++ found.tail)) =
      sym (take-append-drop 4 bytes) ∙ ap (λ xs. take 4 bytes ++ xs) after in
      let grouped : take 4 bytes ++ (take (number4 bytes 0) (drop 4 bytes) ++ (found.front ++ found.tail))
      ≡ (take 4 bytes ++ (take (number4 bytes 0) (drop 4 bytes) ++ found.front)) ++ found.tail =
      ap (λ xs. take 4 bytes ++ xs) (sym (append_assoc (take (number4 bytes 0) (drop 4 bytes)) found.front found.tail))
      ∙ sym (append_assoc (take 4 bytes) (take (number4 bytes 0) (drop 4 bytes) ++ found.front) found.tail) in
      record {
        bodies = take (number4 bytes 0) (drop 4 bytes) ∷ found.bodies;
        front = 1 ∷ (take 4 bytes ++ (take (number4 bytes 0) (drop 4 bytes) ++ found.front));
        tail = found.tail;
        whole = ap (λ xs. 1 ∷ xs) (arranged ∙ grouped);
        is_front = (
          found.front,
          record { field = take 4 bytes; whole = refl; width = width; number = number ∙ sym size; some = omega (arith, size, sound.1) },
          found.is_front,
        );
        are_read = (more, read, found.are_read);
        ending = found.ending;
        reached = omega (
          arith,
          found.reached,
          length-append (take 4 bytes) (take (number4 bytes 0) (drop 4 bytes) ++ found.front),
          length-append (take (number4 bytes 0) (drop 4 bytes)) found.front,
          width,
          size,
        );
      }

  -- a body in front of what was read could be read itself
  pub body-back : (r : Option (List X)) (place : ℕ) (others : List X → Result (List X × ℕ) Wrong) (all : List X) (end : ℕ) → behind_body r place others ≡ Ok (all, end)
      → (more : List X) × (r ≡ Some more) × (others more ≡ Ok (all, end))
  body-back None place others all end e = absurd (cc)
  body-back (Some more) place others all end e = (more, refl, e)

  pub found-back : (fuel place : ℕ) (bytes : List ℕ) (items all : List X) (end : ℕ) → length bytes ≤ fuel → records_behind read_body fuel place bytes items ≡ Ok (all, end)
      → IsFound read_body bytes items all place end
  unfolding records_behind
  found-back fuel place [] items all end enough e =
      let done : ◌≡◌ {A = Result (List X × ℕ) Wrong} (Ok (items, place)) (Ok (all, end)) = ending fuel place items all end e in
      let same = same-found items all place end done in
      record { bodies = []; front = []; tail = []; whole = refl; is_front = refl; are_read = same.0; ending = tt; reached = omega (arith, same.1) }
    where
      ending : (fuel place : ℕ) (items all : List X) (end : ℕ) → records_behind read_body fuel place [] items ≡ Ok (all, end) → ◌≡◌ {A = Result (List X × ℕ) Wrong} (Ok (items, place)) (Ok (all, end))
      ending zero place items all end e = e
      ending (suc fuel) place items all end e = e
  found-back zero place (gate ∷ bytes) items all end enough e = absurd (omega (arith, enough))
  found-back (suc fuel) place (gate ∷ bytes) items all end enough e =
      ⊎_elim
      (λ (ended : ends_list gate bytes ≡ true).
      let done : ◌≡◌ {A = Result (List X × ℕ) Wrong} (Ok (items, place)) (Ok (all, end)) = rw ended at e in
      let same = same-found items all place end done in
      record { bodies = []; front = []; tail = gate ∷ bytes; whole = refl; is_front = refl; are_read = same.0; ending = ended; reached = omega (arith, same.1) })
      (λ (on : ends_list gate bytes ≡ false). ⊎_elim
      (λ (bad : is_bad_length bytes ≡ true). let wrong : ◌≡◌ {A = Result (List X × ℕ) Wrong} (Err (Frame (place + 1))) (Ok (all, end)) = rw (on, bad) at e in absurd (cc))
      (λ (good : is_bad_length bytes ≡ false).
      let read : behind_body (read_body (take (number4 bytes 0) (drop 4 bytes))) (place + 5)
      (λ more. records_behind read_body fuel (place + 5 + number4 bytes 0) (drop (4 + number4 bytes 0) bytes) (items ++ more)) ≡ Ok (all, end) = rw (on, good) at e in
      let back = body-back (read_body (take (number4 bytes 0) (drop 4 bytes))) (place + 5) _ all end read in
      let opened : gate ≡ 1 = (goes-on gate bytes on).0 in
      subst (λ k. IsFound read_body (k ∷ bytes) items all place end) (sym opened)
      (found-more place end bytes items back.0 all good back.1
      (found-back fuel (place + 5 + number4 bytes 0) (drop (4 + number4 bytes 0) bytes) (items ++ back.0) all end (omega (arith, enough, length-drop (4 + number4 bytes 0) bytes)) back.2)))
      (either (is_bad_length bytes)))
      (either (ends_list gate bytes))

  -- what was found is read
  pub found-reads : (bytes : List ℕ) (items all : List X) (place end : ℕ) → IsFound read_body bytes items all place end
      → records_behind read_body (length bytes) place bytes items ≡ Ok (all, end)
  found-reads bytes items all place end found =
      ap (λ xs. records_behind read_body (length xs) place xs items) found.whole
      ∙ records-found found.bodies found.front found.tail (length (found.front ++ found.tail)) place items all found.is_front found.are_read found.ending
      (omega (arith, length-append found.front found.tail))
      ∙ ap (λ k. Ok (all, k)) (sym found.reached)

  -- a whole log is one that was found
  pub log-found : (bytes : List ℕ) (all : List X) (end : ℕ) → IsLog read_body bytes all end → IsFound read_body bytes [] all 0 end
  log-found bytes all end log = record {
    bodies = log.bodies;
    front = log.front;
    tail = log.gate ∷ log.rest;
    whole = log.whole;
    is_front = log.is_front;
    are_read = log.are_read;
    ending = rw log.closed refl;
    reached = omega (arith, log.place);
  }

  pub log-reads : (bytes : List ℕ) (all : List X) (end : ℕ) → IsLog read_body bytes all end → records_behind read_body (length bytes) 0 bytes [] ≡ Ok (all, end)
  log-reads bytes all end log = found-reads bytes [] all 0 end (log-found bytes all end log)
