-- What a torn write leaves of a log.
use Rattle.std.specs.Prelude.{◌≡◌, ◌⊎◌, ℕ, suc, ◌+◌, ◌<◌, true, false, not, ◌==◌, nat_lt, List, [], ◌∷◌, ◌++◌, length, take, drop, slice_index, Option, Some, refl}
use Rattle.std.proofs.Common.{arith, ◌∙◌, sym, ap, subst, inl, inr, ⊎_elim, length-append, length-drop, append_assoc, append-nil, drop-cons}
use Rattle.std.proofs.lemmas.List.{take_at, drop_at, take-append-drop, get_or-drop}
use Rattle.std.proofs.lemmas.Bool.{eqb-true, lt-ltb, ltb-true}
use Rattle.ge_model_journal.specs.Disk.{overwritten}
use Rattle.ge_spool.specs.Moments.{Torn}
use Rattle.ge_spool.proofs.Parts.{IsBlocks}
use Rattle.ge_spool.specs.Steps.{IsBehindImage, opened_behind}
use Rattle.ge_spool.proofs.Reading.{either}
use Rattle.ge_spool.proofs.Tearing.{torn-whole, opened-whole}
use Rattle.ge_acctlog.proofs.Parts.{IsEnding, AreRead, IsFound, IsLog, HasRecords}
use Rattle.ge_acctlog.proofs.Finding.{or-true}

-- records behind records
blocks-join : (bodies others : List (List ℕ)) (front behind : List ℕ) → IsBlocks front bodies → IsBlocks behind others → IsBlocks (front ++ behind) (bodies ++ others)
blocks-join [] others front behind is_front is_behind = subst (λ xs. IsBlocks (xs ++ behind) others) (sym is_front) is_behind
blocks-join (first ∷ bodies) others front behind is_front is_behind =
    let block = is_front.1 in (
      is_front.0 ++ behind,
      record {
        field = block.field;
        whole = ap (λ xs. xs ++ behind) block.whole
            ∙ ap (λ xs. 1 ∷ xs) (append_assoc block.field (first ++ is_front.0) behind ∙ ap (λ xs. block.field ++ xs) (append_assoc first is_front.0 behind));
        width = block.width;
        number = block.number;
        some = block.some;
      },
      blocks-join bodies others is_front.0 behind is_front.2 is_behind,
    )

-- few bytes end a list, whatever they are
few-end : (tail : List ℕ) → length tail < 6 → IsEnding tail
few-end [] few = tt
few-end (gate ∷ rest) few = let short : nat_lt (length rest) 5 ≡ true = lt-ltb (length rest) 5 (omega (arith, few)) in rw short (or-true (not (gate == 1)))

-- and so does a gate that isn't open
closed-end : (gate : ℕ) (rest : List ℕ) → (gate == 1) ≡ false → IsEnding (gate ∷ rest)
closed-end gate rest closed = rw closed refl

module _ {X : Type 0} (read_body : List ℕ → Option (List X)) where
  pub length-log : (bytes : List ℕ) (all : List X) (end : ℕ) → IsLog read_body bytes all end → end < length bytes
  length-log bytes all end log = omega (arith, ap length log.whole, length-append log.front (log.gate ∷ log.rest), log.place)

  front-log : (bytes : List ℕ) (all : List X) (end : ℕ) (log : IsLog read_body bytes all end) → take end bytes ≡ log.front
  front-log bytes all end log = ap (λ xs. take end xs) log.whole ∙ take_at log.front (log.gate ∷ log.rest) end (sym log.place)

  front-gate : (bytes : List ℕ) (all : List X) (end : ℕ) (log : IsLog read_body bytes all end) → take (end + 1) bytes ≡ log.front ++ (log.gate ∷ [])
  front-gate bytes all end log =
      ap (λ xs. take (end + 1) xs) (log.whole ∙ sym (append_assoc log.front (log.gate ∷ []) log.rest))
      ∙ take_at (log.front ++ (log.gate ∷ [])) log.rest (end + 1) (omega (arith, length-append log.front (log.gate ∷ []), log.place))

  -- a write behind the last gate, torn: the log stands
  torn-behind : (bytes image : List ℕ) (all : List X) (end size : ℕ) → IsLog read_body bytes all end → Torn (end + 1) size bytes image → IsLog read_body image all end
  torn-behind bytes image all end size log torn = record {
    bodies = log.bodies;
    front = log.front;
    gate = log.gate;
    rest = drop (end + 1) image;
    whole = sym (take-append-drop (end + 1) image)
        ∙ ap (λ xs. xs ++ drop (end + 1) image) (torn.front ∙ front-gate bytes all end log)
        ∙ append_assoc log.front (log.gate ∷ []) (drop (end + 1) image);
    is_front = log.is_front;
    are_read = log.are_read;
    closed = log.closed;
    place = log.place;
  }

  -- what is read behind items
  read-behind : (bodies : List (List ℕ)) (items more all : List X) → AreRead read_body bodies more all → AreRead read_body bodies (items ++ more) (items ++ all)
  read-behind [] items more all are_read = ap (λ xs. items ++ xs) are_read
  read-behind (body ∷ bodies) items more all are_read = (
    are_read.0,
    are_read.1,
    subst (λ xs. AreRead read_body bodies xs (items ++ all)) (sym (append_assoc items more are_read.0)) (read-behind bodies items (more ++ are_read.0) all are_read.2),
  )

  read-join : (bodies others : List (List ℕ)) (items all more : List X) → AreRead read_body bodies items all → AreRead read_body others [] more
      → AreRead read_body (bodies ++ others) items (all ++ more)
  read-join [] others items all more are_read behind =
      subst (λ xs. AreRead read_body others xs (all ++ more)) (append-nil all ∙ sym are_read) (read-behind others all [] more behind)
  read-join (body ∷ bodies) others items all more are_read behind =
      (are_read.0, are_read.1, read-join bodies others (items ++ are_read.0) all more are_read.2 behind)

  -- a log whose last gate was torn, in front of whole records: it stands, or has the records more
  gated : (bytes image : List ℕ) (all more : List X) (end gate : ℕ) (piece records tail : List ℕ) → IsLog read_body bytes all end → HasRecords read_body records more
      → 1 ∷ piece ≡ records ++ 0 ∷ [] → image ≡ take end bytes ++ (gate ∷ (piece ++ tail))
      → ((gate == 1) ≡ true → IsLog read_body image (all ++ more) (end + length records)) × ((gate == 1) ≡ false → IsLog read_body image all end)
  gated bytes image all more end gate piece records tail log has is_piece whole =
      let arranged : image ≡ log.front ++ (gate ∷ (piece ++ tail)) =
      whole ∙ ap (λ xs. xs ++ (gate ∷ (piece ++ tail))) (front-log bytes all end log) in (
        λ opened. record {
          bodies = log.bodies ++ has.bodies;
          front = log.front ++ records;
          gate = 0;
          rest = tail;
          whole = arranged ∙ ap (λ k. log.front ++ (k ∷ (piece ++ tail))) (eqb-true gate 1 opened)
              ∙ ap (λ xs. log.front ++ (xs ++ tail)) is_piece
              ∙ ap (λ xs. log.front ++ xs) (append_assoc records (0 ∷ []) tail)
              ∙ sym (append_assoc log.front records (0 ∷ tail));
          is_front = blocks-join log.bodies has.bodies log.front records log.is_front has.are_blocks;
          are_read = read-join log.bodies has.bodies [] all more log.are_read has.are_read;
          closed = refl;
          place = omega (arith, log.place, length-append log.front records);
        },
        λ closed. record {
          bodies = log.bodies;
          front = log.front;
          gate = gate;
          rest = piece ++ tail;
          whole = arranged;
          is_front = log.is_front;
          are_read = log.are_read;
          closed = closed;
          place = log.place;
        },
      )

  -- at each moment of writing records: the log stands, or has the records more
  pub behind-log : (bytes image : List ℕ) (all more : List X) (end : ℕ) (piece records : List ℕ) → IsLog read_body bytes all end → HasRecords read_body records more
      → 1 ∷ piece ≡ records ++ 0 ∷ [] → IsBehindImage end piece bytes image → IsLog read_body image all end ⊎ IsLog read_body image (all ++ more) (end + length records)
  behind-log bytes image all more end piece records log has is_piece (inl torn) = inl (torn-behind bytes image all end (length piece) log torn)
  behind-log bytes image all more end piece records log has is_piece (inr torn) =
      let within = length-log bytes all end log in
      let cases = gated bytes image all more end (slice_index image end) piece records (drop (end + 1 + length piece) bytes) log has is_piece
      (torn-whole bytes image end piece within torn) in
      ⊎_elim (λ opened. inr (cases.0 opened)) (λ closed. inl (cases.1 closed)) (either (slice_index image end == 1))

  -- and once it is done it has them
  pub behind-done : (bytes : List ℕ) (all more : List X) (end : ℕ) (piece records : List ℕ) → IsLog read_body bytes all end → HasRecords read_body records more
      → 1 ∷ piece ≡ records ++ 0 ∷ [] → IsLog read_body (opened_behind end piece bytes) (all ++ more) (end + length records)
  behind-done bytes all more end piece records log has is_piece =
      let within = length-log bytes all end log in
      let cases = gated bytes (opened_behind end piece bytes) all more end 1 piece records (drop (end + 1 + length piece) bytes) log has is_piece
      (opened-whole bytes end piece within) in
      cases.0 refl

  -- the end of a list with few bytes behind it, torn by a write of one byte: the same list
  pub torn-end : (bytes image : List ℕ) (all : List X) (end : ℕ) → IsFound read_body bytes [] all 0 end → length bytes < end + 6 → Torn end 1 bytes image
      → IsFound read_body image [] all 0 end
  torn-end bytes image all end found short torn =
      let front : take end image ≡ found.front = torn.front ∙ ap (λ xs. take end xs) found.whole ∙ take_at found.front found.tail end (omega (arith, found.reached)) in
      record {
        bodies = found.bodies;
        front = found.front;
        tail = drop end image;
        whole = sym (take-append-drop end image) ∙ ap (λ xs. xs ++ drop end image) front;
        is_front = found.is_front;
        are_read = found.are_read;
        ending = few-end (drop end image) (omega (arith, length-drop end image, torn.no_longer, short));
        reached = found.reached;
      }

  -- and once it is closed the log is whole
  pub closed-log : (bytes : List ℕ) (all : List X) (end : ℕ) → IsFound read_body bytes [] all 0 end → IsLog read_body (overwritten bytes end (0 ∷ [])) all end
  closed-log bytes all end found = record {
    bodies = found.bodies;
    front = found.front;
    gate = 0;
    rest = drop (end + 1) bytes;
    whole = ap (λ xs. xs ++ (0 ∷ drop (end + 1) bytes)) (ap (λ xs. take end xs) found.whole ∙ take_at found.front found.tail end (omega (arith, found.reached)));
    is_front = found.is_front;
    are_read = found.are_read;
    closed = refl;
    place = omega (arith, found.reached);
  }

  -- where a byte that isn't 1 stands at the end, the log is whole already
  pub whole-log : (bytes : List ℕ) (all : List X) (end : ℕ) → IsFound read_body bytes [] all 0 end → end < length bytes → (slice_index bytes end == 1) ≡ false
      → IsLog read_body bytes all end
  whole-log bytes all end found within closed =
      let here : drop end bytes ≡ slice_index bytes end ∷ drop (end + 1) bytes = at-end end bytes within in
      let tail : drop end bytes ≡ found.tail = ap (λ xs. drop end xs) found.whole ∙ drop_at found.front found.tail end (omega (arith, found.reached)) in
      record {
        bodies = found.bodies;
        front = found.front;
        gate = slice_index bytes end;
        rest = drop (end + 1) bytes;
        whole = found.whole ∙ ap (λ xs. found.front ++ xs) (sym tail ∙ here);
        is_front = found.is_front;
        are_read = found.are_read;
        closed = closed;
        place = omega (arith, found.reached);
      }
    where
      at-end : (end : ℕ) (bytes : List ℕ) → end < length bytes → drop end bytes ≡ slice_index bytes end ∷ drop (end + 1) bytes
      at-end end bytes within = let next : end + 1 ≡ suc end = omega arith in rw next (drop-cons bytes end 0 within)

  -- an open gate at the end has fewer than five bytes behind it
  pub open-end : (bytes : List ℕ) (all : List X) (end : ℕ) → IsFound read_body bytes [] all 0 end → (length bytes ≡ end) ⊎ ((slice_index bytes end == 1) ≡ true) → length bytes < end + 6
  open-end bytes all end found (inl missing) = omega (arith, missing)
  open-end bytes all end found (inr opened) =
      let tail : drop end bytes ≡ found.tail = ap (λ xs. drop end xs) found.whole ∙ drop_at found.front found.tail end (omega (arith, found.reached)) in
      let few : length (drop end bytes) < 6 = subst (λ xs. length xs < 6) (sym tail) (short found.tail found.ending (subst (λ xs. (slice_index xs 0 == 1) ≡ true) tail (first end bytes opened))) in
      omega (arith, length-drop end bytes, few)
    where
      first : (end : ℕ) (bytes : List ℕ) → (slice_index bytes end == 1) ≡ true → (slice_index (drop end bytes) 0 == 1) ≡ true
      first end bytes opened = let same : slice_index (drop end bytes) 0 ≡ slice_index bytes end = get_or-drop end bytes 0 0 ∙ ap (λ k. slice_index bytes k) (omega arith) in rw same opened

      short : (tail : List ℕ) → IsEnding tail → (slice_index tail 0 == 1) ≡ true → length tail < 6
      short [] ending opened = omega arith
      short (gate ∷ rest) ending opened = let few : nat_lt (length rest) 5 ≡ true = rw opened at ending in omega (arith, ltb-true (length rest) 5 few)
