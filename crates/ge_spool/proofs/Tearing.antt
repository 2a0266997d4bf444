-- What a torn write leaves of an area.
use Rattle.std.specs.Prelude.{◌≡◌, ◌⊎◌, ℕ, suc, ◌+◌, ◌<◌, true, false, ◌==◌, List, [], ◌∷◌, ◌++◌, length, take, drop, slice_index, refl}
use Rattle.std.proofs.Common.{arith, ◌∙◌, sym, ap, inl, inr, ⊎_elim, length-append, length-take, append_assoc, append-nil, drop-cons}
use Rattle.std.proofs.lemmas.List.{take_at, drop_at, take-append-drop, take-append-le, take-take}
use Rattle.std.proofs.lemmas.Bool.{eqb-true}
use Rattle.ge_model_journal.specs.Disk.{overwritten}
use Rattle.ge_model_journal.specs.Area.{number4}
use Rattle.ge_model_journal.specs.Journal.{State, with_record}
use Rattle.ge_spool.specs.Moments.{Torn}
use Rattle.ge_spool.specs.Steps.{IsBehindImage, opened_behind}
use Rattle.ge_spool.proofs.Parts.{IsBlocks, IsTop, IsArea}
use Rattle.ge_spool.proofs.Reading.{either, number4-append}
use Rattle.ge_spool.specs.Pieces.{IsRecordPiece}

-- how far an area goes
pub length-area : (bytes : List ℕ) (s : State) (end : ℕ) → IsArea bytes s end
    → end < length bytes
length-area bytes s end area =
    omega (arith, ap length area.whole, length-append area.top (area.front ++ (area.gate ∷ area.rest)), length-append area.front (area.gate ∷ area.rest), area.place)

-- up to its last gate
front-area : (bytes : List ℕ) (s : State) (end : ℕ) (area : IsArea bytes s end)
    → take end bytes ≡ area.top ++ area.front
front-area bytes s end area =
    ap (λ xs. take end xs) (area.whole ∙ sym (append_assoc area.top area.front (area.gate ∷ area.rest)))
    ∙ take_at (area.top ++ area.front) (area.gate ∷ area.rest) end (omega (arith, length-append area.top area.front, area.place))

front-gate : (bytes : List ℕ) (s : State) (end : ℕ) (area : IsArea bytes s end)
    → take (end + 1) bytes ≡ area.top ++ (area.front ++ (area.gate ∷ []))
front-gate bytes s end area =
    let arranged : area.top ++ (area.front ++ (area.gate ∷ area.rest)) ≡ (area.top ++ (area.front ++ (area.gate ∷ []))) ++ area.rest =
    ap (λ xs. area.top ++ xs) (sym (append_assoc area.front (area.gate ∷ []) area.rest)) ∙ sym (append_assoc area.top (area.front ++ (area.gate ∷ [])) area.rest) in
    let size : length (area.top ++ (area.front ++ (area.gate ∷ []))) ≡ end + 1 =
    omega (arith, length-append area.top (area.front ++ (area.gate ∷ [])), length-append area.front (area.gate ∷ []), area.place) in
    ap (λ xs. take (end + 1) xs) (area.whole ∙ arranged) ∙ take_at (area.top ++ (area.front ++ (area.gate ∷ []))) area.rest (end + 1) size

-- A write behind the last gate, torn: the area stands.
pub torn-behind : (bytes image : List ℕ) (s : State) (end size : ℕ) → IsArea bytes s end
    → Torn (end + 1) size bytes image → IsArea image s end
torn-behind bytes image s end size area torn = record {
  top = area.top;
  front = area.front;
  gate = area.gate;
  rest = drop (end + 1) image;
  whole = sym (take-append-drop (end + 1) image)
      ∙ ap (λ xs. xs ++ drop (end + 1) image) (torn.front ∙ front-gate bytes s end area)
      ∙ append_assoc area.top (area.front ++ (area.gate ∷ [])) (drop (end + 1) image)
      ∙ ap (λ xs. area.top ++ xs) (append_assoc area.front (area.gate ∷ []) (drop (end + 1) image));
  is_top = area.is_top;
  is_front = area.is_front;
  closed = area.closed;
  place = area.place;
}

-- a record behind records
pub blocks-append : (records : List (List ℕ)) (front body field : List ℕ) → IsBlocks front records → length field ≡ 4 → number4 field 0 ≡ length body → 0 < length body
    → IsBlocks (front ++ (1 ∷ (field ++ body))) (records ++ body ∷ [])
blocks-append [] front body field is_front width number some =
    ([], record { field = field; whole = rw is_front (ap (λ xs. 1 ∷ (field ++ xs)) (sym (append-nil body))); width = width; number = number; some = some }, refl)
blocks-append (first ∷ records) front body field is_front width number some =
    let block = is_front.1 in (
      is_front.0 ++ (1 ∷ (field ++ body)),
      record {
        field = block.field;
        whole = ap (λ xs. xs ++ (1 ∷ (field ++ body))) block.whole
            ∙ ap (λ xs. 1 ∷ xs) (append_assoc block.field (first ++ is_front.0) (1 ∷ (field ++ body)) ∙ ap (λ xs. block.field ++ xs) (append_assoc first is_front.0 (1 ∷ (field ++ body))));
        width = block.width;
        number = block.number;
        some = block.some;
      },
      blocks-append records is_front.0 body field is_front.2 width number some,
    )

-- the gate of a torn write of one byte: everything else is as it was
pub torn-gate : (bytes image : List ℕ) (at : ℕ) → at < length bytes → Torn at 1 bytes image
    → image ≡ take at bytes ++ (slice_index image at ∷ drop (at + 1) bytes)
torn-gate bytes image at within torn =
    let long : at < length image = omega (arith, torn.no_shorter) in
    let next : at + 1 ≡ suc at = omega arith in
    let gate : drop at image ≡ slice_index image at ∷ drop (at + 1) image = rw next (drop-cons image at 0 long) in
    sym (take-append-drop at image) ∙ ap (λ xs. xs ++ drop at image) torn.front
    ∙ ap (λ xs. take at bytes ++ xs) (gate ∙ ap (λ xs. slice_index image at ∷ xs) torn.back)

-- one record more leaves the header and the snapshot
top-more : (top : List ℕ) (s : State) (body : List ℕ) → IsTop top s → IsTop top (with_record s body)
top-more top s body t = record {
  size = t.size;
  gate = t.gate;
  format_field = t.format_field;
  format_known = t.format_known;
  generation_field = t.generation_field;
  generation_good = t.generation_good;
  size_field = t.size_field;
  kept = t.kept;
}

-- An area whose last gate was torn, in front of a whole record: it stands, or has the record more.
pub gated-area : (bytes image : List ℕ) (s : State) (end gate : ℕ) (field body tail : List ℕ)
    → IsArea bytes s end → length field ≡ 4 → number4 field 0 ≡ length body → 0 < length body
    → image ≡ take end bytes ++ (gate ∷ (field ++ (body ++ (0 ∷ tail))))
    → ((gate == 1) ≡ true → IsArea image (with_record s body) (end + 5 + length body))
    × ((gate == 1) ≡ false → IsArea image s end)
gated-area bytes image s end gate field body tail area width number some whole =
    let arranged : image ≡ area.top ++ (area.front ++ (gate ∷ (field ++ (body ++ (0 ∷ tail))))) =
    whole ∙ ap (λ xs. xs ++ (gate ∷ (field ++ (body ++ (0 ∷ tail))))) (front-area bytes s end area)
    ∙ append_assoc area.top area.front (gate ∷ (field ++ (body ++ (0 ∷ tail)))) in (
      λ opened. record {
        top = area.top;
        front = area.front ++ (1 ∷ (field ++ body));
        gate = 0;
        rest = tail;
        whole = arranged ∙ ap (λ xs. area.top ++ xs)
            (ap (λ k. area.front ++ (k ∷ (field ++ (body ++ (0 ∷ tail))))) (eqb-true gate 1 opened)
            ∙ ap (λ xs. area.front ++ (1 ∷ xs)) (sym (append_assoc field body (0 ∷ tail)))
            ∙ sym (append_assoc area.front (1 ∷ (field ++ body)) (0 ∷ tail)));
        is_top = top-more area.top s body area.is_top;
        is_front = blocks-append s.records area.front body field area.is_front width number some;
        closed = refl;
        place = omega (arith, area.place, length-append area.front (1 ∷ (field ++ body)), length-append field body, width);
      },
      λ closed. record {
        top = area.top;
        front = area.front;
        gate = gate;
        rest = field ++ (body ++ (0 ∷ tail));
        whole = arranged;
        is_top = area.is_top;
        is_front = area.is_front;
        closed = closed;
        place = area.place;
      },
    )

-- the whole of both writes
pub opened-whole : (bytes : List ℕ) (gate : ℕ) (piece : List ℕ) → gate < length bytes
    → opened_behind gate piece bytes ≡ take gate bytes ++ (1 ∷ (piece ++ drop (gate + 1 + length piece) bytes))
opened-whole bytes gate piece within =
    let mid : List ℕ = overwritten bytes (gate + 1) piece in
    let size : length (take (gate + 1) bytes) ≡ gate + 1 = omega (arith, length-take (gate + 1) bytes) in
    let front : take gate (overwritten bytes (gate + 1) piece) ≡ take gate bytes =
    take-append-le gate (take (gate + 1) bytes) (piece ++ drop (gate + 1 + length piece) bytes) (omega (arith, size)) ∙ take-take gate (gate + 1) bytes (omega arith) in
    let behind : drop (gate + 1) (overwritten bytes (gate + 1) piece) ≡ piece ++ drop (gate + 1 + length piece) bytes =
    drop_at (take (gate + 1) bytes) (piece ++ drop (gate + 1 + length piece) bytes) (gate + 1) size in
    ap (λ xs. xs ++ (1 ∷ drop (gate + 1) (overwritten bytes (gate + 1) piece))) front ∙ ap (λ xs. take gate bytes ++ (1 ∷ xs)) behind

-- and while the gate is torn
pub torn-whole : (bytes image : List ℕ) (gate : ℕ) (piece : List ℕ) → gate < length bytes → Torn gate 1 (overwritten bytes (gate + 1) piece) image
    → image ≡ take gate bytes ++ (slice_index image gate ∷ (piece ++ drop (gate + 1 + length piece) bytes))
torn-whole bytes image gate piece within torn =
    let size : length (take (gate + 1) bytes) ≡ gate + 1 = omega (arith, length-take (gate + 1) bytes) in
    let front : take gate (overwritten bytes (gate + 1) piece) ≡ take gate bytes =
    take-append-le gate (take (gate + 1) bytes) (piece ++ drop (gate + 1 + length piece) bytes) (omega (arith, size)) ∙ take-take gate (gate + 1) bytes (omega arith) in
    let behind : drop (gate + 1) (overwritten bytes (gate + 1) piece) ≡ piece ++ drop (gate + 1 + length piece) bytes =
    drop_at (take (gate + 1) bytes) (piece ++ drop (gate + 1 + length piece) bytes) (gate + 1) size in
    let long : gate < length (overwritten bytes (gate + 1) piece) =
    omega (arith, length-append (take (gate + 1) bytes) (piece ++ drop (gate + 1 + length piece) bytes), size) in
    torn-gate (overwritten bytes (gate + 1) piece) image gate long torn
    ∙ ap (λ xs. xs ++ (slice_index image gate ∷ drop (gate + 1) (overwritten bytes (gate + 1) piece))) front
    ∙ ap (λ xs. take gate bytes ++ (slice_index image gate ∷ xs)) behind

-- its length field
piece-number : (piece body : List ℕ) → IsRecordPiece piece body → number4 (take 4 piece) 0 ≡ length body
piece-number piece body is_piece =
    sym (number4-append (take 4 piece) (drop 4 piece) is_piece.width) ∙ ap (λ xs. number4 xs 0) (take-append-drop 4 piece) ∙ is_piece.number

-- with what stands behind it
piece-before : (piece body tail : List ℕ) → IsRecordPiece piece body → piece ++ tail ≡ take 4 piece ++ (body ++ (0 ∷ tail))
piece-before piece body tail is_piece =
    ap (λ xs. xs ++ tail) is_piece.whole ∙ append_assoc (take 4 piece) (body ++ (0 ∷ [])) tail ∙ ap (λ xs. (take 4 piece) ++ xs) (append_assoc body (0 ∷ []) tail)

-- At each moment of writing a record behind an area's last gate: the area stands, or has the record more.
pub behind-area : (bytes image : List ℕ) (s : State) (end : ℕ) (piece body : List ℕ)
    → IsArea bytes s end → IsRecordPiece piece body → IsBehindImage end piece bytes image
    → IsArea image s end ⊎ IsArea image (with_record s body) (end + 5 + length body)
behind-area bytes image s end piece body area is_piece (inl torn) =
    inl (torn-behind bytes image s end (length piece) area torn)
behind-area bytes image s end piece body area is_piece (inr torn) =
    let within = length-area bytes s end area in
    let gate : ℕ = slice_index image end in
    let cases = gated-area bytes image s end (slice_index image end) (take 4 piece) body (drop (end + 1 + length piece) bytes)
    area is_piece.width (piece-number piece body is_piece) is_piece.some
    (torn-whole bytes image end piece within torn
    ∙ ap (λ xs. take end bytes ++ (slice_index image end ∷ xs)) (piece-before piece body (drop (end + 1 + length piece) bytes) is_piece)) in
    ⊎_elim (λ opened. inr (cases.0 opened)) (λ closed. inl (cases.1 closed)) (either (slice_index image end == 1))

-- and once it is done, it has it
pub behind-done : (bytes : List ℕ) (s : State) (end : ℕ) (piece body : List ℕ)
    → IsArea bytes s end → IsRecordPiece piece body
    → IsArea (opened_behind end piece bytes) (with_record s body) (end + 5 + length body)
behind-done bytes s end piece body area is_piece =
    let within = length-area bytes s end area in
    let cases = gated-area bytes (opened_behind end piece bytes) s end 1 (take 4 piece) body (drop (end + 1 + length piece) bytes)
    area is_piece.width (piece-number piece body is_piece) is_piece.some
    (opened-whole bytes end piece within ∙ ap (λ xs. take end bytes ++ (1 ∷ xs)) (piece-before piece body (drop (end + 1 + length piece) bytes) is_piece)) in
    cases.0 refl
