-- Where a list of records ends, by the sizes of its records.
use Rattle.std.specs.Prelude.{◌≡◌, ℕ, ◌+◌, ◌≤◌, List, [], ◌∷◌, ◌++◌, length, Ok, refl}
use Rattle.std.proofs.Common.{arith, ◌∙◌, ap, length-append}
use Rattle.ge_model_journal.specs.Area.{records_from, end_from}
use Rattle.ge_spool.proofs.Parts.{IsBlocks}
use Rattle.ge_spool.proofs.Reading.{tail-back}

-- records in a row take their bodies' sizes and five bytes each
end-blocks : (records : List (List ℕ)) (front : List ℕ) (place : ℕ) → IsBlocks front records → place + length front ≡ end_from place records
end-blocks [] front place is_front = rw is_front (omega arith)
end-blocks (body ∷ records) front place is_front =
    let block = is_front.1 in
    let long : length front ≡ 5 + (length body + length is_front.0) =
    omega (arith, ap length block.whole, length-append block.field (body ++ is_front.0), length-append body is_front.0, block.width) in
    let moved : place + length front ≡ place + 5 + length body + length is_front.0 = omega (arith, long) in
    moved ∙ end-blocks records is_front.0 (place + 5 + length body) is_front.2

-- a list that was read ends right behind its records
pub end-found : (fuel place : ℕ) (bytes : List ℕ) (records : List (List ℕ)) (end : ℕ) → records_from fuel place bytes ≡ Ok (records, end) → end ≡ end_from place records
end-found fuel place bytes records end found =
    let tail = tail-back fuel place bytes records end found in tail.reached ∙ end-blocks records tail.front place tail.is_front

-- a list ends behind where it begins, so each record's place is below its end
pub end-behind : (records : List (List ℕ)) (place : ℕ) → place ≤ end_from place records
end-behind [] place = omega arith
end-behind (body ∷ records) place = let more = end-behind records (place + 5 + length body) in omega (arith, more)

-- two lists of records, one behind the other
pub end-append : (first last : List (List ℕ)) (place : ℕ) → end_from place (first ++ last) ≡ end_from (end_from place first) last
end-append [] last place = refl
end-append (body ∷ first) last place = end-append first last (place + 5 + length body)

-- a record among others: its first byte stands five places behind its gate, and the list goes on behind its last one
pub record-below : (first last : List (List ℕ)) (body : List ℕ) (place : ℕ) → end_from place first + 5 + length body ≤ end_from place (first ++ (body ∷ last))
record-below first last body place =
    let more = end-behind last (end_from place first + 5 + length body) in
    omega (arith, more, end-append first (body ∷ last) place)
