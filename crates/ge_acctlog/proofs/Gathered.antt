-- Lines that were gathered in records are read again.
use Rattle.std.specs.Prelude.{◌≡◌, ◌⊎◌, ℕ, zero, suc, ◌+◌, ◌-◌, ◌*◌, ◌^◌, ◌<◌, ◌≤◌, List, [], ◌∷◌, ◌++◌, length, take, drop, refl}
use Rattle.std.proofs.Common.{arith, ◌∙◌, sym, ap, subst, inl, inr, ⊎_elim, append_assoc, length-append}
use Rattle.std.proofs.lemmas.Bool.{cases_lt}
use Rattle.std.proofs.lemmas.Nat.{from_be_bytes-to_be_bytes_4}
use Rattle.std.proofs.lemmas.List.{length-drop, length-take, drop-drop, take_all}
use Rattle.std.proofs.lemmas.List.Concat.{flat_map-cons}
use Rattle.std.proofs.lemmas.Grind.{flat_map-append}
use Rattle.std.proofs.Math.Nat.{add-mul, mul-le-mul_right}
use Rattle.std.proofs.Math.Seq.{take-add}
use Rattle.std.specs.Int.{bytes_high_first}
use Rattle.ge_limits.specs.Limits as limit
use Rattle.ge_model_rows.specs.AccountRows.{Line}
use Rattle.ge_model_journal.specs.Area.{number4}
use Rattle.ge_model_log.specs.Lines.{line_bytes, bytes_of_lines, lines_in, AreFit}
use Rattle.ge_spool.proofs.Parts.{IsBlocks}
use Rattle.ge_spool.proofs.Tearing.{blocks-append}
use Rattle.ge_acctlog.specs.Records.{record_lines, record_bytes, end_behind, log_end, AreInRecords, HasGathered}
use Rattle.ge_acctlog.proofs.Parts.{AreRead, HasRecords}
use Rattle.ge_acctlog.proofs.Finding.{read-more}
use Rattle.ge_acctlog.proofs.Lines.{lines-again, some_line}

-- a length field says the length
number4-field : (n : ℕ) → n < 2 ^ 32 → number4 (bytes_high_first 4 n) 0 ≡ n
number4-field n short = from_be_bytes-to_be_bytes_4 n short

nothing : (each : ℕ) → 0 * each ≡ 0
nothing each = omega arith

-- the lines of the first records, and of one more
take_records : (each k : ℕ) (lines : List Line) → take ((k + 1) * each) lines ≡ take (k * each) lines ++ record_lines each lines k
take_records each k lines =
    let more : (k + 1) * each ≡ k * each + each = omega (arith, add-mul k 1 each) in
    ap (λ n. take n lines) more ∙ take-add (k * each) each lines

more_bytes : (each k : ℕ) (lines : List Line) → length (bytes_of_lines (take ((k + 1) * each) lines))
    ≡ length (bytes_of_lines (take (k * each) lines)) + length (bytes_of_lines (record_lines each lines k))
more_bytes each k lines =
    ap (λ xs. length (bytes_of_lines xs)) (take_records each k lines)
    ∙ ap length (flat_map-append line_bytes (take (k * each) lines) (record_lines each lines k))
    ∙ length-append (bytes_of_lines (take (k * each) lines)) (bytes_of_lines (record_lines each lines k))

-- one record more is as many bytes more
length-record : (front field body : List ℕ) → length (front ++ 1 ∷ [] ++ field ++ body) ≡ length front + 1 + length field + length body
length-record front field body =
    omega (arith, length-append (front ++ 1 ∷ [] ++ field) body, length-append (front ++ 1 ∷ []) field, length-append front (1 ∷ []))

length-records : (each k : ℕ) (lines : List Line) → length (record_bytes each lines k) ≡ 5 * k + length (bytes_of_lines (take (k * each) lines))
length-records each zero lines =
    let empty : length (bytes_of_lines (take (0 * each) lines)) ≡ 0 = ap (λ n. length (bytes_of_lines (take n lines))) (nothing each) in
    omega (arith, empty)
length-records each (suc k) lines =
    let body = bytes_of_lines (record_lines each lines k) in
    let field : length (bytes_high_first 4 (length body)) ≡ 4 = refl in
    let next : length (bytes_of_lines (take ((k + 1) * each) lines)) ≡ length (bytes_of_lines (take (suc k * each) lines)) =
    ap (λ n. length (bytes_of_lines (take (n * each) lines))) (omega arith) in
    omega (arith, length-record (record_bytes each lines k) (bytes_high_first 4 (length body)) body, field, length-records each k lines, more_bytes each k lines, next)

-- lines that have bytes
some_bytes : (lines : List Line) → 0 < length lines → 0 < length (bytes_of_lines lines)
some_bytes [] some = absurd (omega (arith, some))
some_bytes (line ∷ lines) some = omega (arith, ap length (flat_map-cons line_bytes line lines), length-append (line_bytes line) (bytes_of_lines lines), some_line line)

-- a record that can be read
pub record IsGood (lines : List Line) : Type 0 where
  pub fit : AreFit lines
  pub some : 0 < length lines
  pub short : length (bytes_of_lines lines) < 2 ^ 32

pub gathered-records : (each k : ℕ) (lines : List Line) → ((j : ℕ) → j < k → IsGood (record_lines each lines j)) → HasRecords lines_in (record_bytes each lines k) (take (k * each) lines)
gathered-records each zero lines good = record { bodies = []; are_blocks = refl; are_read = sym (ap (λ n. take n lines) (nothing each)) }
gathered-records each (suc k) lines good =
    let before = gathered-records each k lines (λ j below. good j (omega (arith, below))) in
    let last = good k (omega arith) in
    let body = bytes_of_lines (record_lines each lines k) in
    let field = bytes_high_first 4 (length body) in
    let front = record_bytes each lines k in
    let next : suc k ≡ k + 1 = omega arith in
    let joined : front ++ 1 ∷ [] ++ field ++ body ≡ front ++ (1 ∷ (field ++ body)) =
    append_assoc (front ++ 1 ∷ []) field body ∙ append_assoc front (1 ∷ []) (field ++ body) in
    record {
      bodies = before.bodies ++ body ∷ [];
      are_blocks = subst (λ xs. IsBlocks xs (before.bodies ++ body ∷ [])) (sym joined)
          (blocks-append before.bodies front body field before.are_blocks refl (number4-field (length body) last.short) (some_bytes (record_lines each lines k) last.some));
      are_read = subst (λ xs. AreRead lines_in (before.bodies ++ body ∷ []) [] xs) (sym (ap (λ n. take (n * each) lines) next ∙ take_records each k lines))
          (read-more lines_in before.bodies body [] (take (k * each) lines) (record_lines each lines k) before.are_read
          (lines-again (record_lines each lines k) body last.fit last.some refl));
    }

-- so many records are gathered, and these lines are left
pub record Gathering (each end : ℕ) (lines rest : List Line) (bytes : List ℕ) (k : ℕ) : Type 0 where
  pub bytes_are : bytes ≡ record_bytes each lines k
  pub left : rest ≡ drop (k * each) lines
  pub needed : k * each < length lines + each
  pub fits : (j : ℕ) → j < k → log_end each end lines (j + 1) ≤ limit.area_bytes
  pub fit : (j : ℕ) → j < k → AreFit (record_lines each lines j)

pub gathering_none : (each end : ℕ) (lines : List Line) (bytes : List ℕ) → 0 < each → bytes ≡ [] → Gathering each end lines lines bytes 0
gathering_none each end lines bytes some none = record {
  bytes_are = none;
  left = sym (ap (λ n. drop n lines) (nothing each));
  needed = omega (arith, some);
  fits = λ j below. absurd (omega (arith, below));
  fit = λ j below. absurd (omega (arith, below));
}

last_or : (j k : ℕ) → j < k + 1 → (j < k) ⊎ (k ≡ j)
last_or j k below = ⊎_elim inl (λ h. inr (omega (arith, below, h))) (cases_lt j k)

pub gathering_more : (each end k : ℕ) (lines rest first others : List Line) (bytes more body : List ℕ) → Gathering each end lines rest bytes k → 0 < length rest
    → first ≡ take each rest → others ≡ drop each rest → AreFit first → body ≡ bytes_of_lines first → end + 6 + length bytes + length body ≤ limit.area_bytes
    → more ≡ bytes ++ 1 ∷ [] ++ bytes_high_first 4 (length body) ++ body → Gathering each end lines others more (suc k)
gathering_more each end k lines rest first others bytes more body g some is_first is_others fit is_body room is_more =
    let here : first ≡ record_lines each lines k = is_first ∙ ap (λ xs. take each xs) g.left in
    let text : body ≡ bytes_of_lines (record_lines each lines k) = is_body ∙ ap (λ xs. bytes_of_lines xs) here in
    let step : suc k * each ≡ k * each + each = omega (arith, add-mul k 1 each) in
    record {
      bytes_are = is_more ∙ ap (λ xs. xs ++ 1 ∷ [] ++ bytes_high_first 4 (length body) ++ body) g.bytes_are
          ∙ ap (λ xs. record_bytes each lines k ++ 1 ∷ [] ++ bytes_high_first 4 (length xs) ++ xs) text;
      left = is_others ∙ ap (λ xs. drop each xs) g.left ∙ drop-drop each (k * each) lines ∙ ap (λ n. drop n lines) (sym step);
      needed = omega (arith, step, some, ap length g.left, length-drop (k * each) lines);
      fits = λ j below. ⊎_elim (λ before. g.fits j before)
          (λ same. subst (λ i. log_end each end lines (i + 1) ≤ limit.area_bytes) same
          (omega (arith, room, ap length g.bytes_are, length-records each k lines, more_bytes each k lines, ap length text)))
          (last_or j k (omega (arith, below)));
      fit = λ j below. ⊎_elim (λ before. g.fit j before) (λ same. subst (λ i. AreFit (record_lines each lines i)) same (subst (λ xs. AreFit xs) here fit))
          (last_or j k (omega (arith, below)));
    }

-- the first doesn't fit
pub gathered_full : (each end k : ℕ) (lines rest first : List Line) (bytes body : List ℕ) (place : ℕ) → Gathering each end lines rest bytes k → length bytes ≡ 0
    → first ≡ take each rest → body ≡ bytes_of_lines first → place ≡ end + 6 + length bytes + length body → place ≡ log_end each end lines 1
gathered_full each end zero lines rest first bytes body place g none is_first is_body is_place =
    let text : body ≡ bytes_of_lines (record_lines each lines 0) = is_body ∙ ap (λ xs. bytes_of_lines xs) (is_first ∙ ap (λ xs. take each xs) g.left) in
    let empty : length (bytes_of_lines (take (0 * each) lines)) ≡ 0 = ap (λ n. length (bytes_of_lines (take n lines))) (nothing each) in
    omega (arith, is_place, none, ap length text, more_bytes each 0 lines, empty)
gathered_full each end (suc k) lines rest first bytes body place g none is_first is_body is_place =
    absurd (omega (arith, none, ap length g.bytes_are, length-records each (suc k) lines))

-- some are gathered
pub gathered_some : (each end k : ℕ) (lines rest : List Line) (bytes : List ℕ) → Gathering each end lines rest bytes k → (0 < length bytes) ⊎ (length rest < length lines) → 0 < k
gathered_some each end zero lines rest bytes g some =
    let all : length (drop (0 * each) lines) ≡ length lines = ap (λ n. length (drop n lines)) (nothing each) in
    absurd (⊎_elim (λ h. omega (arith, h, ap length g.bytes_are)) (λ h. omega (arith, h, ap length g.left, all)) some)
gathered_some each end (suc k) lines rest bytes g some = omega arith

pub gathered_done : (each end k : ℕ) (lines rest : List Line) (bytes : List ℕ) (n : ℕ) → Gathering each end lines rest bytes k
    → (0 < length bytes) ⊎ (length rest < length lines) → n ≡ length lines - length rest → HasGathered each end lines bytes n
gathered_done each end k lines rest bytes n g some is = record {
  k = k;
  are_in = record {
    some = gathered_some each end k lines rest bytes g some;
    needed = g.needed;
    count = omega (arith, is, ap length g.left, length-drop (k * each) lines);
    fits = g.fits;
  };
  bytes_are = g.bytes_are;
  fit = g.fit;
}

-- no fewer bytes than lines
many_bytes : (lines : List Line) → length lines ≤ length (bytes_of_lines lines)
many_bytes [] = omega arith
many_bytes (line ∷ lines) =
    omega (arith, many_bytes lines, some_line line, ap length (flat_map-cons line_bytes line lines), length-append (line_bytes line) (bytes_of_lines lines))

-- what was gathered are records that can be read, with a gate that isn't open behind them
good_record : (each end n k j : ℕ) (lines : List Line) → 0 < each → AreInRecords each end lines n k → j < k → AreFit (record_lines each lines j) → IsGood (record_lines each lines j)
good_record each end n k j lines above are_in below fit = record {
  fit = fit;
  some = omega (arith, length-take each (drop (j * each) lines), length-drop (j * each) lines, are_in.needed, add-mul j 1 each, mul-le-mul_right {m = j + 1} {n = k} each (omega (arith, below)), above);
  short = omega (arith, are_in.fits j below, more_bytes each j lines);
}

pub gathered_read : (each end n : ℕ) (lines : List Line) (bytes : List ℕ) → 0 < each → (h : HasGathered each end lines bytes n) → HasRecords lines_in bytes (take (h.k * each) lines)
gathered_read each end n lines bytes above h =
    subst (λ xs. HasRecords lines_in xs (take (h.k * each) lines)) (sym h.bytes_are)
    (gathered-records each h.k lines (λ j below. good_record each end n h.k j lines above h.are_in below (h.fit j below)))

pub gathered_end : (each end n : ℕ) (lines : List Line) (bytes : List ℕ) → (h : HasGathered each end lines bytes n) → end + length bytes ≡ end_behind each end lines h.k
gathered_end each end n lines bytes h = omega (arith, ap length h.bytes_are, length-records each h.k lines)

-- so it is behind an open gate, and within the limit
pub gathered_room : (each end n : ℕ) (lines : List Line) (bytes : List ℕ) → HasGathered each end lines bytes n → end + length bytes + 1 ≤ limit.area_bytes
gathered_room each end n lines bytes h =
    let place = gathered_end each end n lines bytes h in
    let last : h.k - 1 + 1 ≡ h.k = omega (arith, h.are_in.some) in
    omega (arith, place, h.are_in.fits (h.k - 1) (omega (arith, h.are_in.some)), ap (λ k. end_behind each end lines k) last)

pub gathered_long : (each end n : ℕ) (lines : List Line) (bytes : List ℕ) → HasGathered each end lines bytes n → n ≤ length bytes
gathered_long each end n lines bytes h =
    omega (arith, h.are_in.count, length-take (h.k * each) lines, many_bytes (take (h.k * each) lines), ap length h.bytes_are, length-records each h.k lines)

pub gathered_wrote : (each end n : ℕ) (lines : List Line) (bytes : List ℕ) → HasGathered each end lines bytes n → 0 < each → 0 < length lines → 0 < n
gathered_wrote each end n lines bytes h above some =
    omega (arith, h.are_in.count, mul-le-mul_right {m = 1} {n = h.k} each (omega (arith, h.are_in.some)), above, some)

pub gathered_few : (each end n : ℕ) (lines : List Line) (bytes : List ℕ) → HasGathered each end lines bytes n → n ≤ length lines
gathered_few each end n lines bytes h = omega (arith, h.are_in.count)

record_first : (each k : ℕ) (lines : List Line) → 0 < k → (tail : List ℕ) × (record_bytes each lines k ≡ 1 ∷ tail)
record_first each zero lines some = absurd (omega (arith, some))
record_first each (suc zero) lines some = (bytes_high_first 4 (length (bytes_of_lines (record_lines each lines 0))) ++ bytes_of_lines (record_lines each lines 0), refl)
record_first each (suc (suc k)) lines some =
    let before = record_first each (suc k) lines (omega arith) in
    let body = bytes_of_lines (record_lines each lines (suc k)) in
    let field = bytes_high_first 4 (length body) in
    (before.0 ++ 1 ∷ [] ++ field ++ body, ap (λ xs. xs ++ 1 ∷ [] ++ field ++ body) before.1)

pub gathered_piece : (each end n : ℕ) (lines : List Line) (bytes closed piece : List ℕ) → HasGathered each end lines bytes n → closed ≡ bytes ++ 0 ∷ [] → piece ≡ drop 1 closed
    → 1 ∷ piece ≡ bytes ++ 0 ∷ []
gathered_piece each end n lines bytes closed piece h is_closed is_piece =
    let first = record_first each h.k lines h.are_in.some in
    let whole : closed ≡ 1 ∷ (first.0 ++ 0 ∷ []) = is_closed ∙ ap (λ xs. xs ++ 0 ∷ []) (h.bytes_are ∙ first.1) in
    ap (λ xs. 1 ∷ xs) (is_piece ∙ ap (λ xs. drop 1 xs) whole) ∙ sym whole ∙ is_closed

-- all lines in one record
pub whole_lines : (each k : ℕ) (lines : List Line) → each ≡ length lines → 0 < k → take (k * each) lines ≡ lines
whole_lines each k lines is some = take_all (k * each) lines (omega (arith, mul-le-mul_right {m = 1} {n = k} each some, is))

pub whole_count : (each end n k : ℕ) (lines : List Line) → each ≡ length lines → AreInRecords each end lines n k → n ≡ length lines
whole_count each end n k lines is a = omega (arith, a.count, mul-le-mul_right {m = 1} {n = k} each a.some, is)

pub one_record : (each end n k : ℕ) (lines : List Line) → each ≡ length lines → 0 < length lines → AreInRecords each end lines n k → k ≡ 1
one_record each end n k lines is some a =
    ⊎_elim (λ below. omega (arith, below, a.some)) (λ above. absurd (omega (arith, mul-le-mul_right {m = 2} {n = k} each above, a.needed, is, some))) (cases_lt k 2)

pub whole_end : (each end : ℕ) (lines : List Line) → each ≡ length lines → log_end each end lines 1 ≡ end + 6 + length (bytes_of_lines lines)
whole_end each end lines is = omega (arith, ap (λ xs. length (bytes_of_lines xs)) (whole_lines each 1 lines is (omega arith)))
