-- The next record behind those that were read.
use Rattle.std.specs.Prelude.{◌≡◌, ℕ, ◌+◌, ◌-◌, ◌<◌, ◌≤◌, false, nat_lt, List, [], ◌∷◌, ◌++◌, length, take, drop, get_or, slice_get, Option, Some, None, Ok, refl}
use Rattle.std.proofs.Common.{arith, ◌∙◌, sym, ap, subst, length-append, append_assoc, append-nil}
use Rattle.std.proofs.lemmas.List.{take_at, drop_at, drop-drop, get_or_append_left, get_or-append_right}
use Rattle.std.proofs.lemmas.Option.{slice_get_read}
use Rattle.std.proofs.lemmas.Bool.{le-ltb}
use Rattle.ge_model_rows.specs.AccountRows.{Line}
use Rattle.ge_model_journal.specs.Area.{number4}
use Rattle.ge_model_journal.specs.Disk.{Content, read_bytes}
use Rattle.ge_spool.specs.Opening.{Tells}
use Rattle.ge_spool.proofs.Parts.{IsBlocks}
use Rattle.ge_spool.proofs.Reading.{number4-append}
use Rattle.ge_model_log.specs.Records.{records_behind}
use Rattle.ge_model_log.specs.Lines.{lines_in, logged}
use Rattle.ge_acctlog.specs.Reads.{first_size, ReadsSize, ReadsBody}
use Rattle.ge_acctlog.specs.Bodies.{HasLines}
use Rattle.ge_acctlog.specs.Logs.{IsReached}
use Rattle.ge_acctlog.specs.declared.log.Reached.{Reached}
use Rattle.ge_acctlog.proofs.Parts.{IsEnding, AreRead}
use Rattle.ge_acctlog.proofs.Finding.{found-back, found-reads}

open-size : (rest : List ℕ) (n : ℕ) → 4 ≤ length rest → number4 rest 0 ≡ n → first_size (1 ∷ rest) ≡ n
open-size rest n enough number = let long : nat_lt (length (1 ∷ rest)) 5 ≡ false = le-ltb (length (1 ∷ rest)) 5 (omega (arith, enough)) in rw long number

module _ {X : Type 0} (read_body : List ℕ → Option (List X)) where
  -- bytes begin with a record whose items stand behind some, and the records behind it make all of them
  pub record IsNext (bytes : List ℕ) (items all : List X) (place end : ℕ) : Type 0 where
    pub size : ℕ
    pub head : first_size bytes ≡ size
    pub some : 0 < size
    pub within : place + 5 + size ≤ end
    pub more : List X
    pub read : read_body (take size (drop 5 bytes)) ≡ Some more
    pub left : records_behind read_body (length (drop (5 + size) bytes)) (place + 5 + size) (drop (5 + size) bytes) (items ++ more) ≡ Ok (all, end)

  next-parts : (bodies : List (List ℕ)) (bytes front tail : List ℕ) (items all : List X) (place end : ℕ) → bytes ≡ front ++ tail → IsBlocks front bodies
      → AreRead read_body bodies items all → IsEnding tail → end ≡ place + length front → length items < length all → IsNext bytes items all place end
  next-parts [] bytes front tail items all place end whole is_front are_read ending reached less = absurd (omega (arith, ap length are_read, less))
  next-parts (body ∷ bodies) bytes front tail items all place end whole is_front are_read ending reached less =
      let block = is_front.1 in
      let after : List ℕ = is_front.0 ++ tail in
      let arranged : bytes ≡ 1 ∷ (block.field ++ (body ++ (is_front.0 ++ tail))) =
      whole ∙ ap (λ xs. xs ++ tail) block.whole
      ∙ ap (λ xs. 1 ∷ xs) (append_assoc block.field (body ++ is_front.0) tail ∙ ap (λ xs. block.field ++ xs) (append_assoc body is_front.0 tail)) in
      let width : length (1 ∷ block.field) ≡ 5 = omega (arith, block.width) in
      let body_at : drop 5 bytes ≡ body ++ (is_front.0 ++ tail) = ap (λ xs. drop 5 xs) arranged ∙ drop_at (1 ∷ block.field) (body ++ (is_front.0 ++ tail)) 5 width in
      let both : length body ≡ length body = refl in
      let behind : drop (5 + length body) bytes ≡ is_front.0 ++ tail =
      sym (drop-drop (length body) 5 bytes) ∙ ap (λ xs. drop (length body) xs) body_at ∙ drop_at body (is_front.0 ++ tail) (length body) both in
      let long : length front ≡ 5 + (length body + length is_front.0) =
      omega (arith, ap length block.whole, length-append block.field (body ++ is_front.0), length-append body is_front.0, block.width) in
      let rest : records_behind read_body (length (is_front.0 ++ tail)) (place + 5 + length body) (is_front.0 ++ tail) (items ++ are_read.0) ≡ Ok (all, end) =
      found-reads read_body (is_front.0 ++ tail) (items ++ are_read.0) all (place + 5 + length body) end (record {
        bodies = bodies;
        front = is_front.0;
        tail = tail;
        whole = refl;
        is_front = is_front.2;
        are_read = are_read.2;
        ending = ending;
        reached = omega (arith, reached, long);
      }) in
      record {
        size = length body;
        head = ap first_size arranged ∙ open-size (block.field ++ (body ++ (is_front.0 ++ tail))) (length body)
            (omega (arith, length-append block.field (body ++ (is_front.0 ++ tail)), block.width))
            (number4-append block.field (body ++ (is_front.0 ++ tail)) block.width ∙ block.number);
        some = block.some;
        within = omega (arith, reached, long);
        more = are_read.0;
        read = ap read_body (ap (λ xs. take (length body) xs) body_at ∙ take_at body (is_front.0 ++ tail) (length body) refl) ∙ are_read.1;
        left = ap (λ xs. records_behind read_body (length xs) (place + 5 + length body) xs (items ++ are_read.0)) behind ∙ rest;
      }

  pub next-of : (bytes : List ℕ) (items all : List X) (place end : ℕ) → records_behind read_body (length bytes) place bytes items ≡ Ok (all, end)
      → length items < length all → IsNext bytes items all place end
  next-of bytes items all place end left less =
      let found = found-back read_body (length bytes) place bytes items all end (omega arith) left in
      next-parts found.bodies bytes found.front found.tail items all place end found.whole found.is_front found.are_read found.ending found.reached less

  front-of : (bodies : List (List ℕ)) (items all : List X) → AreRead read_body bodies items all → (rest : List X) × (all ≡ items ++ rest)
  front-of [] items all are_read = ([], sym are_read ∙ sym (append-nil items))
  front-of (body ∷ bodies) items all are_read =
      let more = front-of bodies (items ++ are_read.0) all are_read.2 in
      (are_read.0 ++ more.0, more.1 ∙ append_assoc items are_read.0 more.0)

  -- what was read so far is a front of all
  pub front-read : (bytes : List ℕ) (items all : List X) (place end : ℕ) → records_behind read_body (length bytes) place bytes items ≡ Ok (all, end) → (rest : List X) × (all ≡ items ++ rest)
  front-read bytes items all place end left =
      let found = found-back read_body (length bytes) place bytes items all end (omega arith) left in
      front-of found.bodies items all found.are_read

-- before the first record
pub reached-start : (bytes : List ℕ) (lines : List Line) (end : ℕ) → logged bytes ≡ Ok (lines, end) → IsReached (record { first = 0; next = 0; lines = [] }) bytes lines end
reached-start bytes lines end stands = record { front = []; first = refl; left = stands }

-- the record behind the one that was read last
pub reached-next : (r : Reached) (bytes : List ℕ) (lines : List Line) (end : ℕ) → IsReached r bytes lines end → r.first + length r.lines < length lines
    → (front : List Line) × (length front ≡ r.first + length r.lines) × IsNext lines_in (drop r.next bytes) front lines r.next end
reached-next r bytes lines end reached less = (
  reached.front ++ r.lines,
  omega (arith, reached.first, length-append reached.front r.lines),
  next-of lines_in (drop r.next bytes) (reached.front ++ r.lines) lines r.next end reached.left (omega (arith, reached.first, length-append reached.front r.lines, less)),
)

-- and once it is read
pub reached-more : (r new : Reached) (bytes : List ℕ) (front lines : List Line) (end size : ℕ) (body : List ℕ) (next : IsNext lines_in (drop r.next bytes) front lines r.next end)
    → size ≡ first_size (drop r.next bytes) → body ≡ take size (drop (r.next + 5) bytes) → lines_in body ≡ Some new.lines → length front ≡ new.first → new.next ≡ r.next + 5 + size
    → IsReached new bytes lines end
reached-more r new bytes front lines end size body next is_size is_body read counted place =
    let same : size ≡ next.size = is_size ∙ next.head in
    let body_is : body ≡ take next.size (drop 5 (drop r.next bytes)) = is_body ∙ ap (λ n. take n (drop (r.next + 5) bytes)) same ∙ ap (λ xs. take next.size xs) (sym (drop-drop 5 r.next bytes)) in
    let more : next.more ≡ new.lines = same-some next.more new.lines (sym next.read ∙ ap lines_in (sym body_is) ∙ read) in
    let there : drop (5 + next.size) (drop r.next bytes) ≡ drop new.next bytes = drop-drop (5 + next.size) r.next bytes ∙ ap (λ n. drop n bytes) (omega (arith, place, same)) in
    let at : r.next + 5 + next.size ≡ new.next = omega (arith, place, same) in
    record {
      front = front;
      first = sym counted;
      left = subst (λ ls. records_behind lines_in (length (drop new.next bytes)) new.next (drop new.next bytes) (front ++ ls) ≡ Ok (lines, end)) more
          (subst (λ n. records_behind lines_in (length (drop new.next bytes)) n (drop new.next bytes) (front ++ next.more) ≡ Ok (lines, end)) at
          (subst (λ xs. records_behind lines_in (length xs) (r.next + 5 + next.size) xs (front ++ next.more) ≡ Ok (lines, end)) there next.left));
    }
  where
    same-some : (a b : List Line) → ◌≡◌ {A = Option (List Line)} (Some a) (Some b) → a ≡ b
    same-some a b e = cc

-- such a body can be read
pub next-readable : (r : Reached) (bytes : List ℕ) (front lines : List Line) (end size : ℕ) (body : List ℕ) (next : IsNext lines_in (drop r.next bytes) front lines r.next end)
    → size ≡ first_size (drop r.next bytes) → body ≡ take size (drop (r.next + 5) bytes) → lines_in body ≡ None → ⊥
next-readable r bytes front lines end size body next is_size is_body none =
    let same : size ≡ next.size = is_size ∙ next.head in
    let body_is : body ≡ take next.size (drop 5 (drop r.next bytes)) = is_body ∙ ap (λ n. take n (drop (r.next + 5) bytes)) same ∙ ap (λ xs. take next.size xs) (sym (drop-drop 5 r.next bytes)) in
    never next.more (sym next.read ∙ ap lines_in (sym body_is) ∙ none)
  where
    never : (a : List Line) → ◌≡◌ {A = Option (List Line)} (Some a) None → ⊥
    never a e = cc

-- a disk that tells, by its bytes
pub told-size : (told : List Content) (at size : ℕ) → Tells told → ReadsSize told at size → size ≡ first_size (drop at (read_bytes told))
told-size [] at size tells read = absurd tells
told-size (now ∷ earlier) at size tells read = read

pub told-body : (told : List Content) (at size : ℕ) (body : List ℕ) → Tells told → ReadsBody told at size body → body ≡ take size (drop at (read_bytes told))
told-body [] at size body tells read = absurd tells
told-body (now ∷ earlier) at size body tells read = read

-- a line of the record that was read last
pub reached-line : (r : Reached) (bytes : List ℕ) (lines : List Line) (end k : ℕ) (line : Line) → IsReached r bytes lines end → r.first ≤ k → k < r.first + length r.lines
    → line ≡ get_or r.lines (k - r.first) line → slice_get lines k ≡ Some line
reached-line r bytes lines end k line reached from below is =
    let all = front-read lines_in (drop r.next bytes) (reached.front ++ r.lines) lines r.next end reached.left in
    let whole : lines ≡ reached.front ++ (r.lines ++ all.0) = all.1 ∙ append_assoc reached.front r.lines all.0 in
    let size : length lines ≡ length reached.front + (length r.lines + length all.0) = omega (arith, ap length whole, length-append reached.front (r.lines ++ all.0), length-append r.lines all.0) in
    let here : get_or lines k line ≡ get_or r.lines (k - r.first) line =
    ap (λ xs. get_or xs k line) whole
    ∙ get_or-append_right reached.front (r.lines ++ all.0) r.first k line (sym reached.first) from
    ∙ get_or_append_left r.lines all.0 line (k - r.first) (omega (arith, from, below)) in
    slice_get_read lines (length lines) k line refl (omega (arith, size, reached.first, below)) (is ∙ sym here)

-- no lines could be read
pub no-lines : (read want : Option (List Line)) (size : ℕ) → ((lines : List Line) → read ≡ Some lines → ⊥) → HasLines read want size → want ≡ None
no-lines None want size none h = h
no-lines (Some lines) want size none h = absurd (none lines refl)
