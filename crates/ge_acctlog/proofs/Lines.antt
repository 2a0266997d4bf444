-- How far the lines of a body have been read, and that lines that were written are read again.
use Rattle.std.proofs.Common.{◌≡◌, ℕ, suc, Bool, true, false, get_or, ◌+◌, ◌-◌, ◌<◌, ◌≤◌, List, [], ◌∷◌, ◌++◌, length, take, Some, None, Ok, Err, refl, sym, ap, ◌∙◌, arith, length-append}
use Rattle.std.specs.Prelude.{IsTrue, ◌&&◌}
use Rattle.std.specs.List.{list_all}
use Rattle.std.proofs.lemmas.List.{take_more, flat_map_more}
use Rattle.std.proofs.lemmas.List.Folds.{list_all_more}
use Rattle.byteorder.specs.Endian.{big_bytes}
use Rattle.byteorder.specs.Numbers.{length-bytes_high_first}
use Rattle.ge_model_rows.specs.AccountRows.{Line}
use Rattle.ge_model_codec.specs.Canonical.{AreBytes}
use Rattle.ge_model_codec.specs.Code.{Code, text_code, signed_code, u32_code, u64_code, ◌⊗◌, quadruple_code, quintuple_code}
use Rattle.ge_model_codec.specs.Jobs.{line_code}
use Rattle.ge_model_codec.specs.declared.TakeFault.{TakeFault}
use Rattle.ge_codec.specs.JobLaws.{line_canonical}
use Rattle.ge_model_log.specs.Items.{items_behind}
use Rattle.ge_model_log.specs.Lines.{line_bytes, line_fits, line_reading, lines_behind, lines_in, bytes_of_lines, AreFit}
use Rattle.ge_acctlog.proofs.Items.{last-item, next-item, no-item, written-again}

some_front : (xs ys : List ℕ) → 0 < length xs → 0 < length (xs ++ ys)
some_front xs ys some = omega (arith, length-append xs ys)

-- a text has a count, so it has bytes, and so has what begins with one
some_text : (t : List ℕ) → 0 < length (text_code.write t)
some_text t = some_front (big_bytes 8 (length t)) t (omega (arith, length-bytes_high_first 8 (length t)))

some_quintuple : {X Y Z U V : Type 0} (a : Code X) (b : Code Y) (c : Code Z) (d : Code U) (e : Code V) → ((x : X) → 0 < length (a.write x)) → (t : X × Y × Z × U × V)
    → 0 < length ((quintuple_code a b c d e).write t)
some_quintuple a b c d e some t = some_front (a.write t.0) ((b ⊗ c ⊗ d ⊗ e).write (t.1, (t.2, (t.3, t.4)))) (some t.0)

some_quadruple : {X Y Z U : Type 0} (a : Code X) (b : Code Y) (c : Code Z) (d : Code U) → ((x : X) → 0 < length (a.write x)) → (t : X × Y × Z × U)
    → 0 < length ((quadruple_code a b c d).write t)
some_quadruple a b c d some t = some_front (a.write t.0) ((b ⊗ c ⊗ d).write (t.1, (t.2, t.3))) (some t.0)

-- a line begins with a text
pub some_line : (line : Line) → 0 < length (line_bytes line)
unfolding line_bytes
some_line r =
    some_quadruple
    (quintuple_code text_code text_code text_code text_code text_code)
    (quintuple_code u32_code text_code signed_code u64_code u64_code)
    (quintuple_code u64_code u32_code u32_code text_code text_code)
    (quintuple_code u32_code u32_code u64_code u64_code u64_code)
    (λ t. some_quintuple text_code text_code text_code text_code text_code some_text t) (
      (r.queue, r.host, r.group, r.owner, r.name),
      (r.job, r.account, r.priority, r.submitted, r.start),
      (r.end, r.failed, r.exit, r.project, r.pe),
      (r.slots, r.task, r.cpu, r.mem, r.io),
    )

-- lines that were written are read again
pub lines-again : (lines : List Line) (body : List ℕ) → AreFit lines → 0 < length lines → body ≡ bytes_of_lines lines → lines_in body ≡ Some lines
unfolding line_bytes line_fits lines_in
lines-again [] body fits some is = absurd (omega arith)
lines-again (line ∷ lines) body fits some is = written-again line_code line_canonical (λ x. some_line x) lines line body fits is

step-last : (steps : ℕ) (bytes : List ℕ) (at : ℕ) (lines : List Line) (line : Line) (end : ℕ) → line_reading bytes at ≡ Ok (line, end) → end ≡ length bytes
    → lines_behind (suc steps) bytes at lines ≡ Some (lines ++ line ∷ [])
unfolding line_reading lines_behind
step-last steps bytes at lines line end read last =
    last-item line_code (line_code.read bytes at) line end (length bytes) lines (items_behind line_code steps bytes) read last

step-next : (steps : ℕ) (bytes : List ℕ) (at : ℕ) (lines : List Line) (line : Line) (end : ℕ) → line_reading bytes at ≡ Ok (line, end) → (end ≡ length bytes → ⊥)
    → lines_behind (suc steps) bytes at lines ≡ lines_behind steps bytes end (lines ++ line ∷ [])
unfolding line_reading lines_behind
step-next steps bytes at lines line end read apart =
    next-item line_code (line_code.read bytes at) line end (length bytes) lines (items_behind line_code steps bytes) read apart

step-none : (steps : ℕ) (bytes : List ℕ) (at : ℕ) (lines : List Line) (fault : TakeFault) → line_reading bytes at ≡ Err fault → lines_behind (suc steps) bytes at lines ≡ None
unfolding line_reading lines_behind
step-none steps bytes at lines fault read =
    no-item line_code (line_code.read bytes at) fault (length bytes) lines (items_behind line_code steps bytes) read

-- a line takes a byte at least
pub reads-on : (bytes : List ℕ) (at : ℕ) (line : Line) (end : ℕ) → AreBytes bytes → at ≤ length bytes → line_reading bytes at ≡ Ok (line, end) → at < end
unfolding line_reading line_bytes
reads-on bytes at line end are inside read = omega (arith, (line_canonical.writes_back bytes at line end are inside read).ends, some_line line)

-- the lines up to a place are read
pub record HasTaken (bytes : List ℕ) (at : ℕ) (lines : List Line) : Type 0 where
  pub steps : ℕ
  pub enough : length bytes < steps + at
  pub left : lines_behind steps bytes at lines ≡ lines_in bytes
  pub few : length lines ≤ at

whole-from : (bytes : List ℕ) → lines_behind (suc (length bytes)) bytes 0 [] ≡ lines_in bytes
unfolding lines_behind lines_in
whole-from bytes = refl

pub taken-none : (bytes : List ℕ) → HasTaken bytes 0 []
taken-none bytes = record { steps = suc (length bytes); enough = omega arith; left = whole-from bytes; few = omega arith }

one-left : (bytes : List ℕ) (at : ℕ) (lines : List Line) (h : HasTaken bytes at lines) → at ≤ length bytes → (n : ℕ) × (h.steps ≡ suc n)
one-left bytes at lines h inside = (h.steps - 1, omega (arith, h.enough))

pub taken-last : (bytes : List ℕ) (at : ℕ) (lines : List Line) (line : Line) (end : ℕ) → HasTaken bytes at lines → at ≤ length bytes
    → line_reading bytes at ≡ Ok (line, end) → end ≡ length bytes → lines_in bytes ≡ Some (lines ++ line ∷ [])
taken-last bytes at lines line end h inside read last =
    let n = one-left bytes at lines h inside in
    sym h.left ∙ ap (λ k. lines_behind k bytes at lines) n.1 ∙ step-last n.0 bytes at lines line end read last

pub taken-next : (bytes : List ℕ) (at : ℕ) (lines : List Line) (line : Line) (end : ℕ) → HasTaken bytes at lines → AreBytes bytes → at ≤ length bytes
    → line_reading bytes at ≡ Ok (line, end) → (end ≡ length bytes → ⊥) → HasTaken bytes end (lines ++ line ∷ [])
taken-next bytes at lines line end h are inside read apart =
    let n = one-left bytes at lines h inside in
    let on : at < end = reads-on bytes at line end are inside read in
    record {
      steps = n.0;
      enough = omega (arith, h.enough, n.1, on);
      left = sym (step-next n.0 bytes at lines line end read apart) ∙ ap (λ k. lines_behind k bytes at lines) (sym n.1) ∙ h.left;
      few = omega (arith, h.few, on, length-append lines (line ∷ []));
    }

pub taken-bad : (bytes : List ℕ) (at : ℕ) (lines : List Line) (fault : TakeFault) → HasTaken bytes at lines → at ≤ length bytes
    → line_reading bytes at ≡ Err fault → lines_in bytes ≡ None
taken-bad bytes at lines fault h inside read =
    let n = one-left bytes at lines h inside in
    sym h.left ∙ ap (λ k. lines_behind k bytes at lines) n.1 ∙ step-none n.0 bytes at lines fault read

pub smaller : (n at end : ℕ) → at < end → end ≤ n → n - end < n - at
smaller n at end on within = omega arith

-- one line more is put
pub put-more : (lines : List Line) (i : ℕ) (body : List ℕ) (line : Line) → i < length lines → line ≡ get_or lines i line → body ≡ bytes_of_lines (take i lines)
    → body ++ line_bytes line ≡ bytes_of_lines (take (i + 1) lines)
put-more lines i body line below is so_far =
    let more : take (i + 1) lines ≡ take i lines ++ line ∷ [] = take_more lines i line below ∙ ap (λ x. take i lines ++ x ∷ []) (sym is) in
    ap (λ xs. xs ++ line_bytes line) so_far
    ∙ flat_map_more line_bytes [] (take i lines) line
    ∙ ap bytes_of_lines (sym more)

-- and fits
pub fits-more : (lines : List Line) (i : ℕ) (line : Line) → i < length lines → line ≡ get_or lines i line → AreFit (take i lines) → IsTrue (line_fits line)
    → AreFit (take (i + 1) lines)
fits-more lines i line below is so_far fits =
    let one : line_fits (get_or lines i line) ≡ true = ap line_fits (sym is) ∙ fits in
    list_all_more line_fits lines i line below ∙ ap (λ b. list_all line_fits (take i lines) && b) one ∙ and-one (list_all line_fits (take i lines)) so_far
  where
    and-one : (b : Bool) → b ≡ true → (b && true) ≡ true
    and-one true e = refl
    and-one false e = e
