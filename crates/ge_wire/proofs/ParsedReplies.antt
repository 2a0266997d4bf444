-- A reply is read of its rendering, and a text that is read is one.
use Rattle.std.proofs.Common.{◌≡◌, ℕ, ◌<◌, Bool, true, false, if◌then◌else◌, List, [], ◌∷◌, ◌++◌, length, Option, Some, None, option_map, Result, Ok, Err, decimal, refl, ap, sym, ◌∙◌, subst, arith, append_assoc, append-nil, true≢false}
use Rattle.std.specs.Prelude.{◌==◌, ◌&&◌, ◌||◌, nat_lt, flat_map}
use Rattle.std.specs.Cmp.Lexicographic.{same_text}
use Rattle.std.proofs.lemmas.Bool.{eqb-true, eq-eqb, lt-ltb}
use Rattle.std.proofs.lemmas.List.Folds.{list_any-append}
use Rattle.ge_collections.specs.Keyed.{text_eq}
use Rattle.ge_model_rows.specs.EventRows.{Reply}
use Rattle.ge_model_rows.specs.Pieces.{has_byte, before_byte, number_of}
use Rattle.ge_model_rows.proofs.Digits.{AreWithout, decimal_digits, decimal_worth, all_digits, digits_without, before_it}
use Rattle.ge_model_core.specs.Render.{rendered_line, rendered}
use Rattle.ge_wire.specs.Replies.{lines_from, reply_head, reply_with, reply_of, reply_in, IsReply, Reads, ParsesReply}
use Rattle.ge_wire.specs.declared.parsing.ReplyFault.{ReplyFault}
use Rattle.ge_wire.specs.declared.parsing.ReplyFault.TheVariants.{Bad, NoMemory}

-- ---- lines are cut

-- one byte more
step : (line text : List ℕ) (b : ℕ) (x : Bool) → (b == 10) ≡ x
    → lines_from line (b ∷ text) ≡ elim x as (λ x. Option (List (List ℕ))) [ true ↦ option_map (λ lines. line ∷ lines) (lines_from [] text) | false ↦ lines_from (line ++ b ∷ []) text ]
step [] text b x is = ap (λ (y : Bool). elim y as (λ x. Option (List (List ℕ))) [ true ↦ option_map (λ lines. [] ∷ lines) (lines_from [] text) | false ↦ lines_from ([] ++ b ∷ []) text ]) is
step (c ∷ line) text b x is = ap (λ (y : Bool). elim y as (λ x. Option (List (List ℕ))) [ true ↦ option_map (λ lines. (c ∷ line) ∷ lines) (lines_from [] text) | false ↦ lines_from ((c ∷ line) ++ b ∷ []) text ]) is

neither : (u v : Bool) → (u || v) ≡ false → (u ≡ false) × (v ≡ false)
neither true v h = absurd (true≢false h)
neither false v h = (refl, h)

-- a line goes in front of those behind it
one_line : (so_far line text : List ℕ) → has_byte 10 line ≡ false → lines_from so_far (line ++ 10 ∷ text) ≡ option_map (λ lines. (so_far ++ line) ∷ lines) (lines_from [] text)
one_line so_far [] text none = step so_far text 10 true refl ∙ ap (λ l. option_map (λ lines. l ∷ lines) (lines_from [] text)) (sym (append-nil so_far))
one_line so_far (b ∷ line) text none =
    let parts = neither (b == 10) (has_byte 10 line) none in
    step so_far (line ++ 10 ∷ text) b false parts.0
    ∙ one_line (so_far ++ b ∷ []) line text parts.1
    ∙ ap (λ l. option_map (λ lines. l ∷ lines) (lines_from [] text)) (append_assoc so_far (b ∷ []) line)

lines_back : (lines : List (List ℕ)) → AreWithout 10 lines → lines_from [] (flat_map rendered_line lines) ≡ Some lines
lines_back [] all = refl
lines_back (line ∷ lines) all =
    ap (λ text. lines_from [] text) (append_assoc line (10 ∷ []) (flat_map rendered_line lines))
    ∙ one_line [] line (flat_map rendered_line lines) all.0
    ∙ ap (λ o. option_map (λ ls. line ∷ ls) o) (lines_back lines all.1)

-- what is cut is the text, and has no line feed but those behind the lines
abbrev Whole : List ℕ → List (List ℕ) → Type 0
Whole text lines = (flat_map rendered_line lines ≡ text) × AreWithout 10 lines

lines_whole : (so_far text : List ℕ) (lines : List (List ℕ)) → has_byte 10 so_far ≡ false → lines_from so_far text ≡ Some lines → Whole (so_far ++ text) lines
lines_whole [] [] lines bare is = let none : [] ≡ lines = cc in subst (λ ls. Whole [] ls) none (refl, tt)
lines_whole (b ∷ line) [] lines bare is = cc
lines_whole so_far (b ∷ text) lines bare is = by (b == 10) refl (λ rest e. lines_whole [] text rest refl e) (lines_whole (so_far ++ b ∷ []) text lines)
  where
    cut : (o : Option (List (List ℕ))) → b ≡ 10 → ((rest : List (List ℕ)) → o ≡ Some rest → Whole text rest) → option_map (λ lines. so_far ∷ lines) o ≡ Some lines → Whole (so_far ++ b ∷ text) lines
    cut None feed behind is = cc
    cut (Some rest) feed behind is =
        let same : so_far ∷ rest ≡ lines = cc in
        let more = behind rest refl in
        subst (λ ls. Whole (so_far ++ b ∷ text) ls) same
        (append_assoc so_far (10 ∷ []) (flat_map rendered_line rest) ∙ (λ i. so_far ++ (sym feed i ∷ more.0 i)), (bare, more.1))

    by : (x : Bool) → (b == 10) ≡ x → ((rest : List (List ℕ)) → lines_from [] text ≡ Some rest → Whole text rest)
        → (has_byte 10 (so_far ++ b ∷ []) ≡ false → lines_from (so_far ++ b ∷ []) text ≡ Some lines → Whole ((so_far ++ b ∷ []) ++ text) lines)
        → Whole (so_far ++ b ∷ text) lines
    by true feed behind more = cut (lines_from [] text) (eqb-true b 10 feed) behind (sym (step so_far text b true feed) ∙ is)
    by false other behind more =
        subst (λ t. Whole t lines) (append_assoc so_far (b ∷ []) text)
        (more (list_any-append (λ x. x == 10) so_far (b ∷ []) ∙ (λ i. bare i || (other i || false))) (sym (step so_far text b false other) ∙ is))

-- ---- the first line

bare : (n : ℕ) → has_byte 10 (decimal n) ≡ false
bare n = digits_without 10 (decimal n) refl (all_digits (decimal n) (decimal_digits n))

head_bare : (code count : ℕ) → has_byte 10 (reply_head code count) ≡ false
head_bare code count = list_any-append (λ b. b == 10) (decimal code) (32 ∷ decimal count) ∙ (λ i. bare code i || (false || bare count i))

text_same : (xs : List ℕ) → text_eq xs xs ≡ true
text_same [] = refl
text_same (x ∷ xs) = λ i. eq-eqb x x refl i && text_same xs i

-- a reply begins with its first line
begins : (r : Reply) → rendered r ≡ reply_head r.code (length r.lines) ++ 10 ∷ flat_map rendered_line r.lines
unfolding rendered
begins r =
    append_assoc ((decimal r.code ++ 32 ∷ []) ++ decimal (length r.lines)) (10 ∷ []) (flat_map rendered_line r.lines)
    ∙ ap (λ h. h ++ 10 ∷ flat_map rendered_line r.lines) (append_assoc (decimal r.code) (32 ∷ []) (decimal (length r.lines)))

chosen : (r : Reply) → r.code < 256 → reply_with (number_of (before_byte 32 (reply_head r.code (length r.lines)))) (reply_head r.code (length r.lines)) r.lines ≡ Some r
chosen r small =
    let head : before_byte 32 (reply_head r.code (length r.lines)) ≡ decimal r.code = before_it 32 (decimal r.code) (decimal (length r.lines)) (digits_without 32 (decimal r.code) refl (all_digits (decimal r.code) (decimal_digits r.code))) in
    let worth : number_of (before_byte 32 (reply_head r.code (length r.lines))) ≡ r.code = ap number_of head ∙ decimal_worth r.code (omega (arith, small)) in
    ap (λ code. reply_with code (reply_head r.code (length r.lines)) r.lines) worth
    ∙ (λ i. if lt-ltb r.code 256 small i && text_same (reply_head r.code (length r.lines)) i then Some r else None)

read_back : (r : Reply) → IsReply r → reply_in (rendered r) ≡ Some r
unfolding reply_in
read_back r is =
    ap (λ text. reply_of (lines_from [] text)) (begins r)
    ∙ ap reply_of (one_line [] (reply_head r.code (length r.lines)) (flat_map rendered_line r.lines) (head_bare r.code (length r.lines)))
    ∙ ap (λ o. reply_of (option_map (λ ls. reply_head r.code (length r.lines) ∷ ls) o)) (lines_back r.lines is.lines)
    ∙ chosen r is.code

-- a text that is read is the rendering of what is read
read_alone : (text : List ℕ) (r : Reply) → reply_in text ≡ Some r → (rendered r ≡ text) × AreWithout 10 r.lines
unfolding reply_in
read_alone text r is = by (lines_from [] text) (λ ls e. lines_whole [] text ls refl e) is
  where
    test : (code : ℕ) (head : List ℕ) (lines : List (List ℕ)) (a b : Bool) → text_eq head (reply_head code (length lines)) ≡ b → Whole text (head ∷ lines)
        → (if a && b then Some (record { code = code; lines = lines }) else None) ≡ Some r → (rendered r ≡ text) × AreWithout 10 r.lines
    test code head lines true true same whole is =
        let one : record { code = code; lines = lines } ≡ r = cc in
        let first : head ≡ reply_head code (length lines) = same_text head (reply_head code (length lines)) (sym same) in (
          ap rendered (sym one)
              ∙ begins (record { code = code; lines = lines })
              ∙ ap (λ h. h ++ 10 ∷ flat_map rendered_line lines) (sym first)
              ∙ sym (append_assoc head (10 ∷ []) (flat_map rendered_line lines))
              ∙ whole.0,
          subst (λ x. AreWithout 10 x.lines) one whole.1.1,
        )
    test code head lines true false same whole is = cc
    test code head lines false b same whole is = cc

    by : (o : Option (List (List ℕ))) → ((ls : List (List ℕ)) → o ≡ Some ls → Whole text ls) → reply_of o ≡ Some r → (rendered r ≡ text) × AreWithout 10 r.lines
    by None whole is = cc
    by (Some []) whole is = cc
    by (Some (head ∷ lines)) whole is =
        test (number_of (before_byte 32 head)) head lines (nat_lt (number_of (before_byte 32 head)) 256) (text_eq head (reply_head (number_of (before_byte 32 head)) (length lines))) refl (whole (head ∷ lines) refl) is

pub parsed_reply : (text : List ℕ) (result : Result Reply ReplyFault) → Reads result (reply_in text) → ParsesReply result text
parsed_reply text (Ok r) read = read_alone text r read
parsed_reply text (Err Bad) none = λ r is same. let back : reply_in text ≡ Some r = ap reply_in (sym same) ∙ read_back r is in cc
parsed_reply text (Err NoMemory) any = tt
