-- A reply that begins as want of memory does is one.
use Rattle.std.proofs.Common.{◌≡◌, ℕ, zero, suc, ◌+◌, ◌/◌, ◌%◌, ◌<◌, ◌≤◌, ◌==◌, Bool, true, false, if◌then◌else◌, List, [], ◌∷◌, ◌++◌, length, flat_map, refl, ◌∙◌, sym, append_assoc, arith}
use Rattle.std.specs.Prelude.{nat_lt, decimal}
use Rattle.std.specs.Fmt.{digits, digits_onto, digit_glyph}
use Rattle.std.proofs.lemmas.Bool.{eqb-true}
use Rattle.std.proofs.lemmas.List.{length-append}
use Rattle.ge_base.specs.declared.refusal.Refusal.TheVariants.{NoMemory}
use Rattle.ge_model_rows.specs.EventRows.{Reply}
use Rattle.ge_model_core.specs.Refusals.{refusal_reply}
use Rattle.ge_model_core.specs.Render.{rendered, rendered_line}

-- none is a blank or any other byte below the digits
abbrev AreHigh : List ℕ → Type 0
AreHigh [] = Unit {0}
AreHigh (x ∷ xs) = (48 ≤ x) × AreHigh xs

glyph-high : (d : ℕ) → 48 ≤ digit_glyph false d
glyph-high d = by (nat_lt d 10)
  where
    by : (t : Bool) → 48 ≤ (if t then 48 + d else 87 + d)
    by true = omega arith
    by false = omega arith

glyph-nine : (d : ℕ) → digit_glyph false d ≡ 57 → d ≡ 9
glyph-nine d is = by (nat_lt d 10) is
  where
    by : (t : Bool) → (if t then 48 + d else 87 + d) ≡ 57 → d ≡ 9
    by true is = omega (arith, is)
    by false is = absurd (omega (arith, is))

-- digits in front of some: they are high where those are, and no fewer
record AreDigits (least : ℕ) (xs : List ℕ) : Type 0 where
  high : AreHigh xs
  many : least ≤ length xs

one-before : (n : ℕ) (acc ds : List ℕ) → AreHigh acc → AreDigits (length acc + 1) ds → (t : Bool) → AreDigits (length acc + 1) (if t then digit_glyph false (n % 10) ∷ acc else ds)
one-before n acc ds high more true = record { high = (glyph-high (n % 10), high); many = omega arith }
one-before n acc ds high more false = more

fewer : (least : ℕ) (ds : List ℕ) → AreDigits (least + 1) ds → AreDigits least ds
fewer least ds d = record { high = d.high; many = omega (arith, d.many) }

digits-before : (k n : ℕ) (acc : List ℕ) → AreHigh acc → AreDigits (length acc) (digits_onto k 10 false n acc)
digits-before zero n acc high = record { high = high; many = omega arith }
digits-before (suc k) n acc high =
    fewer (length acc) (digits_onto (suc k) 10 false n acc)
    (one-before n acc (digits_onto k 10 false (n / 10) (digit_glyph false (n % 10) ∷ acc)) high (longer (digits-before k (n / 10) (digit_glyph false (n % 10) ∷ acc) (glyph-high (n % 10), high))) (n / 10 == 0))
  where
    longer : AreDigits (length (digit_glyph false (n % 10) ∷ acc)) (digits_onto k 10 false (n / 10) (digit_glyph false (n % 10) ∷ acc)) → AreDigits (length acc + 1) (digits_onto k 10 false (n / 10) (digit_glyph false (n % 10) ∷ acc))
    longer d = record { high = d.high; many = omega (arith, d.many) }

-- three digits aren't two and a blank
no-blank-third : (ds xs ys : List ℕ) → AreDigits 3 ds → ds ++ xs ≡ 57 ∷ 57 ∷ 32 ∷ ys → ⊥
no-blank-third [] xs ys d is = omega (arith, d.many)
no-blank-third (x ∷ []) xs ys d is = omega (arith, d.many)
no-blank-third (x ∷ y ∷ []) xs ys d is = omega (arith, d.many)
no-blank-third (x ∷ y ∷ z ∷ ds) xs ys d is = let same : z ≡ 32 = cc in omega (arith, same, d.high.1.1.0)

digits-before-more : (k n : ℕ) (acc : List ℕ) → AreHigh acc → AreDigits (length acc + 1) (digits_onto (suc k) 10 false n acc)
digits-before-more k n acc high =
    let d = digits-before k (n / 10) (digit_glyph false (n % 10) ∷ acc) (glyph-high (n % 10), high) in
    one-before n acc (digits_onto k 10 false (n / 10) (digit_glyph false (n % 10) ∷ acc)) high (record { high = d.high; many = omega (arith, d.many) }) (n / 10 == 0)

no-second : (x y : ℕ) (xs ys : List ℕ) → x ∷ 32 ∷ xs ≡ y ∷ 57 ∷ ys → ⊥
no-second x y xs ys is = cc

-- digits that a blank follows, of which there are two nines
nines : (n : ℕ) (xs ys : List ℕ) → decimal n ++ 32 ∷ xs ≡ 57 ∷ 57 ∷ 32 ∷ ys → n ≡ 99
unfolding digits
nines n xs ys is = by (n / 10 == 0) refl is
  where
    d1 : ℕ
    d1 = digit_glyph false (n % 10)

    d2 : ℕ
    d2 = digit_glyph false (n / 10 % 10)

    two : (t : Bool) → (n / 10 / 10 == 0) ≡ t
        → (if t then digit_glyph false (n / 10 % 10) ∷ digit_glyph false (n % 10) ∷ [] else digits_onto 62 10 false (n / 10 / 10) (digit_glyph false (n / 10 % 10) ∷ digit_glyph false (n % 10) ∷ [])) ++ 32 ∷ xs ≡ 57 ∷ 57 ∷ 32 ∷ ys → n ≡ 99
    two true none is =
        let first : digit_glyph false (n / 10 % 10) ≡ 57 = cc in
        let second : digit_glyph false (n % 10) ≡ 57 = cc in
        omega (arith, eqb-true (n / 10 / 10) 0 none, glyph-nine (n / 10 % 10) first, glyph-nine (n % 10) second)
    two false some is = absurd (no-blank-third _ (32 ∷ xs) ys
        (digits-before-more 61 (n / 10 / 10) (digit_glyph false (n / 10 % 10) ∷ digit_glyph false (n % 10) ∷ []) (glyph-high (n / 10 % 10), (glyph-high (n % 10), tt))) is)

    by : (t : Bool) → (n / 10 == 0) ≡ t
        → (if t then digit_glyph false (n % 10) ∷ [] else digits_onto 63 10 false (n / 10) (digit_glyph false (n % 10) ∷ [])) ++ 32 ∷ xs ≡ 57 ∷ 57 ∷ 32 ∷ ys → n ≡ 99
    by true none is = absurd (no-second (digit_glyph false (n % 10)) 57 xs (32 ∷ ys) is)
    by false some is = two (n / 10 / 10 == 0) refl is

-- a reply is its code, a blank and more
pub code-first : (r : Reply) (xs : List ℕ) → (more : List ℕ) × (rendered r ++ xs ≡ decimal r.code ++ 32 ∷ more)
unfolding rendered
code-first r xs =
    let count = decimal (length r.lines) in
    let lines = flat_map rendered_line r.lines in (
      count ++ (10 ∷ (lines ++ xs)),
      append_assoc (decimal r.code ++ 32 ∷ [] ++ count ++ 10 ∷ []) lines xs
          ∙ append_assoc (decimal r.code ++ 32 ∷ [] ++ count) (10 ∷ []) (lines ++ xs)
          ∙ append_assoc (decimal r.code ++ 32 ∷ []) count (10 ∷ (lines ++ xs))
          ∙ append_assoc (decimal r.code) (32 ∷ []) (count ++ (10 ∷ (lines ++ xs))),
    )

pub rendered-some : (r : Reply) → 0 < length (rendered r)
unfolding rendered
rendered-some r =
    let count = decimal (length r.lines) in
    omega (arith, length-append (decimal r.code ++ 32 ∷ [] ++ count ++ 10 ∷ []) (flat_map rendered_line r.lines), length-append (decimal r.code ++ 32 ∷ [] ++ count) (10 ∷ []))

memory-begins : (ys : List ℕ) → (more : List ℕ) × (rendered (refusal_reply NoMemory) ++ ys ≡ 57 ∷ 57 ∷ 32 ∷ more)
unfolding rendered digits
memory-begins ys = (_, refl)

-- only a reply with the code of want of memory begins as that does
pub tells-memory : (r : Reply) (xs ys : List ℕ) → rendered r ++ xs ≡ rendered (refusal_reply NoMemory) ++ ys → r.code ≡ 99
tells-memory r xs ys is =
    let left = code-first r xs in
    let right = memory-begins ys in
    nines r.code left.0 right.0 (sym left.1 ∙ is ∙ right.1)
