-- A text that is no longer than a line may be holds no line that is too long.
use Rattle.std.proofs.Common.{◌≡◌, ℕ, suc, ◌≤◌, ◌||◌, Bool, true, false, cond, List, [], ◌∷◌, length, min, refl, ap, ◌∙◌, subst, sym, arith}
use Rattle.std.specs.Prelude.{nat_lt}
use Rattle.std.specs.List.{AllByRecursion, onto_first, position_or_len}
use Rattle.std.proofs.lemmas.List.{length-take}
use Rattle.std.proofs.lemmas.Bool.{le-ltb}
use Rattle.ge_limits.specs.Limits.{line_bytes}
use Rattle.ge_model_grammar.specs.ScriptLines.{is_line_feed, put_byte, lines_of, bare, has_long_line}

-- lines of at most so many bytes
abbrev AreWithin : ℕ → List (List ℕ) → Type 0
AreWithin n lines = AllByRecursion (λ line. length line ≤ n) lines

later : (n : ℕ) (lines : List (List ℕ)) → AreWithin n lines → AreWithin (suc n) lines
later n [] all = tt
later n (line ∷ lines) all = (omega (arith, all.0), later n lines all.1)

onto : (b n : ℕ) (lines : List (List ℕ)) → AreWithin n lines → AreWithin (suc n) (onto_first b lines)
onto b n [] all = (omega arith, tt)
onto b n (line ∷ lines) all = (omega (arith, all.0), later n lines all.1)

put : (b n : ℕ) (lines : List (List ℕ)) → AreWithin n lines → AreWithin (suc n) (put_byte b lines)
put b n lines all = by (is_line_feed b)
  where
    by : (feed : Bool) → AreWithin (suc n) (cond feed ((b ∷ []) ∷ lines) (onto_first b lines))
    by true = (omega arith, later n lines all)
    by false = onto b n lines all

-- no line is longer than the text
all_within : (bytes : List ℕ) → AreWithin (length bytes) (lines_of bytes)
all_within [] = tt
all_within (b ∷ bytes) = put b (length bytes) (lines_of bytes) (all_within bytes)

-- a line without its line feed is no longer than with it
bare_within : (n : ℕ) (line : List ℕ) → length line ≤ n → length (bare line) ≤ n
bare_within n line within = let len : length (bare line) ≡ min (position_or_len is_line_feed line) (length line) = length-take _ line in omega (arith, len, within)

none_long : (n : ℕ) (lines : List (List ℕ)) → n ≤ line_bytes → AreWithin n lines → has_long_line lines ≡ false
none_long n [] few all = refl
none_long n (line ∷ lines) few all =
    let short : length (bare line) ≤ line_bytes = let within = bare_within n line all.0 in omega (arith, within, few) in
    (λ i. le-ltb line_bytes (length (bare line)) short i || none_long n lines few all.1 i)

pub no_long_line : (bytes : List ℕ) → length bytes ≤ line_bytes → has_long_line (lines_of bytes) ≡ false
no_long_line bytes few = none_long (length bytes) (lines_of bytes) few (all_within bytes)
