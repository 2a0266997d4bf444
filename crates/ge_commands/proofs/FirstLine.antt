-- What stands behind the first line.
use Rattle.std.proofs.Common.{◌≡◌, ◌≤◌, ◌+◌, ℕ, List, length, drop, min, ap, ◌∙◌, arith}
use Rattle.std.proofs.lemmas.List.{length-take, drop_min}
use Rattle.std.proofs.lemmas.List.Sums.{prefix_len-le-length}
use Rattle.std.specs.Prelude.{◌==◌}
use Rattle.std.specs.List.{position_or_len}
use Rattle.ge_model_rows.specs.Pieces.{before_byte, behind_byte}

within : (b : ℕ) (text : List ℕ) → position_or_len (λ c. c == b) text ≤ length text
within b text = prefix_len-le-length _ text

pub behind_is : (b at : ℕ) (text line : List ℕ) → line ≡ before_byte b text → at ≡ min (length line + 1) (length text) → drop at text ≡ behind_byte b text
behind_is b at text line is ends =
    let place = position_or_len (λ c. c == b) text in
    let len : length (before_byte b text) ≡ min place (length text) = length-take place text in
    let same : length line ≡ place = let e = ap (λ (xs : List ℕ). length xs) is in let w = within b text in omega (arith, e, len, w) in
    ap (λ (n : ℕ). drop n text) ends ∙ drop_min (length line + 1) text ∙ ap (λ (n : ℕ). drop (n + 1) text) same
