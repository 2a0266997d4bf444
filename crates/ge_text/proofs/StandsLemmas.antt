-- The test of a pattern says what the pattern stands for.
use Rattle.std.proofs.Common.{◌≡◌, ℕ, ◌↔◌, ◌==◌, Bool, true, List, [], ◌∷◌, ◌++◌, take, drop, IsTrue, refl, ap, sym}
use Rattle.std.proofs.lemmas.Bool.{and_parts, and_from, eqb-true, eq-eqb}
use Rattle.std.proofs.lemmas.List.{take-append-drop}
use Rattle.ge_model_text.specs.Pattern.{Piece, Many, One, Exactly, Among, covers, some_end, in_set, StandsFor}
use Rattle.ge_text.proofs.PatternLemmas.{some_end-place, some_end-later, some_end-here}

stands : (pieces : List Piece) (name : List ℕ) → covers pieces name ≡ true → StandsFor pieces name
stands [] [] passes = refl
stands [] (b ∷ rest) passes = absurd (cc)
stands (Many ∷ pieces) name passes =
    let found = some_end-place (covers pieces) name passes in
    (take found.0 name, drop found.0 name, sym (take-append-drop found.0 name), stands pieces (drop found.0 name) found.1)
stands (One ∷ pieces) [] passes = absurd (cc)
stands (One ∷ pieces) (b ∷ rest) passes = (b, rest, refl, stands pieces rest passes)
stands (Exactly byte ∷ pieces) [] passes = absurd (cc)
stands (Exactly byte ∷ pieces) (b ∷ rest) passes =
    let parts = and_parts (b == byte) (covers pieces rest) passes in
    (rest, ap (λ c. c ∷ rest) (eqb-true b byte parts.0), stands pieces rest parts.1)
stands (Among set ∷ pieces) [] passes = absurd (cc)
stands (Among set ∷ pieces) (b ∷ rest) passes =
    let parts = and_parts (in_set set b) (covers pieces rest) passes in
    (b, rest, refl, parts.0, stands pieces rest parts.1)

some_end-append : (test : List ℕ → Bool) (skipped rest : List ℕ) → test rest ≡ true → some_end test (skipped ++ rest) ≡ true
some_end-append test [] rest passes = some_end-here test rest passes
some_end-append test (x ∷ skipped) rest passes = some_end-later test x (skipped ++ rest) (some_end-append test skipped rest passes)

covered : (pieces : List Piece) (name : List ℕ) → StandsFor pieces name → covers pieces name ≡ true
covered [] name h = rw h refl
covered (Many ∷ pieces) name h = rw h.2 (some_end-append (covers pieces) h.0 h.1 (covered pieces h.1 h.3))
covered (One ∷ pieces) name h = rw h.2 (covered pieces h.1 h.3)
covered (Exactly byte ∷ pieces) name h = rw h.1 (and_from (byte == byte) (covers pieces h.0) (eq-eqb byte byte refl) (covered pieces h.0 h.2))
covered (Among set ∷ pieces) name h = rw h.2 (and_from (in_set set h.0) (covers pieces h.1) h.3 (covered pieces h.1 h.4))

pub covers_stands : (pieces : List Piece) (name : List ℕ) → (IsTrue (covers pieces name) ↔ StandsFor pieces name)
covers_stands pieces name = (stands pieces name, covered pieces name)
