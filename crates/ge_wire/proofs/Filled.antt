-- A part of a buffer that is filled, and a buffer that is full.
use Rattle.std.proofs.Common.{◌≡◌, ℕ, ◌+◌, ◌≤◌, List, [], ◌∷◌, ◌++◌, length, take, drop, refl, sym, ap, ◌∙◌, append_assoc, arith, Option, Some, None}
use Rattle.std.proofs.lemmas.List.{take-append-drop, take-append-le}
use Rattle.std.proofs.Math.Seq.{take-append_seam, take-append-add}
use Rattle.ge_outside.specs.Streams.{Takes}
use Rattle.ge_model_grammar.specs.Sources.{Moved}

-- what was taken from the front of a source stands behind what was filled before
pub moved-behind : (old new : Option (List ℕ)) (n : ℕ) (before after front : List ℕ) → Takes n old new before after → Moved old new front (front ++ take n after)
moved-behind None None n before after front takes = tt
moved-behind None (Some new) n before after front takes = absurd takes
moved-behind (Some old) None n before after front takes = absurd takes
moved-behind (Some old) (Some new) n before after front takes =
    ap (λ xs. front ++ xs) (sym (take-append-drop n old)) ∙ sym (append_assoc front (take n old) (drop n old)) ∙ ap (λ xs. (front ++ xs) ++ drop n old) (sym takes.moved) ∙ ap (λ xs. (front ++ take n after) ++ xs) (sym takes.left)

-- A buffer is a front that was filled, a piece, and what stands behind it; the piece becomes another one as long, which
-- begins with what was taken.
pub fills : (old new : Option (List ℕ)) (before after front piece filled back : List ℕ) (done n : ℕ) → before ≡ front ++ (piece ++ back) → after ≡ front ++ (filled ++ back) → length front ≡ done
    → n ≤ length piece → length filled ≡ length piece → Takes n old new piece filled → Moved old new (take done before) (take (done + n) after)
fills old new before after front piece filled back done n cut now long within same takes =
    let was : take done before ≡ front = ap (λ xs. take done xs) cut ∙ ap (λ m. take m (front ++ (piece ++ back))) (sym long) ∙ take-append_seam front (piece ++ back) in
    let is : take (done + n) after ≡ front ++ take n filled =
    ap (λ xs. take (done + n) xs) now ∙ ap (λ m. take (m + n) (front ++ (filled ++ back))) (sym long) ∙ take-append-add front (filled ++ back) n
    ∙ ap (λ xs. front ++ xs) (take-append-le n filled back (omega (arith, within, same))) in
    rw was (rw is (moved-behind old new n piece filled front takes))

-- nothing was taken yet
pub moved_none : (rest : Option (List ℕ)) (front : List ℕ) → Moved rest rest front front
moved_none None front = tt
moved_none (Some rest) front = refl

-- two moves, one after the other
pub moved_twice : (a b c : Option (List ℕ)) (before between after : List ℕ) → Moved a b before between → Moved b c between after → Moved a c before after
moved_twice None None None before between after first second = tt
moved_twice None None (Some c) before between after first second = absurd second
moved_twice None (Some b) c before between after first second = absurd first
moved_twice (Some a) None c before between after first second = absurd first
moved_twice (Some a) (Some b) None before between after first second = absurd second
moved_twice (Some a) (Some b) (Some c) before between after first second = first ∙ second

-- what was taken by itself stands behind what stood before
pub moved_onto : (a b : Option (List ℕ)) (before taken : List ℕ) → Moved a b [] taken → Moved a b before (before ++ taken)
moved_onto None None before taken first = tt
moved_onto None (Some b) before taken first = absurd first
moved_onto (Some a) None before taken first = absurd first
moved_onto (Some a) (Some b) before taken first = ap (λ xs. before ++ xs) first ∙ sym (append_assoc before taken b)

-- what stood in front still does when more is set behind
pub kept_longer : (n : ℕ) (before bytes more : List ℕ) → n ≤ length bytes → take n bytes ≡ before → take n (bytes ++ more) ≡ before
kept_longer n before bytes more within kept = take-append-le n bytes more within ∙ kept
