-- Bytes that go over in parts, where those that a writer holds or a reader has left are known.
use Rattle.std.proofs.Common.{◌≡◌, ◌∙◌, ◌+◌, ◌≤◌, ◌++◌, ℕ, List, [], Option, length, take, drop, ap, sym, subst, take-add, take_all, take_at, drop_at}
use Rattle.std.proofs.KnownBytes.{Appends-nil, Appends-trans, Consumes-nil, Consumes-trans}
use Rattle.std.specs.Io.KnownBytes.{Appends, Consumes}

-- none of a piece
pub appends_nothing : (a : Option (List ℕ)) (piece : List ℕ) → Appends a a (take 0 piece)
appends_nothing a piece = Appends-nil a

-- a front of a piece, and then a front of what was left of it
pub appends_more : (a b c : Option (List ℕ)) (piece rest : List ℕ) (done more : ℕ) → Appends a b (take done piece)
    → rest ≡ drop done piece → Appends b c (take more rest) → Appends a c (take (done + more) piece)
appends_more a b c piece rest done more first left second =
    rw (take-add done more piece) (Appends-trans a b c (take done piece) (take more (drop done piece)) first
    (subst (λ r. Appends b c (take more r)) left second))

-- a front that is all of it
pub appends_whole : (a b : Option (List ℕ)) (piece : List ℕ) (done : ℕ) → Appends a b (take done piece) → length piece ≤ done → Appends a b piece
appends_whole a b piece done front all = subst (λ p. Appends a b p) (take_all done piece all) front

-- nothing of a buffer
pub consumes_nothing : (a : Option (List ℕ)) (buffer : List ℕ) → Consumes a a (take 0 buffer)
consumes_nothing a buffer = Consumes-nil a

-- the front of a buffer, and then more behind it
pub consumes_more : (a b c : Option (List ℕ)) (old front rest : List ℕ) (done more : ℕ) → Consumes a b (take done old) → front ≡ take done old
    → length front ≡ done → Consumes b c (take more rest) → Consumes a c (take (done + more) (front ++ rest))
consumes_more a b c old front rest done more first is size second =
    let joined : take (done + more) (front ++ rest) ≡ take done old ++ take more rest =
    take-add done more (front ++ rest) ∙ ap (λ x. x ++ take more (drop done (front ++ rest))) (take_at front rest done size ∙ is)
    ∙ ap (λ x. take done old ++ take more x) (drop_at front rest done size) in
    subst (λ p. Consumes a c p) (sym joined) (Consumes-trans a b c (take done old) (take more rest) first second)
