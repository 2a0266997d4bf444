-- What reads and writes do to the contents of a stream. A content that isn't told is None, and it stays so.
use Rattle.std.specs.Prelude.{◌≡◌, ℕ, ◌+◌, ◌<◌, ◌≤◌, List, [], ◌++◌, length, take, drop, Option, None, Some}
use Rattle.std.proofs.Common.{append_assoc, ◌∙◌, ap}
use Rattle.std.proofs.Math.Seq.{take-add}

-- n bytes move from the front of what was left to the front of a buffer; with room there, none means that the end was reached
pub record TakesBytes (n : ℕ) (old new before after : List ℕ) : Type 0 where
  pub enough : n ≤ length old
  pub left : new ≡ drop n old
  pub moved : take n after ≡ take n old
  pub others : drop n after ≡ drop n before
  pub end : 0 < length before → n ≡ 0 → old ≡ []

-- what a read does to what is left of a source (old and new) and to the buffer (before and after)
abbrev pub Takes : ℕ → Option (List ℕ) → Option (List ℕ) → List ℕ → List ℕ → Type 0
Takes n None None before after = Unit {0}
Takes n (Some old) (Some new) before after = TakesBytes n old new before after
Takes n None (Some new) before after = ⊥
Takes n (Some old) None before after = ⊥

-- these items were added at the end of what is told
abbrev pub Gains : {T : Type 0} → Option (List T) → Option (List T) → List T → Type 0
Gains None None items = Unit {0}
Gains (Some old) (Some new) items = new ≡ old ++ items
Gains None (Some new) items = ⊥
Gains (Some old) None items = ⊥

-- a front of these items was added
abbrev pub GainsPrefix : {T : Type 0} → Option (List T) → Option (List T) → List T → Type 0
GainsPrefix old new items = (n : ℕ) × (n ≤ length items) × Gains old new (take n items)

-- two gains, one after the other, are one
pub Gains-append : {T : Type 0} (a b c : Option (List T)) (xs ys : List T) → Gains a b xs → Gains b c ys → Gains a c (xs ++ ys)
Gains-append None None None xs ys first second = tt
Gains-append None None (Some c) xs ys first second = absurd second
Gains-append None (Some b) c xs ys first second = absurd first
Gains-append (Some a) None c xs ys first second = absurd first
Gains-append (Some a) (Some b) None xs ys first second = absurd second
Gains-append (Some a) (Some b) (Some c) xs ys first second = second ∙ ap (λ front. front ++ ys) first ∙ append_assoc a xs ys

-- a front of a piece, and then a front of what was left of it
pub Gains-take : {T : Type 0} (a b c : Option (List T)) (piece : List T) (done more : ℕ) → Gains a b (take done piece)
    → Gains b c (take more (drop done piece)) → Gains a c (take (done + more) piece)
Gains-take a b c piece done more first second =
    rw (take-add done more piece) (Gains-append a b c (take done piece) (take more (drop done piece)) first second)
