-- One turn of a replay.
use Rattle.std.proofs.Common.{◌≡◌, ℕ, ◌+◌, ◌-◌, ◌^◌, ◌<◌, ◌≤◌, ◌∙◌, [], ◌∷◌, length, Bool, true, false, List, IsTrue, refl, ap, sym, arith}
use Rattle.std.specs.Prelude.{◌||◌, ◌↔◌}
use Rattle.ge_serve.specs.Storing.{stored_syncs}

-- whether a batch stops the master, from what the master tells before and after it
pub stops-as : (before after stops : Bool) → before ≡ false → after ≡ (before || stops) → stops ≡ after
stops-as before after stops going is = sym (is ∙ ap (λ s. s || stops) going)

-- a batch that isn't empty has an event
pub not_empty : {X : Type 0} (t : Bool) (xs : List X) → (IsTrue t ↔ (xs ≡ [])) → t ≡ false → 0 < length xs
not_empty t [] is lacks = absurd (never t (is.1 refl) lacks)
  where
    never : (t : Bool) → t ≡ true → t ≡ false → ⊥
    never t holds lacks = cc
not_empty t (x ∷ xs) is lacks = omega arith

-- three syncs at most
pub three_syncs : (compacting : Bool) (before after : ℕ) → after ≤ before + stored_syncs compacting → after ≤ before + 3
three_syncs true before after few = few
three_syncs false before after few = omega (arith, few)

-- What is given stays below the limit of a script
pub turns-left : (given count after batch : ℕ) → given ≤ count → count < 2 ^ 40 → 0 < batch → given + batch ≤ after → 2 ^ 40 - after < 2 ^ 40 - given
turns-left given count after batch within below some on = omega (arith, within, below, some, on)
