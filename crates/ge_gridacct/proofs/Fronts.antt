-- How far the log's lines and the cluster's are the same.
use Rattle.std.specs.Prelude.{slice_get}
use Rattle.std.proofs.Common.{◌≡◌, ℕ, ◌+◌, ◌<◌, ◌≤◌, List, ◌++◌, length, take, drop, get_or, Some, refl, ap, ◌∙◌, sym, arith}
use Rattle.std.proofs.lemmas.List.{take_more_same, take_all, length-take, get_or-take}
use Rattle.std.proofs.lemmas.Option.{get_or_from_slice_get, slice_get_within}
use Rattle.std.proofs.Math.Seq.{take-add}
use Rattle.ge_model_rows.specs.AccountRows.{Line}
use Rattle.ge_gridacct.specs.Fronts.{IsFront}

-- the first so many of both are the same, and both have as many
pub record AreAlike (held lines : List Line) (k : ℕ) : Type 0 where
  pub same : take k held ≡ take k lines
  pub here : k ≤ length held
  pub there : k ≤ length lines

pub alike_none : (held lines : List Line) → AreAlike held lines 0
alike_none held lines = record { same = refl; here = omega arith; there = omega arith }

pub alike_more : (held lines : List Line) (k : ℕ) (line : Line) → AreAlike held lines k → slice_get held k ≡ Some line → k < length lines
    → get_or lines k line ≡ line → AreAlike held lines (k + 1)
alike_more held lines k line alike read below same =
    let within : k < length held = slice_get_within held k line read in
    record {
      same = take_more_same held lines k line within below alike.same (get_or_from_slice_get held k line line read ∙ sym same);
      here = omega (arith, within);
      there = omega (arith, below);
    }

-- all lines that are held were met
pub front_met : (held lines : List Line) (k : ℕ) → AreAlike held lines k → length held ≤ k → IsFront held lines
front_met held lines k alike met =
    let same : k ≡ length held = omega (arith, met, alike.here) in
    ap (λ n. take n lines) (sym same) ∙ sym alike.same ∙ take_all k held met

-- more are held than there are
pub front_past : (held lines : List Line) (k : ℕ) (line : Line) → slice_get held k ≡ Some line → length lines ≤ k → IsFront held lines → ⊥
front_past held lines k line read past front =
    let within : k < length held = slice_get_within held k line read in
    let size : length (take (length held) lines) ≡ length held = ap length front in
    absurd (omega (arith, within, past, size, length-take (length held) lines))

-- one differs
pub front_differs : (held lines : List Line) (k : ℕ) (line : Line) → slice_get held k ≡ Some line → (get_or lines k line ≡ line → ⊥) → IsFront held lines → ⊥
front_differs held lines k line read differs front =
    let within : k < length held = slice_get_within held k line read in
    differs (sym (get_or-take (length held) lines k line within) ∙ ap (λ xs. get_or xs k line) front ∙ get_or_from_slice_get held k line line read)

-- lines that are held with the first of those behind them are the first of all
pub front_behind : (held lines : List Line) (n : ℕ) → IsFront held lines → held ++ take n (drop (length held) lines) ≡ take (length held + n) lines
front_behind held lines n front = ap (λ xs. xs ++ take n (drop (length held) lines)) (sym front) ∙ sym (take-add (length held) n lines)
