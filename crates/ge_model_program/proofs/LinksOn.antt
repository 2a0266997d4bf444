-- One connection more.
use Rattle.std.proofs.Common.{◌≡◌, Bool, true, false, List, [], ◌∷◌, ◌++◌, refl, subst}
use Rattle.std.specs.Prelude.{ℕ}
use Rattle.ge_outside.specs.Clocks.{Answers}
use Rattle.ge_outside.specs.Doors.{ClosedLink}
use Rattle.ge_model_rows.specs.ClusterRows.{Cluster}
use Rattle.ge_model_rows.specs.EventRows.{Event, Planned}
use Rattle.ge_model_program.specs.Keeping.{Ledger}
use Rattle.ge_model_program.specs.Served.{LinkLeaves, Follows, Served}

module _ (plan : Cluster → Event → Planned) where
  -- nothing follows the last one
  ends-here : (ended : Bool) (kept : Ledger) (new : Cluster) (later : Answers)
      → Follows ended [] [] ((new ≡ new) × (later ≡ later) × (kept ≡ kept)) ((new ≡ new) × (later ≡ later) × (ended ≡ false) × (kept ≡ kept)) ended
  ends-here true kept new later = (refl, refl, (refl, refl, refl), refl)
  ends-here false kept new later = (refl, refl, refl, refl)

  goes-on : (t : Bool) (coming : List (List ℕ)) (links : List ClosedLink) (X Y : Type 0) (rest more : Type 0) (bytes : List ℕ) (link : ClosedLink) (ended : Bool)
      → (rest → more) → Follows t coming links X rest false → Follows t (coming ++ bytes ∷ []) (links ++ link ∷ []) Y more ended
  goes-on true coming links X Y rest more bytes link ended step h = absurd (never h.3)
    where
      never : ◌≡◌ {A = Bool} false true → ⊥
      never e = cc
  goes-on false coming links X Y rest more bytes link ended step h = step h

  -- connections that were served, and one more
  pub served-more : (coming : List (List ℕ)) (links : List ClosedLink) (l middle kept : Ledger) (start mid new : Cluster) (clock between later : Answers) (bytes : List ℕ) (link : ClosedLink) (ended : Bool)
      → Served plan l start clock coming links middle mid between false → LinkLeaves plan middle mid between bytes link kept new later ended
      → Served plan l start clock (coming ++ bytes ∷ []) (links ++ link ∷ []) kept new later ended
  served-more [] [] l middle kept start mid new clock between later bytes link ended so_far step = (
    new,
    later,
    ended,
    kept,
    subst (λ x. LinkLeaves plan x start clock bytes link kept new later ended) so_far.3
        (subst (λ x. LinkLeaves plan middle x clock bytes link kept new later ended) so_far.0 (subst (λ x. LinkLeaves plan middle mid x bytes link kept new later ended) so_far.1 step)),
    ends-here ended kept new later,
  )
  served-more [] (first ∷ links) l middle kept start mid new clock between later bytes link ended so_far step = absurd so_far
  served-more (first ∷ coming) [] l middle kept start mid new clock between later bytes link ended so_far step = absurd so_far
  served-more (came ∷ coming) (first ∷ links) l middle kept start mid new clock between later bytes link ended so_far step = (
    so_far.0,
    so_far.1,
    so_far.2,
    so_far.3,
    so_far.4,
    goes-on so_far.2 coming links _ _ _ _ bytes link ended
        (λ h. served-more coming links so_far.3 middle kept so_far.0 mid new so_far.1 between later bytes link ended h step) so_far.5,
  )
