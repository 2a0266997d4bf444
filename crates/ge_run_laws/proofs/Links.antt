-- What connections leave that were served in turn.
use Rattle.std.proofs.Common.{◌≡◌, ◌⊎◌, ℕ, Bool, true, false, List, [], ◌∷◌, ◌++◌, Option, Some, refl, sym, subst, inl, inr, ⊎_elim}
use Rattle.ge_outside.specs.Clocks.{Answers}
use Rattle.ge_outside.specs.Doors.{ClosedLink}
use Rattle.ge_model_rows.specs.ClusterRows.{Cluster}
use Rattle.ge_model_rows.specs.EventRows.{Event, Planned}
use Rattle.ge_model_journal.specs.Disk.{Content}
use Rattle.ge_model_program.specs.Keeping.{Ledger}
use Rattle.ge_model_program.specs.Served.{KeepsFrames, LinkLeaves, Follows, Served}
use Rattle.ge_model_program.specs.Doors.{GivenBack, AllGivenBack, OneInHand, ServedTo}
use Rattle.ge_run_laws.specs.Standing.{EachStandsForSome}
use Rattle.ge_run_laws.specs.StandingFrames.{LeavesDoor, HasFrames, FramesStand, LinksStand, HasLinks}
use Rattle.ge_run_laws.proofs.Runs.{for-one-of}
use Rattle.ge_run_laws.proofs.Frames.{left-of, frames-stand, reached-has}

module _ (plan : Cluster → Event → Planned) where
  one-stands : (l kept : Ledger) (start : Cluster) (clock : Answers) (bytes : List ℕ) (link : ClosedLink) (mid : Cluster) (between : Answers) (ended : Bool)
      → LinkLeaves plan l start clock bytes link kept mid between ended → FramesStand plan start clock bytes (Some []) (Some link.written) (λ Has. Has mid)
  one-stands l kept start clock bytes link mid between ended leaves =
      let keeps = KeepsFrames plan l start clock bytes kept in
      let left = left-of plan start clock bytes keeps (Some []) (Some link.written) (Some between) leaves.end mid ended leaves.ends in
      frames-stand plan start clock bytes keeps (Some []) (Some link.written) (Some between) left.0 (λ Has. Has mid)
      (reached-has plan start clock bytes keeps (Some []) (Some link.written) (Some between) left.0 mid ended left.1)

  behind-stands : (ended : Bool) (coming : List (List ℕ)) (links : List ClosedLink) (mid left : Cluster) (between later : Answers) (middle kept : Ledger) (rest : Type 0) (stopped : Bool)
      → (rest → LinksStand plan mid between coming links left later) → Follows ended coming links ((left ≡ mid) × (later ≡ between) × (kept ≡ middle)) rest stopped
      → LinksStand plan mid between coming links left later
  behind-stands true coming links mid left between later middle kept rest stopped step h =
      subst (λ (cs : List (List ℕ)). LinksStand plan mid between cs links left later) (sym h.0)
      (subst (λ (ls : List ClosedLink). LinksStand plan mid between [] ls left later) (sym h.1) (h.2.0, h.2.1))
  behind-stands false coming links mid left between later middle kept rest stopped step h = step h

  pub links-stand : (l : Ledger) (start : Cluster) (clock : Answers) (coming : List (List ℕ)) (links : List ClosedLink) (kept : Ledger) (left : Cluster) (later : Answers) (stopped : Bool)
      → Served plan l start clock coming links kept left later stopped → LinksStand plan start clock coming links left later
  links-stand l start clock [] [] kept left later stopped served = (served.0, served.1)
  links-stand l start clock [] (link ∷ links) kept left later stopped served = absurd served
  links-stand l start clock (bytes ∷ coming) [] kept left later stopped served = absurd served
  links-stand l start clock (bytes ∷ coming) (link ∷ links) kept left later stopped served = (
    served.0,
    served.1,
    one-stands l served.3 start clock bytes link served.0 served.1 served.2 served.4,
    behind-stands served.2 coming links served.0 left served.1 later served.3 kept _ stopped
        (λ rest. links-stand served.3 served.0 served.1 coming links kept left later stopped rest) served.5,
  )

  module _ (origin : Ledger) (start : Cluster) (coming : List (List ℕ)) (closed : List ClosedLink) (clock : Answers) (coming_now : Option (List (List ℕ))) (closed_now : Option (List ClosedLink)) where
    given-has : (kept : Ledger) (left : Cluster) (later : Answers) (stopped : Bool) (g : GivenBack plan origin start coming closed clock coming_now closed_now kept left later stopped) (c : Cluster)
        → (c ≡ left) ⊎ ((bytes : List ℕ) × (rest : List (List ℕ)) × (g.others ≡ bytes ∷ rest) × HasFrames plan left later bytes [] c) → HasLinks plan start clock coming closed closed_now c
    given-has kept left later stopped g c next = record {
      came = g.came;
      others = g.others;
      links = g.links;
      coming_is = g.coming_is;
      closed_is = g.closed_is;
      left = left;
      later = later;
      stand = links-stand origin start clock g.came g.links kept left later stopped g.served;
      next = next;
    }

    module _ (home : Type 0) (a b : List Content) where
      all-stand : (later_now : Option Answers) (reached : Cluster) (stopped : Bool) → AllGivenBack plan origin start coming closed clock coming_now closed_now (LeavesDoor home a b) later_now reached stopped
          → home → EachStandsForSome a b (HasLinks plan start clock coming closed closed_now)
      all-stand later_now reached stopped all at =
          let has = given-has all.kept reached all.later stopped all.given reached (inl refl) in for-one-of a b reached reached (HasLinks plan start clock coming closed closed_now) (all.areas at) has has

      hand-stands : OneInHand plan origin start coming closed clock coming_now closed_now (LeavesDoor home a b) → home → EachStandsForSome a b (HasLinks plan start clock coming closed closed_now)
      hand-stands one at = for-one-of a b _ _ (HasLinks plan start clock coming closed closed_now) (one.hand.areas at)
          (given-has one.kept one.left one.later false one.given _ (inr (one.bytes, one.others, one.accepted, (one.hand.marks, refl))))
          (given-has one.kept one.left one.later false one.given _ (inr (one.bytes, one.others, one.accepted, (one.hand.marks ++ one.hand.hand, refl))))

      pub door-stands : (status count : ℕ) (later_now : Option Answers) (reached : Cluster)
          → ServedTo plan origin start coming closed clock coming_now closed_now (LeavesDoor home a b) status count later_now reached
          → home → EachStandsForSome a b (HasLinks plan start clock coming closed closed_now)
      door-stands status count later_now reached to at =
          ⊎_elim (λ done. all-stand later_now reached done.1.stopped done.1.all at)
          (λ rest. ⊎_elim (λ door. all-stand later_now reached false door.1 at) (λ hand. hand-stands hand.1 at) rest) to
