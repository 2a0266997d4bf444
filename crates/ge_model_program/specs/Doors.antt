-- Connections of a door, served in turn.
use Rattle.std.specs.Prelude.{◌≡◌, ◌≢◌, ◌⊎◌, ℕ, ◌+◌, ◌≤◌, Bool, true, false, List, ◌∷◌, ◌++◌, length, Option, Some, None}
use Rattle.ge_outside.specs.Clocks.{Answers}
use Rattle.ge_outside.specs.Doors.{ClosedLink}
use Rattle.ge_model_rows.specs.ClusterRows.{Cluster}
use Rattle.ge_model_rows.specs.EventRows.{Event, Planned}
use Rattle.ge_model_program.specs.FramesKept.{IsFull}
use Rattle.ge_model_program.specs.Keeping.{Ledger}
use Rattle.ge_model_program.specs.Links.{InHand}
use Rattle.ge_model_program.specs.Served.{frames_in, Served}

-- a fact of a door and a clock that tell
abbrev pub OnDoor : Option (List (List ℕ)) → Option (List ClosedLink) → Option Answers → (List (List ℕ) → List ClosedLink → Answers → Type 0) → Type 0
OnDoor (Some coming) (Some closed) (Some clock) P = P coming closed clock
OnDoor None closed clock P = Unit {0}
OnDoor (Some coming) None clock P = Unit {0}
OnDoor (Some coming) (Some closed) None P = Unit {0}

-- origin and start: the ledger and the cluster when the door was first asked; coming, closed and clock: what was to come then, what was given back, and what the clock was to
-- answer; coming_now and closed_now: the same now
module _ (plan : Cluster → Event → Planned) (origin : Ledger) (start : Cluster) (coming : List (List ℕ)) (closed : List ClosedLink) (clock : Answers) (coming_now : Option (List (List ℕ)))
    (closed_now : Option (List ClosedLink)) where
  -- The first of those to come were served and given back, and lead to a ledger, a cluster and what the clock has yet to answer.
  pub record GivenBack (kept : Ledger) (left : Cluster) (later : Answers) (stopped : Bool) : Type 0 where
    pub came : List (List ℕ)
    pub others : List (List ℕ)
    pub links : List ClosedLink
    pub coming_is : coming ≡ came ++ others
    pub closed_is : closed_now ≡ Some (closed ++ links)
    pub served : Served plan origin start clock came links kept left later stopped

  module _ (Leaves : ℕ → Cluster → Cluster → Type 0) where
    -- no other was accepted
    pub record AllGivenBack (later_now : Option Answers) (reached : Cluster) (stopped : Bool) : Type 0 where
      pub later : Answers
      pub kept : Ledger
      pub given : GivenBack kept reached later stopped
      pub still_coming : coming_now ≡ Some given.others
      pub ticks : later_now ≡ Some later
      pub areas : Leaves (frames_in given.came) reached reached

    -- One more was accepted and isn't given back: some of its frames are answered, and one more at most is in hand.
    pub record OneInHand : Type 0 where
      pub kept : Ledger
      pub left : Cluster
      pub later : Answers
      pub given : GivenBack kept left later false
      pub bytes : List ℕ
      pub others : List (List ℕ)
      pub accepted : given.others ≡ bytes ∷ others
      pub still_coming : coming_now ≡ Some others
      pub hand : InHand plan left later bytes (λ marks hand c d. Leaves (frames_in given.came + length (marks ++ hand)) c d)

    -- all were served that were to be, or the last of them stopped the master
    pub record ServedAll (count : ℕ) (later_now : Option Answers) (reached : Cluster) : Type 0 where
      pub stopped : Bool
      pub all : AllGivenBack later_now reached stopped
      pub few : length all.given.links ≤ count
      pub enough : (length all.given.links ≡ count) ⊎ (stopped ≡ true)

    -- there is no room for the frame in hand
    abbrev pub IsFullInHand : OneInHand → Type 0
    IsFullInHand one = (place : ℕ) × IsFull plan one.kept one.left one.later one.bytes one.hand.marks one.hand.hand place

    -- What is left at a status, where so many were to be served: 0 comes where they were, at 9 the door may have failed between two of them, and else
    -- one is in hand; at 5 there is no room for its frame.
    abbrev pub ServedTo : ℕ → ℕ → Option Answers → Cluster → Type 0
    ServedTo status count later_now reached =
        ((status ≡ 0) × ServedAll count later_now reached)
        ⊎ ((status ≡ 9) × AllGivenBack later_now reached false)
        ⊎ ((status ≢ 0) × (one : OneInHand) × (status ≡ 5 → IsFullInHand one))
