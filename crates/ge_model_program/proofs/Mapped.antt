-- What is said of the areas after the connections of a door may be put otherwise.
use Rattle.std.proofs.Common.{ℕ, ◌+◌, Bool, false, List, ◌++◌, length, Option, inl, inr, ⊎_elim}
use Rattle.ge_outside.specs.Clocks.{Answers}
use Rattle.ge_outside.specs.Doors.{ClosedLink}
use Rattle.ge_model_rows.specs.ClusterRows.{Cluster}
use Rattle.ge_model_rows.specs.EventRows.{Event, Planned}
use Rattle.ge_model_program.specs.Keeping.{Ledger}
use Rattle.ge_model_program.specs.Served.{frames_in}
use Rattle.ge_model_program.specs.Doors.{AllGivenBack, OneInHand, ServedTo}
use Rattle.ge_model_program.proofs.Ending.{map-hand}

module _ (plan : Cluster → Event → Planned) (origin : Ledger) (start : Cluster) (coming : List (List ℕ)) (closed : List ClosedLink) (clock : Answers) (coming_now : Option (List (List ℕ)))
    (closed_now : Option (List ClosedLink)) (Leaves Others : ℕ → Cluster → Cluster → Type 0) (say : (n : ℕ) (c d : Cluster) → Leaves n c d → Others n c d) where
  abbrev map-given : (later_now : Option Answers) (reached : Cluster) (stopped : Bool) → AllGivenBack plan origin start coming closed clock coming_now closed_now Leaves later_now reached stopped
      → AllGivenBack plan origin start coming closed clock coming_now closed_now Others later_now reached stopped
  map-given later_now reached stopped all =
      record { later = all.later; kept = all.kept; given = all.given; still_coming = all.still_coming; ticks = all.ticks; areas = say (frames_in all.given.came) reached reached all.areas }

  abbrev map-kept : OneInHand plan origin start coming closed clock coming_now closed_now Leaves → OneInHand plan origin start coming closed clock coming_now closed_now Others
  map-kept one = record {
    kept = one.kept;
    left = one.left;
    later = one.later;
    given = one.given;
    bytes = one.bytes;
    others = one.others;
    accepted = one.accepted;
    still_coming = one.still_coming;
    hand = map-hand plan one.left one.later one.bytes (λ marks hand c d. Leaves (frames_in one.given.came + length (marks ++ hand)) c d)
        (λ marks hand c d. Others (frames_in one.given.came + length (marks ++ hand)) c d) (λ marks hand c d few x. say (frames_in one.given.came + length (marks ++ hand)) c d x) one.hand;
  }

  pub map-served : (status count : ℕ) (later_now : Option Answers) (reached : Cluster) → ServedTo plan origin start coming closed clock coming_now closed_now Leaves status count later_now reached
      → ServedTo plan origin start coming closed clock coming_now closed_now Others status count later_now reached
  map-served status count later_now reached to =
      ⊎_elim
      (λ done. inl (
        done.0,
        record { stopped = done.1.stopped; all = map-given later_now reached done.1.stopped done.1.all; few = done.1.few; enough = done.1.enough },
      ))
      (λ rest. inr (⊎_elim (λ door. inl (door.0, map-given later_now reached false door.1)) (λ hand. inr (hand.0, map-kept hand.1, hand.2)) rest)) to
