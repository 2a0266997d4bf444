-- Serving over two areas that are opened first: which connections were served, and what the areas hold.
use Rattle.std.specs.Prelude.{◌≡◌, ◌⊎◌, ℕ, ◌+◌, List, [], ◌∷◌, Option, Some, Ok, IfSome, IsErr}
use Rattle.ge_outside.specs.Clocks.{Answers}
use Rattle.ge_outside.specs.Doors.{ClosedLink}
use Rattle.ge_outside.specs.Faults.{Rose}
use Rattle.ge_model_rows.specs.ClusterRows.{Cluster}
use Rattle.ge_model_journal.specs.Disk.{read_bytes}
use Rattle.ge_model_core.specs.Plan.{plan_of}
use Rattle.ge_model_journal.specs.Journal.{State, meaning}
use Rattle.ge_model_program.specs.StandsFor.{stands_for}
use Rattle.ge_model_program.specs.View.{said_of, both_bytes, IsStill, IsKept}
use Rattle.ge_model_program.specs.Keeping.{ledger_in}
use Rattle.ge_model_program.specs.Statuses.{IsOneStatusOf}
use Rattle.ge_model_program.specs.Doors.{OnDoor, OneInHand, IsFullInHand, ServedTo}
use Rattle.ge_serve.specs.Areas.{Areas, HasFailed}
use Rattle.ge_serve.specs.Leaving.{Leaves}
use Rattle.ge_serve.specs.Serves.{IsServeStatus}

-- the areas where opening has synced them, six times at most
abbrev pub opened_areas : Areas → Areas
opened_areas x = record x { syncs = x.syncs + 6 }

-- What they are left with: where nothing was pending before they were opened, every pair of images stands for the one cluster or the
-- other.
abbrev pub LeavesOpened : Areas → Areas → ℕ → Cluster → Cluster → Type 0
LeavesOpened x y frames c d = Leaves (opened_areas x) y (IsStill x.a × IsStill x.b) frames c d

-- no connection was accepted, since the areas could not be opened; they hold what they held
pub record NoneBegun (status : ℕ) (x y : Areas) (start : Cluster) (coming : List (List ℕ)) (closed : List ClosedLink) (clock : Answers)
    (coming_now : Option (List (List ℕ))) (closed_now : Option (List ClosedLink)) (later : Option Answers) : Type 0 where
  pub why : IsOneStatusOf (8 ∷ 10 ∷ []) status
  pub still_coming : coming_now ≡ Some coming
  pub closed_is : closed_now ≡ Some closed
  pub ticks : later ≡ Some clock
  pub areas : LeavesOpened x y 0 start start

-- Serving so many connections of a door. Where the areas stand for a cluster, the connections that were given back lead from that to one that is
-- left. Status 4 comes only where they stand for none, and then it is that, an area's failure or want of memory.
pub record ServesAreas (count status : ℕ) (x y : Areas) (coming coming_now : Option (List (List ℕ))) (closed closed_now : Option (List ClosedLink)) (clock later : Option Answers)
    (doors doors_now : ℕ) : Type 0 where
  pub statuses : (status ≡ 4) ⊎ IsServeStatus status
  pub served : (start : Cluster) (state : State) → said_of stands_for x.a x.b ≡ Some (Ok start) → said_of meaning x.a x.b ≡ Some (Ok state)
      → OnDoor coming closed clock (λ cs links answers. (reached : Cluster)
      × (ServedTo plan_of (ledger_in state) start cs links answers coming_now closed_now (LeavesOpened x y) status count later reached
      ⊎ NoneBegun status x y start cs links answers coming_now closed_now later))
  pub refused : status ≡ 4 → IfSome (said_of stands_for x.a x.b) IsErr
  pub kept : status ≡ 4 → IfSome (said_of both_bytes x.a x.b) (λ read. IsKept read.0 (read_bytes y.a) × IsKept read.1 (read_bytes y.b))
  pub not_opened : IfSome (said_of stands_for x.a x.b) (λ stood. IsErr stood → IsOneStatusOf (4 ∷ 8 ∷ 10 ∷ []) status)
  pub untouched : IfSome (said_of stands_for x.a x.b) (λ stood. IsErr stood → (coming_now ≡ coming) × (closed_now ≡ closed) × (later ≡ clock))
  pub unaccepted : status ≡ 4 → (coming_now ≡ coming) × (closed_now ≡ closed) × (later ≡ clock)
  pub disk : status ≡ 8 → HasFailed x y
  pub door : status ≡ 9 → Rose doors doors_now

-- When serving has to be answered: the areas stand for a cluster, neither they nor the door fail, and there is room for the frame in hand of a
-- connection that isn't given back.
pub record AreServable (x y : Areas) (coming coming_now : Option (List (List ℕ))) (closed closed_now : Option (List ClosedLink)) (clock : Option Answers) (doors doors_now : ℕ) : Type 0 where
  pub start : Cluster
  pub state : State
  pub stands : said_of stands_for x.a x.b ≡ Some (Ok start)
  pub means : said_of meaning x.a x.b ≡ Some (Ok state)
  pub disks : HasFailed x y → ⊥
  pub door : Rose doors doors_now → ⊥
  pub connections : List (List ℕ)
  pub back : List ClosedLink
  pub answers : Answers
  pub coming_is : coming ≡ Some connections
  pub closed_is : closed ≡ Some back
  pub ticks : clock ≡ Some answers
  pub fits : (one : OneInHand plan_of (ledger_in state) start connections back answers coming_now closed_now (LeavesOpened x y))
      → IsFullInHand plan_of (ledger_in state) start connections back answers coming_now closed_now (LeavesOpened x y) one → ⊥
