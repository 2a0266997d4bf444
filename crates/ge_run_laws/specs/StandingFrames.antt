-- Whoever has read the reply to a frame whole finds its events in the cluster that connections leave, and in the areas.
use Rattle.std.specs.Prelude.{◌≡◌, ◌⊎◌, ℕ, ◌+◌, ◌≤◌, List, [], ◌∷◌, ◌++◌, length, take, Option, Some}
use Rattle.ge_outside.specs.Clocks.{Answers}
use Rattle.ge_outside.specs.Doors.{ClosedLink}
use Rattle.ge_outside.specs.Streams.{Gains}
use Rattle.ge_model_rows.specs.ClusterRows.{Cluster}
use Rattle.ge_model_rows.specs.EventRows.{Event, Planned}
use Rattle.ge_model_journal.specs.Disk.{Content}
use Rattle.ge_model_wire.specs.Frames.{frames_of}
use Rattle.ge_model_program.specs.Answered.{FrameMarks, framed, answered}
use Rattle.ge_model_program.specs.Runs.{EachStandsForOneOf}
use Rattle.ge_run_laws.specs.Standing.{WroteWhole, EachStandsForSome}

-- what a master leaves the areas with: where they were at home, every pair stands for the one cluster or the other
abbrev pub LeavesHome : Type 0 → List Content → List Content → List FrameMarks → List FrameMarks → Cluster → Cluster → Type 0
LeavesHome home a b marks hand c d = home → EachStandsForOneOf a b c d

-- the same after connections with so many frames
abbrev pub LeavesDoor : Type 0 → List Content → List Content → ℕ → Cluster → Cluster → Type 0
LeavesDoor home a b frames c d = home → EachStandsForOneOf a b c d

-- a fact of the cluster that a master holds, and of each for which the areas may stand
abbrev pub InAll : Type 0 → List Content → List Content → Cluster → (Cluster → Type 0) → Type 0
InAll home a b reached Has = Has reached × (home → EachStandsForSome a b Has)

module _ (plan : Cluster → Event → Planned) where
  module _ (start : Cluster) (clock : Answers) (bytes : List ℕ) where
    -- a cluster comes of the frames of a connection with marks that begin so, so it has their events
    abbrev pub HasFrames : List FrameMarks → Cluster → Type 0
    HasFrames seen c = (more : List FrameMarks) × (c ≡ (answered plan start clock (frames_of bytes) (seen ++ more)).cluster)

    -- the replies to frames with these marks, as they are written
    abbrev pub replies_to : List FrameMarks → List ℕ
    replies_to marks = framed (answered plan start clock (frames_of bytes) marks).replies

    -- Of the frames of a connection some were taken up, and so many answered, all or all but the last; what is left has these. Each to which
    -- the reply stands whole in what was written is one of them.
    pub record FramesStand (old now : Option (List ℕ)) (Left : (Cluster → Type 0) → Type 0) : Type 0 where
      pub marks : List FrameMarks
      pub few : length marks ≤ length (frames_of bytes)
      pub size : ℕ
      pub wrote : Gains old now (take size (replies_to marks))
      pub count : ℕ
      pub one : length marks ≤ count + 1
      pub stand : Left (HasFrames (take count marks))
      pub each : (k : ℕ) → k ≤ length marks → WroteWhole old now (replies_to (take k marks)) → (k ≤ count) × Left (HasFrames (take k marks))

  -- Connections in turn lead from a cluster to another: each begins with one that has all frames to which those before it got replies.
  abbrev pub LinksStand : Cluster → Answers → List (List ℕ) → List ClosedLink → Cluster → Answers → Type 0
  LinksStand start clock [] [] left later = (left ≡ start) × (later ≡ clock)
  LinksStand start clock (bytes ∷ coming) (link ∷ links) left later =
      (mid : Cluster) × (between : Answers) × FramesStand start clock bytes (Some []) (Some link.written) (λ Has. Has mid)
      × LinksStand mid between coming links left later
  LinksStand start clock [] (link ∷ links) left later = ⊥
  LinksStand start clock (bytes ∷ coming) [] left later = ⊥

  -- A cluster has what was answered on the connections of a door: it comes of all that were given back, and of frames of the next to come,
  -- where one was accepted that isn't given back.
  pub record HasLinks (start : Cluster) (clock : Answers) (coming : List (List ℕ)) (closed : List ClosedLink) (closed_now : Option (List ClosedLink)) (c : Cluster) : Type 0 where
    pub came : List (List ℕ)
    pub others : List (List ℕ)
    pub links : List ClosedLink
    pub coming_is : coming ≡ came ++ others
    pub closed_is : closed_now ≡ Some (closed ++ links)
    pub left : Cluster
    pub later : Answers
    pub stand : LinksStand start clock came links left later
    pub next : (c ≡ left) ⊎ ((bytes : List ℕ) × (rest : List (List ℕ)) × (others ≡ bytes ∷ rest) × HasFrames left later bytes [] c)
