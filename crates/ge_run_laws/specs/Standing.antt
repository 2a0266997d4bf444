-- Whoever has read a reply whole finds its event in the areas, whatever a stop leaves of them.
use Rattle.std.specs.Prelude.{◌≡◌, ℕ, Bool, List, ◌++◌, take, Option, Some, Ok}
use Rattle.ge_model_rows.specs.ClusterRows.{Cluster}
use Rattle.ge_model_rows.specs.EventRows.{Event, Planned}
use Rattle.ge_model_journal.specs.Disk.{Content, IsImageNow}
use Rattle.ge_model_program.specs.Traced.{traced}
use Rattle.ge_model_program.specs.StandsFor.{stands_for}
use Rattle.ge_model_program.specs.Keeping.{Ledger}
use Rattle.ge_model_program.specs.Runs.{written_of, RanTo, RanCut, RanAll, RanFull}

-- an output tells that these bytes stand whole at the front of what was written
pub record WroteWhole (old new : Option (List ℕ)) (bytes : List ℕ) : Type 0 where
  pub before : List ℕ
  pub later : List ℕ
  pub old_is : old ≡ Some before
  pub new_is : new ≡ Some (before ++ (bytes ++ later))

-- every pair of what a stop may leave now stands for a cluster of which this holds
abbrev pub EachStandsForSome : List Content → List Content → (Cluster → Type 0) → Type 0
EachStandsForSome a b Has = (c d : List ℕ) → IsImageNow a c → IsImageNow b d → (x : Cluster) × (stands_for c d ≡ Ok x) × Has x

module _ (plan : Cluster → Event → Planned) (start : Cluster) (events : List Event) where
  -- a cluster comes of a trace that begins with these marks, so it has the events that they answer
  abbrev pub HasEvents : List Bool → Cluster → Type 0
  HasEvents seen c = (more : List Bool) × (c ≡ (traced plan start events (seen ++ more)).cluster)

  module _ (home : Type 0) (old new : Option (List ℕ)) (a b : List Content) where
    -- where the replies by these marks were written whole, the areas have the events
    abbrev pub Stand : List Bool → Type 0
    Stand seen = home → WroteWhole old new (written_of (traced plan start events seen)) → EachStandsForSome a b (HasEvents seen)

    -- that for the first marks of some, however many
    abbrev pub EachFrontStands : List Bool → Type 0
    EachFrontStands marks = (k : ℕ) → Stand (take k marks)

    -- that for all marks by which one may read what was written
    abbrev pub EachReadingStands : Type 0
    EachReadingStands = (seen : List Bool) → Stand seen

    -- what holds of the marks of a run, at each of its exits; ended: why a run may have ended where it did
    pub record RunsStand (ended : Type 0) (batch before later : ℕ) (ledger : Ledger) (Stands : List Bool → Type 0) : Type 0 where
      pub to : (run : RanTo plan start events home old new a b batch before later ledger) → Stands run.marks
      pub cut : (run : RanCut plan start events home old new a b batch before later ledger) → Stands run.marks
      pub all : (run : RanAll plan start events home old new a b batch before later ledger ended) → Stands run.marks
      pub full : (run : RanFull plan start events home old new a b batch before later ledger) → Stands (run.next.marks ++ run.next.more)
