-- Tables by rising number, and each task in one place: what every entry keeps of the jobs of a cluster.
use Rattle.std.specs.Prelude.{◌≡◌, ℕ, ◌+◌, ◌≤◌, ◌==◌, ◌&&◌, Bool, true, not, List, [], ◌∷◌}
use Rattle.std.specs.List.{list_any}
use Rattle.ge_model_rows.specs.ClusterRows.{Cluster}
use Rattle.ge_model_rows.specs.JobRows.{Job}
use Rattle.ge_model_rows.specs.TaskRows.{is_form}
use Rattle.ge_model_rows.specs.Sets.{has_number}

-- whether a table has a key
abbrev pub has_key : {X : Type 0} → ℕ → List (ℕ × X) → Bool
has_key n rows = list_any (λ row. n == row.0) rows

-- keys from a number on, each above the one before it
abbrev pub KeysFrom : {X : Type 0} → ℕ → List (ℕ × X) → Type 0
KeysFrom low [] = Unit {0}
KeysFrom low (row ∷ rows) = (low ≤ row.0) × KeysFrom (row.0 + 1) rows

-- whether no two of these hold
abbrev pub one_at_most : Bool → Bool → Bool → Bool
one_at_most a b c = not (a && b) && not (a && c) && not (b && c)

-- the sets of a job are in the form, its running tasks stand by number, and each task in one place
pub record IsOrderly (job : Job) : Type 0 where
  pub waiting : is_form job.queued ≡ true
  pub broken : is_form job.broken ≡ true
  pub keys : KeysFrom 0 job.running
  pub places : (t : ℕ) → one_at_most (has_number t job.queued) (has_number t job.broken) (has_key t job.running) ≡ true

-- all jobs of a table are orderly
abbrev pub AllOrderly : List (ℕ × Job) → Type 0
AllOrderly [] = Unit {0}
AllOrderly (row ∷ rows) = IsOrderly row.1 × AllOrderly rows

-- the jobs of a cluster stand by number, and each is orderly; its advance reservations stand by number
pub record IsOrdered (c : Cluster) : Type 0 where
  pub numbers : KeysFrom 0 c.jobs
  pub jobs : AllOrderly c.jobs
  pub advances : KeysFrom 0 c.advances
