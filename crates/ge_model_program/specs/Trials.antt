-- A run of `trial`: the script of a number is simulated, and what became of its requests is counted.
use Rattle.std.specs.Prelude.{◌≡◌, ℕ, ◌-◌, ◌==◌, nat_eq, Bool, true, false, List, [], ◌∷◌, ◌++◌, length, Option, codes, decimal, count_by, sum_by}
use Rattle.std.specs.List.{starts_with}
use Rattle.ge_outside.specs.Faults.{Rose}
use Rattle.ge_outside.specs.Streams.{Gains, GainsPrefix}
use Rattle.ge_model_rows.specs.ClusterRows.{Cluster, opening_cluster}
use Rattle.ge_model_rows.specs.EventRows.{Event, Reply}
use Rattle.ge_model_grammar.specs.Events.{events_of}
use Rattle.ge_model_core.specs.Plan.{plan_of}
use Rattle.ge_model_core.specs.Trace.{answer_of, after_entries}
use Rattle.ge_model_grammar.specs.Generated.{generated_script}
use Rattle.ge_model_program.specs.Generating.{IsWriterStatus}

-- the replies to events with these marks, up to the event that stops the master
abbrev pub replies_of : Cluster → List Event → List Bool → List Reply
replies_of c events [] = []
replies_of c [] (mark ∷ marks) = []
replies_of c (e ∷ events) (mark ∷ marks) =
    let p = answer_of plan_of c e mark in p.reply ∷ elim p.stop [ true ↦ [] | false ↦ replies_of (after_entries c p.entry) events marks ]

abbrev pub is_accepted : Reply → Bool
is_accepted reply = reply.code == 0

-- the line of a run that tells a start
abbrev pub is_start : List ℕ → Bool
is_start line = starts_with nat_eq line (codes "start ")

abbrev pub starts_in : Reply → ℕ
starts_in reply = count_by is_start reply.lines

-- how many requests were answered, accepted and refused, and how many tasks were started
abbrev pub trial_line : List Reply → List ℕ
trial_line replies =
    codes "requests " ++ decimal (length replies) ++ codes " accepted " ++ decimal (count_by is_accepted replies)
    ++ codes " refused " ++ decimal (length replies - count_by is_accepted replies) ++ codes " starts " ++ decimal (sum_by starts_in replies) ++ codes "\n"

-- the line of a trace of the script of a number, with these marks
abbrev pub trial_of : ℕ → List Bool → List ℕ
trial_of number marks = trial_line (replies_of opening_cluster (events_of (generated_script number)) marks)

abbrev pub HasMarks : ℕ → List Bool → Type 0
HasMarks number marks = length marks ≡ length (events_of (generated_script number))

-- old and new: what the output holds before and after the run; writes: its counts of faults
pub record Tries (status number : ℕ) (old new : Option (List ℕ)) (writes_before writes_after : ℕ) : Type 0 where
  pub statuses : IsWriterStatus status
  pub whole : status ≡ 0 → (marks : List Bool) × HasMarks number marks × Gains old new (trial_of number marks)
  pub front : (marks : List Bool) × HasMarks number marks × GainsPrefix old new (trial_of number marks)
  pub written : status ≡ 7 → Rose writes_before writes_after
