-- The tasks that a target names: qdel, qmod.
use Rattle.std.specs.Prelude.{◌≡◌, ℕ, ◌==◌, ◌&&◌, Bool, true, false, List, [], ◌∷◌, fold, Option, Some, None}
use Rattle.ge_collections.specs.Keyed.{at_number, put_number}
use Rattle.ge_model_rows.specs.EntryRows.{Pick}
use Rattle.ge_model_rows.specs.JobRows.{Job}
use Rattle.ge_model_rows.specs.TaskRows.{TaskSpan, is_form}
use Rattle.ge_model_rows.specs.Sets.{has_number, union, meet, difference}
use Rattle.ge_model_jobs.specs.Holds.{live_tasks}

-- whether a pick's tasks, all where it names none, have a number
abbrev pub names_task : Option (List TaskSpan) → ℕ → Bool
names_task None task = true
names_task (Some tasks) task = has_number task tasks

-- the part of a set that a pick's tasks have, and the part that they don't
abbrev pub named_in : Option (List TaskSpan) → List TaskSpan → List TaskSpan
named_in None set = set
named_in (Some tasks) set = meet set tasks

abbrev pub unnamed_in : Option (List TaskSpan) → List TaskSpan → List TaskSpan
unnamed_in None set = []
unnamed_in (Some tasks) set = difference set tasks

-- the live tasks of a job that a pick names, as a set
abbrev pub picked_tasks : Job → Option (List TaskSpan) → List TaskSpan
picked_tasks job tasks = named_in tasks (live_tasks job)

-- what two picks of one job name together: all, where one of them names all
abbrev pub both_named : Option (List TaskSpan) → Option (List TaskSpan) → Option (List TaskSpan)
both_named None tasks = None
both_named (Some first) None = None
both_named (Some first) (Some tasks) = Some (union first tasks)

-- what the picks of a job name, if there were some, with one more
abbrev pub with_named : Option (Option (List TaskSpan)) → Option (List TaskSpan) → Option (List TaskSpan)
with_named None tasks = tasks
with_named (Some so_far) tasks = both_named so_far tasks

abbrev pub join_pick : List (ℕ × Option (List TaskSpan)) → Pick → List (ℕ × Option (List TaskSpan))
join_pick rows pick = put_number rows pick.job (with_named (at_number rows pick.job) pick.tasks)

-- the jobs that picks name, each once, by number, with the tasks that any of its picks names
abbrev pub joined_picks : List Pick → List (ℕ × Option (List TaskSpan))
joined_picks picks = fold join_pick [] picks

-- whether a pick names a task of a job
abbrev pub picks_task : ℕ → ℕ → Pick → Bool
picks_task number task pick = number == pick.job && names_task pick.tasks task

-- whether what joined picks may have at a job names a task
abbrev pub is_joined_name : Option (Option (List TaskSpan)) → ℕ → Bool
is_joined_name None task = false
is_joined_name (Some tasks) task = names_task tasks task

-- a pick's tasks are a set, where it names some
abbrev pub IsPick : Option (List TaskSpan) → Type 0
IsPick None = Unit {0}
IsPick (Some tasks) = is_form tasks ≡ true

-- the tasks of all picks are sets
abbrev pub ArePicks : List Pick → Type 0
ArePicks [] = Unit {0}
ArePicks (pick ∷ picks) = IsPick pick.tasks × ArePicks picks
