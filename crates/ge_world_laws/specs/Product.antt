-- gridmaster's own cluster as a master of a world.
use Rattle.std.specs.Prelude.{ℕ, ◌+◌, ◌≤◌, Bool, true, false, List, [], ◌∷◌, map, flat_map, IsTrue, Result, Ok, Err, codes}
use Rattle.ge_limits.specs.Limits as limit
use Rattle.ge_base.specs.declared.refusal.Refusal.{Refusal}
use Rattle.ge_model_rows.specs.ClusterRows.{Cluster, opening_cluster}
use Rattle.ge_model_rows.specs.CommandRows.{Command}
use Rattle.ge_model_rows.specs.EntryRows.{Change}
use Rattle.ge_model_rows.specs.JobRows.{Job, Running}
use Rattle.ge_model_rows.specs.Pieces.{joined_by}
use Rattle.ge_model_grammar.specs.Names.{is_name}
use Rattle.ge_model_grammar.specs.Parsing.{parsed}
use Rattle.ge_model_jobs.specs.Soundness.{IsSound, serials_of}
use Rattle.ge_model_jobs.specs.Orderly.{IsOrdered}
use Rattle.ge_model_jobs.specs.Accounts.{first_instance}
use Rattle.ge_model_jobs.specs.Applying.{after_entry}
use Rattle.ge_model_core.specs.Plan.{plan_of}
use Rattle.ge_model_world.specs.Masters.{Master}
use Rattle.ge_model_world.specs.Laws.{Post}

-- whether a change is that of `end`
abbrev pub is_end : Change → Bool
is_end (Change.End serial exit cpu mem io) = true
is_end _ = false

-- whether a command is `end`, and whether a text is read as it
abbrev pub is_end_command : Command → Bool
is_end_command (Command.End serial exit cpu mem io) = true
is_end_command _ = false

abbrev pub is_end_answer : Result Command Refusal → Bool
is_end_answer (Ok command) = is_end_command command
is_end_answer (Err refusal) = false

abbrev pub is_end_text : List ℕ → Bool
is_end_text text = is_end_answer (parsed text)

-- the request `orders HOST`
abbrev pub orders_text : List ℕ → List ℕ
orders_text host = joined_by (codes " ") (codes "orders" ∷ host ∷ [])

-- gridmaster's cluster: its plans and entries, the serials of its running tasks, and its accounting lines
abbrev pub product : Master
product = record {
  opening = opening_cluster;
  plan = plan_of;
  after = after_entry;
  serials = λ c. serials_of c.jobs;
  lines = λ c. c.lines;
  is_end = λ entry. is_end entry.change;
  is_end_text = is_end_text;
  orders_text = orders_text;
}

-- ---- what its laws speak of

-- a cluster is sound and in order, and its next serial is at most one past the last that there is
pub record IsReady (c : Cluster) : Type 0 where
  pub sound : IsSound c
  pub ordered : IsOrdered c
  pub in_range : c.next_serial ≤ limit.last_serial + 1

abbrev pub next_of : Cluster → ℕ
next_of c = c.next_serial

-- a running task's serial, with the host of its first grant, which runs it
abbrev pub post_of : ℕ × Running → Post
post_of task = (task.1.serial, (first_instance task.1.grants).host)

abbrev pub job_posts : ℕ × Job → List Post
job_posts job = map post_of job.1.running

-- all running tasks
abbrev pub posts_of : List (ℕ × Job) → List Post
posts_of jobs = flat_map job_posts jobs

abbrev pub posts : Cluster → List Post
posts c = posts_of c.jobs

-- hosts have names
abbrev pub IsHost : List ℕ → Type 0
IsHost host = IsTrue (is_name host)
