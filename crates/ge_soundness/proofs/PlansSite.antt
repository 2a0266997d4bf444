-- The plans of qconf, of what daemons send, and of what only shows: their changes bring nothing that soundness asks for.
use Rattle.std.proofs.Common.{ℕ, ◌≤◌, ◌==◌, Bool, true, List, ◌++◌, length, flat_map, Option, Some, None, is_none}
use Rattle.std.specs.Prelude.{is_some}
use Rattle.ge_base.specs.declared.refusal.Refusal.{Refusal}
use Rattle.ge_base.specs.declared.refusal.Refusal.TheVariants.{Syntax, NoSuchObject}
use Rattle.ge_model_rows.specs.ClusterRows.{Cluster}
use Rattle.ge_model_rows.specs.CommandRows.{Listing, Query}
use Rattle.ge_model_rows.specs.EntryRows.{Put, Item, ObjectKind, Key}
use Rattle.ge_model_rows.specs.EventRows.{Event}
use Rattle.ge_collections.specs.Keyed.{at_number, at_text}
use Rattle.ge_model_config.specs.Reading.{item_of}
use Rattle.ge_model_config.specs.Printing.{item_at}
use Rattle.ge_model_grammar.specs.declared.Body.{Body}
use Rattle.ge_model_grammar.specs.Bodies.{body_of}
use Rattle.ge_model_report.specs.Accounting.{account_of}
use Rattle.ge_model_core.specs.Answers.{shown, done_lines}
use Rattle.ge_model_core.specs.Configuring.{manager_faults, put, add_plan, body_plan, body_plan_of, remove_plan, print_plan, print_plan_of, remove_faults}
use Rattle.ge_model_core.specs.Showing.{show_plan, account_plan}
use Rattle.ge_model_core.specs.Reports.{load_plan, end_plan, orders_plan, task_plan, stop_plan, host_faults, report_faults, serial_faults, end_faults}
use Rattle.ge_model_report.specs.Orders.{orders_of, task_lines}
use Rattle.ge_model_jobs.specs.Serials.{running_with}
use Rattle.ge_model_rows.specs.Faults.{when}
use Rattle.ge_soundness.proofs.PlansAnswers.{EntryFits, entry_refused, entry_shown, entry_unless, entry_change, entry_if, entry_where}

-- ---- qconf

-- an object that a manager puts, where nothing refuses it
put_entry : (c : Cluster) (e : Event) (read : Item × List Refusal) → c.last ≤ e.moment → EntryFits c (put c e read)
put_entry c e read later = entry_change c e (manager_faults c e ++ read.1) (Put read.0) done_lines later (λ none. tt)

-- qconf -A and -M
pub body_entry : (c : Cluster) (e : Event) (sort : ObjectKind) (adding : Bool) (text : List ℕ) → c.last ≤ e.moment → EntryFits c (body_plan c e sort adding text)
unfolding body_plan
body_entry c e sort adding text later = by (body_of sort text)
  where
    by : (body : Option Body) → EntryFits c (body_plan_of c e sort adding body)
    by None = entry_refused c Syntax
    by (Some body) = put_entry c e (item_of c sort adding body) later

pub add_entry : (c : Cluster) (e : Event) (sort : ObjectKind) (text : List ℕ) → c.last ≤ e.moment → EntryFits c (add_plan c e sort text)
add_entry c e ObjectKind.Managers text later = put_entry c e _ later
add_entry c e ObjectKind.Operators text later = put_entry c e _ later
add_entry c e other text later = body_entry c e other true text later

pub remove_entry : (c : Cluster) (e : Event) (key : Key) → c.last ≤ e.moment → EntryFits c (remove_plan c e key)
unfolding remove_plan
remove_entry c e key later = entry_change c e (manager_faults c e ++ remove_faults c key.kind key.name) _ _ later (λ none. tt)

pub print_entry : (c : Cluster) (key : Key) → EntryFits c (print_plan c key)
unfolding print_plan
print_entry c key = by (item_at c key.kind key.name)
  where
    by : (item : Option Item) → EntryFits c (print_plan_of c item)
    by None = entry_refused c NoSuchObject
    by (Some item) = entry_shown c _

-- qconf -km: the master stops, and nothing is changed
pub stop_entry : (c : Cluster) (e : Event) → EntryFits c (stop_plan c e)
unfolding stop_plan EntryFits
stop_entry c e = entry_unless c (manager_faults c e) (record (shown done_lines) { stop = true }) (λ none. tt)

-- ---- qstat, qacct

pub show_entry : (c : Cluster) (e : Event) (what : Listing) → EntryFits c (show_plan c e what)
unfolding show_plan
show_entry c e (Listing.One number) = entry_where c (is_some (at_number c.jobs number)) _ NoSuchObject (entry_shown c _)
show_entry c e Listing.Prios = entry_shown c _
show_entry c e Listing.Queues = entry_shown c _
show_entry c e (Listing.All pattern) = entry_shown c _

pub account_entry : (c : Cluster) (what : Query) → EntryFits c (account_plan c what)
unfolding account_plan
account_entry c (Query.Job number) = let lines = account_of c (Query.Job number) in entry_if c (length lines == 0) NoSuchObject (shown lines) (λ some. entry_shown c lines)
account_entry c Query.Total = entry_shown c _
account_entry c (Query.Owner name) = entry_shown c _

-- ---- load, end, orders, job

pub load_entry : (c : Cluster) (e : Event) (host : List ℕ) (pairs : List (List ℕ × List ℕ)) → c.last ≤ e.moment → EntryFits c (load_plan c e host pairs)
unfolding load_plan
load_entry c e host pairs later = entry_change c e (manager_faults c e ++ host_faults c host ++ flat_map (report_faults c) pairs) _ _ later (λ none. tt)

pub end_entry : (c : Cluster) (e : Event) (serial exit cpu mem io : ℕ) → c.last ≤ e.moment → EntryFits c (end_plan c e serial exit cpu mem io)
unfolding end_plan
end_entry c e serial exit cpu mem io later = entry_change c e (manager_faults c e ++ serial_faults c serial ++ end_faults exit cpu mem io) _ _ later (λ none. tt)

pub orders_entry : (c : Cluster) (e : Event) (host : List ℕ) → EntryFits c (orders_plan c e host)
unfolding orders_plan
orders_entry c e host = entry_unless c (manager_faults c e ++ when (is_none (at_text c.hosts host)) NoSuchObject) _ (λ none. entry_shown c (orders_of c host))

pub task_entry : (c : Cluster) (e : Event) (serial : ℕ) → EntryFits c (task_plan c e serial)
unfolding task_plan
task_entry c e serial = entry_unless c (manager_faults c e ++ when (is_none (running_with c.jobs serial)) NoSuchObject) _ (λ none. entry_shown c (task_lines c serial))
