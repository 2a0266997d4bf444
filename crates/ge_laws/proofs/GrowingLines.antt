-- Accounting lines only grow.
use Rattle.std.proofs.Common.{◌≡◌, ◌≤◌, ℕ, length, take, Bool, true, false, List, [], ◌∷◌, ◌++◌, fold, Option, Some, None, refl, sym, ap, ◌∙◌, append-nil}
use Rattle.std.proofs.lemmas.List.{append_assoc, take-append-le}
use Rattle.ge_collections.specs.Keyed.{at_number}
use Rattle.ge_model_rows.specs.AccountRows.{Line}
use Rattle.ge_model_rows.specs.ClusterRows.{Cluster}
use Rattle.ge_model_rows.specs.EntryRows.{Entry, Change, Item, ObjectKind}
use Rattle.ge_model_rows.specs.EventRows.{Event, Planned}
use Rattle.ge_model_rows.specs.JobRows.{Job, Running}
use Rattle.ge_model_rows.specs.TaskRows.{TaskSpan}
use Rattle.ge_model_jobs.specs.Altering.{with_job, with_altered, with_held, with_freed}
use Rattle.ge_model_jobs.specs.Applying.{after_change, after_entry}
use Rattle.ge_model_jobs.specs.Configuring.{with_item, without_item, with_load}
use Rattle.ge_model_jobs.specs.Accounts.{line_of}
use Rattle.ge_model_jobs.specs.Ending.{end_task, with_end, delete_from, with_deleted, with_cleared, forced_lines, lose_tasks, without_picked}
use Rattle.ge_model_jobs.specs.Picks.{joined_picks}
use Rattle.ge_model_jobs.specs.Serials.{running_with}
use Rattle.ge_model_jobs.specs.Starting.{with_run}
use Rattle.ge_model_core.specs.Trace.{after_entries, answer_of, cluster_after}
use Rattle.ge_laws.specs.PlannedEvents.{IsFrontOf}

stays : (lines : List Line) → IsFrontOf lines lines
stays lines = ([], sym (append-nil lines))

further : (first second third : List Line) → IsFrontOf first second → IsFrontOf second third → IsFrontOf first third
further first second third one two =
    (one.0 ++ two.0, two.1 ∙ ap (λ lines. lines ++ two.0) one.1 ∙ append_assoc first one.0 two.0)

ended : (moment : ℕ) (c : Cluster) (serial exit cpu mem io : ℕ) → IsFrontOf c.lines (with_end moment c serial exit cpu mem io).lines
unfolding with_end
ended moment c serial exit cpu mem io = by (running_with c.jobs serial)
  where
    by : (found : Option (ℕ × Job × ℕ × Running))
        → IsFrontOf c.lines (elim found as (λ o. Cluster) [ None ↦ c | Some f ↦ end_task moment c f.0 f.1 f.2 f.3 (record { failed = 0; exit = exit; cpu = cpu; mem = mem; io = io }) ]).lines
    by None = stays c.lines
    by (Some f) = (line_of moment f.0 f.1 f.2 f.3 (record { failed = 0; exit = exit; cpu = cpu; mem = mem; io = io }) ∷ [], refl)

deleted_one : (moment : ℕ) (force : Bool) (c : Cluster) (named : ℕ × Option (List TaskSpan)) → IsFrontOf c.lines (delete_from moment force c named).lines
deleted_one moment force c named = by (at_number c.jobs named.0)
  where
    by : (found : Option Job)
        → IsFrontOf c.lines (elim found as (λ o. Cluster) [
          | None ↦ c
          | Some job ↦ record c {
            jobs = lose_tasks (without_picked force named.1) c.jobs named.0;
            lines = c.lines ++ forced_lines moment force named.0 job named.1;
          }
        ]).lines
    by None = stays c.lines
    by (Some job) = (forced_lines moment force named.0 job named.1, refl)

deleted_all : (moment : ℕ) (force : Bool) (c : Cluster) (rows : List (ℕ × Option (List TaskSpan))) → IsFrontOf c.lines (fold (delete_from moment force) c rows).lines
deleted_all moment force c [] = stays c.lines
deleted_all moment force c (named ∷ rows) =
    let next = delete_from moment force c named in
    further c.lines next.lines (fold (delete_from moment force) next rows).lines (deleted_one moment force c named) (deleted_all moment force next rows)

item_put : (moment : ℕ) (c : Cluster) (thing : Item) → IsFrontOf c.lines (with_item moment c thing).lines
unfolding with_item
item_put moment c (Item.Sched sched) = stays c.lines
item_put moment c _ = stays c.lines

item_gone : (c : Cluster) (sort : ObjectKind) (name : List ℕ) → IsFrontOf c.lines (without_item c sort name).lines
unfolding without_item
item_gone c ObjectKind.Sched name = stays c.lines
item_gone c _ name = stays c.lines

changed : (moment : ℕ) (c : Cluster) (what : Change) → IsFrontOf c.lines (after_change moment c what).lines
unfolding after_change with_job with_altered with_held with_freed with_deleted with_cleared with_load with_run
changed moment c (Change.Delete picks force) = deleted_all moment force c (joined_picks picks)
changed moment c (Change.Put thing) = item_put moment c thing
changed moment c (Change.Drop key) = item_gone c key.kind key.name
changed moment c (Change.End serial exit cpu mem io) = ended moment c serial exit cpu mem io
changed moment c _ = stays c.lines

-- after any entry
pub entry_grows : (c : Cluster) (entry : Entry) → IsFrontOf c.lines (after_entry c entry).lines
unfolding after_entry
entry_grows c entry = changed entry.moment c entry.change

-- ---- traces

entries_grow : (c : Cluster) (entry : Option Entry) → IsFrontOf c.lines (after_entries c entry).lines
entries_grow c None = stays c.lines
entries_grow c (Some entry) = entry_grows c entry

-- after any events, by any plan
pub trace_grows : (plan : Cluster → Event → Planned) (marks : List Bool) (c : Cluster) (events : List Event) → IsFrontOf c.lines (cluster_after plan c events marks).lines
trace_grows plan [] c events = stays c.lines
trace_grows plan (mark ∷ marks) c [] = stays c.lines
trace_grows plan (mark ∷ marks) c (e ∷ events) = by (answer_of plan c e mark).stop (trace_grows plan marks after events)
  where
    after : Cluster
    after = after_entries c (answer_of plan c e mark).entry

    one : IsFrontOf c.lines after.lines
    one = entries_grow c (answer_of plan c e mark).entry

    by : (stop : Bool) → IsFrontOf after.lines (cluster_after plan after events marks).lines
        → IsFrontOf c.lines (elim stop as (λ x. Cluster) [ true ↦ after | false ↦ cluster_after plan after events marks ]).lines
    by true more = one
    by false more = further c.lines after.lines (cluster_after plan after events marks).lines one more

-- the first of the lines stay the first
pub first_stay : (n : ℕ) (lines more : List Line) → n ≤ length lines → IsFrontOf lines more → take n more ≡ take n lines
first_stay n lines more within front = ap (take n) front.1 ∙ take-append-le n lines front.0 within
