-- Every change that brings names leaves tables with names alone, and with the default load formula.
use Rattle.std.proofs.Common.{◌≡◌, ℕ, Bool, true, false, cond, List, [], ◌∷◌, ◌++◌, fold, Option, Some, None, refl, sym, ap, ◌∙◌, subst}
use Rattle.std.specs.BTreeMap.{is_at}
use Rattle.std.specs.List.{list_all}
use Rattle.std.specs.Map.{keys_of}
use Rattle.ge_collections.specs.Changed.{change_value}
use Rattle.ge_collections.specs.Keyed.{text_cmp, at_number}
use Rattle.ge_model_rows.specs.ClusterRows.{Cluster}
use Rattle.ge_model_rows.specs.EntryRows.{Entry, Change, Item, ObjectKind}
use Rattle.ge_model_rows.specs.JobRows.{Job, Running}
use Rattle.ge_model_rows.specs.TaskRows.{TaskSpan}
use Rattle.ge_model_grammar.specs.Names.{is_name}
use Rattle.ge_model_grammar.specs.Configuring.{is_group_name}
use Rattle.ge_model_config.proofs.ReadBackComplexes.{AreComplexes}
use Rattle.ge_model_config.proofs.ReadBackTables.{put_passes, drop_passes}
use Rattle.ge_model_config.proofs.ReadBackNamed.{IsFormulaIn, IsWellNamed, PutsName}
use Rattle.ge_model_jobs.specs.Applying.{after_change, after_entry}
use Rattle.ge_model_jobs.specs.Altering.{with_job, with_altered, with_held, with_freed}
use Rattle.ge_model_jobs.specs.Ending.{with_deleted, with_cleared, lose_tasks, end_task, forced_lines, without_picked, delete_from, with_end}
use Rattle.ge_model_jobs.specs.Starting.{with_run}
use Rattle.ge_model_jobs.specs.Configuring.{with_load_report, with_item, without_item, with_load}
use Rattle.ge_model_jobs.specs.Picks.{joined_picks}
use Rattle.ge_model_jobs.specs.Serials.{running_with}

-- ---- changes

-- a cluster whose four tables are those of another one
same_tables : (c other : Cluster) → other.hosts ≡ c.hosts → other.groups ≡ c.groups → other.sets ≡ c.sets → other.complexes ≡ c.complexes → IsWellNamed c → IsWellNamed other
same_tables c other hosts groups sets complexes named = record {
  names = record {
    hosts = ap (λ rows. list_all is_name (keys_of rows)) hosts ∙ named.names.hosts;
    groups = ap (λ rows. list_all is_group_name (keys_of rows)) groups ∙ named.names.groups;
    sets = ap (λ rows. list_all is_name (keys_of rows)) sets ∙ named.names.sets;
    complexes = ap (λ rows. list_all is_name (keys_of rows)) complexes ∙ named.names.complexes;
  };
  formula = subst IsFormulaIn (sym complexes) named.formula;
  rows = subst AreComplexes (sym complexes) named.rows;
}

-- an object that has a name of its kind is put in
put_names : (moment : ℕ) (c : Cluster) (thing : Item) → PutsName thing → IsWellNamed c → IsWellNamed (with_item moment c thing)
unfolding with_item
put_names moment c (Item.Host name values) fits named =
    let n = named.names in record { names = record { hosts = put_passes is_name c.hosts name _ fits n.hosts; groups = n.groups; sets = n.sets; complexes = n.complexes }; formula = named.formula; rows = named.rows }
put_names moment c (Item.Group name hosts) fits named =
    let n = named.names in record { names = record { hosts = n.hosts; groups = put_passes is_group_name c.groups name hosts fits n.groups; sets = n.sets; complexes = n.complexes }; formula = named.formula; rows = named.rows }
put_names moment c (Item.Set name entries) fits named =
    let n = named.names in record { names = record { hosts = n.hosts; groups = n.groups; sets = put_passes is_name c.sets name entries fits n.sets; complexes = n.complexes }; formula = named.formula; rows = named.rows }
put_names moment c (Item.Complexes rows) fits named =
    let n = named.names in record { names = record { hosts = n.hosts; groups = n.groups; sets = n.sets; complexes = fits.0 }; formula = fits.1; rows = fits.2 }
put_names moment c _ fits named = same_tables c _ refl refl refl refl named

-- one is taken out
drop_names : (c : Cluster) (sort : ObjectKind) (name : List ℕ) → IsWellNamed c → IsWellNamed (without_item c sort name)
unfolding without_item
drop_names c ObjectKind.Host name named =
    let n = named.names in record { names = record { hosts = drop_passes is_name c.hosts name n.hosts; groups = n.groups; sets = n.sets; complexes = n.complexes }; formula = named.formula; rows = named.rows }
drop_names c ObjectKind.Group name named =
    let n = named.names in record { names = record { hosts = n.hosts; groups = drop_passes is_group_name c.groups name n.groups; sets = n.sets; complexes = n.complexes }; formula = named.formula; rows = named.rows }
drop_names c ObjectKind.Set name named =
    let n = named.names in record { names = record { hosts = n.hosts; groups = n.groups; sets = drop_passes is_name c.sets name n.sets; complexes = n.complexes }; formula = named.formula; rows = named.rows }
drop_names c ObjectKind.Complexes name named = named
drop_names c _ name named = same_tables c _ refl refl refl refl named

-- a change in place leaves the keys
changed_keys : {X : Type 0} (test : List ℕ → Bool) (change : X → X) (rows : List (List ℕ × X)) → keys_of (change_value test change rows) ≡ keys_of rows
changed_keys test change [] = refl
changed_keys test change (row ∷ rows) = by (test row.0) (changed_keys test change rows)
  where
    by : (here : Bool) → keys_of (change_value test change rows) ≡ keys_of rows → keys_of (cond here ((row.0, change row.1) ∷ rows) (row ∷ change_value test change rows)) ≡ keys_of (row ∷ rows)
    by true again = refl
    by false again = ap (λ keys. row.0 ∷ keys) again

delete_names : (moment : ℕ) (force : Bool) (c : Cluster) (rows : List (ℕ × Option (List TaskSpan))) → IsWellNamed c → IsWellNamed (fold (delete_from moment force) c rows)
delete_names moment force c [] names = names
delete_names moment force c (named ∷ rows) names = delete_names moment force (delete_from moment force c named) rows (one (at_number c.jobs named.0))
  where
    one : (found : Option Job) → IsWellNamed (elim found as (λ x. Cluster) [
      | None ↦ c
      | Some job ↦ record c {
        jobs = lose_tasks (without_picked force named.1) c.jobs named.0;
        lines = c.lines ++ forced_lines moment force named.0 job named.1;
      }
    ])
    one None = names
    one (Some job) = same_tables c _ refl refl refl refl names

end_names : (moment : ℕ) (c : Cluster) (serial exit cpu mem io : ℕ) → IsWellNamed c → IsWellNamed (with_end moment c serial exit cpu mem io)
unfolding with_end
end_names moment c serial exit cpu mem io names = by (running_with c.jobs serial)
  where
    by : (found : Option (ℕ × Job × ℕ × Running)) → IsWellNamed (elim found as (λ x. Cluster) [
      | None ↦ c
      | Some found ↦ end_task moment c found.0 found.1 found.2 found.3 (record { failed = 0; exit = exit; cpu = cpu; mem = mem; io = io })
    ])
    by None = names
    by (Some found) = same_tables c _ refl refl refl refl names

-- what a change brings has a name of its kind
abbrev pub BringsName : Change → Type 0
BringsName (Change.Put thing) = PutsName thing
BringsName _ = Unit {0}

change_names : (moment : ℕ) (c : Cluster) (what : Change) → BringsName what → IsWellNamed c → IsWellNamed (after_change moment c what)
unfolding after_change with_job with_altered with_held with_freed with_deleted with_cleared with_load with_run
change_names moment c (Change.Put thing) fits names = put_names moment c thing fits names
change_names moment c (Change.Drop key) fits names = drop_names c key.kind key.name names
change_names moment c (Change.Load host report) fits named =
    let n = named.names in record {
      names = record { hosts = ap (list_all is_name) (changed_keys (is_at (text_cmp host)) (with_load_report report) c.hosts) ∙ n.hosts; groups = n.groups; sets = n.sets; complexes = n.complexes };
      formula = named.formula;
      rows = named.rows;
    }
change_names moment c (Change.End serial exit cpu mem io) fits names = end_names moment c serial exit cpu mem io names
change_names moment c (Change.Delete picks force) fits names = delete_names moment force c (joined_picks picks) names
change_names moment c (Change.Submit job) fits names = same_tables c _ refl refl refl refl names
change_names moment c _ fits names = same_tables c _ refl refl refl refl names

-- an entry that brings such a name leaves names alone
pub entry_names : (c : Cluster) (entry : Entry) → BringsName entry.change → IsWellNamed c → IsWellNamed (after_entry c entry)
unfolding after_entry
entry_names c entry fits names = same_tables (after_change entry.moment c entry.change) _ refl refl refl refl (change_names entry.moment c entry.change fits names)
