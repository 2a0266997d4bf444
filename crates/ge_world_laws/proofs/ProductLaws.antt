-- gridmaster's cluster keeps the laws of a master.
use Rattle.std.proofs.Common.{◌≡◌, ℕ, ◌+◌, ◌^◌, ◌<◌, ◌≤◌, List, [], ◌∷◌, ◌++◌, map, Some, refl, ap, sym, ◌∙◌, subst, arith}
use Rattle.std.specs.Prelude.{IfSome}
use Rattle.std.specs.List.{AllByRecursion}
use Rattle.ge_limits.specs.Limits as limit
use Rattle.ge_model_rows.specs.ClusterRows.{Cluster, opening_cluster}
use Rattle.ge_model_rows.specs.EntryRows.{Entry}
use Rattle.ge_model_rows.specs.EventRows.{Event}
use Rattle.ge_model_rows.specs.JobRows.{Job, Running}
use Rattle.ge_model_jobs.specs.Applying.{after_entry}
use Rattle.ge_model_jobs.specs.Soundness.{serial_of, serials_of}
use Rattle.ge_model_core.specs.Plan.{plan_of}
use Rattle.ge_laws.proofs.GrowingLines.{entry_grows}
use Rattle.ge_soundness.proofs.Brought.{Fits}
use Rattle.ge_soundness.proofs.Changes.{kept}
use Rattle.ge_soundness.proofs.Opening.{opening_is_sound}
use Rattle.ge_soundness.proofs.Plans.{planned}
use Rattle.ge_soundness.proofs.Traces.{opening_ordered}
use Rattle.ge_model_world.specs.declared.rows.Step.{Step}
use Rattle.ge_model_world.specs.Worlds.{world_of}
use Rattle.ge_model_world.specs.Laws.{Has, post_serial, Laws, AreApart, AreHosts, KeepsOnce}
use Rattle.ge_model_world.specs.Laws.Has.{here, there}
use Rattle.ge_model_world.proofs.Lists.{map_has, map_append}
use Rattle.ge_model_world.proofs.Once.{keeps_once}
use Rattle.ge_world_laws.specs.Product.{product, IsReady, next_of, post_of, job_posts, posts_of, posts, IsHost}
use Rattle.ge_world_laws.proofs.Entries.{Goes, entry_goes}
use Rattle.ge_world_laws.proofs.Others.{other_entry}
use Rattle.ge_world_laws.proofs.Reports.{orders_name, report_ends}

-- ---- what is ready

pub opening_ready : IsReady opening_cluster
unfolding opening_cluster
opening_ready = record { sound = opening_is_sound; ordered = opening_ordered; in_range = omega arith }

-- what the entry of a plan brings
brought : (c : Cluster) (e : Event) (entry : Entry) → (plan_of c e).entry ≡ Some entry → (c.last ≤ entry.moment) × Fits c entry.moment entry.change
brought c e entry is = subst (λ o. IfSome o (λ one. (c.last ≤ one.moment) × Fits c one.moment one.change)) is (planned c e)

pub entry_goes_on : (c : Cluster) (e : Event) (entry : Entry) → (plan_of c e).entry ≡ Some entry → Goes c (after_entry c entry)
entry_goes_on c e entry is = entry_goes c entry (brought c e entry is).1

pub entry_ready : (c : Cluster) (e : Event) (entry : Entry) → IsReady c → (plan_of c e).entry ≡ Some entry → IsReady (after_entry c entry)
entry_ready c e entry ready is =
    let fits = brought c e entry is in
    let after = kept c entry.moment entry.change fits.0 fits.1 ready.sound ready.ordered in
    record { sound = after.0; ordered = after.1; in_range = (entry_goes_on c e entry is).in_range ready.in_range }

-- ---- serials and posts

task_serials : (tasks : List (ℕ × Running)) → map serial_of tasks ≡ map post_serial (map post_of tasks)
task_serials [] = refl
task_serials (task ∷ tasks) = ap (λ ns. task.1.serial ∷ ns) (task_serials tasks)

pub serials_are : (jobs : List (ℕ × Job)) → serials_of jobs ≡ map post_serial (posts_of jobs)
serials_are [] = refl
serials_are (job ∷ jobs) =
    (λ i. task_serials job.1.running i ++ serials_are jobs i) ∙ sym (map_append post_serial (job_posts job) (posts_of jobs))

each : {X : Type 0} {x : X} (P : X → Type 0) (xs : List X) → AllByRecursion P xs → Has x xs → P x
each P [] all h = elim h [ ]
each P (x ∷ xs) all here = all.0
each P (x ∷ xs) all (there h) = each P xs all.1 h

-- the serial of a running task is below the next one
pub below_next : (c : Cluster) (s : ℕ) (h : List ℕ) → IsReady c → Has (s, h) (posts c) → s < c.next_serial
below_next c s h ready p =
    (each (λ n. (1 ≤ n) × (n < c.next_serial)) (serials_of c.jobs) ready.sound.serials (subst (λ ns. Has s ns) (sym (serials_are c.jobs)) (map_has post_serial (posts c) p))).1

short : (c : Cluster) → IsReady c → (s : ℕ) (h : List ℕ) → Has (s, h) (posts c) → s < 2 ^ 64
short c ready s h p = let below = below_next c s h ready p in let most : c.next_serial ≤ limit.last_serial + 1 = ready.in_range in omega (arith, below, most)

-- ---- the laws

pub product_laws : Laws product IsReady next_of posts IsHost
product_laws = record {
  opening = opening_ready;
  kept = entry_ready;
  serials = λ c. serials_are c.jobs;
  different = λ c ready. ready.sound.different;
  below = below_next;
  stays = λ c e entry s h ready is p. (entry_goes_on c e entry is).stays (s, h) p;
  grows = λ c e entry ready is. (entry_goes_on c e entry is).grows;
  lines = entry_grows;
  orders = λ c moment host lines o ready name read in_it. orders_name c moment host lines o (short c ready) name read in_it;
  ends = λ c moment r entry ready fits is. report_ends c ready.ordered moment r entry fits is;
  others = λ c e entry other is. other_entry c e entry other is;
}

-- so after any steps of a world of gridmaster and its daemons
pub product_once : (hosts : List (List ℕ)) (steps : List Step) → AreApart hosts → AreHosts IsHost hosts → KeepsOnce product (world_of product hosts steps)
product_once hosts steps apart names = keeps_once product IsReady next_of posts IsHost product_laws hosts apart names steps
