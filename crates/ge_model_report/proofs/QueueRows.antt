-- The lines of qstat -f, by computation.
use Rattle.std.specs.Prelude.{◌≡◌, ℕ, List, [], ◌∷◌, codes, refl}
use Rattle.ge_model_rows.specs.ClusterRows.{Cluster, default_queue, default_sched, bare_host}
use Rattle.ge_model_rows.specs.ClusterRows.{plain_attr}
use Rattle.ge_model_rows.specs.CommandRows.{Queues}
use Rattle.ge_model_rows.specs.JobRows.{Job}
use Rattle.ge_model_rows.specs.QueueRows.{QueueRow}
use Rattle.ge_model_rows.specs.ValueRows.{Amount, Word}
use Rattle.ge_model_rows.specs.Complexes.{opening}
use Rattle.ge_model_jobs.proofs.Samples.{slots_of, running, on_local, host, loaded, local_queue, all_q, with_jobs}
use Rattle.ge_model_report.specs.Listing.{listing_of, listings_in_full}
use Rattle.ge_model_report.proofs.Samples.{running_job}

-- two tasks run, and then the queue is left with one slot
abbrev two_on_one_slot : Cluster
two_on_one_slot =
    let c = with_jobs ((1, running_job (codes "a") (on_local 1 20)) ∷ (2, running_job (codes "b") (on_local 2 20)) ∷ []) in
    record c { queues = all_q (local_queue 1) }

more_used_than_there_are : listing_of two_on_one_slot Queues 30 [] ≡ codes "all.q@local 2/1 - -" ∷ []
unfolding listings_in_full with_jobs opening
more_used_than_there_are = refl

-- two queues over a group of hosts: loads that reach the threshold and that don't, one that is a word, slots of one host alone
abbrev over_group : QueueRow
over_group = record default_queue { hosts = codes "@all" ∷ codes "local" ∷ []; slots = record { plain = 2; overrides = (codes "h1", 4) ∷ [] } }

abbrev site : List (ℕ × Job) → Cluster
site jobs =
    let c = with_jobs jobs in
    record c {
      hosts = (codes "global", bare_host) ∷ (codes "h1", loaded (Amount 1750000)) ∷ (codes "h2", loaded (Amount 1749999)) ∷ (codes "local", loaded (Word (codes "hot"))) ∷ [];
      groups = (codes "@all", codes "h2" ∷ codes "h1" ∷ []) ∷ [];
      queues = (codes "a.q", over_group) ∷ (codes "b.q", record over_group { thresholds = plain_attr [] }) ∷ [];
    }

over_a_group_of_hosts : listing_of (site ((1, running_job (codes "a") (running 1 20 (slots_of (codes "b.q") (codes "h1") 3 ∷ slots_of (codes "a.q") (codes "h2") 1 ∷ []))) ∷ [])) Queues 30 []
    ≡ codes "a.q@h1 0/4 1.750000 a"
    ∷ codes "a.q@h2 1/2 1.749999 -"
    ∷ codes "a.q@local 0/2 - -"
    ∷ codes "b.q@h1 3/4 1.750000 -"
    ∷ codes "b.q@h2 0/2 1.749999 -"
    ∷ codes "b.q@local 0/2 - -"
    ∷ []
unfolding listings_in_full with_jobs opening
over_a_group_of_hosts = refl

-- a load formula that is no complex: its number is printed as it is
abbrev by_unknown_load : Cluster
by_unknown_load =
    let c = with_jobs [] in
    record c {
      hosts = (codes "local", host [] ((codes "heat", Amount 12) ∷ [])) ∷ [];
      sched = record default_sched { load_formula = codes "heat" };
    }

load_of_no_complex : listing_of by_unknown_load Queues 30 [] ≡ codes "all.q@local 0/2 12 -" ∷ []
unfolding listings_in_full with_jobs opening
load_of_no_complex = refl
