-- Worked rows: usage and its decay, and what entries make of what is configured.
use Rattle.std.specs.Prelude.{◌≡◌, ℕ, ◌^◌, ◌-◌, true, codes, List, [], ◌∷◌, refl}
use Rattle.ge_model_rows.specs.ClusterRows.{Cluster, opening_cluster, default_queue, default_sched}
use Rattle.ge_model_rows.specs.EntryRows.{Put, Drop, Load, Item, ObjectKind}
use Rattle.ge_model_rows.specs.HostRows.{HostRow}
use Rattle.ge_model_rows.specs.SettingRows.{Sched}
use Rattle.ge_model_rows.specs.ValueRows.{Amount, Flag}
use Rattle.ge_model_jobs.specs.Usage.{UsageKey, epoch_of, decayed, usage_at, usage_of}
use Rattle.ge_model_jobs.specs.Applying.{after_entry, changes_in_full}
use Rattle.ge_model_jobs.proofs.Samples.{host, cluster, at}

abbrev row : List ℕ → ℕ → ℕ → UsageKey × ℕ
row user epoch amount = ((user, [], epoch), amount)

-- settings with a halftime in hours
abbrev halved_each : ℕ → Sched
halved_each hours = record default_sched { halftime = hours }

-- a cluster with a halftime of an hour and this usage
unfoldable used : List (UsageKey × ℕ) → Cluster
unfolding cluster default_sched
used rows = record (cluster []) { sched = halved_each 1; usage = rows }

-- an epoch is one halftime long

first_epoch : epoch_of 3599 1 ≡ 0
first_epoch = refl

second_epoch : epoch_of 3600 1 ≡ 1
second_epoch = refl

one_epoch_alone : epoch_of (2 ^ 40) 0 ≡ 0
one_epoch_alone = refl

not_yet_decayed : decayed 1001 7 3 ≡ 1001
not_yet_decayed = refl

all_decayed : decayed (2 ^ 128 - 1) 0 (2 ^ 40) ≡ 0
all_decayed = refl

-- the rows of the user and project alone, each rounded down, and cut where they are added
rows_added : usage_at (used (row (codes "ann") 0 3 ∷ row (codes "ann") 1 3 ∷ ((codes "ann", codes "p", 1), 9) ∷ row (codes "bob") 1 9 ∷ [])) (codes "ann") [] 7200 ≡ 1
unfolding usage_at used cluster default_sched
rows_added = refl

sum_cut : usage_at (used (row (codes "ann") 1 (2 ^ 128 - 1) ∷ row (codes "ann") 2 7 ∷ [])) (codes "ann") [] 3600 ≡ 2 ^ 128 - 1
unfolding usage_at used cluster default_sched
sum_cut = refl

-- a report counts by its weights, rounded down once
weighted : usage_of (record default_sched { u_cpu = 500000; u_mem = 500000; u_io = 0 }) 3 2 7 ≡ 2
unfolding default_sched
weighted = refl

most_usage : usage_of (record default_sched { u_cpu = 2 ^ 64 - 1 }) (2 ^ 64 - 1) 0 0 ≡ 2 ^ 60 - 1
unfolding default_sched
most_usage = refl

-- another halftime: each row as it counts now, in one epoch of the new one
halftime_changes : after_entry (used (row (codes "ann") 0 1001 ∷ row (codes "ann") 1 7 ∷ row (codes "bob") 2 5 ∷ [])) (at 7200 (Put (Item.Sched (halved_each 2))))
    ≡ record (used (row (codes "ann") 1 253 ∷ row (codes "bob") 1 5 ∷ [])) { last = 7200; sched = halved_each 2 }
unfolding changes_in_full used cluster default_sched
halftime_changes = refl

halftime_stays : after_entry (used (row (codes "ann") 0 1001 ∷ [])) (at 7200 (Put (Item.Sched (record (halved_each 1) { max_pending = 3 }))))
    ≡ record (used (row (codes "ann") 0 1001 ∷ [])) { last = 7200; sched = record (halved_each 1) { max_pending = 3 } }
unfolding changes_in_full used cluster default_sched
halftime_stays = refl

-- what is configured

abbrev hosts : HostRow → List (List ℕ × HostRow)
hosts local = (codes "global", host [] []) ∷ (codes "local", local) ∷ []

-- a host keeps its load
host_put : after_entry (record (cluster []) { hosts = hosts (host [] ((codes "a", Amount 1) ∷ [])) }) (at 1 (Put (Item.Host (codes "local") ((codes "b", Flag true) ∷ []))))
    ≡ record (cluster []) { last = 1; hosts = hosts (host ((codes "b", Flag true) ∷ []) ((codes "a", Amount 1) ∷ [])) }
unfolding changes_in_full cluster
host_put = refl

-- a report replaces the values that it names
load_reported : after_entry (record (cluster []) { hosts = hosts (host [] ((codes "b", Amount 1) ∷ (codes "c", Amount 2) ∷ [])) })
    (at 1 (Load (codes "local") ((codes "a", Amount 7) ∷ (codes "c", Amount 8) ∷ [])))
    ≡ record (cluster []) { last = 1; hosts = hosts (host [] ((codes "a", Amount 7) ∷ (codes "b", Amount 1) ∷ (codes "c", Amount 8) ∷ [])) }
unfolding changes_in_full cluster
load_reported = refl

load_of_nobody : after_entry (cluster []) (at 1 (Load (codes "n1") ((codes "a", Amount 7) ∷ []))) ≡ record (cluster []) { last = 1 }
unfolding changes_in_full cluster
load_of_nobody = refl

-- a name leaves wherever it stands
operator_dropped : after_entry (record (cluster []) { operators = codes "bob" ∷ codes "ann" ∷ codes "bob" ∷ [] }) (at 1 (Drop (record { kind = ObjectKind.Operators; name = codes "bob" })))
    ≡ record (cluster []) { last = 1; operators = codes "ann" ∷ [] }
unfolding changes_in_full cluster
operator_dropped = refl

queue_dropped : after_entry (cluster []) (at 1 (Drop (record { kind = ObjectKind.Queue; name = codes "all.q" }))) ≡ record (cluster []) { last = 1; queues = [] }
unfolding changes_in_full cluster opening_cluster default_queue default_sched
queue_dropped = refl

settings_stay : after_entry (cluster []) (at 1 (Drop (record { kind = ObjectKind.Sched; name = [] }))) ≡ record (cluster []) { last = 1 }
unfolding changes_in_full cluster
settings_stay = refl
