-- Usage and its decay: share_tree, sched_conf.
use Rattle.std.specs.Prelude.{ℕ, ◌-◌, ◌*◌, ◌/◌, ◌^◌, ◌==◌, min, Bool, ◌&&◌, if◌then◌else◌, List, [], filter, fold}
use Rattle.std.specs.BTreeMap.{is_at, insert_entry}
use Rattle.std.specs.Map.{lookup}
use Rattle.std.specs.Option.{unwrap_or}
use Rattle.std.specs.Ordering.{nat_cmp, ordering_then}
use Rattle.std.specs.declared.cmp.Ordering.{Ordering}
use Rattle.ge_base.specs.Fixed.{cut_sum, cut_product, halved_by}
use Rattle.ge_collections.specs.Keyed.{text_cmp, text_eq}
use Rattle.ge_model_rows.specs.ClusterRows.{Cluster}
use Rattle.ge_model_rows.specs.SettingRows.{Sched}

-- the epoch of a moment under a halftime in hours; there is one alone where the halftime is 0
abbrev pub epoch_of : ℕ → ℕ → ℕ
epoch_of moment halftime = if halftime == 0 then 0 else moment / (3600 * halftime)

-- an amount of an epoch, as it counts in a later one: half of it is left with each epoch
abbrev pub decayed : ℕ → ℕ → ℕ → ℕ
decayed amount epoch now_epoch = halved_by amount (now_epoch - epoch)

-- a user, a project and an epoch, for which usage is kept
abbrev pub UsageKey : Type 0
UsageKey = List ℕ × List ℕ × ℕ

-- the order of usage keys: the first difference decides
abbrev pub usage_cmp : UsageKey → UsageKey → Ordering
usage_cmp x y = ordering_then (ordering_then (text_cmp x.0 y.0) (text_cmp x.1 y.1)) (nat_cmp x.2 y.2)

-- what a table of usage has at a key, 0 where it has no row
abbrev pub usage_at_key : List (UsageKey × ℕ) → UsageKey → ℕ
usage_at_key rows key = unwrap_or (lookup (is_at (usage_cmp key)) rows) 0

-- a table of usage with an amount added at a key; an amount of 0 makes a row too
abbrev pub with_usage : List (UsageKey × ℕ) → UsageKey → ℕ → List (UsageKey × ℕ)
with_usage rows key amount = insert_entry usage_cmp rows key (cut_sum (usage_at_key rows key) amount)

-- whether a row of usage is that of a user and a project
abbrev pub is_usage_of : List ℕ → List ℕ → UsageKey × ℕ → Bool
is_usage_of user project row = text_eq row.0.0 user && text_eq row.0.1 project

-- rows of usage as they count in an epoch, added up
abbrev pub usage_in : ℕ → List (UsageKey × ℕ) → ℕ
usage_in epoch rows = fold (λ sum row. cut_sum sum (decayed row.1 row.0.2 epoch)) 0 rows

-- the usage of a user and project at a moment
unfoldable pub usage_at : Cluster → List ℕ → List ℕ → ℕ → ℕ
usage_at c user project now = usage_in (epoch_of now c.sched.halftime) (filter (is_usage_of user project) c.usage)

-- the usage of a report, cut at 2^60 - 1: sched_conf, usage_weight_list
abbrev pub usage_of : Sched → ℕ → ℕ → ℕ → ℕ
usage_of sched cpu mem io =
    min (cut_sum (cut_sum (cut_product cpu sched.u_cpu) (cut_product mem sched.u_mem)) (cut_product io sched.u_io) / 1000000) (2 ^ 60 - 1)

-- a row of usage, as it counts in an epoch, added to a table in an epoch of another halftime
abbrev pub with_usage_row : ℕ → ℕ → List (UsageKey × ℕ) → UsageKey × ℕ → List (UsageKey × ℕ)
with_usage_row epoch new_epoch rows row = with_usage rows (row.0.0, row.0.1, new_epoch) (decayed row.1 row.0.2 epoch)

-- a table of usage at a moment at which the halftime changes: each row as it counts then, in the moment's epoch under the new halftime
abbrev pub converted : ℕ → ℕ → ℕ → List (UsageKey × ℕ) → List (UsageKey × ℕ)
converted moment halftime new_halftime rows = fold (with_usage_row (epoch_of moment halftime) (epoch_of moment new_halftime)) [] rows
