-- The scheduler's settings in four parts, in the order of sched_conf, with their defaults spelled out.
use Rattle.std.specs.Prelude.{ℕ, List, [], ◌∷◌, codes}
use Rattle.ge_model_rows.specs.ClusterRows.{Cluster}
use Rattle.ge_model_rows.specs.SettingRows.{SortMethod, Load}
use Rattle.ge_model_rows.specs.ValueRows.{Kind, infinity}
use Rattle.ge_model_config.specs.Cited.{Read, number_read}
use Rattle.ge_model_config.specs.Settings.{setting, sort_read, formula_read, weights_read}
use Rattle.ge_config.specs.Several.{four, five}

-- a setting that is any amount of a kind
abbrev pub amount_setting : List (List ℕ × List ℕ) → List ℕ → Kind → ℕ → Read ℕ
amount_setting values attribute kind fallback = setting values attribute fallback (number_read kind 0 infinity)

-- one that is a whole number up to a greatest
abbrev pub count_setting : List (List ℕ × List ℕ) → List ℕ → ℕ → ℕ → Read ℕ
count_setting values attribute most fallback = setting values attribute fallback (number_read Kind.Int 0 most)

-- the weights of a body that gives none, by name
abbrev pub plain_weights : List (List ℕ × ℕ)
plain_weights = (codes "cpu", 1000000) ∷ (codes "io", 0) ∷ (codes "mem", 0) ∷ []

abbrev pub first_settings : Cluster → List (List ℕ × List ℕ) → Read (ℕ × ℕ × SortMethod × List ℕ)
first_settings c values = four
    (amount_setting values (codes "schedule_interval") Kind.Time 15)
    (amount_setting values (codes "maxujobs") Kind.Int 0)
    (setting values (codes "queue_sort_method") Load sort_read)
    (setting values (codes "load_formula") (codes "np_load_avg") (formula_read c))

abbrev pub priority_weights : List (List ℕ × List ℕ) → Read (ℕ × ℕ × ℕ × ℕ × ℕ)
priority_weights values = five
    (amount_setting values (codes "weight_priority") Kind.Double 1000000)
    (amount_setting values (codes "weight_urgency") Kind.Double 100000)
    (amount_setting values (codes "weight_ticket") Kind.Double 10000)
    (amount_setting values (codes "weight_waiting_time") Kind.Double 0)
    (amount_setting values (codes "weight_deadline") Kind.Double 3600000000000)

abbrev pub ticket_weights : List (List ℕ × List ℕ) → Read (ℕ × ℕ × ℕ × ℕ × ℕ)
ticket_weights values = five
    (count_setting values (codes "weight_tickets_functional") 1000000000 0)
    (count_setting values (codes "weight_tickets_share") 1000000000 0)
    (amount_setting values (codes "weight_user") Kind.Double 250000)
    (amount_setting values (codes "weight_project") Kind.Double 250000)
    (amount_setting values (codes "weight_job") Kind.Double 250000)

abbrev pub last_settings : List (List ℕ × List ℕ) → Read (ℕ × ℕ × ℕ × List (List ℕ × ℕ) × ℕ)
last_settings values = five
    (count_setting values (codes "halftime") 1048575 168)
    (amount_setting values (codes "max_reservation") Kind.Int 0)
    (amount_setting values (codes "default_duration") Kind.Time infinity)
    (setting values (codes "usage_weight_list") plain_weights weights_read)
    (amount_setting values (codes "max_pending_tasks_per_job") Kind.Int 50)
