-- A queue in three parts, in the order of queue_conf, with their defaults spelled out.
use Rattle.std.specs.Prelude.{ℕ, List, [], ◌∷◌, codes}
use Rattle.ge_model_rows.specs.ClusterRows.{Cluster, plain_attr}
use Rattle.ge_model_rows.specs.QueueRows.{Attr}
use Rattle.ge_model_rows.specs.ValueRows.{Kind, Value, Amount, infinity}
use Rattle.ge_model_config.specs.Cited.{Read, given, none_text, number_read, names_read, has_name, is_host_or_group}
use Rattle.ge_model_config.specs.Overrides.{attr_read}
use Rattle.ge_model_config.specs.Pairs.{values_read, any_fits, number_fits}
use Rattle.ge_model_config.specs.Queues.{limits_read}
use Rattle.ge_config.specs.Several.{three, four}

-- a whole number of a queue
abbrev pub count_attr : Cluster → List (List ℕ × List ℕ) → List ℕ → ℕ → Read (Attr ℕ)
count_attr c values attribute fallback = attr_read c values attribute (plain_attr fallback) (number_read Kind.Int 0 infinity)

-- a list of names of a queue
abbrev pub names_attr : {X : Type 0} → Cluster → List (List ℕ × List ℕ) → List ℕ → List (List ℕ × X) → Read (Attr (List (List ℕ)))
names_attr c values attribute table = attr_read c values attribute (plain_attr []) (names_read (has_name table))

-- the threshold of a queue whose body gives none
abbrev pub plain_thresholds : List (List ℕ × Value)
plain_thresholds = (codes "np_load_avg", Amount 1750000) ∷ []

abbrev pub first_attributes : Cluster → List (List ℕ × List ℕ)
    → Read (List (List ℕ) × Attr ℕ × Attr (List (List ℕ × Value)) × Attr (List (List ℕ)))
first_attributes c values = four
    (names_read (is_host_or_group c) (given values (codes "hostlist") none_text))
    (count_attr c values (codes "seq_no") 0)
    (attr_read c values (codes "load_thresholds") (plain_attr plain_thresholds) (values_read c number_fits))
    (names_attr c values (codes "pe_list") c.pes)

abbrev pub access_attributes : Cluster → List (List ℕ × List ℕ)
    → Read (Attr (List (List ℕ)) × Attr (List (List ℕ)) × Attr (List (List ℕ)) × Attr (List (List ℕ)))
access_attributes c values = four
    (names_attr c values (codes "user_lists") c.sets)
    (names_attr c values (codes "xuser_lists") c.sets)
    (names_attr c values (codes "projects") c.projects)
    (names_attr c values (codes "xprojects") c.projects)

abbrev pub last_attributes : Cluster → List (List ℕ × List ℕ) → Read (Attr (List (List ℕ × Value)) × Attr ℕ × List (List ℕ × Attr ℕ))
last_attributes c values = three
    (attr_read c values (codes "complex_values") (plain_attr []) (values_read c any_fits))
    (count_attr c values (codes "slots") 1)
    (limits_read c values)
