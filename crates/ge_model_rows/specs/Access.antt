-- Who may: managers, operators, and user sets (access_list).
use Rattle.std.specs.Prelude.{ℕ, Bool, not, ◌&&◌, ◌||◌, List, [], ◌∷◌, unwrap_or}
use Rattle.std.specs.List.{list_any}
use Rattle.ge_collections.specs.Keyed.{at_text}
use Rattle.ge_model_rows.specs.ClusterRows.{Cluster}
use Rattle.ge_model_rows.specs.Pieces.{is_empty, is_one_of}

abbrev pub is_manager : Cluster → List ℕ → Bool
is_manager c user = is_one_of user c.managers

-- a manager is an operator too
abbrev pub is_operator : Cluster → List ℕ → Bool
is_operator c user = is_one_of user c.operators || is_manager c user

-- the entries of a user set; one that isn't there has none
abbrev pub set_entries : Cluster → List ℕ → List (List ℕ)
set_entries c set = unwrap_or (at_text c.sets set) []

-- whether a user set has a user, by name or by group, which stands there behind an at sign
abbrev pub in_user_set : Cluster → List ℕ → List ℕ → List ℕ → Bool
in_user_set c set user group = is_one_of user (set_entries c set) || is_one_of (64 ∷ group) (set_entries c set)

-- whether one of these user sets has a user
abbrev pub in_user_sets : Cluster → List (List ℕ) → List ℕ → List ℕ → Bool
in_user_sets c sets user group = list_any (λ set. in_user_set c set user group) sets

-- whether lists admit a user: in one of the sets, or there are none, and in none of the excluding sets: set lists, excluding lists, user, group
abbrev pub may_use : Cluster → List (List ℕ) → List (List ℕ) → List ℕ → List ℕ → Bool
may_use c lists xlists user group = (is_empty lists || in_user_sets c lists user group) && not (in_user_sets c xlists user group)
