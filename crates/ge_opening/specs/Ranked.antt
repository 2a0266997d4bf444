-- Instances with their ranks, as the keys of a set.
use Rattle.std.specs.Prelude.{ℕ, List, map}
use Rattle.ge_model_rows.specs.HostRows.{InstanceId}
use Rattle.ge_model_place.specs.InstanceOrder.{Rank}

-- an instance behind the two numbers of its rank
abbrev pub Key : Type 0
Key = ℕ × (ℕ × InstanceId)

-- the rank of such an instance, and the instance
abbrev pub ranked : Key → Rank × InstanceId
ranked key = let at = key.1.1 in ((key.0, key.1.0, at.queue, at.host), at)

abbrev pub all_ranked : List Key → List (Rank × InstanceId)
all_ranked keys = map ranked keys
