-- Grants as text: where a task runs, and with how many slots.
use Rattle.std.specs.Prelude.{ℕ, List, ◌++◌, map, codes, decimal}
use Rattle.ge_model_rows.specs.HostRows.{InstanceId}
use Rattle.ge_model_rows.specs.JobRows.{Grant}
use Rattle.ge_model_rows.specs.Pieces.{joined_by}
use Rattle.ge_model_order.specs.Amounts.{cut_total}

-- an instance as it is written
abbrev pub instance_text : InstanceId → List ℕ
instance_text at = at.queue ++ codes "@" ++ at.host

abbrev pub grant_text : Grant → List ℕ
grant_text grant = instance_text grant.at ++ codes "=" ++ decimal grant.slots

-- grants joined by commas
abbrev pub grants_text : List Grant → List ℕ
grants_text grants = joined_by (codes ",") (map grant_text grants)

-- the slots of all grants
abbrev pub granted_slots : List Grant → ℕ
granted_slots grants = cut_total (λ grant. grant.slots) grants

-- words of a line, with a blank between two
abbrev pub worded : List (List ℕ) → List ℕ
worded words = joined_by (codes " ") words
