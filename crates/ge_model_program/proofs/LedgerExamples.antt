-- How a journal is kept on, worked out by hand: from the earlier format, behind 4,095 records, and in the last generation.
use Rattle.std.specs.Prelude.{◌≡◌, ◌+◌, ◌-◌, ◌^◌, min, false, [], ◌∷◌, length, refl}
use Rattle.ge_model_rows.specs.ClusterRows.{Cluster}
use Rattle.ge_model_rows.specs.EntryRows.{Entry}
use Rattle.ge_model_program.specs.Traced.{Traced, ends_at}
use Rattle.ge_model_program.specs.StandsFor.{cluster_bytes}
use Rattle.ge_model_program.specs.Keeping.{Ledger, entries_size, batch_end, next_ledger}

-- a batch with one entry
abbrev one : Entry → Cluster → Traced
one e c = record { replies = []; entries = e ∷ []; cluster = c; stopped = false }

nothing : (l : Ledger) (c : Cluster) → next_ledger l (ends_at false c) ≡ l
nothing l c = refl

from-first : (e : Entry) (c : Cluster)
    → next_ledger (record { format = 1; generation = 7; count = 3; end = 100 }) (one e c) ≡ record { format = 2; generation = 8; count = 0; end = 18 + length (cluster_bytes c) }
from-first e c = refl

behind-many : (e : Entry) (c : Cluster) → batch_end (record { format = 2; generation = 7; count = 4095; end = 100 }) (one e c) ≡ 19 + length (cluster_bytes c)
behind-many e c = refl

in-last : (e : Entry) (c : Cluster)
    → batch_end (record { format = 2; generation = 2 ^ 64 - 1; count = 5000; end = 100 }) (one e c) ≡ min (100 + 6 + entries_size (one e c)) (2 ^ 64 - 1)
in-last e c = refl

then-last : (e : Entry) (c : Cluster)
    → next_ledger (record { format = 2; generation = 2 ^ 64 - 1; count = 5000; end = 100 }) (one e c)
    ≡ record { format = 2; generation = 2 ^ 64 - 1; count = 5001; end = 100 + 5 + entries_size (one e c) }
then-last e c = refl
