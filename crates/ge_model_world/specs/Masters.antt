-- What a world asks of a master, so that one definition serves the cluster of the product and a small one.
use Rattle.std.specs.Prelude.{ℕ, Bool, List}
use Rattle.ge_model_rows.specs.ClusterRows.{Cluster}
use Rattle.ge_model_rows.specs.AccountRows.{Line}
use Rattle.ge_model_rows.specs.EntryRows.{Entry}
use Rattle.ge_model_rows.specs.EventRows.{Event, Planned}

pub record Master : Type 0 where
  -- the cluster before the first event
  pub opening : Cluster
  -- what becomes of an event, and the cluster after an entry
  pub plan : Cluster → Event → Planned
  pub after : Cluster → Entry → Cluster
  -- the serials that run, and the accounting lines
  pub serials : Cluster → List ℕ
  pub lines : Cluster → List Line
  -- whether an entry is that of an `end`, and whether a text is such a request
  pub is_end : Entry → Bool
  pub is_end_text : List ℕ → Bool
  -- the request for the orders of a host
  pub orders_text : List ℕ → List ℕ
