-- The orders of a host are the texts that are gathered in the order of their serials, jobs and tasks.
use Rattle.std.proofs.Common.{◌≡◌, ℕ, List, [], fold, sym, ◌∙◌}
use Rattle.std.specs.Map.{values_of}
use Rattle.ge_model_rows.specs.ClusterRows.{Cluster}
use Rattle.ge_model_report.specs.Orders.{orders_of}
use Rattle.ge_model_report.proofs.OrderTexts.{orders_gathered}
use Rattle.ge_listing.specs.Gathered.{with_orders}

pub gathered_are_orders : (c : Cluster) (host : List ℕ) (lines : List (List ℕ)) → lines ≡ values_of (fold (with_orders host) [] c.jobs) → lines ≡ orders_of c host
gathered_are_orders c host lines are = are ∙ sym (orders_gathered c host)
