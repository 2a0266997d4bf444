-- The replies so far are counted.
use Rattle.std.proofs.Common.{length}
use Rattle.std.specs.Prelude.{map}
use Rattle.ge_model_rows.specs.ClusterRows.{opening_cluster}
use Rattle.ge_model_grammar.specs.Events.{event_of, events_of}
use Rattle.ge_model_grammar.specs.Generated.{generated_script}
use Rattle.ge_script.specs.Left.{left}
use Rattle.ge_top.proofs.Tallied.{HasTallied}
use Rattle.ge_top.proofs.trying.count_requests.Given as goal

abbrev pub invariant-requests : goal.invariant-requests
invariant-requests l = HasTallied l.tally opening_cluster (events_of (generated_script l.number)) l.cluster (map event_of (left l.generator))

abbrev pub decreases-requests : goal.decreases-requests
decreases-requests l = length (left l.generator)
