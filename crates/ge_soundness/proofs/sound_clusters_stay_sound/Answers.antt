use Rattle.ge_model_rows.specs.ClusterRows.{opening_cluster}
use Rattle.ge_soundness.proofs.Opening.{opening_is_sound}
use Rattle.ge_model_core.specs.Plan.{plan_of}
use Rattle.ge_soundness.proofs.Plans.{planned}
use Rattle.ge_soundness.proofs.Traces.{opening_ordered, entry_kept, trace_kept}
use Rattle.ge_soundness.proofs.sound_clusters_stay_sound.Goals as goal

pub returns-clause-opening : goal.returns-clause-opening
returns-clause-opening c = (opening_is_sound, opening_ordered)

pub returns-clause-entries : goal.returns-clause-entries
returns-clause-entries c = entry_kept plan_of planned

pub returns-clause-traces : goal.returns-clause-traces
returns-clause-traces c = λ events marks. trace_kept plan_of planned marks opening_cluster events (opening_is_sound, opening_ordered)
