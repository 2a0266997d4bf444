use Rattle.ge_model_core.specs.Plan.{plan_of}
use Rattle.ge_run_laws.proofs.Runs.{runs-stand, readings-stand, replay-stands}
use Rattle.ge_run_laws.proofs.Frames.{link-stands}
use Rattle.ge_run_laws.proofs.Links.{links-stand, door-stands}
use Rattle.ge_run_laws.proofs.acknowledged_events_stand.Goals as goal

pub returns-clause-runs : goal.returns-clause-runs
returns-clause-runs g c = λ plan start events old new a b batch before later ledger. runs-stand plan start events g.row.Home.Denot old new a b batch before later ledger g.row.Ended.Denot

pub returns-clause-readings : goal.returns-clause-readings
returns-clause-readings g c = λ start events old new a b batch before later ledger.
    readings-stand plan_of start events g.row.Home.Denot old new a b batch before later ledger g.row.Ended.Denot c.plans_never_want_memory.ensures

pub returns-clause-replayed : goal.returns-clause-replayed
returns-clause-replayed g c = λ batch status script rest reads reads_now x y start state. replay-stands batch status script rest reads reads_now x y start state c.plans_never_want_memory.ensures

pub returns-clause-linked : goal.returns-clause-linked
returns-clause-linked g c = λ plan start clock bytes a b old now later how reached stopping. link-stands plan start clock bytes g.row.Home.Denot a b old now later how reached stopping

pub returns-clause-served : goal.returns-clause-served
returns-clause-served g c = links-stand

pub returns-clause-doors : goal.returns-clause-doors
returns-clause-doors g c = λ plan origin start coming closed clock coming_now closed_now a b status count later_now reached. door-stands plan origin start coming closed clock coming_now closed_now g.row.Home.Denot a b status count later_now reached
