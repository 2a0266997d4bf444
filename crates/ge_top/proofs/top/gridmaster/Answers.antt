use Rattle.std.proofs.Common.{◌≡◌}
use Rattle.ge_model_program.proofs.Answered.{simulate-answered, writer-answered}
use Rattle.ge_top.proofs.ServedAreas.{serve-answered}
use Rattle.ge_top.proofs.Asked.{same-batch, asked-answered}
use Rattle.ge_top.proofs.top.gridmaster.Goals as goal

pub returns-in-Some-Simulate-clause-simulate_answered : goal.returns-in-Some-Simulate-clause-simulate_answered
returns-in-Some-Simulate-clause-simulate_answered g c = λ asks streams. simulate-answered _ _ _ _ _ _ _ _ _ streams c.simulate.ensures

pub returns-in-Some-Replay-clause-replay_answered : goal.returns-in-Some-Replay-clause-replay_answered
returns-in-Some-Replay-clause-replay_answered g c = λ batch asks areas.
    let same : c.in-Some-Replay.batch ≡ batch =
    same-batch c.read_words.result _ c.in-Some-Replay.field-0 c.in-Some-Replay.batch batch c.in-Some-Replay.is c.in-Some-Replay.field-0-is (rw c.as_slice.ensures.value at c.read_words.ensures.value) asks in
    asked-answered _ _ _ _ _ _ _ _ _ same areas c.replay_areas.ensures

pub returns-in-Some-Generate-clause-generate_answered : goal.returns-in-Some-Generate-clause-generate_answered
returns-in-Some-Generate-clause-generate_answered g c = λ jobs asks writes. writer-answered _ c.generate.ensures.statuses (λ is. writes (c.generate.ensures.written is))

pub returns-in-Some-Trial-clause-trial_answered : goal.returns-in-Some-Trial-clause-trial_answered
returns-in-Some-Trial-clause-trial_answered g c = λ jobs asks writes. writer-answered _ c.trial.ensures.statuses (λ is. writes (c.trial.ensures.written is))

pub returns-in-Some-Serve-clause-serve_answered : goal.returns-in-Some-Serve-clause-serve_answered
returns-in-Some-Serve-clause-serve_answered g c = λ count asks able. serve-answered _ _ _ _ _ _ _ _ _ _ _ _ able c.serve_areas.ensures
