use Rattle.ge_model_core.specs.Plan.{plan_of}
use Rattle.ge_serve.proofs.Frames.{unhandled, stopped, unwritten, answered}
use Rattle.ge_serve.proofs.answering.answer_frame.Goals as goal

pub returns-in-Err-clause-answers : goal.returns-in-Err-clause-answers
returns-in-Err-clause-answers g c = unhandled plan_of _ _ _ _ c.now-moment.result c.now-moment.ensures _

pub returns-in-Err-handle_batch-clause-answers : goal.returns-in-Err-handle_batch-clause-answers
returns-in-Err-handle_batch-clause-answers g c =
    stopped plan_of _ _ _ _ c.now-moment.result c.now-moment.ensures _ _ _ c.in-Ok.events (rw c.cluster.ensures at c.in-Ok.ensures) c.in-Err-handle_batch.stop
    (c.in-Err-handle_batch.ensures.handled c.requires.lives)

pub returns-in-None-clause-answers : goal.returns-in-None-clause-answers
returns-in-None-clause-answers g c =
    unwritten plan_of _ _ _ _ c.now-moment.result c.now-moment.ensures _ _ _ c.in-Ok.events (rw c.cluster.ensures at c.in-Ok.ensures) c.in-Ok-handle_batch.replies
    (c.in-Ok-handle_batch.ensures.handled c.requires.lives)

pub returns-in-Err-render-clause-answers : goal.returns-in-Err-render-clause-answers
returns-in-Err-render-clause-answers g c =
    unwritten plan_of _ _ _ _ c.now-moment.result c.now-moment.ensures _ _ _ c.in-Ok.events (rw c.cluster.ensures at c.in-Ok.ensures) c.in-Ok-handle_batch.replies
    (c.in-Ok-handle_batch.ensures.handled c.requires.lives)

pub returns-clause-answers : goal.returns-clause-answers
returns-clause-answers g c =
    answered plan_of _ _ _ _ c.now-moment.result c.now-moment.ensures _ _ _ c.in-Ok.events (rw c.cluster.ensures at c.in-Ok.ensures) c.in-Ok-handle_batch.replies c.in-Some.reply
    c.in-Ok-render.text (c.in-Ok-handle_batch.ensures.handled c.requires.lives) c.in-Some.ensures c.in-Ok-render.ensures
