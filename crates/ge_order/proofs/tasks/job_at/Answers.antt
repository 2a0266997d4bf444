use Rattle.ge_order.proofs.tasks.job_at.Goals as goal

pub returns-in-Some-clause-others : goal.returns-in-Some-clause-others
returns-in-Some-clause-others c = c.next_at.ensures.others c.args.c.now.jobs

pub returns-in-None-clause-others : goal.returns-in-None-clause-others
returns-in-None-clause-others c = c.next_at.ensures.others c.args.c.now.jobs
