use Rattle.ge_script.proofs.Steps.{job-next}
use Rattle.ge_script.proofs.generator.Generator.next_job.Goals as goal

pub returns-clause-next : goal.returns-clause-next
returns-clause-next c =
    let s = c.args.self.now in
    job-next s.last c.args.job s.state c.next_state-first.result c.next_state-second.result c.next_state-third.result c.in_ok-request.request _ c.requires
    c.next_state-first.ensures c.next_state-second.ensures c.next_state-third.ensures c.in_ok-request.ensures (c.turn_behind_job-self.ensures s.last c.next_state-third.result)
