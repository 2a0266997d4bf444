use Rattle.std.proofs.Common.{◌≡◌, ◌++◌, subst}
use Rattle.std.specs.Result.{OnOk}
use Rattle.ge_model_codec.specs.Jobs.{job_code}
use Rattle.ge_codec.proofs.rows.job_row.JobRowCanon.put.Goals as goal

pub returns-clause-ok : goal.returns-clause-ok
returns-clause-ok c = subst (λ job. OnOk c.put.result (c.put.new.out ≡ c.args.out.now ++ job_code.write job)) c.job.ensures c.put.ensures.ok
