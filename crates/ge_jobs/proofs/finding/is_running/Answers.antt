use Rattle.std.proofs.Common.{sym, ap, ◌∙◌, is_some}
use Rattle.ge_model_jobs.proofs.WalkedSerials.{serial_borne}
use Rattle.ge_jobs.proofs.Serials.{some_made}
use Rattle.ge_jobs.proofs.finding.is_running.Goals as goal

pub returns : goal.returns
returns c =
    c.is_some.ensures ∙ sym (some_made (λ found. (found.0.now, found.1.now)) c.job_with.result) ∙ ap is_some c.job_with.ensures ∙ sym (serial_borne c.args.jobs.now c.args.serial)
