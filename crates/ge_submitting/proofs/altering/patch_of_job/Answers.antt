use Rattle.std.proofs.Common.{ap, ◌∙◌}
use Rattle.ge_model_core.specs.JobOptions.{patch_of}
use Rattle.ge_job_options.specs.Held.{holder_shown}
use Rattle.ge_submitting.proofs.Altered.{patch_is}
use Rattle.ge_submitting.proofs.altering.patch_of_job.Goals as goal

pub returns : goal.returns
returns c =
    patch_is c.args.c.now c.args.options.now.items (holder_shown c.holder_of-holder.result) c.in_ok-request.request c.in_ok-request.first c.in_ok-request.second c.in_ok-after.after c.in_ok-after.after_each
    c.in_ok-patch.patch c.in_ok-request.ensures.0 c.in_ok-after.ensures.first c.in_ok-after.ensures.second c.in_ok-patch.ensures
    ∙ ap (patch_of c.args.c.now c.args.options.now.items) c.holder_of-holder.ensures
