use Rattle.ge_job_options.proofs.Quoted.{quoted_put}
use Rattle.ge_job_options.proofs.jobs.append_quoted.Goals as goal

pub returns : goal.returns
returns c =
    quoted_put c.args.line.now.items _ _ _ c.args.name.now c.in_ok-extend_from_slice.ensures.items c.in_ok-extend_from_slice-2.ensures.items
    c.in_ok-extend_from_slice-3.ensures.items
