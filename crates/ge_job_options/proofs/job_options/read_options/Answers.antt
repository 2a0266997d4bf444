use Rattle.ge_job_options.specs.Held.{holder_shown}
use Rattle.ge_job_options.proofs.Noted.{options_noted}
use Rattle.ge_job_options.proofs.job_options.read_options.Goals as goal

pub returns : goal.returns
returns c = (
  (λ i. (c.in_ok-request.ensures.0 i, c.in_ok-after.ensures.0 i, c.in_ok-after_each.ensures.0 i)),
  options_noted c.args.c.now c.args.e.now c.args.options.now.items (holder_shown c.args.holder.now) c.args.faults.now c.request_over.new.faults c.note_words.new.faults c.read_holds.new.faults
      c.read_array_holds.new.faults c.in_ok-request.ensures.1 c.note_words.ensures c.in_ok-after.ensures.1 c.in_ok-after_each.ensures.1,
)
