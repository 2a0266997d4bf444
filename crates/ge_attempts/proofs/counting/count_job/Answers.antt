use Rattle.std.proofs.Common.{◌≡◌, ℕ, ◌+◌, cond, subst}
use Rattle.ge_collections.specs.Keyed.{text_eq}
use Rattle.ge_attempts.specs.Counts.{count_at}
use Rattle.ge_attempts.proofs.counting.count_job.Goals as goal

pub returns : goal.returns
returns c = λ q.
    subst (λ (n : ℕ). count_at c.raise.new.running q ≡ count_at c.args.running.now q + cond (text_eq c.args.job.now.owner q) n 0) c.len-tasks.ensures.len (c.in_ok-raise.ensures q)
