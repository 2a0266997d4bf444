use Rattle.std.proofs.Common.{◌≡◌, filter, fold}
use Rattle.ge_base.specs.Fixed.{cut_sum}
use Rattle.ge_model_jobs.specs.Usage.{decayed, is_usage_of, usage_in}
use Rattle.ge_tickets.proofs.decaying.usage_by.Given as goal

abbrev pub invariant-loop-key : goal.invariant-loop-key
invariant-loop-key l = fold (λ sum row. cut_sum sum (decayed row.1 row.0.2 l.now_epoch)) l.total (filter (is_usage_of l.user l.project) l.key-iterator) ≡ usage_in l.now_epoch (filter (is_usage_of l.user l.project) l.c.usage)
