use Rattle.std.proofs.Common.{ℕ, ap, ◌∙◌}
use Rattle.ge_base.specs.Fixed.{cut_sum}
use Rattle.ge_listing.proofs.Lookups.{put_taken}
use Rattle.ge_listing.proofs.taking.add.Goals as goal

pub returns : goal.returns
returns c =
    put_taken c.args.taken.now.entries c.insert.new.self.entries c.in_ok-key.key c.args.at.now c.args.slots c.sum_of-all.result c.in_ok-key.ensures
    (c.sum_of-all.ensures ∙ ap (λ (n : ℕ). cut_sum n c.args.slots) c.taken_at.ensures) c.in_ok-insert.ensures.updates.0
