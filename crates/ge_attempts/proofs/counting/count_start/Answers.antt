use Rattle.std.proofs.Common.{[], ◌∷◌, ◌++◌}
use Rattle.ge_attempts.proofs.Tallies.{uncounted, counted_start}
use Rattle.ge_attempts.proofs.counting.count_start.Goals as goal

pub returns-then-bound-eq0 : goal.returns-then-bound-eq0
returns-then-bound-eq0 c = λ decisions d starts before. uncounted c.args.cluster.now (decisions ++ d ∷ []) c.args.running.now c.if-bound-eq0.true

pub returns : goal.returns
returns c = λ decisions d starts before. counted_start c.args.cluster.now decisions d c.args.number c.args.running.now c.raise_owner.new.running starts before c.in_ok-raise_owner.ensures
