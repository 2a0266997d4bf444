use Rattle.std.specs.Prelude.{None}
use Rattle.ge_jobs.proofs.PutAgain.{joined_again}
use Rattle.ge_jobs.proofs.picking.join.Goals as goal

pub returns : goal.returns
returns c =
    joined_again c.args.rows.now c.insert.new.self c.insert-2.new.self c.args.pick.now c.in_ok-so_far.so_far None c.in_ok-named.named
    c.in_ok-so_far.ensures.before c.in_ok-so_far.ensures.ok c.in_ok-named.ensures c.in_ok-_meanwhile.ensures.ok
