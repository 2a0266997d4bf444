use Rattle.std.proofs.Common.{◌≡◌, ◌++◌, refl, ap, ◌∙◌, arith}
use Rattle.ge_wire.proofs.Filled.{fills}
use Rattle.ge_wire.proofs.filling.fill_part.Goals as goal

pub returns-in-Ok-clause-moved : goal.returns-in-Ok-clause-moved
returns-in-Ok-clause-moved g c =
    fills (g.S.Source.rest c.args.s.now) (g.S.Source.rest c.read.new.self) c.args.buf.now (c.split_at_mut-rest.result.0.now ++ (c.read.new.buf ++ c.split_at_mut-piece.result.1.now))
    c.split_at_mut-rest.result.0.now c.split_at_mut-piece.result.0.now c.read.new.buf c.split_at_mut-piece.result.1.now c.args.done c.in-Ok.count
    (c.split_at_mut-rest.ensures.value ∙ ap (λ xs. c.split_at_mut-rest.result.0.now ++ xs) c.split_at_mut-piece.ensures.value) refl
    c.split_at_mut-rest.ensures.front_len c.in-Ok.ensures.bound (omega (arith, c.read.auto.buf)) c.in-Ok.ensures.taken
