-- What is held is written before the reply.
use Rattle.std.proofs.Common.{◌≡◌}
use Rattle.ge_top.proofs.Held.{front-late, gained-either, gained-more}
use Rattle.ge_top.proofs.holding.hold.Goals as goal

pub returns-clause-front : goal.returns-clause-front
returns-clause-front g c =
    let same : c.has_held.new.held.items ≡ c.args.held.now.items = c.if-has_held.ensures in
    rw same at (front-late c.write_all.result _ _ (g.K.Sink.written c.write_all.new.sink) c.has_held.new.held.items c.args.reply.now c.in_ok-write_held.ensures.whole c.write_all.ensures.front)

pub returns-clause-gained : goal.returns-clause-gained
returns-clause-gained g c =
    gained-more (g.K.Sink.written c.args.output.now) (g.K.Sink.written c.write_held.new.output) (g.K.Sink.written c.write_all.new.sink) c.write_held.ensures.gained
    (gained-either c.write_all.result _ _ c.args.reply.now c.write_all.ensures.whole c.write_all.ensures.front)
