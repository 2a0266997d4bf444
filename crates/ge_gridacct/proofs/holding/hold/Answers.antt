use Rattle.std.proofs.Common.{◌++◌}
use Rattle.ge_gridacct.proofs.Written.{front_longer, written_more, written_front}
use Rattle.ge_gridacct.proofs.holding.hold.Goals as goal

pub returns-in_err-extend_from_slice-clause-front : goal.returns-in_err-extend_from_slice-clause-front
returns-in_err-extend_from_slice-clause-front g c = λ start text wrote.
    front_longer start (g.K.Sink.written c.args.output.now) text c.args.line.now (written_front start _ c.args.held.now.items text wrote)

pub returns-then-len-lt-ROOM-clause-front : goal.returns-then-len-lt-ROOM-clause-front
returns-then-len-lt-ROOM-clause-front g c = λ start text wrote.
    front_longer start (g.K.Sink.written c.args.output.now) text c.args.line.now (written_front start _ c.args.held.now.items text wrote)

pub returns-then-len-lt-ROOM-clause-whole : goal.returns-then-len-lt-ROOM-clause-whole
returns-then-len-lt-ROOM-clause-whole g c = λ start text wrote.
    written_more start _ c.args.held.now.items _ text c.args.line.now c.in_ok-extend_from_slice.ensures.items wrote

pub returns-clause-whole : goal.returns-clause-whole
returns-clause-whole g c = λ start text wrote.
    c.write_held.ensures.whole start (text ++ c.args.line.now)
    (written_more start _ c.args.held.now.items _ text c.args.line.now c.in_ok-extend_from_slice.ensures.items wrote)

pub returns-clause-front : goal.returns-clause-front
returns-clause-front g c = λ start text wrote.
    c.write_held.ensures.front start (text ++ c.args.line.now)
    (written_more start _ c.args.held.now.items _ text c.args.line.now c.in_ok-extend_from_slice.ensures.items wrote)
