use Rattle.ge_gridacct.proofs.Written.{written_all, written_cut, written_empty, whole_front}
use Rattle.ge_gridacct.proofs.holding.write_held.Goals as goal

pub returns-in_err-write_all-clause-front : goal.returns-in_err-write_all-clause-front
returns-in_err-write_all-clause-front g c = λ start text wrote.
    written_cut start _ (g.K.Sink.written c.write_all.new.sink) c.args.held.now.items text wrote (rw c.as_slice.ensures.value at c.in_err-write_all.ensures.front)

pub returns-clause-whole : goal.returns-clause-whole
returns-clause-whole g c = λ start text wrote.
    written_empty start (g.K.Sink.written c.write_all.new.sink) _ text c.clear.ensures.items
    (written_all start _ (g.K.Sink.written c.write_all.new.sink) c.args.held.now.items text wrote (rw c.as_slice.ensures.value at c.in_ok-write_all.ensures.whole))

pub returns-clause-all : goal.returns-clause-all
returns-clause-all g c = λ start text wrote.
    written_all start _ (g.K.Sink.written c.write_all.new.sink) c.args.held.now.items text wrote (rw c.as_slice.ensures.value at c.in_ok-write_all.ensures.whole)

pub returns-clause-front : goal.returns-clause-front
returns-clause-front g c = λ start text wrote.
    whole_front start (g.K.Sink.written c.write_all.new.sink) text
    (written_all start _ (g.K.Sink.written c.write_all.new.sink) c.args.held.now.items text wrote (rw c.as_slice.ensures.value at c.in_ok-write_all.ensures.whole))
