use Rattle.ge_outside.specs.Steps.{write-tied, write-told}
use Rattle.ge_outside.proofs.histories.History.write.Goals as goal

pub invariant_of-self-2 : goal.invariant_of-self-2
invariant_of-self-2 c = record {
  tied = rw (c.in_ok-keep_first.ensures.kept c.keep_write.new.bytes.items)
      (write-tied _ c.args.self.now.steps.items _ c.args.self.now.bytes.items _ c.args.piece.now c.args.at c.keep_write.result
      c.keep_write.ensures.bytes c.keep_write.ensures.step c.keep_write.ensures.bytes_stay c.keep_write.ensures.steps_stay c.args.self.now.tied);
}

pub returns-clause-written : goal.returns-clause-written
returns-clause-written c = rw (c.in_ok-keep_first.ensures.kept c.keep_write.new.bytes.items) (write-told _ c.args.self.now.steps.items _ c.args.piece.now c.args.at c.in_ok-keep_write.ensures.step)
