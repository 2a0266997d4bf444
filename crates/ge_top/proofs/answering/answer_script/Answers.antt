use Rattle.std.proofs.Common.{◌∙◌, ap, refl, arith}
use Rattle.std.specs.Prelude.{option_map}
use Rattle.ge_limits.specs.Limits as limit
use Rattle.ge_model_rows.specs.ClusterRows.{opening_cluster}
use Rattle.ge_model_grammar.specs.Events.{events_of}
use Rattle.ge_script.specs.Pieces.{coming, read_count}
use Rattle.ge_top.specs.Holding.{with_held}
use Rattle.ge_top.proofs.Held.{nothing-held, gained-nothing, gained-more}
use Rattle.ge_top.proofs.SoFar.{so-far-none, so-far-more, so-far-replies, so-far-front, so-far-kept, so-far-ended-kept, so-far-cut, so-far-fault, fault-keeps, so-far-cut-behind, so-far-stopped, so-far-all, so-far-done-front, so-far-done-cut, read-below}
use Rattle.ge_top.proofs.answering.answer_script.Goals as goal

pub returns-in_err-script-clause-memory : goal.returns-in_err-script-clause-memory
returns-in_err-script-clause-memory g c = λ _.
    so-far-replies _ _ _ _ _
    (so-far-none (g.S.Source.rest c.args.input.now) (option_map events_of (g.S.Source.rest c.args.input.now)) (g.K.Sink.written c.args.output.now) opening_cluster refl refl)

pub returns-in_err-script-clause-front : goal.returns-in_err-script-clause-front
returns-in_err-script-clause-front g c =
    so-far-front _ _ _ _ _
    (so-far-none (g.S.Source.rest c.args.input.now) (option_map events_of (g.S.Source.rest c.args.input.now)) (g.K.Sink.written c.args.output.now) opening_cluster refl refl)

pub returns-in_err-cluster-clause-memory : goal.returns-in_err-cluster-clause-memory
returns-in_err-cluster-clause-memory g c = λ _.
    so-far-replies _ _ _ _ _
    (so-far-none (g.S.Source.rest c.args.input.now) (option_map events_of (g.S.Source.rest c.args.input.now)) (g.K.Sink.written c.args.output.now) opening_cluster refl refl)

pub returns-in_err-cluster-clause-front : goal.returns-in_err-cluster-clause-front
returns-in_err-cluster-clause-front g c =
    so-far-front _ _ _ _ _
    (so-far-none (g.S.Source.rest c.args.input.now) (option_map events_of (g.S.Source.rest c.args.input.now)) (g.K.Sink.written c.args.output.now) opening_cluster refl refl)

pub events-init : goal.events-init
events-init g c = record {
  so_far = so-far-kept _ _ _ _ _ _ (ap (with_held (g.K.Sink.written c.args.output.now)) c.new-held.ensures.items ∙ nothing-held (g.K.Sink.written c.args.output.now))
      (so-far-none _ _ _ _ (c.in_ok-script.ensures.coming (g.S.Source.rest c.args.input.now)) c.in_ok-cluster.ensures);
  gained = gained-nothing (g.K.Sink.written c.args.output.now);
  over = c.in_ok-script.ensures.over (g.S.Source.rest c.args.input.now);
  total = c.in_ok-script.ensures.total (g.S.Source.rest c.args.input.now);
  read_later = omega arith;
  later = omega arith;
}

pub returns-in-Ok-None-clause-ended : goal.returns-in-Ok-None-clause-ended
returns-in-Ok-None-clause-ended g c =
    so-far-all _ _ (coming c.next_event.new.script (g.S.Source.rest c.next_event.new.input)) _ _ (g.S.Source.rest c.next_event.new.input) _ (so-far-kept _ _ _ _ (g.K.Sink.written c.next_event.new.output) _ (rw c.in-Ok-None.field-0-is at c.in-Ok-None.ensures.held) c.events.invariant.so_far) (rw c.in-Ok-None.field-0-is at c.in-Ok-None.ensures.next) (rw c.in-Ok-None.field-0-is at c.in-Ok-None.ensures.goes_on)

pub returns-in-Ok-None-clause-front : goal.returns-in-Ok-None-clause-front
returns-in-Ok-None-clause-front g c = so-far-front _ _ _ _ _ (so-far-kept _ _ _ _ (g.K.Sink.written c.next_event.new.output) _ (rw c.in-Ok-None.field-0-is at c.in-Ok-None.ensures.held) c.events.invariant.so_far)

pub returns-in-Ok-None-clause-below : goal.returns-in-Ok-None-clause-below
returns-in-Ok-None-clause-below g c =
    read-below (g.S.Source.rest c.args.input.now) (g.S.Source.rest c.next_event.new.input) (read_count c.next_event.new.script) limit.script_bytes (c.in-Ok-None.ensures.total ∙ c.events.invariant.total) c.in-Ok-None.ensures.over.below

pub returns-in-Err-clause-unread : goal.returns-in-Err-clause-unread
returns-in-Err-clause-unread g c = λ is. so-far-replies _ _ _ _ _ (so-far-kept _ _ _ _ (g.K.Sink.written c.next_event.new.output) _ (fault-keeps c.in-Err.fault _ _ _ _ c.next_event.new.held.items is c.in-Err.ensures.held) c.events.invariant.so_far)

pub returns-in-Err-clause-too_long : goal.returns-in-Err-clause-too_long
returns-in-Err-clause-too_long g c = λ is. so-far-replies _ _ _ _ _ (so-far-kept _ _ _ _ (g.K.Sink.written c.next_event.new.output) _ (fault-keeps c.in-Err.fault _ _ _ _ c.next_event.new.held.items is c.in-Err.ensures.held) c.events.invariant.so_far)

pub returns-in-Err-clause-memory : goal.returns-in-Err-clause-memory
returns-in-Err-clause-memory g c = λ is. so-far-replies _ _ _ _ _ (so-far-kept _ _ _ _ (g.K.Sink.written c.next_event.new.output) _ (fault-keeps c.in-Err.fault _ _ _ _ c.next_event.new.held.items is c.in-Err.ensures.held) c.events.invariant.so_far)

pub returns-in-Err-clause-front : goal.returns-in-Err-clause-front
returns-in-Err-clause-front g c =
    so-far-fault c.in-Err.fault _ _ _ (g.K.Sink.written c.events.output) _ _ c.events.held.items c.next_event.new.held.items c.events.invariant.so_far c.events.invariant.gained c.in-Err.ensures.held

pub returns-in_err-write_held-clause-front : goal.returns-in_err-write_held-clause-front
returns-in_err-write_held-clause-front g c =
    so-far-cut _ _ _ (g.K.Sink.written c.next_event.new.output) _ _ c.next_event.new.held.items (so-far-kept _ _ _ _ (with_held (g.K.Sink.written c.next_event.new.output) c.next_event.new.held.items) _ (rw c.in-Ok-Some.field-0-is at c.in-Ok-Some.ensures.held) c.events.invariant.so_far) (gained-more (g.K.Sink.written c.args.output.now) (g.K.Sink.written c.events.output) (g.K.Sink.written c.next_event.new.output) c.events.invariant.gained c.next_event.ensures.gained) c.in_err-write_held.ensures.front

pub returns-in_default-clause-memory : goal.returns-in_default-clause-memory
returns-in_default-clause-memory g c = λ _. so-far-replies _ _ _ _ _ (so-far-kept _ _ _ _ (g.K.Sink.written c.write_held.new.output) _ c.in_ok-write_held.ensures.whole (so-far-kept _ _ _ _ (with_held (g.K.Sink.written c.next_event.new.output) c.next_event.new.held.items) _ (rw c.in-Ok-Some.field-0-is at c.in-Ok-Some.ensures.held) c.events.invariant.so_far))

pub returns-in_default-clause-front : goal.returns-in_default-clause-front
returns-in_default-clause-front g c = so-far-front _ _ _ _ _ (so-far-kept _ _ _ _ (g.K.Sink.written c.write_held.new.output) _ c.in_ok-write_held.ensures.whole (so-far-kept _ _ _ _ (with_held (g.K.Sink.written c.next_event.new.output) c.next_event.new.held.items) _ (rw c.in-Ok-Some.field-0-is at c.in-Ok-Some.ensures.held) c.events.invariant.so_far))

pub returns-in_err-hold-clause-front : goal.returns-in_err-hold-clause-front
returns-in_err-hold-clause-front g c =
    so-far-cut-behind _ _ (coming c.next_event.new.script (g.S.Source.rest c.next_event.new.input)) _ (g.K.Sink.written c.next_event.new.output) _ _ _ c.in-Ok-Some.event _ c.next_event.new.held.items (so-far-kept _ _ _ _ (with_held (g.K.Sink.written c.next_event.new.output) c.next_event.new.held.items) _ (rw c.in-Ok-Some.field-0-is at c.in-Ok-Some.ensures.held) c.events.invariant.so_far) (rw c.in-Ok-Some.field-0-is at c.in-Ok-Some.ensures.next) c.in-Ok.ensures (gained-more (g.K.Sink.written c.args.output.now) (g.K.Sink.written c.events.output) (g.K.Sink.written c.next_event.new.output) c.events.invariant.gained c.next_event.ensures.gained) (rw c.reply_bytes.ensures at c.in_err-hold.ensures.front)

pub returns-in_err-write_held-2-clause-front : goal.returns-in_err-write_held-2-clause-front
returns-in_err-write_held-2-clause-front g c =
    let so_far = (so-far-kept _ _ _ _ (with_held (g.K.Sink.written c.next_event.new.output) c.next_event.new.held.items) _ (rw c.in-Ok-Some.field-0-is at c.in-Ok-Some.ensures.held) c.events.invariant.so_far) in
    so-far-done-cut (g.S.Source.rest c.args.input.now) (g.K.Sink.written c.args.output.now) (g.K.Sink.written c.hold.new.output) (g.K.Sink.written c.write_held-then-answer.new.output) (g.S.Source.rest c.next_event.new.input) c.hold.new.held.items
    (so-far-stopped _ _ (coming c.next_event.new.script (g.S.Source.rest c.next_event.new.input)) _ _ (with_held (g.K.Sink.written c.hold.new.output) c.hold.new.held.items) (g.S.Source.rest c.next_event.new.input) _ _ c.in-Ok-Some.event _ so_far (rw c.in-Ok-Some.field-0-is at c.in-Ok-Some.ensures.next) c.in-Ok.ensures c.if-answer.true (rw c.reply_bytes.ensures at c.in_ok-hold.ensures.whole))
    (gained-more _ (g.K.Sink.written c.next_event.new.output) _ (gained-more (g.K.Sink.written c.args.output.now) (g.K.Sink.written c.events.output) (g.K.Sink.written c.next_event.new.output) c.events.invariant.gained c.next_event.ensures.gained) c.hold.ensures.gained) c.in_err-write_held-2.ensures.front

pub returns-in_err-write_held-2-clause-below_cut : goal.returns-in_err-write_held-2-clause-below_cut
returns-in_err-write_held-2-clause-below_cut g c = λ _.
    read-below (g.S.Source.rest c.args.input.now) (g.S.Source.rest c.next_event.new.input) (read_count c.next_event.new.script) limit.script_bytes (c.in-Ok-Some.ensures.total ∙ c.events.invariant.total) c.in-Ok-Some.ensures.over.below

pub returns-then-answer-clause-ended : goal.returns-then-answer-clause-ended
returns-then-answer-clause-ended g c =
    let so_far = (so-far-kept _ _ _ _ (with_held (g.K.Sink.written c.next_event.new.output) c.next_event.new.held.items) _ (rw c.in-Ok-Some.field-0-is at c.in-Ok-Some.ensures.held) c.events.invariant.so_far) in
    so-far-ended-kept (g.S.Source.rest c.args.input.now) (g.K.Sink.written c.args.output.now) (with_held (g.K.Sink.written c.hold.new.output) c.hold.new.held.items) (g.K.Sink.written c.write_held-then-answer.new.output) (g.S.Source.rest c.next_event.new.input) c.in_ok-write_held-2.ensures.whole
    (so-far-stopped _ _ (coming c.next_event.new.script (g.S.Source.rest c.next_event.new.input)) _ _ (with_held (g.K.Sink.written c.hold.new.output) c.hold.new.held.items) (g.S.Source.rest c.next_event.new.input) _ _ c.in-Ok-Some.event _ so_far (rw c.in-Ok-Some.field-0-is at c.in-Ok-Some.ensures.next) c.in-Ok.ensures c.if-answer.true (rw c.reply_bytes.ensures at c.in_ok-hold.ensures.whole))

pub returns-then-answer-clause-front : goal.returns-then-answer-clause-front
returns-then-answer-clause-front g c =
    let so_far = (so-far-kept _ _ _ _ (with_held (g.K.Sink.written c.next_event.new.output) c.next_event.new.held.items) _ (rw c.in-Ok-Some.field-0-is at c.in-Ok-Some.ensures.held) c.events.invariant.so_far) in
    so-far-done-front (g.S.Source.rest c.args.input.now) (g.K.Sink.written c.args.output.now) (g.K.Sink.written c.write_held-then-answer.new.output) (g.S.Source.rest c.next_event.new.input)
    (so-far-ended-kept (g.S.Source.rest c.args.input.now) (g.K.Sink.written c.args.output.now) (with_held (g.K.Sink.written c.hold.new.output) c.hold.new.held.items) (g.K.Sink.written c.write_held-then-answer.new.output) (g.S.Source.rest c.next_event.new.input) c.in_ok-write_held-2.ensures.whole
    (so-far-stopped _ _ (coming c.next_event.new.script (g.S.Source.rest c.next_event.new.input)) _ _ (with_held (g.K.Sink.written c.hold.new.output) c.hold.new.held.items) (g.S.Source.rest c.next_event.new.input) _ _ c.in-Ok-Some.event _ so_far (rw c.in-Ok-Some.field-0-is at c.in-Ok-Some.ensures.next) c.in-Ok.ensures c.if-answer.true (rw c.reply_bytes.ensures at c.in_ok-hold.ensures.whole)))

pub returns-then-answer-clause-below : goal.returns-then-answer-clause-below
returns-then-answer-clause-below g c =
    read-below (g.S.Source.rest c.args.input.now) (g.S.Source.rest c.next_event.new.input) (read_count c.next_event.new.script) limit.script_bytes (c.in-Ok-Some.ensures.total ∙ c.events.invariant.total) c.in-Ok-Some.ensures.over.below

pub events-preserved : goal.events-preserved
events-preserved g c =
    let so_far = (so-far-kept _ _ _ _ (with_held (g.K.Sink.written c.next_event.new.output) c.next_event.new.held.items) _ (rw c.in-Ok-Some.field-0-is at c.in-Ok-Some.ensures.held) c.events.invariant.so_far) in
    record {
      so_far = so-far-more _ _ (coming c.next_event.new.script (g.S.Source.rest c.next_event.new.input)) _ _ (with_held (g.K.Sink.written c.hold.new.output) c.hold.new.held.items) _ _ c.in-Ok-Some.event _ so_far (rw c.in-Ok-Some.field-0-is at c.in-Ok-Some.ensures.next) c.in-Ok.ensures c.if-answer.false (rw c.reply_bytes.ensures at c.in_ok-hold.ensures.whole);
      gained = gained-more _ (g.K.Sink.written c.next_event.new.output) _ (gained-more (g.K.Sink.written c.args.output.now) (g.K.Sink.written c.events.output) (g.K.Sink.written c.next_event.new.output) c.events.invariant.gained c.next_event.ensures.gained) c.hold.ensures.gained;
      over = c.in-Ok-Some.ensures.over;
      total = c.in-Ok-Some.ensures.total ∙ c.events.invariant.total;
      read_later = omega (arith, c.next_event.ensures.read_later, c.events.invariant.read_later);
      later = omega (arith, c.hold.ensures.cause.later, c.next_event.ensures.later, c.events.invariant.later);
    }
