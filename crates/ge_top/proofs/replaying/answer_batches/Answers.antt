use Rattle.std.proofs.Common.{◌≡◌, ◌-◌, ◌∙◌, length, false, Err, ap, sym, refl, inr, arith}
use Rattle.std.specs.Prelude.{option_map}
use Rattle.ge_limits.specs.Limits as limit
use Rattle.ge_model_grammar.specs.Events.{events_of}
use Rattle.ge_model_core.specs.Plan.{plan_of}
use Rattle.ge_model_program.specs.Traced.{traced}
use Rattle.ge_script.specs.Pieces.{coming, given_count, read_count}
use Rattle.ge_serve.specs.Ledgers.{ledger_of}
use Rattle.ge_top.proofs.Images.{home-images, ends-images}
use Rattle.ge_top.proofs.RunsTold.{run-none, told-nothing, told-all, told-in-hand, told-full, told-cut, told-stopped, told-last, told-goes-on}
use Rattle.ge_top.proofs.SoFar.{read-long, read-below}
use Rattle.ge_top.proofs.Steps.{stops-as, not_empty, three_syncs, turns-left}
use Rattle.ge_top.proofs.TakenEvents.{no-more-behind}
use Rattle.ge_top.proofs.TooLong.{on-full}
use Rattle.ge_top.proofs.replaying.answer_batches.Goals as goal

pub returns-in-Err-clause-part : goal.returns-in-Err-clause-part
returns-in-Err-clause-part g c =
    told-nothing _ _ _ _ _ _ _ _ _ _ _ _
    (run-none plan_of c.args.m.now.cluster (g.K.Sink.written c.args.output.now) c.args.batch _ (ledger_of c.args.m.now.spool) c.requires.some (g.S.Source.rest c.args.input.now) (option_map events_of (g.S.Source.rest c.args.input.now)) refl)
    _ _ _ (λ at_home. home-images _ _ _ at_home)

pub batches-init : goal.batches-init
batches-init g c = record {
  run = run-none plan_of c.args.m.now.cluster (g.K.Sink.written c.args.output.now) c.args.batch _ (ledger_of c.args.m.now.spool) c.requires.some (g.S.Source.rest c.args.input.now) _ (c.in-Ok.ensures.coming (g.S.Source.rest c.args.input.now));
  over = c.in-Ok.ensures.over (g.S.Source.rest c.args.input.now);
  total = c.in-Ok.ensures.total (g.S.Source.rest c.args.input.now);
  lives = c.requires.lives;
  going = c.requires.going;
  room = c.requires.length;
  home = λ home. home;
  reads = omega arith;
  writes = omega arith;
  faults_a = omega arith;
  faults_b = omega arith;
}

pub returns-in-Err-Read-clause-part : goal.returns-in-Err-Read-clause-part
returns-in-Err-Read-clause-part g c =
    told-nothing _ _ _ _ _ _ _ _ _ _ _ _ c.batches.invariant.run _ _ _ (λ at_home. home-images _ _ _ (c.batches.invariant.home at_home))

pub returns-in-Err-Long-clause-part : goal.returns-in-Err-Long-clause-part
returns-in-Err-Long-clause-part g c =
    told-nothing _ _ _ _ _ _ _ _ _ _ _ _ c.batches.invariant.run _ _ _ (λ at_home. home-images _ _ _ (c.batches.invariant.home at_home))

pub returns-in-Err-Memory-clause-part : goal.returns-in-Err-Memory-clause-part
returns-in-Err-Memory-clause-part g c =
    told-nothing _ _ _ _ _ _ _ _ _ _ _ _ c.batches.invariant.run _ _ _ (λ at_home. home-images _ _ _ (c.batches.invariant.home at_home))

pub returns-in-Err-Long-clause-long : goal.returns-in-Err-Long-clause-long
returns-in-Err-Long-clause-long g c =
    let fault = ap (λ f. Err f) c.in-Err-Long.field-0-is in
    read-long (g.S.Source.rest c.args.input.now) (g.S.Source.rest c.next_batch.new.input) (read_count c.next_batch.new.script) limit.script_bytes (c.in-Err-Long.ensures.long_total fault ∙ c.batches.invariant.total) (c.in-Err-Long.ensures.long fault)

pub returns-then-is_empty-clause-all : goal.returns-then-is_empty-clause-all
returns-then-is_empty-clause-all g c =
    let none = c.is_empty.ensures.0 c.if-is_empty.true in
    told-all _ _ _ _ _ _ _ _ _ _ _ _ c.batches.invariant.run _ _ _ (coming c.next_batch.new.script (g.S.Source.rest c.next_batch.new.input)) (g.S.Source.rest c.next_batch.new.input) c.in-Ok-next_batch.events c.in-Ok-next_batch.ensures.gives
    (no-more-behind _ _ c.args.batch c.in-Ok-next_batch.events c.in-Ok-next_batch.ensures.all (λ full. omega (arith, ap length none, full, c.requires.some)))
    none
    (λ at_home. home-images _ _ _ (c.batches.invariant.home at_home))

pub returns-then-is_empty-clause-below : goal.returns-then-is_empty-clause-below
returns-then-is_empty-clause-below g c =
    read-below (g.S.Source.rest c.args.input.now) (g.S.Source.rest c.next_batch.new.input) (read_count c.next_batch.new.script) limit.script_bytes (c.in-Ok-next_batch.ensures.total ∙ c.batches.invariant.total) c.in-Ok-next_batch.ensures.over.below

pub returns-in-Err-handle_batch-clause-part : goal.returns-in-Err-handle_batch-clause-part
returns-in-Err-handle_batch-clause-part g c =
    let h = c.in-Err-handle_batch.ensures.handled c.batches.invariant.lives in
    told-in-hand plan_of _ _ c.args.batch _ _ _ _ (coming c.next_batch.new.script (g.S.Source.rest c.next_batch.new.input)) (g.K.Sink.written c.batches.output) (g.K.Sink.written c.batches.output) _ _ _ c.batches.m.cluster (traced plan_of c.batches.m.cluster c.in-Ok-next_batch.events h.marks).cluster c.in-Ok-next_batch.events
    c.batches.invariant.run c.in-Ok-next_batch.ensures.gives h.marks h.counted (not_empty c.is_empty.result c.in-Ok-next_batch.events c.is_empty.ensures c.if-is_empty.false) c.in-Ok-next_batch.ensures.few
    (three_syncs _ _ _ h.handled.syncs) refl
    _ _ _ (λ at_home. ends-images _ _ _ _ _ h.handled.grows.0 h.handled.grows.1 (h.handled.any_moment (c.batches.invariant.home at_home)))

pub returns-in-Err-handle_batch-clause-full : goal.returns-in-Err-handle_batch-clause-full
returns-in-Err-handle_batch-clause-full g c =
    let h = c.in-Err-handle_batch.ensures.handled c.batches.invariant.lives in
    let t = traced plan_of c.batches.m.cluster c.in-Ok-next_batch.events h.marks in
    on-full c.in-Err-handle_batch.stop t c.batches.m.spool _ _ _ _ h.handled.answer h.handled.unwritten
    (λ place none stands.
    told-full plan_of _ _ c.args.batch _ _ _ _ (coming c.next_batch.new.script (g.S.Source.rest c.next_batch.new.input)) (g.K.Sink.written c.batches.output) (g.K.Sink.written c.batches.output) _ _ _ c.batches.m.cluster t.cluster c.in-Ok-next_batch.events
    c.batches.invariant.run c.in-Ok-next_batch.ensures.gives h.marks h.counted (not_empty c.is_empty.result c.in-Ok-next_batch.events c.is_empty.ensures c.if-is_empty.false) c.in-Ok-next_batch.ensures.few
    (three_syncs _ _ _ h.handled.syncs) refl
    _ _ _ (g.S.Source.rest c.next_batch.new.input) place none c.in-Ok-next_batch.ensures.all
    (λ at_home. ends-images _ _ _ _ _ h.handled.grows.0 h.handled.grows.1 (stands (c.batches.invariant.home at_home))))

pub returns-in-Err-handle_batch-clause-below : goal.returns-in-Err-handle_batch-clause-below
returns-in-Err-handle_batch-clause-below g c =
    read-below (g.S.Source.rest c.args.input.now) (g.S.Source.rest c.next_batch.new.input) (read_count c.next_batch.new.script) limit.script_bytes (c.in-Ok-next_batch.ensures.total ∙ c.batches.invariant.total) c.in-Ok-next_batch.ensures.over.below

pub returns-in-Err-Write-clause-cut : goal.returns-in-Err-Write-clause-cut
returns-in-Err-Write-clause-cut g c =
    let h = c.in-Ok-handle_batch.ensures.handled c.batches.invariant.lives in
    told-cut plan_of _ _ c.args.batch _ _ _ _ (coming c.next_batch.new.script (g.S.Source.rest c.next_batch.new.input)) (g.K.Sink.written c.batches.output) (g.K.Sink.written c.write_replies.new.output) _ _ _ c.batches.m.cluster c.handle_batch.new.self.cluster c.in-Ok-next_batch.events
    c.batches.invariant.run c.in-Ok-next_batch.ensures.gives h.marks h.counted (not_empty c.is_empty.result c.in-Ok-next_batch.events c.is_empty.ensures c.if-is_empty.false) c.in-Ok-next_batch.ensures.few
    (three_syncs _ _ _ h.handled.syncs) h.handled.left.cluster
    c.in-Ok-handle_batch.replies h.handled.answer.0 (ledger_of c.handle_batch.new.self.spool) h.handled.answer.1 h.handled.left.ledger _ _ _ (λ at_home. home-images _ _ _ (h.handled.home (c.batches.invariant.home at_home)))
    c.write_replies.ensures.front

pub returns-in-Err-Write-clause-below : goal.returns-in-Err-Write-clause-below
returns-in-Err-Write-clause-below g c =
    read-below (g.S.Source.rest c.args.input.now) (g.S.Source.rest c.next_batch.new.input) (read_count c.next_batch.new.script) limit.script_bytes (c.in-Ok-next_batch.ensures.total ∙ c.batches.invariant.total) c.in-Ok-next_batch.ensures.over.below

pub returns-in-Err-Memory-write_replies-clause-part : goal.returns-in-Err-Memory-write_replies-clause-part
returns-in-Err-Memory-write_replies-clause-part g c =
    let h = c.in-Ok-handle_batch.ensures.handled c.batches.invariant.lives in
    rw (c.in-Err-Memory-write_replies.ensures.none (ap (λ f. Err f) c.in-Err-Memory-write_replies.field-0-is))
    (told-in-hand plan_of _ _ c.args.batch _ _ _ _ (coming c.next_batch.new.script (g.S.Source.rest c.next_batch.new.input)) (g.K.Sink.written c.batches.output) (g.K.Sink.written c.batches.output) _ _ _ c.batches.m.cluster c.handle_batch.new.self.cluster c.in-Ok-next_batch.events
    c.batches.invariant.run c.in-Ok-next_batch.ensures.gives h.marks h.counted (not_empty c.is_empty.result c.in-Ok-next_batch.events c.is_empty.ensures c.if-is_empty.false) c.in-Ok-next_batch.ensures.few
    (three_syncs _ _ _ h.handled.syncs) h.handled.left.cluster
    _ _ _ (λ at_home. λ x y of_x of_y. inr (home-images _ _ _ (h.handled.home (c.batches.invariant.home at_home)) x y of_x of_y)))

pub returns-then-stopping-clause-all : goal.returns-then-stopping-clause-all
returns-then-stopping-clause-all g c =
    let h = c.in-Ok-handle_batch.ensures.handled c.batches.invariant.lives in
    let stops = stops-as c.batches.m.stopping c.handle_batch.new.self.stopping (traced plan_of c.batches.m.cluster c.in-Ok-next_batch.events h.marks).stopped c.batches.invariant.going h.handled.left.stopping in
    told-stopped plan_of _ _ c.args.batch _ _ _ _ (coming c.next_batch.new.script (g.S.Source.rest c.next_batch.new.input)) (g.K.Sink.written c.batches.output) (g.K.Sink.written c.write_replies.new.output) _ _ _ c.batches.m.cluster c.handle_batch.new.self.cluster c.in-Ok-next_batch.events
    c.batches.invariant.run c.in-Ok-next_batch.ensures.gives h.marks h.counted (not_empty c.is_empty.result c.in-Ok-next_batch.events c.is_empty.ensures c.if-is_empty.false) c.in-Ok-next_batch.ensures.few
    (three_syncs _ _ _ h.handled.syncs) h.handled.left.cluster
    c.in-Ok-handle_batch.replies h.handled.answer.0 (ledger_of c.handle_batch.new.self.spool) h.handled.answer.1 h.handled.left.ledger _ _ _ (λ at_home. home-images _ _ _ (h.handled.home (c.batches.invariant.home at_home)))
    _ (stops ∙ sym c.stopping.ensures ∙ c.if-stopping.true) c.in-Ok-write_replies.ensures.whole

pub returns-then-stopping-clause-below : goal.returns-then-stopping-clause-below
returns-then-stopping-clause-below g c =
    read-below (g.S.Source.rest c.args.input.now) (g.S.Source.rest c.next_batch.new.input) (read_count c.next_batch.new.script) limit.script_bytes (c.in-Ok-next_batch.ensures.total ∙ c.batches.invariant.total) c.in-Ok-next_batch.ensures.over.below

pub returns-then-len-batch-clause-all : goal.returns-then-len-batch-clause-all
returns-then-len-batch-clause-all g c =
    let h = c.in-Ok-handle_batch.ensures.handled c.batches.invariant.lives in
    told-last plan_of _ _ c.args.batch _ _ _ _ (coming c.next_batch.new.script (g.S.Source.rest c.next_batch.new.input)) (g.K.Sink.written c.batches.output) (g.K.Sink.written c.write_replies.new.output) _ _ _ c.batches.m.cluster c.handle_batch.new.self.cluster c.in-Ok-next_batch.events
    c.batches.invariant.run c.in-Ok-next_batch.ensures.gives h.marks h.counted (not_empty c.is_empty.result c.in-Ok-next_batch.events c.is_empty.ensures c.if-is_empty.false) c.in-Ok-next_batch.ensures.few
    (three_syncs _ _ _ h.handled.syncs) h.handled.left.cluster
    c.in-Ok-handle_batch.replies h.handled.answer.0 (ledger_of c.handle_batch.new.self.spool) h.handled.answer.1 h.handled.left.ledger _ _ _ (λ at_home. home-images _ _ _ (h.handled.home (c.batches.invariant.home at_home)))
    (g.S.Source.rest c.next_batch.new.input) (no-more-behind _ _ c.args.batch c.in-Ok-next_batch.events c.in-Ok-next_batch.ensures.all (λ full. omega (arith, full, c.len.ensures, c.if-len-batch.true))) c.in-Ok-write_replies.ensures.whole

pub returns-then-len-batch-clause-below : goal.returns-then-len-batch-clause-below
returns-then-len-batch-clause-below g c =
    read-below (g.S.Source.rest c.args.input.now) (g.S.Source.rest c.next_batch.new.input) (read_count c.next_batch.new.script) limit.script_bytes (c.in-Ok-next_batch.ensures.total ∙ c.batches.invariant.total) c.in-Ok-next_batch.ensures.over.below

pub batches-smaller : goal.batches-smaller
batches-smaller g c =
    turns-left (given_count c.batches.script) (read_count c.batches.script) (given_count c.next_batch.new.script) c.args.batch (omega arith) c.batches.invariant.over.below c.requires.some
    (c.in-Ok-next_batch.ensures.goes_on (omega (arith, c.in-Ok-next_batch.ensures.few, c.len.ensures, c.if-len-batch.false)))

pub batches-preserved : goal.batches-preserved
batches-preserved g c =
    let h = c.in-Ok-handle_batch.ensures.handled c.batches.invariant.lives in
    let stops = stops-as c.batches.m.stopping c.handle_batch.new.self.stopping (traced plan_of c.batches.m.cluster c.in-Ok-next_batch.events h.marks).stopped c.batches.invariant.going h.handled.left.stopping in
    let still : c.handle_batch.new.self.stopping ≡ false = sym c.stopping.ensures ∙ c.if-stopping.false in
    let full : length c.in-Ok-next_batch.events ≡ c.args.batch = omega (arith, c.in-Ok-next_batch.ensures.few, c.len.ensures, c.if-len-batch.false) in
    record {
      run = told-goes-on plan_of _ _ c.args.batch _ _ _ _ (coming c.next_batch.new.script (g.S.Source.rest c.next_batch.new.input)) (g.K.Sink.written c.batches.output) (g.K.Sink.written c.write_replies.new.output) _ _ _ c.batches.m.cluster c.handle_batch.new.self.cluster c.in-Ok-next_batch.events
          c.batches.invariant.run c.in-Ok-next_batch.ensures.gives h.marks h.counted (not_empty c.is_empty.result c.in-Ok-next_batch.events c.is_empty.ensures c.if-is_empty.false) c.in-Ok-next_batch.ensures.few
          (three_syncs _ _ _ h.handled.syncs) h.handled.left.cluster
          c.in-Ok-handle_batch.replies h.handled.answer.0 (ledger_of c.handle_batch.new.self.spool) h.handled.answer.1 h.handled.left.ledger full (stops ∙ still) c.in-Ok-write_replies.ensures.whole;
      over = c.in-Ok-next_batch.ensures.over;
      total = c.in-Ok-next_batch.ensures.total ∙ c.batches.invariant.total;
      lives = c.in-Ok-handle_batch.ensures.goes;
      going = still;
      room = c.handle_batch.ensures.length;
      home = λ at_home. h.handled.home (c.batches.invariant.home at_home);
      reads = omega (arith, c.next_batch.ensures.later, c.batches.invariant.reads);
      writes = omega (arith, c.write_replies.ensures.later, c.batches.invariant.writes);
      faults_a = omega (arith, c.handle_batch.ensures.faults_a, c.batches.invariant.faults_a);
      faults_b = omega (arith, c.handle_batch.ensures.faults_b, c.batches.invariant.faults_b);
    }
