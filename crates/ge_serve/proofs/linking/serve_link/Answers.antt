use Rattle.std.proofs.Common.{◌≡◌, ◌∙◌, false, sym, arith}
use Rattle.ge_model_core.specs.Plan.{plan_of}
use Rattle.ge_master.specs.Areas.{areas_of}
use Rattle.ge_master.specs.Masters.{parts_of}
use Rattle.ge_serve.proofs.Kept.{rose-since, failed-since}
use Rattle.ge_serve.proofs.Exits.{same-side, come-none, exit-dead, exit-done, exit-fault, exit-memory, exit-stop, exit-write, exit-stopped, come-on, fault-blames}
use Rattle.ge_serve.proofs.Steps.{blames-stop}
use Rattle.ge_serve.proofs.linking.serve_link.Goals as goal

pub returns-then-dead-clause-ends : goal.returns-then-dead-clause-ends
returns-then-dead-clause-ends g c =
    exit-dead plan_of (g.N.Source.rest c.args.link.now) (g.C.Clock.answers c.args.clock.now) (parts_of c.args.m.now)
    (areas_of g.D.Disk.told g.D.Disk.syncs g.D.Disk.disk_faults c.args.a.now c.args.b.now) (g.N.Sink.written c.args.link.now)

pub frames-init : goal.frames-init
frames-init g c = record {
  come = come-none plan_of (g.N.Source.rest c.args.link.now) (g.C.Clock.answers c.args.clock.now) (parts_of c.args.m.now)
      (areas_of g.D.Disk.told g.D.Disk.syncs g.D.Disk.disk_faults c.args.a.now c.args.b.now) (g.N.Sink.written c.args.link.now);
  lived = sym c.dead.ensures ∙ c.if-dead.false;
  lives = sym c.dead.ensures ∙ c.if-dead.false;
  going = c.requires.going;
  room = c.requires.length;
  home = λ home. home;
  below = omega arith;
  reads = omega arith;
  writes = omega arith;
  faults_a = omega arith;
  faults_b = omega arith;
}

pub returns-in-Ok-None-clause-ends : goal.returns-in-Ok-None-clause-ends
returns-in-Ok-None-clause-ends g c =
    let side = same-side _ _ _ _ _ _ (g.met.N.Link.reads_leave c.frames.link) (g.met.N.Link.reads_leave c.read_frame.new.s) c.read_frame.ensures.write_side in
    exit-done _ _ _ _ _ _ _ _ _ _ _ _ c.frames.invariant.come c.frames.invariant.going (g.N.Source.rest c.read_frame.new.s) (g.N.Sink.written c.read_frame.new.s) side.0
    (rw c.in-Ok-None.field-0-is at c.in-Ok-None.ensures.reads)

pub returns-in-Err-clause-ends : goal.returns-in-Err-clause-ends
returns-in-Err-clause-ends g c =
    let side = same-side _ _ _ _ _ _ (g.met.N.Link.reads_leave c.frames.link) (g.met.N.Link.reads_leave c.read_frame.new.s) c.read_frame.ensures.write_side in
    exit-fault _ _ _ _ _ _ _ _ _ _ _ _ c.frames.invariant.come c.frames.invariant.going c.in-Err.fault c.end_of.result c.end_of.ensures (g.N.Source.rest c.read_frame.new.s)
    (g.N.Sink.written c.read_frame.new.s) side.0 _ c.in-Err.ensures.reads c.in-Err.ensures.alone

pub returns-in-Err-clause-blames : goal.returns-in-Err-clause-blames
returns-in-Err-clause-blames g c =
    fault-blames c.in-Err.fault c.end_of.result c.end_of.ensures _ _ _ _ _ _ c.in-Err.ensures.alone
    (λ r. rose-since (g.N.Source.read_faults c.args.link.now) (g.N.Source.read_faults c.frames.link) (g.N.Source.read_faults c.read_frame.new.s) c.frames.invariant.reads r)

pub returns-in-Ok-None-answer_frame-clause-ends : goal.returns-in-Ok-None-answer_frame-clause-ends
returns-in-Ok-None-answer_frame-clause-ends g c =
    let side = same-side _ _ _ _ _ _ (g.met.N.Link.reads_leave c.frames.link) (g.met.N.Link.reads_leave c.read_frame.new.s) c.read_frame.ensures.write_side in
    exit-memory _ _ _ _ _ _ _ _ _ _ _ _ c.frames.invariant.come c.frames.invariant.going (g.N.Source.rest c.read_frame.new.s) c.in-Ok-Some.payload
    (rw c.in-Ok-Some.field-0-is at c.in-Ok-Some.ensures.reads) c.frames.invariant.home _ _ _ (g.N.Sink.written c.read_frame.new.s) side.0
    (rw c.in-Ok-None-answer_frame.field-0-is at c.in-Ok-None-answer_frame.ensures.answers)

pub returns-in-Err-answer_frame-clause-ends : goal.returns-in-Err-answer_frame-clause-ends
returns-in-Err-answer_frame-clause-ends g c =
    let side = same-side _ _ _ _ _ _ (g.met.N.Link.reads_leave c.frames.link) (g.met.N.Link.reads_leave c.read_frame.new.s) c.read_frame.ensures.write_side in
    exit-stop _ _ _ _ _ _ _ _ _ _ _ _ c.frames.invariant.come c.frames.invariant.going (g.N.Source.rest c.read_frame.new.s) c.in-Ok-Some.payload
    (rw c.in-Ok-Some.field-0-is at c.in-Ok-Some.ensures.reads) c.frames.invariant.home _ _ _ (g.N.Sink.written c.read_frame.new.s) side.0 c.in-Err-answer_frame.stop
    c.in-Err-answer_frame.ensures.answers

pub returns-in-Err-answer_frame-clause-blames : goal.returns-in-Err-answer_frame-clause-blames
returns-in-Err-answer_frame-clause-blames g c =
    blames-stop c.in-Err-answer_frame.stop _ _ _ _ _ c.in-Err-answer_frame.ensures.answers.replies.0
    (λ r. failed-since (areas_of g.D.Disk.told g.D.Disk.syncs g.D.Disk.disk_faults c.args.a.now c.args.b.now) (areas_of g.D.Disk.told g.D.Disk.syncs g.D.Disk.disk_faults c.frames.a c.frames.b)
    (areas_of g.D.Disk.told g.D.Disk.syncs g.D.Disk.disk_faults c.answer_frame.new.a c.answer_frame.new.b) c.frames.invariant.faults_a c.frames.invariant.faults_b r)

pub returns-in-Err-write_reply-clause-ends : goal.returns-in-Err-write_reply-clause-ends
returns-in-Err-write_reply-clause-ends g c =
    let side = same-side _ _ _ _ _ _ (g.met.N.Link.reads_leave c.frames.link) (g.met.N.Link.reads_leave c.read_frame.new.s) c.read_frame.ensures.write_side in
    exit-write _ _ _ _ _ _ _ _ _ _ _ _ c.frames.invariant.come c.frames.invariant.going (g.N.Source.rest c.read_frame.new.s) c.in-Ok-Some.payload
    (rw c.in-Ok-Some.field-0-is at c.in-Ok-Some.ensures.reads) c.frames.invariant.home _ _ _ c.in-Ok-Some-answer_frame.reply
    (rw c.in-Ok-Some-answer_frame.field-0-is at c.in-Ok-Some-answer_frame.ensures.answers) (g.N.Sink.written c.read_frame.new.s) (g.N.Sink.written c.write_reply.new.k) side.0
    c.in-Err-write_reply.ensures.front

pub returns-then-stopping-clause-ends : goal.returns-then-stopping-clause-ends
returns-then-stopping-clause-ends g c =
    let side = same-side _ _ _ _ _ _ (g.met.N.Link.reads_leave c.frames.link) (g.met.N.Link.reads_leave c.read_frame.new.s) c.read_frame.ensures.write_side in
    exit-stopped _ _ _ _ _ _ _ _ _ _ _ _ c.frames.invariant.come c.frames.invariant.going (g.N.Source.rest c.read_frame.new.s) c.in-Ok-Some.payload
    (rw c.in-Ok-Some.field-0-is at c.in-Ok-Some.ensures.reads) c.frames.invariant.home _ _ _ c.in-Ok-Some-answer_frame.reply
    (rw c.in-Ok-Some-answer_frame.field-0-is at c.in-Ok-Some-answer_frame.ensures.answers) (g.N.Sink.written c.read_frame.new.s) (g.N.Sink.written c.write_reply.new.k) side.0
    (sym c.stopping.ensures ∙ c.if-stopping.true) c.in-Ok.ensures.whole

pub frames-preserved : goal.frames-preserved
frames-preserved g c =
    let side = same-side _ _ _ _ _ _ (g.met.N.Link.reads_leave c.frames.link) (g.met.N.Link.reads_leave c.read_frame.new.s) c.read_frame.ensures.write_side in
    let other = same-side _ _ _ _ _ _ (g.met.N.Link.writes_leave c.read_frame.new.s) (g.met.N.Link.writes_leave c.write_reply.new.k) c.write_reply.ensures.read_side in
    let f = rw c.in-Ok-Some-answer_frame.field-0-is at c.in-Ok-Some-answer_frame.ensures.answers in
    let still : c.answer_frame.new.m.stopping ≡ false = sym c.stopping.ensures ∙ c.if-stopping.false in
    record {
      come =
          come-on _ _ _ _ _ _ _ _ _ _ _ _ c.frames.invariant.come c.frames.invariant.going (g.N.Source.rest c.read_frame.new.s) c.in-Ok-Some.payload
          (rw c.in-Ok-Some.field-0-is at c.in-Ok-Some.ensures.reads) c.frames.invariant.home _ _ _ c.in-Ok-Some-answer_frame.reply f (g.N.Sink.written c.read_frame.new.s)
          (g.N.Sink.written c.write_reply.new.k) side.0 (g.N.Source.rest c.write_reply.new.k) c.read_frame.new.place still other.0
          (rw c.in-Ok-Some.field-0-is at c.in-Ok-Some.ensures.raised) c.in-Ok.ensures.whole;
      lived = c.frames.invariant.lived;
      lives = c.in-Ok-Some-answer_frame.ensures.goes;
      going = still;
      room = c.answer_frame.ensures.length;
      home = λ home. f.home (c.frames.invariant.home home);
      below = c.in-Ok-Some.ensures.below;
      reads = omega (arith, other.1, c.read_frame.ensures.later, c.frames.invariant.reads);
      writes = omega (arith, side.1, c.write_reply.ensures.cause.later, c.frames.invariant.writes);
      faults_a = omega (arith, c.answer_frame.ensures.faults_a, c.frames.invariant.faults_a);
      faults_b = omega (arith, c.answer_frame.ensures.faults_b, c.frames.invariant.faults_b);
    }
