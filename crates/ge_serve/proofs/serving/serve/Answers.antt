use Rattle.std.proofs.Common.{◌∙◌, sym, arith}
use Rattle.ge_model_core.specs.Plan.{plan_of}
use Rattle.ge_master.specs.Areas.{areas_of}
use Rattle.ge_master.specs.Masters.{parts_of}
use Rattle.ge_serve.proofs.SoFar.{goes-on, given-none, given-more, serves-all, serves-fault}
use Rattle.ge_serve.proofs.serving.serve.Goals as goal

pub links-init : goal.links-init
links-init g c = record {
  given = given-none plan_of (parts_of c.args.m.now) (areas_of g.D.Disk.told g.D.Disk.syncs g.D.Disk.disk_faults c.args.a.now c.args.b.now) (g.L.Door.coming c.args.door.now)
      (g.L.Door.closed c.args.door.now) (g.C.Clock.answers c.args.clock.now) c.requires.going;
  few = omega arith;
  lives = c.requires.lives;
  room = c.requires.length;
  home = λ home. home;
  faults_a = omega arith;
  faults_b = omega arith;
  doors = omega arith;
}

pub returns-then-is_over-clause-serves : goal.returns-then-is_over-clause-serves
returns-then-is_over-clause-serves g c =
    serves-all _ _ _ _ _ _ _ _ _ _ _ c.links.invariant.given _ _ _ c.links.invariant.few (sym c.is_over.ensures ∙ c.if-is_over.true)

pub serve_next-requires-clause-going : goal.serve_next-requires-clause-going
serve_next-requires-clause-going g c =
    let on = goes-on c.links.m.stopping c.args.count c.links.served (sym c.is_over.ensures ∙ c.if-is_over.false) in
    on.0

pub overflow_add-served : goal.overflow_add-served
overflow_add-served g c =
    let on = goes-on c.links.m.stopping c.args.count c.links.served (sym c.is_over.ensures ∙ c.if-is_over.false) in
    omega (arith, on.1)

pub returns-in-Err-clause-serves : goal.returns-in-Err-clause-serves
returns-in-Err-clause-serves g c =
    let on = goes-on c.links.m.stopping c.args.count c.links.served (sym c.is_over.ensures ∙ c.if-is_over.false) in
    serves-fault _ _ _ _ _ _ _ _ _ _ _ c.links.invariant.given on.0 c.links.invariant.home _ _ _ _ _ c.in-Err.fault _ c.status_of.ensures _ _ _ _ c.links.invariant.faults_a
    c.links.invariant.faults_b c.links.invariant.doors c.in-Err.ensures.blames c.in-Err.ensures.unserved

pub links-smaller : goal.links-smaller
links-smaller g c =
    let on = goes-on c.links.m.stopping c.args.count c.links.served (sym c.is_over.ensures ∙ c.if-is_over.false) in
    omega (arith, on.1)

pub links-preserved : goal.links-preserved
links-preserved g c =
    let on = goes-on c.links.m.stopping c.args.count c.links.served (sym c.is_over.ensures ∙ c.if-is_over.false) in
    record {
      given = given-more _ _ _ _ _ _ _ _ _ _ _ _ c.links.invariant.given on.0 c.links.invariant.home _ _ _ _ _ c.in-Ok.ensures.served;
      few = omega (arith, on.1);
      lives = c.in-Ok.ensures.lives;
      room = c.serve_next.ensures.length;
      home = λ home. c.in-Ok.ensures.home (c.links.invariant.home home);
      faults_a = omega (arith, c.serve_next.ensures.faults_a, c.links.invariant.faults_a);
      faults_b = omega (arith, c.serve_next.ensures.faults_b, c.links.invariant.faults_b);
      doors = omega (arith, c.serve_next.ensures.doors, c.links.invariant.doors);
    }
