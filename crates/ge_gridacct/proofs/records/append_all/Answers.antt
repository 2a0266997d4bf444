use Rattle.std.proofs.Common.{◌≡◌, ◌∙◌, ◌+◌, ◌*◌, ◌<◌, ◌≤◌, ◌++◌, length, take, sym, ap, arith}
use Rattle.std.proofs.lemmas.Bool.{eqb-true, eqb-false}
use Rattle.std.proofs.lemmas.List.{length-drop}
use Rattle.ge_acctlog.specs.Logs.{end_of}
use Rattle.ge_acctlog.proofs.Finding.{above-zero}
use Rattle.ge_gridacct.specs.Fronts.{record_lines}
use Rattle.ge_gridacct.proofs.Appended.{appended_more, appended_all, appended_stop, records_since, records_rest, records_done}
use Rattle.ge_gridacct.proofs.records.append_all.Goals as goal

pub returns-in-Err-clause-since : goal.returns-in-Err-clause-since
returns-in-Err-clause-since g c = λ held logged.
    let so_far = c.records.invariant.so_far in
    let one = c.append_records.ensures.since (held ++ take (so_far.0 * record_lines) c.args.lines.now) (so_far.2 held logged) in
    records_since (g.E.Disk.told c.args.disk.now) (g.E.Disk.told c.records.disk) (g.E.Disk.told c.append_records.new.log) held c.args.lines.now c.records.rest.now so_far.0 one.0
    (c.records.invariant.since held logged) one.2 so_far.1.left

pub returns-in-Err-clause-answer : goal.returns-in-Err-clause-answer
returns-in-Err-clause-answer g c =
    let so_far = c.records.invariant.so_far in
    let some : length c.records.rest.now ≡ 0 → ⊥ = eqb-false (length c.records.rest.now) 0 (sym c.is_empty.ensures ∙ c.records-test.true) in
    appended_stop c.in-Err.stop so_far.0 (end_of c.args.log.now) c.args.lines.now c.records.rest.now (end_of c.records.log) _ _ _ so_far.1 (above-zero (length c.records.rest.now) some)
    c.records.invariant.alive c.in-Err.ensures.answer (λ rose. omega (arith, rose, c.records.invariant.faults))

pub records-smaller : goal.records-smaller
records-smaller g c =
    let smaller : length c.split_at.result.1.now < length c.records.rest.now =
    omega (arith, c.in-Ok.ensures.wrote, ap length c.split_at.ensures.back, length-drop c.in-Ok.appended c.records.rest.now, c.in-Ok.ensures.few) in
    smaller

pub records-preserved : goal.records-preserved
records-preserved g c =
    let so_far = c.records.invariant.so_far in
    let told = c.in-Ok.ensures.answer.1 in
    record {
      so_far = (
        so_far.0 + told.0,
        appended_more so_far.0 told.0 (end_of c.args.log.now) c.args.lines.now c.records.rest.now c.split_at.result.1.now (end_of c.records.log) c.in-Ok.appended
            (end_of c.append_records.new.self) so_far.1 told.1 c.split_at.ensures.back told.2,
        λ held logged. records_rest c.append_records.new.self (g.E.Disk.told c.append_records.new.log) held c.args.lines.now c.records.rest.now so_far.0 told.0 (end_of c.records.log)
            c.in-Ok.appended (c.in-Ok.ensures.done (held ++ take (so_far.0 * record_lines) c.args.lines.now) (so_far.2 held logged)) told.1 so_far.1.left,
      );
      since = λ held logged.
          let one = c.append_records.ensures.since (held ++ take (so_far.0 * record_lines) c.args.lines.now) (so_far.2 held logged) in
          records_since (g.E.Disk.told c.args.disk.now) (g.E.Disk.told c.records.disk) (g.E.Disk.told c.append_records.new.log) held c.args.lines.now c.records.rest.now so_far.0 one.0
          (c.records.invariant.since held logged) one.2 so_far.1.left;
      room = c.append_records.ensures.room;
      alive = c.in-Ok.ensures.dead ∙ c.records.invariant.alive;
      faults = omega (arith, c.append_records.ensures.faults, c.records.invariant.faults);
    }

pub returns-clause-done : goal.returns-clause-done
returns-clause-done g c = λ held logged.
    let so_far = c.records.invariant.so_far in
    records_done c.records.log (g.E.Disk.told c.records.disk) held c.args.lines.now so_far.0 (so_far.2 held logged)
    (appended_all so_far.0 (end_of c.args.log.now) c.args.lines.now c.records.rest.now (end_of c.records.log) so_far.1 (eqb-true (length c.records.rest.now) 0 (sym c.is_empty.ensures ∙ c.records-test.false))).1
