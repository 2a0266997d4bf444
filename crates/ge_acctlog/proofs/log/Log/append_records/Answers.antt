use Rattle.std.proofs.Common.{◌≡◌, ◌∙◌, ◌+◌, ◌*◌, ◌++◌, false, sym, ap, arith, length, length-append, length-take, take}
use Rattle.std.proofs.lemmas.List.{take_min}
use Rattle.std.specs.Result.{is_err}
use Rattle.ge_model_journal.specs.Disk.{read_bytes}
use Rattle.ge_spool.specs.Moments.{since_none}
use Rattle.ge_spool.proofs.Settling.{from-ok}
use Rattle.ge_acctlog.proofs.Gathered.{gathered_read, gathered_end, gathered_piece}
use Rattle.ge_acctlog.proofs.Moments.{appended-since, appended-first}
use Rattle.ge_acctlog.proofs.log.Log.append_records.Goals as goal

pub returns-then-self-clause-since : goal.returns-then-self-clause-since
returns-then-self-clause-since g c = λ held logged. (1, omega arith, since_none (g.D.Disk.told c.args.log.now) _)

pub returns-in_err-records-clause-since : goal.returns-in_err-records-clause-since
returns-in_err-records-clause-since g c = λ held logged. (1, omega arith, since_none (g.D.Disk.told c.args.log.now) _)

pub returns-in_err-put_gate-clause-since : goal.returns-in_err-put_gate-clause-since
returns-in_err-put_gate-clause-since g c = λ held logged. (1, omega arith, since_none (g.D.Disk.told c.args.log.now) _)

pub returns-then-is_err-clause-since : goal.returns-then-is_err-clause-since
returns-then-is_err-clause-since g c = λ held logged.
    let told = g.D.Disk.told c.args.log.now in
    let lines = c.args.lines.now in
    let bytes = c.in_ok-records.records.items in
    let has = c.in_ok-records.ensures.gathered in (
      has.k,
      has.are_in.some,
      appended-since c.args.self.now told (g.D.Disk.told c.write_behind.new.disk) held (take (has.k * c.args.each) lines) c.split_at.result.1.now bytes logged (omega (arith, c.in_ok-records.ensures.room))
          (gathered_read c.args.each c.args.self.now.end _ lines bytes c.requires.each has)
          (gathered_piece c.args.each c.args.self.now.end _ lines bytes _ c.split_at.result.1.now has (c.as_slice.ensures.value ∙ c.in_ok-put_gate.ensures) c.split_at.ensures.back)
          (c.write_behind.ensures.since (read_bytes told) logged.quiet),
    )

pub returns-clause-since : goal.returns-clause-since
returns-clause-since g c = λ held logged.
    let told = g.D.Disk.told c.args.log.now in
    let lines = c.args.lines.now in
    let bytes = c.in_ok-records.records.items in
    let has = c.in_ok-records.ensures.gathered in (
      has.k,
      has.are_in.some,
      appended-since c.args.self.now told (g.D.Disk.told c.write_behind.new.disk) held (take (has.k * c.args.each) lines) c.split_at.result.1.now bytes logged (omega (arith, c.in_ok-records.ensures.room))
          (gathered_read c.args.each c.args.self.now.end _ lines bytes c.requires.each has)
          (gathered_piece c.args.each c.args.self.now.end _ lines bytes _ c.split_at.result.1.now has (c.as_slice.ensures.value ∙ c.in_ok-put_gate.ensures) c.split_at.ensures.back)
          (c.write_behind.ensures.since (read_bytes told) logged.quiet),
    )

pub returns-clause-done : goal.returns-clause-done
returns-clause-done g c = λ held logged.
    let told = g.D.Disk.told c.args.log.now in
    let new = g.D.Disk.told c.write_behind.new.disk in
    let lines = c.args.lines.now in
    let bytes = c.in_ok-records.records.items in
    let has = c.in_ok-records.ensures.gathered in
    let sound : is_err c.write_behind.result ≡ false = sym c.is_err.ensures.value ∙ c.if-is_err.false in
    let quiet = from-ok c.write_behind.result _ sound c.write_behind.ensures.quiet (read_bytes told) logged.quiet in
    let some : take (has.k * c.args.each) lines ≡ take c.in_ok-records.count lines = sym (ap (λ n. take n lines) has.are_in.count ∙ take_min (has.k * c.args.each) lines) in
    appended-first c.args.self.now _ told new held (take (has.k * c.args.each) lines) (take c.in_ok-records.count lines) c.split_at.result.1.now bytes some logged (omega (arith, c.in_ok-records.ensures.room))
    (gathered_read c.args.each c.args.self.now.end _ lines bytes c.requires.each has)
    (gathered_piece c.args.each c.args.self.now.end _ lines bytes _ c.split_at.result.1.now has (c.as_slice.ensures.value ∙ c.in_ok-put_gate.ensures) c.split_at.ensures.back)
    quiet logged.alive (omega (arith, logged.count, length-append held (take (has.k * c.args.each) lines), length-take (has.k * c.args.each) lines, has.are_in.count)) (omega arith) c.start.ensures

pub returns-clause-answer : goal.returns-clause-answer
returns-clause-answer g c =
    let has = c.in_ok-records.ensures.gathered in
    (c.if-self.false, (has.k, has.are_in, omega (arith, gathered_end c.args.each c.args.self.now.end _ c.args.lines.now c.in_ok-records.records.items has)))
