use Rattle.std.proofs.Common.{◌≡◌, ◌∙◌, ◌+◌, ◌++◌, ap, refl, subst, arith, length, take}
use Rattle.std.proofs.lemmas.List.{take_all}
use Rattle.ge_outside.specs.Faults.{Rose}
use Rattle.ge_model_log.specs.Lines.{StandsForOneOf}
use Rattle.ge_spool.specs.Moments.{Since}
use Rattle.ge_acctlog.specs.Appends.{Refuses}
use Rattle.ge_acctlog.specs.Logs.{IsLogged}
use Rattle.ge_acctlog.specs.Records.{end_behind}
use Rattle.ge_acctlog.proofs.Gathered.{whole_lines, whole_count, one_record, whole_end}
use Rattle.ge_acctlog.proofs.log.Log.append.Goals as goal

pub returns-in-Ok-clause-done : goal.returns-in-Ok-clause-done
returns-in-Ok-clause-done g c = λ held logged.
    let lines = c.args.lines.now in
    let told = c.in-Ok.ensures.answer.1 in
    let whole : take c.in-Ok.field-0 lines ≡ lines =
    take_all c.in-Ok.field-0 lines (omega (arith, whole_count (length c.args.lines.now) _ c.in-Ok.field-0 told.0 lines refl told.1)) in
    subst (λ xs. IsLogged c.append_records.new.self (g.D.Disk.told c.append_records.new.log) (held ++ xs)) whole (c.in-Ok.ensures.done held logged)

pub returns-in-Ok-clause-since : goal.returns-in-Ok-clause-since
returns-in-Ok-clause-since g c = λ held logged.
    let one = c.append_records.ensures.since held logged in
    subst (λ xs. Since (g.D.Disk.told c.args.log.now) (g.D.Disk.told c.append_records.new.log) (StandsForOneOf held (held ++ xs))) (whole_lines (length c.args.lines.now) one.0 c.args.lines.now refl one.1) one.2

pub returns-in-Err-clause-since : goal.returns-in-Err-clause-since
returns-in-Err-clause-since g c = λ held logged.
    let one = c.append_records.ensures.since held logged in
    subst (λ xs. Since (g.D.Disk.told c.args.log.now) (g.D.Disk.told c.append_records.new.log) (StandsForOneOf held (held ++ xs))) (whole_lines (length c.args.lines.now) one.0 c.args.lines.now refl one.1) one.2

pub returns-in-Ok-clause-answer : goal.returns-in-Ok-clause-answer
returns-in-Ok-clause-answer g c =
    let told = c.in-Ok.ensures.answer.1 in
    (c.in-Ok.ensures.answer.0, omega (arith, told.1.fits 0 told.1.some, whole_end (length c.args.lines.now) c.args.self.now.end c.args.lines.now refl))

pub returns-in-Err-clause-answer : goal.returns-in-Err-clause-answer
returns-in-Err-clause-answer g c =
    subst (λ place. Refuses c.in-Err.stop c.args.self.now.dead place (Rose (g.D.Disk.disk_faults c.args.log.now) (g.D.Disk.disk_faults c.append_records.new.log))) (whole_end (length c.args.lines.now) c.args.self.now.end c.args.lines.now refl) c.in-Err.ensures.answer

pub returns-in-Ok-clause-ends : goal.returns-in-Ok-clause-ends
returns-in-Ok-clause-ends g c =
    let told = c.in-Ok.ensures.answer.1 in
    let one = one_record (length c.args.lines.now) _ c.in-Ok.field-0 told.0 c.args.lines.now refl c.requires.some told.1 in
    omega (arith, told.2, ap (λ k. end_behind (length c.args.lines.now) c.args.self.now.end c.args.lines.now k) one, whole_end (length c.args.lines.now) c.args.self.now.end c.args.lines.now refl)
