use Rattle.std.proofs.Common.{rules, ◌≡◌, subst}
use Rattle.std.specs.Prelude.{IfOk}
use Rattle.ge_model_rows.specs.EventRows.{Planned}
use Rattle.ge_core.proofs.Booked.{booked_noted}
use Rattle.ge_core.proofs.booking.plan_booking.Goals as goal

pub returns : goal.returns
returns c =
    subst (λ (p : Planned). IfOk c.book_or_refuse.result (λ planned. planned ≡ p))
    (booked_noted c.args.c.now c.args.e.now c.args.options.now.items c.in_ok-request.request c.request_over.new.faults c.note.new.faults c.note-2.new.faults c.in_ok-no_time.no_time c.is_booked_out.result
    (search rules) (search rules) (search rules) (search rules) (search rules) (search rules))
    c.book_or_refuse.ensures
