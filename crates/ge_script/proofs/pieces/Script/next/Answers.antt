-- What is held is given first, and there is no event where nothing is held and the end was read.
use Rattle.std.proofs.Common.{◌≡◌, Some, subst, ap, sym, ◌∙◌}
use Rattle.ge_script.specs.Pieces.{coming, coming_of, held, GivesNext}
use Rattle.ge_script.proofs.PieceByPiece.{gives-none}
use Rattle.ge_script.proofs.pieces.Script.next.Goals as goal

pub returns-in-Some-clause-next : goal.returns-in-Some-clause-next
returns-in-Some-clause-next g c =
    let rest = g.S.Source.rest c.reading.s in
    subst (λ o. GivesNext o (coming c.next_held.new.self rest) (Some c.in-Some.event)) c.reading.invariant.coming
    ((rw c.in-Some.is at c.in_ok-event.ensures.next) rest c.reading.invariant.over)

pub returns-then-self-clause-next : goal.returns-then-self-clause-next
returns-then-self-clause-next g c =
    let rest = g.S.Source.rest c.reading.s in
    let same : held c.next_held.new.self ≡ held c.reading.self = rw c.in_default.is at c.in_ok-event.ensures.next in
    gives-none _ (held c.next_held.new.self) rest (ap (λ bs. coming_of bs rest) same ∙ c.reading.invariant.coming)
    ((rw c.in_default.is at c.in_ok-event.ensures.all) c.if-self.true) (c.reading.invariant.over.ended (sym c.next_held.ensures.ended ∙ c.if-self.true))
