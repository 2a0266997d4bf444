-- The first request that is held is the next event.
use Rattle.std.proofs.Common.{◌≡◌, ◌+◌, drop, ap, ◌∙◌, sym}
use Rattle.std.proofs.lemmas.List.{drop-drop}
use Rattle.ge_model_grammar.specs.Events.{event_of}
use Rattle.ge_script.specs.Pieces.{coming_of}
use Rattle.ge_script.proofs.PieceByPiece.{gives-next}
use Rattle.ge_script.proofs.pieces.Script.next_held.Goals as goal

pub returns-clause-next : goal.returns-clause-next
returns-clause-next c = λ rest over.
    let s = c.args.self.now in
    let bytes = c.bytes_from-bytes.result.now in
    let held : bytes ≡ drop s.start s.bytes.items = c.bytes_from-bytes.ensures ∙ ap (drop s.start) c.as_slice.ensures.value in
    gives-next _ bytes (drop (s.start + c.in-Some.size) s.bytes.items) rest s.ended c.in-Some.size c.in_ok-event.event (ap (λ bs. coming_of bs rest) held)
    c.in-Some.ensures.first over.ended (c.in_ok-event.ensures ∙ ap event_of c.split_at.ensures.front)
    (sym (drop-drop c.in-Some.size s.start s.bytes.items) ∙ ap (drop c.in-Some.size) (sym held))
