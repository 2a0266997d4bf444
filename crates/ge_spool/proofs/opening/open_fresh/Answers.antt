use Rattle.std.proofs.Common.{◌≡◌, ◌∙◌, sym, refl, false, [], arith, rules}
use Rattle.std.specs.Result.{is_err}
use Rattle.ge_model_journal.specs.Journal.{first_state}
use Rattle.ge_model_journal.specs.Writing.{padded}
use Rattle.ge_model_journal.specs.declared.Head.TheVariants.{Closed}
use Rattle.ge_spool.specs.Moments.{read_bytes-quiet}
use Rattle.ge_spool.specs.Pieces.{IsSnapshotPiece}
use Rattle.ge_spool.specs.Steps.{refilled}
use Rattle.ge_spool.proofs.Filling.{refill-done, lower-closed}
use Rattle.ge_spool.proofs.Openings.{opened-first}
use Rattle.ge_spool.proofs.Settling.{settled-again, at-rest, from-ok}
use Rattle.ge_spool.proofs.ShortAreas.{quiet-head, padded-closed, padded-some}
use Rattle.ge_spool.proofs.Written.{made-first}
use Rattle.ge_spool.proofs.opening.open_fresh.Goals as goal

pub returns-clause-opened : goal.returns-clause-opened
returns-clause-opened g c = λ bytes_a bytes_b quiet_a quiet_b.
    let closed_a = sym (quiet-head (g.D.Disk.told c.args.a.now) bytes_a c.args.size_a Closed quiet_a c.requires.closed_a) in
    let closed_b = sym (quiet-head (g.D.Disk.told c.args.b.now) bytes_b c.args.size_b Closed quiet_b c.requires.closed_b) in
    let sound : is_err c.make_first.result ≡ false = sym c.is_err.ensures.value ∙ c.if-is_err.false in
    let piece = c.piece.result.now in
    let is_piece : IsSnapshotPiece piece 1 [] = search rules in
    let still_a = from-ok c.make_first.result _ sound c.make_first.ensures.quiet_a bytes_a quiet_a in
    let still_b = from-ok c.make_first.result _ sound c.make_first.ensures.quiet_b bytes_b quiet_b in
    opened-first _ _ bytes_a bytes_b _ _
    (settled-again _ _ _ first_state
    (at-rest false _ _ (refilled false piece (padded bytes_a)) (padded bytes_b) first_state 18 false still_a still_b
    (refill-done false (padded bytes_a) piece [] 1 (padded-some bytes_a) is_piece (omega arith))
    (lower-closed (padded bytes_b) 1 (padded-closed bytes_b closed_b)) (padded-some bytes_b) (sym (padded-closed bytes_b closed_b)))
    refl refl refl refl)
    c.first.ensures.format c.first.ensures.generation c.first.ensures.area c.first.ensures.snapshot c.first.ensures.records closed_a closed_b
    (read_bytes-quiet _ _ still_a ∙ made-first bytes_a piece is_piece) (read_bytes-quiet _ _ still_b)
