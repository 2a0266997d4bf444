use Rattle.std.proofs.Common.{◌≡◌, ◌+◌, ◌-◌, ◌∙◌, length, [], ◌∷◌, false, inl, subst, sym, ap, arith, length-append}
use Rattle.std.specs.Result.{is_err}
use Rattle.ge_model_journal.specs.Disk.{overwritten, read_bytes}
use Rattle.ge_model_journal.specs.Journal.{picked, with_record}
use Rattle.ge_model_journal.specs.Writing.{bytes_of_record}
use Rattle.ge_spool.specs.Bytes.{record_body}
use Rattle.ge_spool.specs.Moments.{IsQuiet}
use Rattle.ge_spool.specs.Steps.{opened_behind}
use Rattle.ge_spool.proofs.Parts.{IsArea}
use Rattle.ge_spool.proofs.Tearing.{behind-done, length-area}
use Rattle.ge_spool.proofs.Written.{record-piece, opened-overwritten, has-written}
use Rattle.ge_spool.proofs.Moving.{append-moments}
use Rattle.ge_spool.proofs.Settling.{settled-area, settled-lower, settled-again, at-rest, quiet-picked, some-picked, still-moments, from-ok}
use Rattle.ge_spool.proofs.spool.Spool.append.Goals as goal

pub returns-then-end-gt-AREA_BYTES-clause-any_moment : goal.returns-then-end-gt-AREA_BYTES-clause-any_moment
returns-then-end-gt-AREA_BYTES-clause-any_moment g c = λ state settled image_a image_b of_a of_b.
    inl (still-moments c.args.self.now _ _ state settled image_a image_b of_a of_b)

pub returns-then-is_err-clause-any_moment : goal.returns-then-is_err-clause-any_moment
returns-then-is_err-clause-any_moment g c = λ state settled image_a image_b of_a of_b.
    let s = c.args.self.now in
    let a = g.D.Disk.told c.args.a.now in
    let b = g.D.Disk.told c.args.b.now in
    append-moments s.second a (g.D.Disk.told c.write_chosen.new.a) b (g.D.Disk.told c.write_chosen.new.b) (read_bytes a) (read_bytes b) state s.end
    c.piece-piece.result.now (record_body c.args.record_bytes.now) settled.quiet_a settled.quiet_b
    (settled-area s a b state settled) (settled-lower s a b state settled) c.piece-piece.ensures.is_piece
    (c.write_chosen.ensures.since (picked s.second (read_bytes a) (read_bytes b)) (quiet-picked s.second a b (read_bytes a) (read_bytes b) settled.quiet_a settled.quiet_b))
    c.write_chosen.ensures.other image_a image_b of_a of_b

pub returns-clause-any_moment : goal.returns-clause-any_moment
returns-clause-any_moment g c = λ state settled image_a image_b of_a of_b.
    let s = c.args.self.now in
    let a = g.D.Disk.told c.args.a.now in
    let b = g.D.Disk.told c.args.b.now in
    append-moments s.second a (g.D.Disk.told c.write_chosen.new.a) b (g.D.Disk.told c.write_chosen.new.b) (read_bytes a) (read_bytes b) state s.end
    c.piece-piece.result.now (record_body c.args.record_bytes.now) settled.quiet_a settled.quiet_b
    (settled-area s a b state settled) (settled-lower s a b state settled) c.piece-piece.ensures.is_piece
    (c.write_chosen.ensures.since (picked s.second (read_bytes a) (read_bytes b)) (quiet-picked s.second a b (read_bytes a) (read_bytes b) settled.quiet_a settled.quiet_b))
    c.write_chosen.ensures.other image_a image_b of_a of_b

pub returns-clause-done : goal.returns-clause-done
returns-clause-done g c = λ state settled.
    let s = c.args.self.now in
    let a = g.D.Disk.told c.args.a.now in
    let b = g.D.Disk.told c.args.b.now in
    let body = record_body c.args.record_bytes.now in
    let piece = c.piece-piece.result.now in
    let chosen = picked s.second (read_bytes a) (read_bytes b) in
    let other = picked s.second (read_bytes b) (read_bytes a) in
    let sound : is_err c.write_chosen.result ≡ false = sym c.is_err.ensures.value ∙ c.if-is_err.false in
    let quiet = from-ok c.write_chosen.result _ sound c.write_chosen.ensures.quiet chosen
    (quiet-picked s.second a b (read_bytes a) (read_bytes b) settled.quiet_a settled.quiet_b) in
    let still = subst (λ told. IsQuiet told other) (sym c.write_chosen.ensures.other) (quiet-picked s.second b a (read_bytes b) (read_bytes a) settled.quiet_b settled.quiet_a) in
    let area = behind-done chosen state s.end piece body (settled-area s a b state settled) c.piece-piece.ensures.is_piece in
    let end : s.end + 5 + length body ≡ s.end + 1 + length piece - 1 = omega (arith, c.piece-piece.ensures.long) in
    settled-again _ _ _ (with_record state body)
    (at-rest s.second _ _ (opened_behind s.end piece chosen) other (with_record state body) _ s.other_open quiet still
    (subst (λ e. IsArea (opened_behind s.end piece chosen) (with_record state body) e) end area)
    (settled-lower s a b state settled) (some-picked s.second (read_bytes b) (read_bytes a) settled.some_b settled.some_a) settled.other_gate)
    settled.alive settled.format settled.generation (omega (arith, settled.count, length-append state.records (body ∷ [])))

pub returns-clause-written : goal.returns-clause-written
returns-clause-written g c = λ state settled.
    let s = c.args.self.now in
    let a = g.D.Disk.told c.args.a.now in
    let b = g.D.Disk.told c.args.b.now in
    let body = record_body c.args.record_bytes.now in
    let piece = c.piece-piece.result.now in
    let chosen = picked s.second (read_bytes a) (read_bytes b) in
    let sound : is_err c.write_chosen.result ≡ false = sym c.is_err.ensures.value ∙ c.if-is_err.false in
    let quiet = from-ok c.write_chosen.result _ sound c.write_chosen.ensures.quiet chosen
    (quiet-picked s.second a b (read_bytes a) (read_bytes b) settled.quiet_a settled.quiet_b) in
    has-written s.second s.end (bytes_of_record body) (opened_behind s.end piece chosen) a (g.D.Disk.told c.write_chosen.new.a) b (g.D.Disk.told c.write_chosen.new.b) quiet
    (opened-overwritten chosen s.end piece (length-area chosen state s.end (settled-area s a b state settled))
    ∙ ap (λ xs. overwritten chosen s.end xs) (record-piece piece body c.piece-piece.ensures.is_piece))
    c.write_chosen.ensures.other
