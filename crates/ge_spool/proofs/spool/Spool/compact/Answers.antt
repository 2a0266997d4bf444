use Rattle.std.proofs.Common.{◌≡◌, ◌+◌, ◌-◌, ◌∙◌, length, true, false, not, inl, subst, sym, ap, arith, refl}
use Rattle.std.specs.Result.{is_err}
use Rattle.ge_model_journal.specs.Disk.{overwritten, read_bytes}
use Rattle.ge_model_journal.specs.Area.{head}
use Rattle.ge_model_journal.specs.Journal.{picked, compacted}
use Rattle.ge_model_journal.specs.Writing.{bytes_of_area}
use Rattle.ge_spool.specs.Bytes.{snapshot_of}
use Rattle.ge_spool.specs.Moments.{IsQuiet}
use Rattle.ge_spool.specs.Steps.{refilled}
use Rattle.ge_spool.proofs.Parts.{IsArea}
use Rattle.ge_spool.proofs.Reading.{head-area}
use Rattle.ge_spool.proofs.Filling.{refill-done, piece-of}
use Rattle.ge_spool.proofs.Written.{snapshot-piece, refilled-overwritten, has-written, has-written-other}
use Rattle.ge_spool.proofs.Meanings.{IsLower}
use Rattle.ge_spool.proofs.Moving.{compact-moments}
use Rattle.ge_spool.proofs.Settling.{settled-area, settled-lower, settled-again, at-rest, quiet-picked, some-picked, still-moments, from-ok, gate-area, picked-not}
use Rattle.ge_spool.proofs.spool.Spool.compact.Goals as goal

pub returns-then-end-gt-AREA_BYTES-clause-any_moment : goal.returns-then-end-gt-AREA_BYTES-clause-any_moment
returns-then-end-gt-AREA_BYTES-clause-any_moment g c = λ state settled image_a image_b of_a of_b.
    inl (still-moments c.args.self.now _ _ state settled image_a image_b of_a of_b)

pub returns-then-is_err-clause-any_moment : goal.returns-then-is_err-clause-any_moment
returns-then-is_err-clause-any_moment g c = λ state settled image_a image_b of_a of_b.
    let s = c.args.self.now in
    let a = g.D.Disk.told c.args.a.now in
    let b = g.D.Disk.told c.args.b.now in
    let snapshot = snapshot_of c.args.snapshot_bytes.now in
    let piece = c.piece-2.result.now in
    let is_piece = piece-of piece _ (state.generation + 1) _ snapshot (c.set_generation.ensures.generation ∙ ap (λ k. k + 1) settled.generation)
    c.set_generation.ensures.snapshot c.piece-2.ensures.is_piece in
    compact-moments s.second a (g.D.Disk.told c.refill_chosen.new.b) b (g.D.Disk.told c.refill_chosen.new.a) (read_bytes a) (read_bytes b) state s.end
    s.other_open piece snapshot settled.quiet_a settled.quiet_b (settled-area s a b state settled) (settled-lower s a b state settled)
    (some-picked s.second (read_bytes b) (read_bytes a) settled.some_b settled.some_a) settled.other_gate is_piece
    (c.refill_chosen.ensures.since (picked s.second (read_bytes b) (read_bytes a)) (quiet-picked s.second b a (read_bytes b) (read_bytes a) settled.quiet_b settled.quiet_a))
    c.refill_chosen.ensures.other image_a image_b of_a of_b

pub returns-clause-any_moment : goal.returns-clause-any_moment
returns-clause-any_moment g c = λ state settled image_a image_b of_a of_b.
    let s = c.args.self.now in
    let a = g.D.Disk.told c.args.a.now in
    let b = g.D.Disk.told c.args.b.now in
    let snapshot = snapshot_of c.args.snapshot_bytes.now in
    let piece = c.piece-2.result.now in
    let is_piece = piece-of piece _ (state.generation + 1) _ snapshot (c.set_generation.ensures.generation ∙ ap (λ k. k + 1) settled.generation)
    c.set_generation.ensures.snapshot c.piece-2.ensures.is_piece in
    compact-moments s.second a (g.D.Disk.told c.refill_chosen.new.b) b (g.D.Disk.told c.refill_chosen.new.a) (read_bytes a) (read_bytes b) state s.end
    s.other_open piece snapshot settled.quiet_a settled.quiet_b (settled-area s a b state settled) (settled-lower s a b state settled)
    (some-picked s.second (read_bytes b) (read_bytes a) settled.some_b settled.some_a) settled.other_gate is_piece
    (c.refill_chosen.ensures.since (picked s.second (read_bytes b) (read_bytes a)) (quiet-picked s.second b a (read_bytes b) (read_bytes a) settled.quiet_b settled.quiet_a))
    c.refill_chosen.ensures.other image_a image_b of_a of_b

pub returns-clause-done : goal.returns-clause-done
returns-clause-done g c = λ state settled.
    let s = c.args.self.now in
    let a = g.D.Disk.told c.args.a.now in
    let b = g.D.Disk.told c.args.b.now in
    let snapshot = snapshot_of c.args.snapshot_bytes.now in
    let piece = c.piece-2.result.now in
    let is_piece = piece-of piece _ (state.generation + 1) _ snapshot (c.set_generation.ensures.generation ∙ ap (λ k. k + 1) settled.generation)
    c.set_generation.ensures.snapshot c.piece-2.ensures.is_piece in
    let new_a = g.D.Disk.told c.refill_chosen.new.b in
    let new_b = g.D.Disk.told c.refill_chosen.new.a in
    let chosen = picked s.second (read_bytes a) (read_bytes b) in
    let other = picked s.second (read_bytes b) (read_bytes a) in
    let some = some-picked s.second (read_bytes b) (read_bytes a) settled.some_b settled.some_a in
    let sound : is_err c.refill_chosen.result ≡ false = sym c.is_err.ensures.value ∙ c.if-is_err.false in
    let quiet = from-ok c.refill_chosen.result _ sound c.refill_chosen.ensures.quiet other
    (quiet-picked s.second b a (read_bytes b) (read_bytes a) settled.quiet_b settled.quiet_a) in
    let still = subst (λ told. IsQuiet told chosen) (sym c.refill_chosen.ensures.other)
    (quiet-picked s.second a b (read_bytes a) (read_bytes b) settled.quiet_a settled.quiet_b) in
    let old_area = settled-area s a b state settled in
    let area = refill-done s.other_open other piece snapshot (state.generation + 1) some is_piece (omega arith) in
    let end : 18 + length snapshot ≡ length c.piece.result.now + 1 - 1 = omega (arith, c.piece.ensures.long, ap length c.set_generation.ensures.snapshot) in
    let lower : IsLower (head chosen) (state.generation + 1) =
    subst (λ h. IsLower h (state.generation + 1)) (sym (head-area chosen state s.end old_area)) (omega arith) in
    settled-again _ _ _ (compacted state snapshot)
    (at-rest (not s.second) new_a new_b (refilled s.other_open piece other) chosen (compacted state snapshot) _ true
    (subst (λ told. IsQuiet told (refilled s.other_open piece other)) (sym (picked-not s.second new_a new_b)) quiet)
    (subst (λ told. IsQuiet told chosen) (sym (picked-not s.second new_b new_a)) still)
    (subst (λ e. IsArea (refilled s.other_open piece other) (compacted state snapshot) e) end area)
    lower (some-picked s.second (read_bytes a) (read_bytes b) settled.some_a settled.some_b)
    (gate-area chosen state s.end old_area))
    settled.alive refl (ap (λ k. k + 1) settled.generation) refl

pub returns-clause-written : goal.returns-clause-written
returns-clause-written g c = λ state settled.
    let s = c.args.self.now in
    let a = g.D.Disk.told c.args.a.now in
    let b = g.D.Disk.told c.args.b.now in
    let snapshot = snapshot_of c.args.snapshot_bytes.now in
    let piece = c.piece-2.result.now in
    let bytes = bytes_of_area (s.generation + 1) snapshot in
    let is_piece = piece-of piece _ (s.generation + 1) _ snapshot c.set_generation.ensures.generation c.set_generation.ensures.snapshot c.piece-2.ensures.is_piece in
    let new_a = g.D.Disk.told c.refill_chosen.new.b in
    let new_b = g.D.Disk.told c.refill_chosen.new.a in
    let other = picked s.second (read_bytes b) (read_bytes a) in
    let some = some-picked s.second (read_bytes b) (read_bytes a) settled.some_b settled.some_a in
    let sound : is_err c.refill_chosen.result ≡ false = sym c.is_err.ensures.value ∙ c.if-is_err.false in
    let quiet = from-ok c.refill_chosen.result _ sound c.refill_chosen.ensures.quiet other
    (quiet-picked s.second b a (read_bytes b) (read_bytes a) settled.quiet_b settled.quiet_a) in
    has-written-other s.second 0 bytes (read_bytes a) (read_bytes new_a) (read_bytes b) (read_bytes new_b)
    (has-written s.second 0 bytes (refilled s.other_open piece other) b new_b a new_a quiet
    (refilled-overwritten s.other_open other piece some ∙ ap (λ xs. overwritten other 0 xs) (snapshot-piece piece (s.generation + 1) snapshot is_piece))
    c.refill_chosen.ensures.other)
