-- What stays of a request that is too long is too long as well.
use Rattle.std.proofs.Common.{◌+◌, ◌-◌, ap, ◌∙◌, sym, subst, arith}
use Rattle.std.proofs.lemmas.List.{drop-drop, length-drop}
use Rattle.ge_limits.specs.Limits.{text_bytes}
use Rattle.ge_script.specs.Pieces.{HasPassed, held, coming_of}
use Rattle.ge_script.proofs.RequestEnds.{coming-skipped, passed-skipped}
use Rattle.ge_script.proofs.pieces.Script.skip_excess.Goals as goal

pub returns-clause-coming : goal.returns-clause-coming
returns-clause-coming c rest =
    let s = c.args.self.now in
    let skip = s.passed - text_bytes in
    ap (λ bs. coming_of bs rest) (sym (drop-drop skip s.start s.bytes.items))
    ∙ coming-skipped s.passed skip (held s) rest c.requires.passed (omega (arith, c.if-self-le-TEXT_BYTES.false)) (omega (arith, c.if-self-le-TEXT_BYTES.false))

pub returns-clause-passed : goal.returns-clause-passed
returns-clause-passed c =
    let s = c.args.self.now in
    let skip = s.passed - text_bytes in
    subst (λ bs. HasPassed text_bytes bs) (drop-drop skip s.start s.bytes.items)
    (passed-skipped s.passed skip text_bytes (held s) c.requires.passed (omega (arith, c.if-self-le-TEXT_BYTES.false)))

pub returns-clause-count : goal.returns-clause-count
returns-clause-count c =
    let s = c.args.self.now in
    let skip = s.passed - text_bytes in
    omega (arith, length-drop (s.start + skip) s.bytes.items, length-drop s.start s.bytes.items, c.if-self-le-TEXT_BYTES.false, (c.requires.passed skip (omega (arith, c.if-self-le-TEXT_BYTES.false))).0)
