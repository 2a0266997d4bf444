-- The first request, whatever follows it.
use Rattle.std.proofs.Common.{◌+◌, refl, arith}
use Rattle.std.proofs.lemmas.Grind.{common_steps}
use Rattle.ge_script.proofs.RequestEnds.{first-known, all-known}
use Rattle.ge_script.proofs.pieces.whole_len.Goals as goal

pub returns-then-end-limit-clause-first : goal.returns-then-end-limit-clause-first
returns-then-end-limit-clause-first c =
    first-known c.args.bytes.now c.args.ended c.args.passed.now c.first_end-end.result c.judged_len-limit.result (c.first_end-end.result + 1) c.judged_len-limit.ensures c.requires
    c.first_end-end.ensures.passed c.first_end-end.ensures.found c.if-end-limit.true refl

pub returns-then-ended-clause-first : goal.returns-then-ended-clause-first
returns-then-ended-clause-first c =
    all-known c.args.bytes.now c.args.ended c.args.passed.now c.first_end-end.result c.judged_len-limit.result c.judged_len-limit.ensures c.if-ended.true (grind (arith, common_steps, c.if-is_empty.ensures)) c.requires
    c.first_end-end.ensures.passed (omega (arith, c.if-end-limit.false))
