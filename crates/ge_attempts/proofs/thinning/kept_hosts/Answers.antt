use Rattle.std.proofs.Common.{arith}
use Rattle.ge_attempts.proofs.thinning.kept_hosts.Goals as goal

pub loop-place-init : goal.loop-place-init
loop-place-init c = record { within = omega arith; later = c.requires; kept = record { out = λ k none less gone. absurd (omega (arith, less)) } }

pub loop-place-preserved : goal.loop-place-preserved
loop-place-preserved c = let less = c.loop-place-test.true in record { within = omega (arith, less); later = c.note_place.ensures.later; kept = c.note_place.ensures.kept }

pub returns-clause-kept : goal.returns-clause-kept
returns-clause-kept c =
    let past = c.loop-place-test.false in
    record { out = λ k none less gone. c.loop-place.invariant.kept.out k none (omega (arith, less, past)) gone }
