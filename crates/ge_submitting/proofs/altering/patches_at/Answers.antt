use Rattle.ge_model_core.specs.Altering.{patch_at}
use Rattle.ge_submitting.proofs.Altered.{one_patched}
use Rattle.ge_submitting.proofs.altering.patches_at.Goals as goal

pub loop-number-preserved : goal.loop-number-preserved
loop-number-preserved c =
    one_patched (patch_at c.args.c.now c.args.options.now.items) c.args.numbers.now c.loop-number.number-index c.loop-number.patches c.push_some.new.patches _ c.in_ok-patch.patch c.loop-number-test.true
    c.in_ok-patch.ensures c.in_ok-push_some.ensures c.loop-number.invariant
