use Rattle.std.proofs.Common.{◌≡◌, take, flat_map}
use Rattle.ge_model_core.specs.Render.{rendered}
use Rattle.ge_top.proofs.replies.render_all.Given as goal

abbrev pub invariant-loop-reply : goal.invariant-loop-reply
invariant-loop-reply l = l.text ≡ flat_map rendered (take l.reply-index l.replies)
