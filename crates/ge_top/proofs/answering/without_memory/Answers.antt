use Rattle.std.proofs.Common.{◌≡◌, false, refl, codes}
use Rattle.std.specs.Fmt.{digits}
use Rattle.ge_base.specs.declared.refusal.Refusal.TheVariants.{NoMemory}
use Rattle.ge_model_core.specs.Refusals.{refusal_reply}
use Rattle.ge_model_core.specs.Render.{rendered}
use Rattle.ge_top.proofs.answering.without_memory.Goals as goal

no_memory_bytes : codes "99 1\nno memory\n" ≡ rendered (refusal_reply NoMemory)
unfolding rendered digits
no_memory_bytes = refl

pub returns : goal.returns
returns c = λ cluster event. record { mark = false; reply = no_memory_bytes; stop = refl; cluster = refl }
