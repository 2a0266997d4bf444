-- What the answer to one event shows.
use Rattle.std.specs.Prelude.{◌≡◌, ℕ, Bool, List, codes}
use Rattle.ge_model_rows.specs.ClusterRows.{Cluster}
use Rattle.ge_model_rows.specs.EventRows.{Event}
use Rattle.ge_model_core.specs.Render.{rendered}
use Rattle.ge_model_core.specs.Plan.{plan_of}
use Rattle.ge_model_core.specs.Trace.{answer_of, after_entries}
use Rattle.ge_top.specs.declared.answering.Rendered.{Rendered}
use Rattle.ge_top.specs.declared.answering.Rendered.TheVariants.{Planned, NoMemory}
use Rattle.ge_top.specs.declared.answering.Answer.{Answer}

-- the bytes of a rendered reply
abbrev pub bytes_of : Rendered → List ℕ
bytes_of (Planned text) = text
bytes_of NoMemory = codes "99 1\nno memory\n"

-- the answer is that to the event with some mark
pub record IsAnswer (old : Cluster) (event : Event) (answer : Answer) (new : Cluster) : Type 0 where
  pub mark : Bool
  pub reply : bytes_of answer.reply ≡ rendered (answer_of plan_of old event mark).reply
  pub stop : answer.stop ≡ (answer_of plan_of old event mark).stop
  pub cluster : new ≡ after_entries old (answer_of plan_of old event mark).entry
