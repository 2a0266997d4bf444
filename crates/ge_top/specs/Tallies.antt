-- What a tally of replies shows.
use Rattle.std.specs.Prelude.{◌≡◌, ℕ, ◌+◌, ◌-◌, ◌*◌, ◌<◌, ◌≤◌, ◌^◌, Bool, if◌then◌else◌, List, ◌++◌, codes, decimal}
use Rattle.ge_model_rows.specs.ClusterRows.{Cluster}
use Rattle.ge_model_rows.specs.EventRows.{Event, Reply}
use Rattle.ge_model_core.specs.Plan.{plan_of}
use Rattle.ge_model_core.specs.Trace.{answer_of, after_entries}
use Rattle.ge_model_program.specs.Trials.{is_accepted, starts_in, HasMarks, trial_of}
use Rattle.ge_top.specs.declared.tallying.Tally.{Tally}

-- one request more can be counted
pub record HasRoom (tally : Tally) : Type 0 where
  pub requests : tally.requests < 2 ^ 40
  pub accepted : tally.accepted ≤ tally.requests
  pub starts : tally.starts ≤ tally.requests * 2 ^ 64

-- one request more is counted, that was answered so
pub record Adds (old new : Tally) (reply : Reply) : Type 0 where
  pub requests : new.requests ≡ old.requests + 1
  pub accepted : new.accepted ≡ old.accepted + (if is_accepted reply then 1 else 0)
  pub starts : new.starts ≡ old.starts + starts_in reply
  pub few : starts_in reply < 2 ^ 64

abbrev pub tally_line : Tally → List ℕ
tally_line tally =
    codes "requests " ++ decimal tally.requests ++ codes " accepted " ++ decimal tally.accepted
    ++ codes " refused " ++ decimal (tally.requests - tally.accepted) ++ codes " starts " ++ decimal tally.starts ++ codes "\n"

-- the replies of a trace of the script of a number are counted
pub record IsTallied (number : ℕ) (tally : Tally) : Type 0 where
  pub marks : List Bool
  pub counted : HasMarks number marks
  pub line : tally_line tally ≡ trial_of number marks
  pub accepted : tally.accepted ≤ tally.requests

-- an event was answered with some mark, its reply counted, and its entry applied
pub record IsCounted (old : Cluster) (event : Event) (before after : Tally) (stop : Bool) (new : Cluster) : Type 0 where
  pub mark : Bool
  pub adds : Adds before after (answer_of plan_of old event mark).reply
  pub stops : stop ≡ (answer_of plan_of old event mark).stop
  pub cluster : new ≡ after_entries old (answer_of plan_of old event mark).entry
