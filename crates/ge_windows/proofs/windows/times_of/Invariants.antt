use Rattle.std.proofs.Common.{◌≡◌, codes}
use Rattle.std.specs.Option.{option_copied, option_or}
use Rattle.ge_collections.specs.Keyed.{at_text}
use Rattle.ge_windows.proofs.windows.times_of.Given as goal

-- what was met of a time, or else what is still to come, is what is asked for
abbrev pub invariant-loop-key : goal.invariant-loop-key
invariant-loop-key l = record {
  hard : option_or (option_copied l.hard) (at_text l.key-iterator (codes "h_rt")) ≡ at_text l.job.request.asked (codes "h_rt");
  soft : option_or (option_copied l.soft) (at_text l.key-iterator (codes "s_rt")) ≡ at_text l.job.request.asked (codes "s_rt");
}
