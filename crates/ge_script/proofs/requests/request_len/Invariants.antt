use Rattle.std.proofs.Common.{◌≡◌, ◌-◌, ◌<◌, ◌≤◌, ◌++◌, ◌∷◌, take, drop, length}
use Rattle.ge_model_grammar.specs.ScriptLines.{lines_of, cut_requests, requests_of}
use Rattle.ge_script.proofs.requests.request_len.Given as goal

-- what was taken and the text before the next header are the first request
abbrev pub invariant-loop-end : goal.invariant-loop-end
invariant-loop-end l = record {
  taken : 0 < l.end;
  within : l.end ≤ length l.bytes;
  first : requests_of l.bytes ≡ (take l.end l.bytes ++ (cut_requests (lines_of (drop l.end l.bytes))).0) ∷ (cut_requests (lines_of (drop l.end l.bytes))).1;
}

abbrev pub decreases-loop-end : goal.decreases-loop-end
decreases-loop-end l = length l.bytes - l.end
