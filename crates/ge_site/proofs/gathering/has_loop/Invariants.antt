use Rattle.std.proofs.Common.{◌≡◌, suc, [], length, fold}
use Rattle.std.specs.Map.{keys_of}
use Rattle.ge_model_rows.specs.Groups.{through_group, walk_over}
use Rattle.ge_site.proofs.gathering.has_loop.Given as goal

abbrev pub invariant-loop-name : goal.invariant-loop-name
invariant-loop-name l = fold (through_group (suc (length l.groups)) l.groups []) l.seen l.name-iterator ≡ walk_over l.groups (keys_of l.groups)
