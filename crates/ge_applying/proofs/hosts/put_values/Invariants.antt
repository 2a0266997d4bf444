use Rattle.std.proofs.Common.{◌≡◌, fold}
use Rattle.ge_collections.specs.Keyed.{put_text}
use Rattle.ge_applying.proofs.hosts.put_values.Given as goal

abbrev pub invariant-loop-name : goal.invariant-loop-name
invariant-loop-name l =
    fold (λ load value. put_text load value.0 value.1) l.load l.name-iterator ≡ fold (λ load value. put_text load value.0 value.1) l.fn.load l.report
