use Rattle.std.proofs.Common.{◌≡◌, fold, drop}
use Rattle.ge_collections.specs.Keyed.{drop_number}
use Rattle.ge_applying.proofs.bookings.give_up.Given as goal

abbrev pub invariant-loop-number : goal.invariant-loop-number
invariant-loop-number l = fold drop_number l.advances (drop l.number-index l.numbers) ≡ fold drop_number l.fn.advances l.numbers
