use Rattle.std.proofs.Common.{◌≡◌, ◌++◌, take}
use Rattle.ge_listing.proofs.tasks.put_words.Given as goal

abbrev pub invariant-loop-word : goal.invariant-loop-word
invariant-loop-word l = l.lines ≡ l.fn.lines ++ take l.word-index l.words
