use Rattle.std.proofs.Common.{◌≡◌, ◌++◌, [], drop, option_map}
use Rattle.ge_wire.specs.Replies.{lines_from}
use Rattle.ge_wire.proofs.parsing.cut_lines.Given as goal

-- the lines so far, before those of what is left behind the line in hand, are all
abbrev pub invariant-loop-byte : goal.invariant-loop-byte
invariant-loop-byte l = option_map (λ more. l.lines ++ more) (lines_from l.line (drop l.byte-index l.text)) ≡ lines_from [] l.text
