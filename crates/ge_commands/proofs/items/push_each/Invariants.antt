use Rattle.std.proofs.Common.{◌≡◌, drop}
use Rattle.ge_model_grammar.specs.Lines.{read_after}
use Rattle.ge_commands.specs.Lent.{texts}
use Rattle.ge_commands.proofs.items.push_each.Given as goal

abbrev pub invariant-loop-item : goal.invariant-loop-item
invariant-loop-item g l =
    read_after (g.R.ItemReader.read l.reader) l.list (texts (drop l.item-index l.items))
    ≡ read_after (g.R.ItemReader.read l.reader) l.fn.list (texts l.items)
