use Rattle.std.proofs.Common.{◌≡◌, drop}
use Rattle.std.specs.List.{list_all}
use Rattle.ge_model_grammar.specs.Forms.{is_asked}
use Rattle.ge_commands.specs.Lent.{texts}
use Rattle.ge_commands.proofs.forms.are_asked.Given as goal

abbrev pub invariant-loop-item : goal.invariant-loop-item
invariant-loop-item l = list_all is_asked (texts (drop l.item-index l.items)) ≡ list_all is_asked (texts l.items)
