use Rattle.std.proofs.Common.{◌≡◌, ◌++◌, take}
use Rattle.std.specs.Prelude.{flat_map}
use Rattle.ge_model_config.specs.Overrides.{override_text}
use Rattle.ge_printing.proofs.attributes.append_overrides.Given as goal

abbrev pub invariant-loop-name : goal.invariant-loop-name
invariant-loop-name g l = l.line ≡ l.fn.line ++ flat_map (override_text (g.P.Printer.text l.printer)) (take l.name-index l.overrides)
