use Rattle.std.proofs.Common.{◌≡◌}
use Rattle.std.specs.List.{list_any}
use Rattle.ge_model_rows.specs.Pieces.{is_one_of}
use Rattle.std.specs.Prelude.{◌||◌, ◌&&◌, ◌∷◌}
use Rattle.ge_configuring.proofs.sites.set_in_pes.Given as goal

abbrev pub invariant-loop-pe : goal.invariant-loop-pe
invariant-loop-pe l = list_any (λ pe. is_one_of l.name pe.1.users || is_one_of l.name pe.1.xusers) l.pe-iterator ≡ list_any (λ pe. is_one_of l.name pe.1.users || is_one_of l.name pe.1.xusers) l.c.pes
