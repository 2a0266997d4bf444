use Rattle.std.proofs.Common.{ap, sym, ◌∙◌}
use Rattle.std.specs.Map.{keys_of}
use Rattle.ge_model_rows.specs.Complexes.{opening_complexes}
use Rattle.ge_model_rows.specs.Pieces.{is_one_of}
use Rattle.ge_configuring.proofs.OpeningNames.{has_key}
use Rattle.ge_configuring.proofs.opening.is_opening_complex.Goals as goal

pub returns : goal.returns
returns c =
    c.is_in.ensures ∙ ap (is_one_of c.bytes.result.now) c.names.ensures ∙ ap (λ name. is_one_of name (keys_of opening_complexes)) c.bytes.ensures
    ∙ sym (has_key opening_complexes c.args.name.now)
