use Rattle.std.proofs.Common.{Bool, ◌||◌, ap, sym, ◌∙◌}
use Rattle.std.specs.List.{list_any}
use Rattle.ge_config.specs.Uses.{has_some}
use Rattle.ge_config.proofs.uses.attr_names_some.Goals as goal

pub returns-else-names_some : goal.returns-else-names_some
returns-else-names_some c =
    c.overrides_name_some.ensures
    ∙ ap (λ (b : Bool). b || list_any (λ o. has_some c.args.names.now o.1) c.args.attr.now.overrides) (sym c.if-names_some.false ∙ c.names_some.ensures)
