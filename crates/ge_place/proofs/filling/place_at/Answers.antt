use Rattle.std.proofs.Common.{sym, subst, ap, ◌∙◌}
use Rattle.std.specs.List.{slice_get}
use Rattle.ge_place.specs.Spots.{is_in, places_of, IsSited}
use Rattle.ge_place.proofs.Places.{every_place}
use Rattle.ge_place.proofs.filling.place_at.Goals as goal

pub returns-in-Everywhere : goal.returns-in-Everywhere
returns-in-Everywhere c =
    c.then_some.ensures
    ∙ sym (every_place c.args.spots.now c.args.index)
    ∙ ap (λ site. slice_get (places_of (is_in site) c.args.spots.now) c.args.index) (sym c.in-Everywhere.is)

pub returns-in-Host : goal.returns-in-Host
returns-in-Host c =
    c.place_on.ensures
    ∙ ap (λ places. slice_get places c.args.index) (subst (λ site. IsSited site c.args.spots.now) c.in-Host.is c.requires)
    ∙ ap (λ site. slice_get (places_of (is_in site) c.args.spots.now) c.args.index) (sym c.in-Host.is)
