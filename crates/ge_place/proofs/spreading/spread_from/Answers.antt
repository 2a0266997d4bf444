use Rattle.std.proofs.Common.{List, sym, subst, ap, ◌∙◌}
use Rattle.ge_model_place.specs.Placement.{Cell, hosts_in}
use Rattle.ge_place.specs.declared.spots.HostSpots.{HostSpots}
use Rattle.ge_place.specs.Spots.{cells_with, names_of, hosts_among, AreOn}
use Rattle.ge_place.proofs.Cells.{hosts_are}
use Rattle.ge_place.proofs.spreading.spread_from.Goals as goal

pub spread_over-requires : goal.spread_over-requires
spread_over-requires c =
    let spots = c.args.spots.now.items in
    record {
      on = subst (λ (hosts : List HostSpots). AreOn spots hosts) (sym c.as_slice-2.ensures.value) (subst (λ (cells : List Cell). AreOn cells c.in_ok-hosts.hosts.items) c.as_slice.ensures.value c.in_ok-hosts.ensures.places);
      hosts =
          ap (λ hosts. names_of hosts) c.as_slice-2.ensures.value ∙ c.in_ok-hosts.ensures.hosts ∙ ap (λ xs. hosts_among xs) c.as_slice.ensures.value
          ∙ sym (hosts_are spots) ∙ ap (λ slots. hosts_in (cells_with spots slots)) (sym c.requires.slots);
      kept = c.requires.kept;
      none = c.requires.none;
    }
