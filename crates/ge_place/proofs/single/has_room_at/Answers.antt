use Rattle.std.proofs.Common.{◌≡◌, ◌<◌, List, map, sym, ap, ◌∙◌, arith}
use Rattle.std.specs.List.{list_all}
use Rattle.std.proofs.lemmas.Bool.{cond-true, lt-ltb}
use Rattle.std.proofs.lemmas.List.Folds.{list_all-map}
use Rattle.ge_capacities.specs.Counts.{counted_as}
use Rattle.ge_capacities.specs.declared.counting.Counted.{Counted}
use Rattle.ge_model_place.specs.Limits.{counted_at}
use Rattle.ge_model_place.specs.Placement.{room_of, rooms_in}
use Rattle.ge_place.specs.Singles.{has_room_alone}
use Rattle.ge_place.proofs.single.has_room_at.Goals as goal

pub returns : goal.returns
returns c =
    let s = c.args.search.now in
    let limits = c.in_ok-limits.limits.items in
    let counted = counted_at s.cluster.now s.groups.now s.job.now c.args.at.now in
    let some : s.from < s.until = omega (arith, c.if-search.false) in
    let rooms : rooms_in s.booked.now s.from s.until counted ≡ map (room_of s.booked.now s.from s.until) counted = cond-true _ _ _ (lt-ltb s.from s.until some) in
    c.all_fit_alone.ensures
    ∙ ap (λ (cs : List Counted). list_all (λ counts. has_room_alone (room_of s.booked.now s.from s.until (counted_as counts))) cs) c.as_slice.ensures.value
    ∙ sym (list_all-map (λ counts. has_room_alone (room_of s.booked.now s.from s.until counts)) counted_as limits)
    ∙ ap (λ cs. list_all (λ counts. has_room_alone (room_of s.booked.now s.from s.until counts)) cs) c.in_ok-limits.ensures
    ∙ sym (list_all-map has_room_alone (room_of s.booked.now s.from s.until) counted)
    ∙ sym (ap (λ rs. list_all has_room_alone rs) rooms)
