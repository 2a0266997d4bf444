use Rattle.std.proofs.Common.{◌≡◌, ◌+◌, List, refl, sym, subst, ◌∙◌, arith}
use Rattle.ge_model_place.specs.Placement.{Cell, filled, is_on, slots_given}
use Rattle.ge_place.specs.declared.spots.HostSpots.{HostSpots}
use Rattle.ge_place.specs.Spots.{cells_with, IsOn}
use Rattle.ge_place.proofs.Spreads.{best_none, best_full, best_taken, best_kept}
use Rattle.ge_place.proofs.spreading.fullest.Goals as goal
use Rattle.ge_place.proofs.spreading.fullest.Goals.{then-count-most, else-count-most}

pub loop-host-init : goal.loop-host-init
loop-host-init c =
    let spots = c.args.spots.now.items in
    (best_none c.args.high spots (cells_with spots c.args.given.now.slots) (c.requires.kept.count ∙ c.requires.none), refl)

pub returns-then-most-high-clause-best : goal.returns-then-most-high-clause-best
returns-then-most-high-clause-best c =
    let spots = c.args.spots.now.items in
    let l = c.loop-host in
    best_full c.args.high spots (cells_with spots c.args.given.now.slots) c.args.hosts.now l.host-index l.best l.most l.invariant.0 (c.requires.kept.count ∙ c.requires.none) (omega (arith, c.if-most-high.true))

pub loop-host-preserved : goal.loop-host-preserved
loop-host-preserved c =
    let spots = c.args.spots.now.items in
    let given = c.args.given.now in
    let hosts = c.args.hosts.now in
    let l = c.loop-host in
    let host = c.host-item.result in
    let count = c.in_ok-count.count in
    let cells : List Cell = cells_with spots given.slots in
    let same : l.spots.items ≡ spots = l.invariant.1 in
    let alone : given.count + count ≡ count = omega (arith, c.requires.none) in
    let counted : slots_given (filled (is_on host.host.now) c.args.high cells) ≡ count =
    subst (λ xs. slots_given (filled (is_on host.host.now) c.args.high (cells_with xs given.slots)) ≡ given.count + count) same c.in_ok-count.ensures.counted ∙ alone in
    let still : c.count_on.new.spots.items ≡ spots = c.in_ok-count.ensures.same_spots ∙ same in
    let on : IsOn spots host = subst (λ (h : HostSpots). IsOn spots h) (sym c.host-item.is) (c.requires.on l.host-index host c.loop-host-test.true) in
    elim c.if-count-most.branch [
      | then-count-most w ↦ (best_taken c.args.high spots cells hosts l.host-index l.best l.most l.invariant.0 host c.loop-host-test.true c.host-item.is count counted _ _ _ w.best-is w.most-is refl on w.if-count-most.true, still)
      | else-count-most w ↦ (best_kept c.args.high spots cells hosts l.host-index l.best l.most l.invariant.0 host c.loop-host-test.true c.host-item.is count counted _ _ w.best-is w.most-is w.if-count-most.false, still)
    ]
